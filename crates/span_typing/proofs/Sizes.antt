-- How large a tree is: what falls as the binding goes down.
use Rattle.std.proofs.Common.{◌≡◌, ℕ, zero, suc, ◌+◌, ◌<◌, List, [], ◌∷◌, length, map, get_or, Option, Some, None, ap, arith}
use Rattle.span_trees.specs.declared.tree.Expr.{Expr}
use Rattle.span_trees.specs.declared.tree.Arm.{Arm}
use Rattle.span_trees.specs.declared.tree.Link.{Link}
use Rattle.span_trees.specs.declared.tree.Expr.TheOpen.{Expr-F, Arm-F, Link-F}
use Rattle.span_trees.specs.declared.tree.Expr.TheFolds.{fold-Expr}

-- more than each is
abbrev pub all_sizes : List ℕ → ℕ
all_sizes [] = 0
all_sizes (n ∷ ns) = (n + 1) + all_sizes ns

abbrev pub or_zero : Option ℕ → ℕ
or_zero None = 0
or_zero (Some n) = n

abbrev pub arm_at : Arm-F ℕ ℕ ℕ → ℕ
arm_at a = (a.condition + a.value) + 1

abbrev pub link_at : Link-F ℕ ℕ ℕ → ℕ
link_at l = l.operand + 1

abbrev pub layer : Expr-F ℕ ℕ ℕ → ℕ
layer (Expr-F.Call name os) = all_sizes os + 3
layer (Expr-F.Case a os other) = ((or_zero a + all_sizes os) + or_zero other) + 3
layer (Expr-F.Negative a) = a + 1
layer (Expr-F.Chain a ls) = (a + all_sizes ls) + 3
layer (Expr-F.Compare a c b) = (a + b) + 2
layer (Expr-F.IsNull a) = a + 1
layer (Expr-F.Like a pattern) = a + 1
layer (Expr-F.Between a low high) = ((a + low) + high) + 2
layer (Expr-F.In a os) = (a + all_sizes os) + 3
layer (Expr-F.Not a) = a + 1
layer (Expr-F.And a os) = (a + all_sizes os) + 3
layer (Expr-F.Or a os) = (a + all_sizes os) + 3
layer x = 1

abbrev pub size : Expr → ℕ
size = fold-Expr ℕ ℕ ℕ layer arm_at link_at

abbrev pub arm_size : Arm → ℕ
arm_size a = (size a.condition + size a.value) + 1

abbrev pub link_size : Link → ℕ
link_size l = size l.operand + 1

-- an item is smaller than the list
pub smaller_at : {T : Type 0} (f : T → ℕ) (ts : List T) (k : ℕ) (t : T) → k < length ts → t ≡ get_or ts k t → f t < all_sizes (map f ts)
smaller_at f [] k t below is = absurd (omega arith)
smaller_at f (u ∷ ts) zero t below is =
    let same : f t ≡ f u = ap f is in omega arith
smaller_at f (u ∷ ts) (suc k) t below is =
    let rest : f t < all_sizes (map f ts) = smaller_at f ts k t (omega arith) is in omega arith
