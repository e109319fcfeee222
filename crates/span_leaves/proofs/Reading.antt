-- What a block reads is in its mask.
use Rattle.std.proofs.Common.{◌≡◌, ◌∙◌, ℕ, zero, suc, ◌+◌, ◌==◌, Bool, true, false, not, ◌&&◌, List, [], ◌∷◌, ◌++◌, map, take, drop, replicate, Option, Some, None, refl, ap, sym, subst, arith}
use Rattle.std.specs.List.{AllByRecursion, list_all, range_with_len}
use Rattle.std.proofs.lemmas.Bool.Decides.{nat_tests}
use Rattle.std.proofs.lemmas.Bool.{and_from}
use Rattle.span_expr.specs.declared.expr.Expr.{Expr}
use Rattle.span_expr.specs.declared.expr.Expr.TheOpen.{Expr-F}
use Rattle.span_expr.specs.declared.expr.Expr.TheViews.{roll-Expr}
use Rattle.span_expr.specs.declared.expr.Expr.TheFolds.{map-Expr, ind-Expr, fold-roll-Expr}
use Rattle.span_expr.specs.declared.expr.Link.{Link}
use Rattle.span_expr.specs.declared.expr.Arm.{Arm}
use Rattle.span_expr.specs.Meaning.{is_total_arm}
use Rattle.span_expr.specs.Places.{link_operand, reads_at, reads_only}
use Rattle.span_query.specs.declared.query.Block.{Block}
use Rattle.span_query.specs.declared.query.Grouping.{Grouping}
use Rattle.span_query.specs.declared.query.Aggregate.{Aggregate}
use Rattle.span_query.specs.declared.query.Aggregate.TheVariants.{CountRows, Of}
use Rattle.span_query.specs.declared.query.Join.{Join}
use Rattle.span_leaves.specs.Leaves.{widths, reads_of}
use Rattle.span_columns.specs.Reads.{has_place, is_not, is_read, condition_reads, on_reads, aggregate_reads, selection_reads, block_reads}
use Rattle.std.proofs.Math.Bool.{and-false}
use Rattle.span_value.proofs.Lists.{all_whole}

-- ---- tests of the places that something reads

-- what reads only places that pass: a test passes where it has each place without which there would be something else to read
abbrev pub ByPlace : ((ℕ → Bool) → Bool) → Type 0
ByPlace reads = (test : ℕ → Bool) → ((k : ℕ) → reads (is_not k) ≡ false → test k ≡ true) → reads test ≡ true

by_none : ByPlace (λ t. true)
by_none test all = refl

by_place : (p : ℕ) → ByPlace (λ t. t p)
by_place p test all = all p (let e : (p == p) ≡ true = grind (arith, nat_tests) in ap not e)

pub by_both : (f g : (ℕ → Bool) → Bool) → ByPlace f → ByPlace g → ByPlace (λ t. f t && g t)
by_both f g first second test all =
    and_from (f test) (g test) (first test (λ k out. all k (ap (λ (b : Bool). b && g (is_not k)) out))) (second test (λ k out. all k (ap (λ (b : Bool). f (is_not k) && b) out ∙ and-false (f (is_not k)))))

pub by_list : {A : Type 0} (p : (ℕ → Bool) → A → Bool) (xs : List A) → AllByRecursion (λ x. ByPlace (λ t. p t x)) xs → ByPlace (λ t. list_all (p t) xs)
by_list p [] all = by_none
by_list p (x ∷ xs) all = by_both (λ t. p t x) (λ t. list_all (p t) xs) all.0 (by_list p xs all.1)

by_same : (f g : (ℕ → Bool) → Bool) → ((t : ℕ → Bool) → g t ≡ f t) → ByPlace f → ByPlace g
by_same f g same by test all = same test ∙ by test (λ k out. all k (same (is_not k) ∙ out))

-- ---- expressions

abbrev WitnessExpr : Type 0
WitnessExpr = (e : Expr) × ByPlace (λ t. reads_only t e)

abbrev bare_expr : WitnessExpr → Expr
bare_expr e = e.0

abbrev bare_link : Link WitnessExpr → Link Expr
bare_link link = record { operator = link.operator; operand = link.operand.0 }

abbrev bare_arm : Arm WitnessExpr → Arm Expr
bare_arm arm = record { condition = arm.condition.0; value = arm.value.0 }

abbrev linked : (Expr → Bool) → Link Expr → Link Bool
linked h link = record { operator = link.operator; operand = h link.operand }

abbrev armed : (Expr → Bool) → Arm Expr → Arm Bool
armed h arm = record { condition = h arm.condition; value = h arm.value }

operands_by : (es : List WitnessExpr) → ByPlace (λ t. list_all (λ b. b) (map (reads_only t) (map bare_expr es)))
operands_by [] = by_none
operands_by (e ∷ es) = by_both (λ t. reads_only t e.0) (λ t. list_all (λ b. b) (map (reads_only t) (map bare_expr es))) e.1 (operands_by es)

links_by : (links : List (Link WitnessExpr)) → ByPlace (λ t. list_all link_operand (map (linked (reads_only t)) (map bare_link links)))
links_by [] = by_none
links_by (link ∷ links) = by_both (λ t. reads_only t link.operand.0) (λ t. list_all link_operand (map (linked (reads_only t)) (map bare_link links))) link.operand.1 (links_by links)

arms_by : (arms : List (Arm WitnessExpr)) → ByPlace (λ t. list_all is_total_arm (map (armed (reads_only t)) (map bare_arm arms)))
arms_by [] = by_none
arms_by (arm ∷ arms) =
    by_both (λ t. reads_only t arm.condition.0 && reads_only t arm.value.0) (λ t. list_all is_total_arm (map (armed (reads_only t)) (map bare_arm arms)))
    (by_both (λ t. reads_only t arm.condition.0) (λ t. reads_only t arm.value.0) arm.condition.1 arm.value.1) (arms_by arms)

layer_by : (y : Expr-F WitnessExpr) → ByPlace (λ t. reads_at t (map-Expr Expr Bool (reads_only t) (map-Expr WitnessExpr Expr bare_expr y)))
layer_by (Expr-F.Literal v) = by_none
layer_by (Expr-F.Column place) = by_place place
layer_by (Expr-F.Negative a) = a.1
layer_by (Expr-F.Chain first links) = by_both (λ t. reads_only t first.0) (λ t. list_all link_operand (map (linked (reads_only t)) (map bare_link links))) first.1 (links_by links)
layer_by (Expr-F.Compare a c b) = by_both (λ t. reads_only t a.0) (λ t. reads_only t b.0) a.1 b.1
layer_by (Expr-F.Between a low high) =
    by_both (λ t. reads_only t a.0 && reads_only t low.0) (λ t. reads_only t high.0) (by_both (λ t. reads_only t a.0) (λ t. reads_only t low.0) a.1 low.1) high.1
layer_by (Expr-F.In a members) = by_both (λ t. reads_only t a.0) (λ t. list_all (λ b. b) (map (reads_only t) (map bare_expr members))) a.1 (operands_by members)
layer_by (Expr-F.Like a pattern) = a.1
layer_by (Expr-F.StartsWith a front) = by_both (λ t. reads_only t a.0) (λ t. reads_only t front.0) a.1 front.1
layer_by (Expr-F.Length a) = a.1
layer_by (Expr-F.IsNull a) = a.1
layer_by (Expr-F.Not a) = a.1
layer_by (Expr-F.And first more) = by_both (λ t. reads_only t first.0) (λ t. list_all (λ b. b) (map (reads_only t) (map bare_expr more))) first.1 (operands_by more)
layer_by (Expr-F.Or first more) = by_both (λ t. reads_only t first.0) (λ t. list_all (λ b. b) (map (reads_only t) (map bare_expr more))) first.1 (operands_by more)
layer_by (Expr-F.Case arms None) = by_both (λ t. list_all is_total_arm (map (armed (reads_only t)) (map bare_arm arms))) (λ t. true) (arms_by arms) by_none
layer_by (Expr-F.Case arms (Some other)) = by_both (λ t. list_all is_total_arm (map (armed (reads_only t)) (map bare_arm arms))) (λ t. reads_only t other.0) (arms_by arms) other.1
layer_by (Expr-F.Match a arms None) =
    by_both (λ t. reads_only t a.0 && list_all is_total_arm (map (armed (reads_only t)) (map bare_arm arms))) (λ t. true)
    (by_both (λ t. reads_only t a.0) (λ t. list_all is_total_arm (map (armed (reads_only t)) (map bare_arm arms))) a.1 (arms_by arms)) by_none
layer_by (Expr-F.Match a arms (Some other)) =
    by_both (λ t. reads_only t a.0 && list_all is_total_arm (map (armed (reads_only t)) (map bare_arm arms))) (λ t. reads_only t other.0)
    (by_both (λ t. reads_only t a.0) (λ t. list_all is_total_arm (map (armed (reads_only t)) (map bare_arm arms))) a.1 (arms_by arms)) other.1
layer_by (Expr-F.Coalesce operands) = operands_by operands

abbrev pub IsByPlace : Expr → Type 0
IsByPlace e = ByPlace (λ t. reads_only t e)

pub expr_by : (e : Expr) → IsByPlace e
expr_by = ind-Expr IsByPlace (λ x y is. subst (λ (z : Expr-F Expr). IsByPlace (roll-Expr z)) is
    (by_same (λ t. reads_at t (map-Expr Expr Bool (reads_only t) (map-Expr WitnessExpr Expr bare_expr y))) (λ t. reads_only t (roll-Expr (map-Expr WitnessExpr Expr bare_expr y)))
    (λ t. fold-roll-Expr Bool (reads_at t) (map-Expr WitnessExpr Expr bare_expr y)) (layer_by y)))

-- ---- blocks

pub condition_by : (w : Option Expr) → ByPlace (λ t. condition_reads t w)
condition_by None = by_none
condition_by (Some e) = expr_by e

aggregate_by : (a : Aggregate) → ByPlace (λ t. aggregate_reads t a)
aggregate_by CountRows = by_none
aggregate_by (Of f e) = expr_by e

selection_by : (grouping : Option Grouping) (outputs : List Expr) → ByPlace (λ t. selection_reads t grouping outputs)
selection_by None outputs = by_list (λ t e. reads_only t e) outputs (all_whole IsByPlace expr_by outputs)
selection_by (Some g) outputs =
    by_both (λ t. list_all t g.keys) (λ t. list_all (aggregate_reads t) g.aggregates)
    (by_list (λ t p. t p) g.keys (all_whole (λ p. ByPlace (λ t. t p)) by_place g.keys))
    (by_list aggregate_reads g.aggregates (all_whole (λ a. ByPlace (λ t. aggregate_reads t a)) aggregate_by g.aggregates))

pub block_by : {Q : Type 0} (b : Block Q) → ByPlace (λ t. block_reads t b)
block_by {Q} b =
    by_both (λ t. list_all (on_reads t) b.joins && condition_reads t b.filter) (λ t. selection_reads t b.grouping b.outputs)
    (by_both (λ t. list_all (on_reads t) b.joins) (λ t. condition_reads t b.filter)
    (by_list (λ t (j : Join Q). on_reads t j) b.joins (all_whole (λ (j : Join Q). ByPlace (λ t. on_reads t j)) (λ j. expr_by j.on) b.joins)) (condition_by b.filter))
    (selection_by b.grouping b.outputs)

pub has_place-range : (f : ℕ → Bool) (a n k : ℕ) → f (a + k) ≡ true → has_place (map f (range_with_len a n)) k ≡ true
has_place-range f a zero k is = refl
has_place-range f a (suc n) zero is = let e : a ≡ a + 0 = omega arith in ap f e ∙ is
has_place-range f a (suc n) (suc k) is = let e : (a + 1) + k ≡ a + suc k = omega arith in has_place-range f (a + 1) n k (ap f e ∙ is)

-- ---- masks that have what another has

abbrev pub Covers : List Bool → List Bool → Type 0
Covers rs ms = (k : ℕ) → has_place rs k ≡ true → has_place ms k ≡ true

pub covers_part : (n : ℕ) (rs ms : List Bool) → Covers (drop n rs) ms → Covers rs (take n rs ++ ms)
covers_part zero rs ms covers k has = covers k has
covers_part (suc n) [] ms covers k has = covers k has
covers_part (suc n) (r ∷ rs) ms covers zero has = has
covers_part (suc n) (r ∷ rs) ms covers (suc k) has = covers_part n rs ms covers k has

drop_nil : {A : Type 0} (n : ℕ) → drop {A = A} n [] ≡ []
drop_nil zero = refl
drop_nil (suc n) = refl

pub covers_all : (n : ℕ) (rs ms : List Bool) → Covers (drop n rs) ms → Covers rs (replicate n true ++ ms)
covers_all zero rs ms covers k has = covers k has
covers_all (suc n) rs ms covers zero has = refl
covers_all (suc n) [] ms covers (suc k) has = covers_all n [] ms (subst (λ (l : List Bool). Covers l ms) (sym (drop_nil n)) covers) k refl
covers_all (suc n) (r ∷ rs) ms covers (suc k) has = covers_all n rs ms covers k has

-- what a block reads is in any mask that has what its own has
pub covered : {Q : Type 0} (width : ℕ) (b : Block Q) (ms : List Bool) → Covers (reads_of width b) ms → block_reads (has_place ms) b ≡ true
covered width b ms covers =
    block_by b (has_place ms) (λ k out. covers k (has_place-range (is_read b) 0 (width + widths b.joins) k (let e : 0 + k ≡ k = omega arith in ap (is_read b) e ∙ ap not out)))
