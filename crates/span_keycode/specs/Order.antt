-- The one law of codings that follow one another.
use Rattle.std.specs.Prelude.{◌≡◌, ℕ, ◌-◌, nat_lt, Bool, List, ◌++◌, map, if◌then◌else◌}
use Rattle.std.specs.Ordering.{nat_cmp, ordering_then, eq_by_cmp}
use Rattle.std.specs.Cmp.Lexicographic.{slice_cmp}
use Rattle.std.specs.declared.cmp.Ordering.{Ordering}

-- the order of bytes, from the left
abbrev pub byte_order : List ℕ → List ℕ → Ordering
byte_order = slice_cmp nat_cmp

-- two keys have the same bytes
abbrev pub is_same : List ℕ → List ℕ → Bool
is_same k l = eq_by_cmp byte_order k l

-- Whatever follows p and q, the answer is o, and what follows decides only where o is Equal. So
-- neither begins the other, unless they are equal.
pub record Decides (p q : List ℕ) (o : Ordering) : Type 0 where
  pub at : (x y : List ℕ) → byte_order (p ++ x) (q ++ y) ≡ ordering_then o (byte_order x y)

-- a byte taken from 255
abbrev pub flipped : ℕ → ℕ
flipped b = (if nat_lt b 256 then 255 - b else b)

-- each byte taken from 255, which turns the order round
abbrev pub complement : List ℕ → List ℕ
complement = map flipped
