use Rattle.std.proofs.Common.{◌≡◌, ℕ, suc, Bool, true, false, ◌&&◌, ◌==◌, arith}
use Rattle.std.proofs.lemmas.Bool.{eqb-true}

pub both_true : (a b : Bool) → a ≡ true → b ≡ true → (a && b) ≡ false → ⊥
both_true true b e f g = cc
both_true false b e f g = cc

pub no_length : (n : ℕ) → (suc n == 0) ≡ true → ⊥
no_length n e = let h : suc n ≡ 0 = eqb-true (suc n) 0 e in omega arith
