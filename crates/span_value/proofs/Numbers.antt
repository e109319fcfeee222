-- Bytes, and signed numbers moved up, are within their ranges.
use Rattle.std.proofs.Common.{ℕ, ℤ, pos, negsuc, zero, suc, ◌<◌, ◌^◌, List, [], ◌∷◌, FitsSigned, get_or, arith}
use Rattle.std.specs.Int.{w64}
use Rattle.std.proofs.lemmas.Int.{ints}
use Rattle.span_value.specs.Numbers.{to_unsigned, AreBytes}

pub unsigned_end : (i : ℤ) → FitsSigned w64 i → to_unsigned i < 2 ^ 64
unsigned_end (pos n) f = omega (arith, ints)
unsigned_end (negsuc n) f = omega (arith, ints)

pub bytes_at : (bs : List ℕ) → AreBytes bs → (i : ℕ) → get_or bs i 0 < 256
bytes_at [] f i = omega arith
bytes_at (b ∷ bs) f zero = f.0
bytes_at (b ∷ bs) f (suc i) = bytes_at bs f.1 i
