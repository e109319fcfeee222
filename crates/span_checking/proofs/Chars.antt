-- A text has no more characters than bytes.
use Rattle.std.proofs.Common.{ℕ, zero, suc, ◌+◌, ◌*◌, ◌-◌, ◌≤◌, List, [], ◌∷◌, length, arith}
use Rattle.std.specs.Str.{chars, chars_after, continuation_len, lead_bits}

few_after : (n c : ℕ) (bs : List ℕ) → length (chars_after n c bs) ≤ suc (length bs)
few_after zero c [] = omega arith
few_after zero c (b ∷ bs) = let more = few_after (continuation_len b) (lead_bits b) bs in omega (arith, more)
few_after (suc n) c [] = omega arith
few_after (suc n) c (b ∷ bs) = let more = few_after n (c * 64 + (b - 128)) bs in omega (arith, more)

pub few_chars : (bs : List ℕ) → length (chars bs) ≤ length bs
unfolding chars
few_chars [] = omega arith
few_chars (b ∷ bs) = few_after (continuation_len b) (lead_bits b) bs
