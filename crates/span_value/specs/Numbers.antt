-- Numbers of 64 bits, and bytes.
use Rattle.std.specs.Prelude.{ℕ, ℤ, pos, negsuc, suc, ◌+◌, ◌-◌, ◌^◌, ◌<◌, Bool, List, nat_lt}
use Rattle.std.specs.List.{AllByRecursion}

-- from -2^63 to 2^63 - 1
abbrev pub is_int64 : ℤ → Bool
is_int64 (pos n) = nat_lt n (2 ^ 63)
is_int64 (negsuc n) = nat_lt n (2 ^ 63)

-- a signed number, moved up by 2^63 so that it is never below 0
abbrev pub to_unsigned : ℤ → ℕ
to_unsigned (pos n) = n + 2 ^ 63
to_unsigned (negsuc n) = 2 ^ 63 - suc n

abbrev pub AreBytes : List ℕ → Type 0
AreBytes = AllByRecursion (λ b. b < 256)
