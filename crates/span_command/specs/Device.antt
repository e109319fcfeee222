-- Counts of failures, and the bytes that a reader gives.
use Rattle.std.specs.Prelude.{ℕ, ◌+◌, ◌-◌, ◌^◌, min, List, length, Option, Some, None, nat_le, if◌then◌else◌}
use Rattle.std.specs.Option.{option_and_then}
use Rattle.span_command.specs.declared.device.Counted.{Counted}
use Rattle.span_command.specs.Limits.{longest_input}

-- the count after one more failure; it stays at its greatest value
abbrev pub risen : ℕ → ℕ
risen n = min (n + 1) (2 ^ 64 - 1)

-- how often a reader or a writer of the standard library failed
abbrev pub failures_of : {R : Type 0} → Counted R → ℕ
failures_of c = c.failures

-- The bytes that an input still gives after `count` bytes: what its device is known to have left, where that does not
-- go beyond what an input gives.
abbrev pub remaining_input : ℕ → Option (List ℕ) → Option (List ℕ)
remaining_input count known =
    option_and_then (λ bytes. if nat_le (count + length bytes) longest_input then Some bytes else None) known
