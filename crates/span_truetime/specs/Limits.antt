-- The limit of timestamps.
use Rattle.std.specs.Prelude.{ℕ, ◌^◌}

-- timestamps are whole numbers below this
abbrev pub timestamp_end : ℕ
timestamp_end = 2 ^ 62
