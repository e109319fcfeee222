-- Which timestamp a query reads at.
use Rattle.std.specs.Prelude.{ℕ, ◌-◌, Bool, false, ◌||◌, nat_lt, nat_le}
use Rattle.span_truetime.specs.Limits.{timestamp_end}
use Rattle.span_truetime.specs.declared.bound.Bound.{Bound}
use Rattle.span_truetime.specs.declared.bound.Bound.TheVariants.{Strong, At, Staleness}
use Rattle.span_truetime.specs.declared.interval.Interval.{Interval}

-- the timestamp that a bound asks for, under a clock's answer
abbrev pub timestamp_of : Bound → Interval → ℕ
timestamp_of Strong interval = interval.latest
timestamp_of (At s) interval = s
timestamp_of (Staleness d) interval = interval.latest - d

-- the bound asks for a time before timestamp 0
abbrev pub is_before_time : Bound → Interval → Bool
is_before_time Strong interval = false
is_before_time (At s) interval = false
is_before_time (Staleness d) interval = nat_lt interval.latest d

-- what the bound asks for is no timestamp
abbrev pub is_out_of_range : Bound → Interval → Bool
is_out_of_range bound interval = is_before_time bound interval || nat_le timestamp_end (timestamp_of bound interval)
