-- The limits of searches.
use Rattle.std.specs.Prelude.{ℕ}

-- how many keys are searched together
abbrev pub search_lanes : ℕ
search_lanes = 16
