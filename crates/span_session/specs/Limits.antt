-- The limits of sessions.
use Rattle.std.specs.Prelude.{ℕ}

-- how many workers may scan one query
abbrev pub most_workers : ℕ
most_workers = 64
