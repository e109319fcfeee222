-- The limit of packed rows.
use Rattle.std.specs.Prelude.{ℕ}

-- the most bytes of a packed row
abbrev pub longest_row : ℕ
longest_row = 1048576
