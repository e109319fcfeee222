-- The limits of schemas.
use Rattle.std.specs.Prelude.{ℕ}

-- how many tables a schema may have
abbrev pub most_tables : ℕ
most_tables = 64

-- how many columns a table may have
abbrev pub most_columns : ℕ
most_columns = 64

-- how many levels of tables there may be
abbrev pub most_levels : ℕ
most_levels = 7

-- the greatest length of a STRING column in characters, and of a BYTES column in bytes
abbrev pub longest_column : ℕ
longest_column = 1048576
