-- The limits of scripts.
use Rattle.std.specs.Prelude.{ℕ, ◌^◌}

-- the most bytes of a line, without the LF that ends it
abbrev pub longest_line : ℕ
longest_line = 2097152

-- the most bytes that an input gives
abbrev pub longest_input : ℕ
longest_input = 2 ^ 63
