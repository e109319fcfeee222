-- The limit of texts.
use Rattle.std.specs.Prelude.{ℕ}

-- the most bytes of a query or schema text
abbrev pub longest_text : ℕ
longest_text = 65536
