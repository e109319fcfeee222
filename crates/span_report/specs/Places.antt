-- Places in a file. Lines and bytes are counted from 1.
use Rattle.std.specs.Prelude.{◌==◌, ◌+◌, ◌-◌, ◌^◌, ℕ, List, count_by, length, min, position, reverse, unwrap_or}
use Rattle.span_report.specs.declared.place.InputPlace.{InputPlace}
use Rattle.span_report.specs.declared.place.InputPlace.TheVariants.{Byte, WholeLine, Line}

-- the line that follows some bytes: one more than the lines that end
abbrev pub line_after : List ℕ → ℕ
line_after bytes = count_by (λ byte. byte == 10) bytes + 1

-- the byte that follows them, in its line: one more than the bytes from the end back to the last line end, or to the
-- beginning
abbrev pub byte_after : List ℕ → ℕ
byte_after bytes = unwrap_or (position (λ byte. byte == 10) (reverse bytes)) (length bytes) + 1

abbrev pub place_after : List ℕ → InputPlace
place_after bytes = Line (line_after bytes) (byte_after bytes)

-- The place in a file of a place in a text, where the text is in this line of the file after some bytes. A byte beyond
-- the greatest number is this number.
abbrev pub in_line : ℕ → ℕ → InputPlace → InputPlace
in_line line before (Byte byte) = Line line (min (before + byte) (2 ^ 64 - 1))
in_line line before at = WholeLine line
