-- How far a script was read, and the text that says so.
use Rattle.std.specs.Prelude.{ℕ, ◌+◌, ◌-◌, ◌^◌, min, List, ◌++◌, codes, decimal, Option, Some, None}
use Rattle.span_program.specs.declared.progress.Counts.{Counts}

-- a count with more counted; it stays at its greatest value
abbrev pub counted : ℕ → ℕ → ℕ
counted old more = min (old + more) (2 ^ 64 - 1)

-- the bytes that were read, and those of the whole script where they are known
abbrev pub bytes_text : ℕ → Option ℕ → List ℕ
bytes_text bytes (Some all) = decimal bytes ++ codes " of " ++ decimal all ++ codes " bytes"
bytes_text bytes None = decimal bytes ++ codes " bytes"

abbrev pub counts_text : Counts → List ℕ
counts_text counts = decimal counts.lines ++ codes " lines, " ++ bytes_text counts.bytes counts.all_bytes
