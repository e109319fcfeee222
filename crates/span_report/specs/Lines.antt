-- The line that reports a refusal.
use Rattle.std.specs.Prelude.{ℕ, List, [], ◌++◌, codes, decimal}
use Rattle.span_value.specs.declared.refusal.Refusal.{Refusal}
use Rattle.span_value.specs.Refusals.{number_of, name_of, message_of}
use Rattle.span_report.specs.declared.place.InputPlace.{InputPlace}
use Rattle.span_report.specs.declared.place.InputPlace.TheVariants as place

-- the place, after the name of the input
abbrev pub place_text : InputPlace → List ℕ
place_text place.Unknown = []
place_text (place.Byte byte) = codes ", byte " ++ decimal byte
place_text (place.WholeLine line) = codes ", line " ++ decimal line
place_text (place.Line line byte) = codes ", line " ++ decimal line ++ codes ", byte " ++ decimal byte

-- the number, the name and the message
abbrev pub refusal_text : Refusal → List ℕ
refusal_text why =
    codes "refused " ++ decimal (number_of why) ++ codes " " ++ name_of why ++ codes ": " ++ message_of why

-- the program, the input, the place, and the refusal
abbrev pub report_text : List ℕ → List ℕ → InputPlace → Refusal → List ℕ
report_text program input at why = program ++ codes ": " ++ input ++ place_text at ++ codes ": " ++ refusal_text why
