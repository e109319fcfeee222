-- The fields of the record that a text is, and the text of a row, as `csv` reads and writes them with its default
-- settings.
use denote.Ref.{Bor}
use Rattle.std.specs.Prelude.{◌≡◌, ℕ, ◌<◌, ◌==◌, ◌||◌, Bool, true, false, List, [], map, Option, Some, None, slice_index}
use Rattle.std.specs.List.{All, flat_map, slice_split}
use Rattle.csv.specs.Machine.{Read, next_record}
use Rattle.csv.specs.Reading.{default_config, strip_bom}
use Rattle.csv.specs.Writing.{default_writer, fields_written, has_written, row_text, with_flexible, writer_pending, writer_setup}
use Rattle.csv.specs.declared.parser.State.{State}
use Rattle.csv.specs.declared.parser.State.TheVariants as state
use Rattle.csv.specs.declared.writer.WriterBuilder.{WriterBuilder}
use Rattle.csv.specs.declared.writer.Writer.{Writer}
use Rattle.span_value.specs.declared.value.Value.{Value}
use Rattle.span_value.specs.Cells.{cell_of}

-- the pieces of a text between its commas
abbrev pub pieces : List ℕ → List (List ℕ)
pieces text = slice_split (λ b. b == 44) text

-- texts that are lent
abbrev pub texts : List (Bor (List ℕ)) → List (List ℕ)
texts fields = map (λ (field : Bor (List ℕ)). field.now) fields

-- the next record of what is left of a text
abbrev pub next : State → List ℕ → Option Read
next s text = next_record default_config s [] [] text

-- the fields of a record, where no other is read after it
abbrev pub fields_unless : List (List ℕ) → Option Read → List (List ℕ)
fields_unless fields None = fields
fields_unless fields (Some another) = []

-- the fields of the first record, where it is the only one
abbrev pub fields_alone : Option Read → List (List ℕ)
fields_alone None = []
fields_alone (Some (fields, s, rest)) = fields_unless fields (next s rest)

-- The fields of the record that a text is. It has none where the text reads as no record, or as more than one.
abbrev pub record_fields : List ℕ → List (List ℕ)
record_fields text = fields_alone (next state.StartRecord (strip_bom text))

-- the byte is a quote, a CR or an LF
abbrev pub is_mark : ℕ → Bool
is_mark b = (b == 34) || (b == 13) || (b == 10)

-- a field ends at the byte, or it is one of these
abbrev pub is_special : ℕ → Bool
is_special b = (b == 44) || is_mark b

-- no such byte is among the first n
abbrev pub IsFree : List ℕ → ℕ → Type 0
IsFree bytes n = (k : ℕ) → k < n → is_special (slice_index bytes k) ≡ false

-- no quote, CR or LF is in the text
abbrev pub IsUnmarked : List ℕ → Type 0
IsUnmarked text = All (λ b. is_mark b ≡ false) text

-- and no byte order mark at its front
abbrev pub IsPlain : List ℕ → Type 0
IsPlain text = All (λ b. is_mark b ≡ false) text × (strip_bom text ≡ text)

-- the settings of `csv`, by which rows of any length are written
abbrev pub settings : WriterBuilder
settings = with_flexible default_writer true

-- the record of a row's cells
abbrev pub row_record : List Value → List ℕ
row_record row = row_text settings (map cell_of row)

-- the records of rows, one after another
abbrev pub row_records : List (List Value) → List ℕ
row_records rows = flat_map row_record rows

-- the writer writes by these settings, no record is begun, and all that was written is in the text underneath
pub record IsBetweenRecords {W : Type 0} (w : Writer W) : Type 0 where
  pub setup : writer_setup w ≡ settings
  pub fields : fields_written w ≡ 0
  pub wrote : has_written w ≡ false
  pub pending : writer_pending w ≡ []
