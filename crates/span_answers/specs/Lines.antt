-- The lines of answers.
use Rattle.std.specs.Prelude.{◌≡◌, ◌+◌, ℕ, List, [], ◌∷◌, ◌++◌, Option, Some, None, codes, count_by, length}
use Rattle.std.specs.Fmt.{decimal}
use Rattle.span_schema.specs.declared.table.Table.{Table}
use Rattle.span_machine.specs.Machine.{Machine, is_prepared_at}
use Rattle.span_value.specs.declared.refusal.Refusal.{Refusal}
use Rattle.span_value.specs.Refusals.{number_of}
use Rattle.span_value.specs.Cells.{hex_pairs}
use Rattle.span_machine.specs.declared.step.Reply.{Reply}
use Rattle.span_machine.specs.declared.step.Reply.TheVariants as reply
use Rattle.span_value.specs.declared.value.Value.{Value}
use Rattle.span_records.specs.Record.{row_records}
use Rattle.span_machine.specs.declared.slot.SlotState.{SlotState}
use Rattle.span_machine.specs.Kept.{live}

-- a word and a number
abbrev pub word_number : List ℕ → ℕ → List ℕ
word_number word n = word ++ 32 ∷ decimal n

-- the same, and the end of the line
abbrev pub number_line : List ℕ → ℕ → List ℕ
number_line word n = word_number word n ++ 10 ∷ []

-- a line of one word
abbrev pub word_line : List ℕ → List ℕ
word_line word = word ++ 10 ∷ []

-- the line of a refused command
abbrev pub refused_line : Refusal → List ℕ
refused_line why = number_line (codes "refused") (number_of why)

-- the line of an open query
abbrev pub opened_line : ℕ → ℕ → ℕ → List ℕ
opened_line query s leaves =
    word_number (codes "query") query ++ word_number (codes " at") s ++ number_line (codes " leaves") leaves

-- an end of a range: the key in lower-case hexadecimal; there may be none
abbrev pub end_text : Option (List ℕ) → List ℕ
end_text None = codes "-"
end_text (Some key) = hex_pairs key

-- a slot's number and range
abbrev pub slot_range : ℕ → Option (List ℕ) → Option (List ℕ) → List ℕ
slot_range slot lo hi =
    word_number (codes "shard") slot ++ codes " [" ++ end_text lo ++ codes "," ++ end_text hi ++ codes ")"

abbrev pub slot_times : ℕ → ℕ → ℕ → List ℕ
slot_times last floor horizon =
    word_number (codes " last") last ++ word_number (codes " floor") floor ++ word_number (codes " horizon") horizon

abbrev pub slot_counts : ℕ → ℕ → List ℕ
slot_counts live prepared = word_number (codes " live") live ++ number_line (codes " prepared") prepared

-- the line of a slot: its state, how many versions it keeps, and how many transactions are prepared there
abbrev pub slot_line : ℕ → SlotState → ℕ → ℕ → List ℕ
slot_line slot state live prepared =
    slot_range slot state.lo state.hi ++ slot_times state.last state.floor state.horizon ++ slot_counts live prepared

-- how many rows there are, and their records
abbrev pub rows_lines : ℕ → List (List Value) → List ℕ
rows_lines s rows = word_number (codes "rows") (length rows) ++ number_line (codes " at") s ++ row_records rows

-- the lines that a reply is answered by
abbrev pub reply_text : Reply → List ℕ
reply_text (reply.Began number) = number_line (codes "txn") number
reply_text (reply.Prepared timestamp) = number_line (codes "prepared") timestamp
reply_text (reply.Decided timestamp) = number_line (codes "decided") timestamp
reply_text reply.Aborted = word_line (codes "aborted")
reply_text reply.Applied = word_line (codes "applied")
reply_text (reply.Floor floor) = number_line (codes "floor") floor
reply_text (reply.Trimmed live) = number_line (codes "trimmed") live
reply_text (reply.Opened query s leaves) = opened_line query s leaves
reply_text reply.Scanned = word_line (codes "scanned")
reply_text reply.Nothing = word_line (codes "nothing")
reply_text (reply.Rows s rows) = rows_lines s rows.rows
reply_text reply.Closed = word_line (codes "closed")
reply_text (reply.Split slot) = number_line (codes "split") slot
reply_text (reply.Refused why) = refused_line why

-- the line of a slot in this state
abbrev pub line_of : List Table → Machine → ℕ → SlotState → List ℕ
line_of schema m slot state =
    slot_line slot state (live schema m.log m.transactions slot state) (count_by (is_prepared_at slot) m.transactions)

-- the lines of the slots from this one on
abbrev pub slot_lines : List Table → Machine → ℕ → List SlotState → List ℕ
slot_lines schema m slot [] = []
slot_lines schema m slot (state ∷ states) = line_of schema m slot state ++ slot_lines schema m (slot + 1) states

-- how many slots are in use, and the line of each
abbrev pub shards_text : List Table → Machine → List ℕ
shards_text schema m = number_line (codes "shards") (length m.slots) ++ slot_lines schema m 0 m.slots

-- the first answers are these
abbrev pub Begins : List ℕ → List ℕ → Type 0
Begins front answers = (rest : List ℕ) × (answers ≡ front ++ rest)
