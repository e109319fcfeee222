use Rattle.std.proofs.Common.{◌≡◌, ◌++◌, length}
use denote.Text.{Utf8}
use denote.Shadow.{shadow}
use Rattle.span_records.specs.Record.{pieces, texts, IsUnmarked}
use Rattle.span_records.proofs.record_reader.push_pieces.Given as goal

-- the fields so far, and the pieces of what is left, are the fields before and the pieces of the text, which has no mark where what is left has
-- none
abbrev pub invariant-loop-piece : goal.invariant-loop-piece
invariant-loop-piece l = shadow (Utf8 l.rest) × (texts l.found.items ++ pieces l.rest ≡ texts l.fn.found.items ++ pieces l.text) × (IsUnmarked l.rest → IsUnmarked l.text)

abbrev pub decreases-loop-piece : goal.decreases-loop-piece
decreases-loop-piece l = length l.rest
