use Rattle.std.proofs.Common.{length}
use Rattle.span_records.specs.Record.{IsFree}
use Rattle.span_records.proofs.Marks.{one_piece, free_unmarked}
use Rattle.span_records.proofs.record_reader.is_piece.Goals as goal

pub returns-in-None : goal.returns-in-None
returns-in-None c =
    let text = c.args.text.now in
    let free : IsFree text (length text) = rw c.as_bytes.ensures.value at c.in-None.ensures in
    λ _. (one_piece text free, free_unmarked text free)
