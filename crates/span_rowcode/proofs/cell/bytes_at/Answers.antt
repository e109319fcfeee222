use Rattle.std.proofs.Common.{arith, ◌∙◌, ap, take}
use Rattle.span_rowcode.proofs.RowReads.{are_bytes, bytes_read}
use Rattle.span_rowcode.proofs.cell.bytes_at.Goals as goal

pub returns : goal.returns
returns c =
    let bs = c.args.rest.now in
    let are = are_bytes bs (λ i. let f = c.type_inv.rest i in omega arith) in
    bytes_read bs c.front.result.now c.from_be_bytes-len.result are (omega arith) (omega arith) (omega arith) c.from_be_bytes-len.ensures
    (c.front.ensures ∙ ap (take c.from_be_bytes-len.result) c.after.ensures)
