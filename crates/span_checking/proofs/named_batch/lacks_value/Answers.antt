use Rattle.std.proofs.Common.{sym, ◌∙◌, arith, drop, length-drop}
use Rattle.span_checking.proofs.NamedRows.{lacks_end}
use Rattle.span_checking.proofs.named_batch.lacks_value.Goals as goal

pub returns : goal.returns
returns c =
    let i = c.loop-i.i in
    let end = lacks_end c.args.columns.now (drop i c.args.places.now) (drop i c.args.names.now) c.args.cells.now
    (omega (arith, length-drop i c.args.places.now, length-drop i c.args.names.now)) in
    sym (c.loop-i.invariant ∙ end)
