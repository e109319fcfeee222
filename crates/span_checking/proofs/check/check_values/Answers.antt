use Rattle.std.proofs.Common.{sym, ◌∙◌, arith, drop, length-drop}
use Rattle.span_checking.proofs.InOrder.{values_end}
use Rattle.span_checking.proofs.check.check_values.Goals as goal

pub returns : goal.returns
returns c =
    let i = c.loop-i.i in
    let end = values_end c.args.columns.now (drop i c.args.places.now) (drop i c.args.cells.now)
    (omega (arith, length-drop i c.args.places.now, length-drop i c.args.cells.now)) in
    sym c.loop-i.invariant ∙ end
