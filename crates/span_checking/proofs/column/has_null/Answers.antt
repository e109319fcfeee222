use Rattle.std.proofs.Common.{sym, ◌∙◌, arith, drop, length-drop}
use Rattle.span_checking.specs.Columns.{is_null_refused}
use Rattle.span_checking.proofs.InOrder.{breaks_end}
use Rattle.span_checking.proofs.column.has_null.Goals as goal

pub returns : goal.returns
returns c =
    let i = c.loop-i.i in
    let end = breaks_end is_null_refused c.args.columns.now (drop i c.args.places.now) (drop i c.args.values.now)
    (omega (arith, length-drop i c.args.places.now, length-drop i c.args.values.now)) in
    sym (c.loop-i.invariant ∙ end)
