use Rattle.std.proofs.Common.{◌∙◌, sym, arith}
use Rattle.span_rows.proofs.RowOrders.{more_left, more_right}
use Rattle.span_rows.proofs.key.compare_columns.Goals as goal

pub returns-then-at-right_places : goal.returns-then-at-right_places
returns-then-at-right_places c =
    more_left c.args.left.now c.args.right.now c.args.left_places.now c.args.right_places.now c.loop-at.at c.loop-at-test.true c.if-at-right_places.true ∙ sym c.loop-at.invariant

pub returns-then-count-right_places : goal.returns-then-count-right_places
returns-then-count-right_places c =
    let less = c.if-count-right_places.true in
    let past = c.loop-at-test.false in
    let most = c.loop-at.auto.at-end in
    more_right c.args.left.now c.args.right.now c.args.left_places.now c.args.right_places.now c.loop-at.at past (omega arith) ∙ sym c.loop-at.invariant
