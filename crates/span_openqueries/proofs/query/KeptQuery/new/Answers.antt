use Rattle.std.proofs.Common.{map, sym, subst}
use Rattle.span_machine.specs.Machine.{uncovered}
use Rattle.span_machine.specs.Pieces.{no_pieces}
use Rattle.span_openqueries.specs.Counts.{AreAllApart}
use Rattle.span_openqueries.proofs.Counted.{opened_counted, opened_apart, recounted}
use Rattle.span_openqueries.proofs.query.KeptQuery.new.Goals as goal

pub invariant_of-result : goal.invariant_of-result
invariant_of-result c =
    let leaves = c.args.query.plan.leaves in
    let made = c.in_ok-statement.field-0-1 in
    let unread = rw c.in_ok-statement.ensures.1 at c.unread_plan-unread.ensures in
    record {
      counted = recounted (map uncovered leaves) made.leaves (map no_pieces leaves) made.pieces unread.0 unread.1 (opened_counted leaves);
      apart = subst AreAllApart (sym unread.0) (opened_apart leaves);
    }
