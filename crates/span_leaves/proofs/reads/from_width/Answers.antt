use Rattle.std.proofs.Common.{arith}
use Rattle.span_leaves.proofs.Extents.{widths_next}
use Rattle.span_leaves.proofs.reads.from_width.Goals as goal

pub loop-i-preserved : goal.loop-i-preserved
loop-i-preserved c =
    let wider = widths_next c.args.joins.now c.loop-i.i c.index-joins-i.result c.loop-i-test.true c.index-joins-i.is in
    omega (arith, c.in_ok-sum.ensures, c.loop-i.invariant, wider)
