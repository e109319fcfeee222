use Rattle.std.proofs.Common.{arith}
use Rattle.span_keywalk.proofs.batch.find_in_order.Goals as goal

pub loop-left-preserved-then-has_run : goal.loop-left-preserved-then-has_run
loop-left-preserved-then-has_run c =
    let l = c.loop-left in
    let is = c.if-has_run.true in
    record {
      short = c.pass_run-count.ensures.passed c.args.nexts.now c.args.stop l.left _ (c.has_run.ensures.run is c.args.stop c.end_of-end.ensures.end) (omega (arith, c.has_run.ensures.keys is)) l.invariant.short;
      count = c.pass_run-count.ensures.room;
      places = c.type_inv.numbers;
      left = omega (arith, l.invariant.left);
    }
