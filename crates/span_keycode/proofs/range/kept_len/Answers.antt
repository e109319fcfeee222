use Rattle.std.proofs.Common.{arith, ◌∙◌}
use Rattle.span_keycode.proofs.Nexts.{kept_less}
use Rattle.span_keycode.proofs.range.kept_len.Goals as goal

pub loop-kept-preserved : goal.loop-kept-preserved
loop-kept-preserved c = record {
  within = omega (arith, c.loop-kept.invariant.within);
  next = c.loop-kept.invariant.next ∙ kept_less c.args.code.now c.loop-kept.kept c.loop-kept-test.true c.loop-kept.invariant.within c.if-code-kept.true;
}
