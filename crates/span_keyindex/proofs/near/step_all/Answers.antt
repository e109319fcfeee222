use Rattle.std.proofs.Common.{◌≡◌, arith, length, min, rules}
use Rattle.std.proofs.Math.Nat.{min-le_right}
use Rattle.span_keyindex.proofs.Looking.{none_looked, more_looked, few_looked}
use Rattle.span_keyindex.proofs.near.step_all.Goals as goal

pub loop-i-init : goal.loop-i-init
loop-i-init g c = none_looked c.args.steps.now

pub loop-i-preserved : goal.loop-i-preserved
loop-i-preserved g c = more_looked c.loop-i.i 1 c.args.steps.now c.loop-i.steps c.step.new.steps c.loop-i.invariant c.step.ensures

pub returns : goal.returns
returns g c =
    let least : c.min-i-end.result ≡ min (length c.args.keys.now) 16 = search rules in
    few_looked c.loop-i.i 16 c.args.steps.now c.loop-i.steps (omega (arith, least, min-le_right (length c.args.keys.now) 16)) c.loop-i.invariant
