use Rattle.span_keyindex.proofs.Looking.{none_looked, more_looked}
use Rattle.span_keyindex.proofs.near.search_one.Goals as goal

pub loop-level-init : goal.loop-level-init
loop-level-init g c = none_looked c.args.steps.now

pub loop-level-preserved : goal.loop-level-preserved
loop-level-preserved g c = more_looked c.loop-level._level 1 c.args.steps.now c.loop-level.steps c.step-lane.new.steps c.loop-level.invariant c.step-lane.ensures
