use Rattle.span_keyindex.proofs.Looking.{none_looked, level_looked}
use Rattle.span_keyindex.proofs.near.search_all.Goals as goal

pub loop-level-init : goal.loop-level-init
loop-level-init g c = none_looked c.args.steps.now

pub loop-level-preserved : goal.loop-level-preserved
loop-level-preserved g c = level_looked c.loop-level._level c.args.steps.now c.loop-level.steps c.step_all.new.steps c.loop-level.invariant c.step_all.ensures
