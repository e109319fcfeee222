use Rattle.span_keytree.specs.Roots.{tree_of}
use Rattle.span_keytree.proofs.Stopping.{stops}
use Rattle.span_keytree.proofs.stop.last_stop.Goals as goal

pub returns-in-None : goal.returns-in-None
returns-in-None c = stops (tree_of c.args.arena.now.cells c.args.index.now) c.stop_below.result c.stop_below.ensures
