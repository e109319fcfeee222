use Rattle.span_core.proofs.Wholes.{start_database}
use Rattle.span_core.proofs.database.Core.new.Goals as goal

pub invariant_of-result : goal.invariant_of-result
invariant_of-result c = start_database c.args.schema c.in_ok-journal.journal c.push.new.self.items c.in_ok-journal.ensures.start c.start.ensures
