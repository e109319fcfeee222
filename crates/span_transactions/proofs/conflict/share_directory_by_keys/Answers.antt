use Rattle.std.proofs.Common.{◌∙◌}
use Rattle.span_transactions.proofs.Conflicts.{shared_by}
use Rattle.span_transactions.proofs.conflict.share_directory_by_keys.Goals as goal

pub returns : goal.returns
returns c = c.is_any_in_directories.ensures ∙ shared_by c.args.schema.now c.args.slot_state.now c.args.left.now c.args.right.now
