use Rattle.span_version_laws.proofs.Snapshots.{snapshot_when_safe}
use Rattle.span_version_laws.proofs.snapshots_are_tables.Goals as goal

pub returns : goal.returns
returns c = snapshot_when_safe
