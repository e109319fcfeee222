use Rattle.span_soundness.proofs.Soundness.{queries_keep_types}
use Rattle.span_soundness.proofs.laws.queries_keep_types.Goals as goal

pub returns : goal.returns
returns c = queries_keep_types
