use Rattle.span_soundness.proofs.Keeping.{expressions_keep_types}
use Rattle.span_soundness.proofs.laws.expressions_keep_types.Goals as goal

pub returns : goal.returns
returns c = expressions_keep_types
