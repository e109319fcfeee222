use Rattle.span_grammar_laws.proofs.Verdicts.{same_refusals}
use Rattle.span_grammar_laws.proofs.laws.same_refusals.Goals as goal

pub returns : goal.returns
returns c = same_refusals
