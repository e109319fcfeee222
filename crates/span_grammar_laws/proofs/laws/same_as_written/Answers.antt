use Rattle.span_grammar_laws.proofs.Verdicts.{same_as_written}
use Rattle.span_grammar_laws.proofs.laws.same_as_written.Goals as goal

pub returns : goal.returns
returns c = same_as_written
