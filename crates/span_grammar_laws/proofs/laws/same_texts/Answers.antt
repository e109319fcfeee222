use Rattle.span_grammar_laws.proofs.Verdicts.{same_texts}
use Rattle.span_grammar_laws.proofs.laws.same_texts.Goals as goal

pub returns : goal.returns
returns c = same_texts
