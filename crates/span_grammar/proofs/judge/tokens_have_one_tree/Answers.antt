use Rattle.span_grammar.proofs.Verdicts.{one}
use Rattle.span_grammar.proofs.judge.tokens_have_one_tree.Goals as goal

pub returns : goal.returns
returns c = one c.args.goal c.args.tokens.now
