use Rattle.span_lexer.proofs.TokenIntegers.{integers_are_int64}
use Rattle.span_lexer.proofs.token_laws.integers_are_int64.Goals as goal

pub returns : goal.returns
returns c = integers_are_int64
