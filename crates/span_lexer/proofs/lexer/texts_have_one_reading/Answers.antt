use Rattle.span_lexer.proofs.Answered.{one_reading}
use Rattle.span_lexer.proofs.lexer.texts_have_one_reading.Goals as goal

pub returns : goal.returns
returns c = one_reading
