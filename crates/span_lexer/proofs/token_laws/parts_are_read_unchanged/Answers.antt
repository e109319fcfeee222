use Rattle.span_lexer.proofs.TokenTexts.{parts_are_read_unchanged}
use Rattle.span_lexer.proofs.token_laws.parts_are_read_unchanged.Goals as goal

pub returns : goal.returns
returns c = parts_are_read_unchanged
