use Rattle.span_lexer.proofs.TokenTexts.{tokens_are_read_unchanged}
use Rattle.span_lexer.proofs.token_laws.tokens_are_read_unchanged.Goals as goal

pub returns : goal.returns
returns c = tokens_are_read_unchanged
