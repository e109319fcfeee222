use Rattle.span_lexer.proofs.ByPieces.{text_by_pieces}
use Rattle.span_lexer.proofs.literal_laws.text_by_pieces.Goals as goal

pub returns : goal.returns
returns c = text_by_pieces
