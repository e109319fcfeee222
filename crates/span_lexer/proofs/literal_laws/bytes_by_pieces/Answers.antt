use Rattle.span_lexer.proofs.ByPieces.{bytes_by_pieces}
use Rattle.span_lexer.proofs.literal_laws.bytes_by_pieces.Goals as goal

pub returns : goal.returns
returns c = bytes_by_pieces
