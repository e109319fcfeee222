use Rattle.span_board.proofs.Opening.{opens}
use Rattle.span_session.proofs.open.UnnamedDb.new.Goals as goal

pub of_words-requires : goal.of_words-requires
of_words-requires c = opens c.args.sessions 16
