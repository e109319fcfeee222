use Rattle.std.proofs.Common.{sym}
use Rattle.span_board.proofs.question.is_asked.Goals as goal

pub returns-in-Some : goal.returns-in-Some
returns-in-Some c = λ is. let same = c.is_question.ensures is in (c.in-Some.question.now, sym c.in-Some.ensures, same.0, same.1)
