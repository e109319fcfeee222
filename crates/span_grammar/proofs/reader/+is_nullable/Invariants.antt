use Rattle.span_grammar.proofs.Ranks.{rank}
use Rattle.span_grammar.proofs.reader.+is_nullable.Given as goal

abbrev pub decreases-is_nullable : goal.decreases-is_nullable
decreases-is_nullable l = rank l.part
