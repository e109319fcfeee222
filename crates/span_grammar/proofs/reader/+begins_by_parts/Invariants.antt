use Rattle.span_grammar.proofs.Ranks.{rank}
use Rattle.span_grammar.proofs.reader.+begins_by_parts.Given as goal

abbrev pub decreases-begins_by_parts : goal.decreases-begins_by_parts
decreases-begins_by_parts l = rank l.part
