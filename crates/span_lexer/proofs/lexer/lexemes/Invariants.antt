use Rattle.std.proofs.Common.{length, ◌-◌, ◌≤◌}
use Rattle.span_lexer.proofs.Whole.{IsLexedFrom}
use Rattle.span_lexer.proofs.lexer.lexemes.Given as goal

abbrev pub invariant-loop-at : goal.invariant-loop-at
invariant-loop-at l = record { within : l.at ≤ length l.bytes; so_far : IsLexedFrom l.bytes l.found.items l.at }

abbrev pub decreases-loop-at : goal.decreases-loop-at
decreases-loop-at l = length l.bytes - l.at
