use Rattle.std.proofs.Common.{length, ◌-◌}
use Rattle.span_lexer.proofs.Closing.{IsClosedFrom}
use Rattle.span_lexer.proofs.literal.closing_quote.Given as goal

abbrev pub invariant-loop-at : goal.invariant-loop-at
invariant-loop-at l = IsClosedFrom l.literal l.quote l.bytes l.at

abbrev pub decreases-loop-at : goal.decreases-loop-at
decreases-loop-at l = length l.bytes - l.at
