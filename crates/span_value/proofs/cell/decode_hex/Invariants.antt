use Rattle.std.proofs.Common.{length}
use Rattle.span_value.proofs.CellTexts.{IsUnhexedFrom}
use Rattle.span_value.proofs.cell.decode_hex.Given as goal

abbrev pub invariant-loop-high : goal.invariant-loop-high
invariant-loop-high l = IsUnhexedFrom l.digits l.out.items l.rest

abbrev pub decreases-loop-high : goal.decreases-loop-high
decreases-loop-high l = length l.rest
