use Rattle.std.proofs.Common.{◌+◌, ◌*◌, ◌≡◌, length}
use Rattle.span_grammar.specs.Reading.{part_read}
use Rattle.span_grammar.proofs.Ranks.{rank}
use Rattle.span_grammar.proofs.reader.+read.Given as goal

abbrev pub decreases-read : goal.decreases-read
decreases-read l = l.left * 100 + rank l.part

abbrev pub invariant-loop-repeated : goal.invariant-loop-repeated
invariant-loop-repeated l = part_read l.left l.fn.part l.rest ≡ part_read l.left l.fn.part l.fn.tokens

abbrev pub decreases-loop-repeated : goal.decreases-loop-repeated
decreases-loop-repeated l = length l.rest
