use Rattle.span_rowreader.proofs.AddedCells.{NumbersPutAt}
use Rattle.span_rowreader.proofs.added.put_last_numbers.Given as goal

-- the numbers that are left
abbrev pub invariant-loop-number : goal.invariant-loop-number
invariant-loop-number l = NumbersPutAt l.width l.numbers.each l.key l.fn.rows l.number-index l.rows
