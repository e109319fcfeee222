use Rattle.span_rowreader.proofs.NumberPlaces.{NumbersLeftAt}
use Rattle.span_rowreader.proofs.key_numbers.put_numbers.Given as goal

-- the numbers that are left
abbrev pub invariant-loop-number : goal.invariant-loop-number
invariant-loop-number l = NumbersLeftAt l.numbers.each l.key l.fn.row.items l.number-index l.row.items
