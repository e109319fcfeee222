use Rattle.std.proofs.Common.{◌≡◌, ◌++◌, drop}
use Rattle.span_rowreader.specs.KeyNumbers.{AreWithin, numbers_of}
use Rattle.span_rowreader.proofs.key_numbers.numbers_of.Given as goal

-- the numbers so far, and those of the columns that are left
abbrev pub invariant-loop-read : goal.invariant-loop-read
invariant-loop-read l = record {
  so_far : l.each.items ++ numbers_of (drop l.read-index l.reads) l.at l.wanted ≡ numbers_of l.reads 0 l.wanted;
  within : AreWithin l.len l.each.items;
}
