use Rattle.std.proofs.Common.{◌≤◌, length}
use Rattle.span_rowreader.proofs.KeyReads.{ReadsLeftAt}
use Rattle.span_rowreader.proofs.reads.put_key.Given as goal

-- what is left of the columns
abbrev pub invariant-loop-i : goal.invariant-loop-i
invariant-loop-i l = record {
  within : l.at ≤ length l.key;
  left : ReadsLeftAt l.wanted l.reads l.key l.fn.row.items l.i l.at l.row.items;
}
