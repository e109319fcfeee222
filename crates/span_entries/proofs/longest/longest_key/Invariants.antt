use Rattle.span_entries.proofs.KeyLengths.{BoundedAt}
use Rattle.span_entries.proofs.longest.longest_key.Given as goal

-- the columns so far
abbrev pub invariant-loop-column : goal.invariant-loop-column
invariant-loop-column l = BoundedAt l.schema l.table l.column-index l.most
