use Rattle.std.proofs.Common.{◌≡◌, take}
use Rattle.span_rows.specs.Columns.{distinct_at}
use Rattle.span_collected.proofs.kept_groups.keys_of.Given as goal

abbrev pub invariant-loop-at : goal.invariant-loop-at
invariant-loop-at l = l.index.keys ≡ distinct_at l.columns (take l.at l.rows)
