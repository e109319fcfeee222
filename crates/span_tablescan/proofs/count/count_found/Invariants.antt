use Rattle.std.proofs.Common.{◌≡◌, [], false, length, replicate}
use Rattle.span_tablescan.proofs.ScannedRows.{KeptBefore}
use Rattle.span_tablescan.proofs.count.count_found.Given as goal

-- the rows that are kept of the entries so far, where the lengths of their keys decided
abbrev pub invariant-loop-entry : goal.invariant-loop-entry
invariant-loop-entry l = l.is_unsure ≡ false → KeptBefore l.schema l.scan.reader.table l.scan.leaf.now.kept l.scan.leaf.now.filter l.fn.rows l.rows (replicate l.count [])

abbrev pub decreases-loop-entry : goal.decreases-loop-entry
decreases-loop-entry l = length l.rows
