use Rattle.std.proofs.Common.{[], length, replicate}
use Rattle.std.specs.Prelude.{filter}
use Rattle.span_shard.specs.Reading.{has_short_key}
use Rattle.span_tablescan.proofs.ScannedRows.{KeptBefore}
use Rattle.span_tablescan.proofs.count.count_by_length.Given as goal

-- the rows that are kept of the entries so far
abbrev pub invariant-loop-entry : goal.invariant-loop-entry
invariant-loop-entry l = KeptBefore l.schema l.scan.reader.table l.scan.leaf.now.kept l.scan.leaf.now.filter (filter (has_short_key l.scan.reader.most) l.fn.snapshot) l.entries (replicate l.count [])

abbrev pub decreases-loop-entry : goal.decreases-loop-entry
decreases-loop-entry l = length l.entries
