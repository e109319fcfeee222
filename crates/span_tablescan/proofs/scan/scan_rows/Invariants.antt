use Rattle.std.specs.Prelude.{◌++◌, filter, length}
use Rattle.span_shard.specs.Reading.{has_short_key}
use Rattle.span_collected.specs.KeptGroups.{grouped_rows}
use Rattle.span_tablescan.proofs.ScannedRows.{EnoughBefore}
use Rattle.span_tablescan.proofs.scan.scan_rows.Given as goal

-- the rows that are enough in the place of those that are kept of the entries so far
abbrev pub invariant-loop-late : goal.invariant-loop-late
invariant-loop-late l = EnoughBefore l.schema l.scan.reader.table l.scan.leaf.now.kept l.scan.leaf.now.filter l.reduction (filter (has_short_key l.scan.reader.most) l.fn.snapshot) l.late_rows (grouped_rows l.groups ++ l.rows)

abbrev pub decreases-loop-late : goal.decreases-loop-late
decreases-loop-late l = length l.late_rows
