use Rattle.std.proofs.Common.{◌≡◌, map, take}
use Rattle.csv.specs.Records.{fields_of}
use Rattle.span_value.specs.Cells.{cell_of}
use Rattle.span_records.proofs.record_writer.put_cells.Given as goal

-- the fields are the cells of the values so far
abbrev pub invariant-loop-value : goal.invariant-loop-value
invariant-loop-value l = fields_of l.cells ≡ map cell_of (take l.value-index l.row)
