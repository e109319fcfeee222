use Rattle.std.proofs.Common.{take}
use Rattle.std.specs.List.{AllZip}
use Rattle.span_records.specs.Layouts.{IsCellField, outside_key}
use Rattle.span_records.proofs.layout.cell_fields.Given as goal

abbrev pub invariant-loop-at : goal.invariant-loop-at
invariant-loop-at l = AllZip (IsCellField l.declared) (outside_key l.key_places (take l.at l.places)) l.cells.items
