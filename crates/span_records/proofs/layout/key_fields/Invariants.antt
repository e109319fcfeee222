use Rattle.std.proofs.Common.{take}
use Rattle.std.specs.List.{AllZip}
use Rattle.span_records.specs.Layouts.{IsKeyField}
use Rattle.span_records.proofs.layout.key_fields.Given as goal

abbrev pub invariant-loop-place : goal.invariant-loop-place
invariant-loop-place l = AllZip (IsKeyField l.declared l.places) (take l.place-index l.key_places) l.key.items
