use Rattle.std.proofs.Common.{◌≡◌, ◌++◌, drop}
use Rattle.csv.specs.Records.{fields_of}
use Rattle.span_records.specs.Record.{texts}
use Rattle.span_records.proofs.record_reader.lent_fields.Given as goal

abbrev pub invariant-loop-i : goal.invariant-loop-i
invariant-loop-i l = texts l.found.items ++ drop l.i (fields_of l.fields) ≡ fields_of l.fields
