use Rattle.span_records.specs.Record.{IsFree}
use Rattle.span_records.proofs.record_reader.special_place.Given as goal

abbrev pub invariant-loop-i : goal.invariant-loop-i
invariant-loop-i l = IsFree l.bytes l.i
