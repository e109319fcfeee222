use Rattle.std.proofs.Common.{◌≡◌, ◌≤◌, take, length, vec_len}
use Rattle.std.specs.Prelude.{vec_capacity}
use Rattle.std.specs.List.{AllZip}
use Rattle.span_records.specs.Record.{texts}
use Rattle.span_records.specs.Layouts.{IsColumnValue}
use Rattle.span_records.proofs.layout.values_of.Given as goal

-- one to each part so far, and capacity for one to each part
abbrev pub invariant-loop-part : goal.invariant-loop-part
invariant-loop-part l = record {
  read : AllZip (IsColumnValue (texts l.fields)) (take l.part-index l.parts) l.values.items;
  count : vec_len l.values ≡ l.part-index;
  capacity : length l.parts ≤ vec_capacity l.values;
}
