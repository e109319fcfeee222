use Rattle.std.proofs.Common.{◌-◌, ◌≤◌, length}
use Rattle.std.specs.Prelude.{IfSome}
use Rattle.span_schema.specs.Numbers.{IsTable}
use Rattle.span_keycode.proofs.KeyTables.{LeftAt}
use Rattle.span_keycode.proofs.table.table_of_key.Given as goal

-- what is left of a key after the place
abbrev pub invariant-loop-at : goal.invariant-loop-at
invariant-loop-at l = record {
  within : l.at ≤ length l.key;
  table : IfSome l.above (IsTable l.schema);
  left : LeftAt l.schema l.key l.above l.at;
}

abbrev pub decreases-loop-at : goal.decreases-loop-at
decreases-loop-at l = length l.key - l.at
