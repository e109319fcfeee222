use Rattle.std.proofs.Common.{◌≡◌, [], drop, take}
use Rattle.span_checking.specs.NamedBatches.{are_new_names}
use Rattle.span_checking.proofs.named_columns.are_new_names.Given as goal

abbrev pub invariant-loop-i : goal.invariant-loop-i
invariant-loop-i l = are_new_names l.table (take l.i l.names) (drop l.i l.names) ≡ are_new_names l.table [] l.names
