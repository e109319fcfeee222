use Rattle.std.proofs.Common.{◌≡◌}
use Rattle.span_classes.specs.Classes.{rows_of}
use Rattle.span_classes.proofs.groups.take_rows.Given as goal

abbrev pub invariant-loop-class : goal.invariant-loop-class
invariant-loop-class l = l.lists.items ≡ rows_of l.yielded
