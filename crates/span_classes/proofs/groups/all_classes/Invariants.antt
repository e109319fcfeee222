use Rattle.std.proofs.Common.{◌≡◌, ◌++◌, length, map, Ok}
use Rattle.std.specs.Vec.Iter.{into_iter_items, into_iter_len}
use Rattle.span_classes.specs.declared.class_groups.ClassGroups.{ClassGroups}
use Rattle.span_classes.proofs.groups.all_classes.Given as goal

-- the results so far are these groups
abbrev pub invariant-loop-class : goal.invariant-loop-class
invariant-loop-class l = record {
  are : l.yielded ≡ map (λ (x : ClassGroups). Ok x) l.classes.items;
  rest : l.yielded ++ into_iter_items l.class-iterator ≡ l.fn.made.items;
  count : into_iter_len l.class-iterator ≡ length (into_iter_items l.class-iterator);
}
