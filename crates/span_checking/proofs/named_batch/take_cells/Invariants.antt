use Rattle.std.proofs.Common.{◌≡◌, ◌++◌, drop, map}
use Rattle.span_checking.specs.NamedBatches.{AreApart, value_at}
use Rattle.span_checking.proofs.named_batch.take_cells.Given as goal

-- the values so far, and those that are left under the other names
abbrev pub invariant-loop-name : goal.invariant-loop-name
invariant-loop-name l = record {
  so_far : l.values.items ++ map (value_at l.left.items) (drop l.name-index l.names) ≡ map (value_at l.fn.cells.items) l.names;
  apart : AreApart (drop l.name-index l.names);
}
