use Rattle.std.proofs.Common.{◌≡◌, ◌++◌}
use Rattle.std.specs.Vec.Iter.{into_iter_items}
use Rattle.span_maderows.proofs.ordered.insert_all.Given as goal

-- the rows of the map, and those that are left
abbrev pub invariant-loop-key : goal.invariant-loop-key
invariant-loop-key l = l.map.entries ++ into_iter_items l.key-iterator ≡ l.fn.map.entries ++ l.fn.rows.items
