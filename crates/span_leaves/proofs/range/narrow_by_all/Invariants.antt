use Rattle.std.proofs.Common.{◌≡◌, flat_map, map, drop}
use Rattle.span_leaves.specs.Ranges.{narrowed_by, bounds}
use Rattle.span_leaves.proofs.range.narrow_by_all.Given as goal

-- the range so far, and the conditions that are left
abbrev pub invariant-loop-condition : goal.invariant-loop-condition
invariant-loop-condition l =
    narrowed_by l.column.root l.column.part l.fn.range (flat_map (bounds l.column.place) (map (λ e. e.now) l.conditions))
    ≡ narrowed_by l.column.root l.column.part l.range (flat_map (bounds l.column.place) (map (λ e. e.now) (drop l.condition-index l.conditions)))
