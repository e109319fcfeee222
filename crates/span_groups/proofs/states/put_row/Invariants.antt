use Rattle.std.proofs.Common.{◌≡◌, List, drop, Some}
use Rattle.span_query.specs.declared.query.Aggregate.{Aggregate}
use Rattle.span_query.specs.Rows.{Row, append_results, each}
use Rattle.span_query.specs.Groups.{aggregate, columns_at}
use Rattle.span_groups.specs.States.{AreStatesOf}
use Rattle.span_groups.proofs.states.put_row.Given as goal

-- the key and the outcomes so far, and the outcomes of the states that are left
abbrev pub invariant-loop-state : goal.invariant-loop-state
invariant-loop-state l = (aggregates : List Aggregate) (rows : List Row) → AreStatesOf aggregates rows l.states →
    append_results (Some (columns_at l.places l.first)) (each (aggregate rows) aggregates) ≡ append_results (Some l.values.items) (each (aggregate rows) (drop l.state-index aggregates))
