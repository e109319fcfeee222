use Rattle.span_rows.specs.RowPlaces.{rows_at}
use Rattle.span_groups.specs.GroupStates.{HaveKeys}
use Rattle.span_groups.proofs.Passes.{HavePassed}
use Rattle.span_groups.proofs.group.groups_by_row.Given as goal

abbrev pub invariant-loop-at : goal.invariant-loop-at
invariant-loop-at l = record {
  passed : HavePassed l.filter l.grouping l.rows l.at l.index.keys l.groups.states.items;
  firsts : HaveKeys l.grouping (rows_at l.rows l.groups.firsts.items) l.index.keys;
}
