use Rattle.std.proofs.Common.{◌++◌}
use Rattle.span_rows.specs.RowPlaces.{rows_at}
use Rattle.span_groups.specs.GroupStates.{keys_at, HaveKeys}
use Rattle.span_collected.proofs.KeptGroups.{HaveTaken}
use Rattle.span_collected.proofs.kept_groups.take_each.Given as goal

abbrev pub invariant-loop-at : goal.invariant-loop-at
invariant-loop-at l = record {
  taken : HaveTaken l.grouping (keys_at l.grouping.keys l.firsts) l.fn.states.items l.rows l.at l.index.keys l.states.items;
  firsts : HaveKeys l.grouping (l.firsts ++ rows_at l.rows l.places.items) l.index.keys;
}
