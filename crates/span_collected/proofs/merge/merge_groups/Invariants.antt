use Rattle.std.proofs.Common.{List}
use Rattle.span_query.specs.Rows.{Row}
use Rattle.span_rows.specs.LentRows.{lent_rows}
use Rattle.span_groups.specs.GroupStates.{groups_by, keys_at, AreGroupLists, AreInStep, HaveKeys}
use Rattle.span_collected.specs.KeptGroups.{AreGroupsWith}
use Rattle.span_groups.proofs.MergedGroups.{AreMergedTo}
use Rattle.span_collected.proofs.merge.merge_groups.Given as goal

abbrev pub invariant-loop-at : goal.invariant-loop-at
invariant-loop-at l = record {
  step : AreInStep l.grouping l.index.keys l.groups.states.items;
  merged : (before next : List Row) → AreGroupLists l.grouping before l.fn.index.keys l.fn.groups.states.items → AreGroupsWith l.grouping next (lent_rows l.firsts) l.more
      → AreMergedTo l.grouping before next (groups_by l.grouping (keys_at l.grouping.keys (lent_rows l.firsts)) l.more) l.at (groups_by l.grouping l.index.keys l.groups.states.items);
  firsts : HaveKeys l.grouping (lent_rows l.fn.groups.firsts.items) l.fn.index.keys → HaveKeys l.grouping (lent_rows l.groups.firsts.items) l.index.keys;
}
