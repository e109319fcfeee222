use Rattle.std.proofs.Common.{◌*◌, take}
use Rattle.span_rows.specs.LentRows.{lent_rows}
use Rattle.span_groups.specs.GroupStates.{AreGroupLists, HaveKeys}
use Rattle.span_collected.specs.Parts.{all_rows}
use Rattle.span_classes.proofs.ranges.merge_ranges.Given as goal

abbrev pub invariant-loop-range : goal.invariant-loop-range
invariant-loop-range l = record {
  are : AreGroupLists l.grouping (all_rows (take (l.range-index * l.size) l.parts)) l.index.keys l.groups.states.items;
  firsts : HaveKeys l.grouping (lent_rows l.groups.firsts.items) l.index.keys;
}
