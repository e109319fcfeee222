use Rattle.std.proofs.Common.{◌≡◌, length, take}
use Rattle.span_rows.specs.LentRows.{lent_rows}
use Rattle.span_groups.specs.GroupStates.{AreGroupLists, HaveKeys}
use Rattle.span_collected.specs.Parts.{all_rows}
use Rattle.span_collected.proofs.merge.merge_parts.Given as goal

abbrev pub invariant-loop-part : goal.invariant-loop-part
invariant-loop-part l = record {
  are : AreGroupLists l.grouping (all_rows (take l.part-index l.parts)) l.index.keys l.groups.states.items;
  firsts : HaveKeys l.grouping (lent_rows l.groups.firsts.items) l.index.keys;
  counted : length (all_rows (take l.part-index l.parts)) ≡ l.count;
}
