use Rattle.span_rows.specs.LentRows.{lent_rows}
use Rattle.span_groups.specs.GroupStates.{HaveKeys}
use Rattle.span_collected.proofs.KeptGroups.{HaveTaken}
use Rattle.span_collected.proofs.lent.take_list.Given as goal

abbrev pub invariant-loop-at : goal.invariant-loop-at
invariant-loop-at l = record {
  taken : HaveTaken l.grouping l.fn.index.keys l.fn.groups.states.items l.rows l.at l.index.keys l.groups.states.items;
  firsts : HaveKeys l.grouping (lent_rows l.fn.groups.firsts.items) l.fn.index.keys → HaveKeys l.grouping (lent_rows l.groups.firsts.items) l.index.keys;
}
