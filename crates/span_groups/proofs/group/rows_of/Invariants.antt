use Rattle.std.proofs.Common.{◌≡◌, List, drop, length}
use Rattle.span_query.specs.declared.query.Grouping.{Grouping}
use Rattle.span_query.specs.Rows.{Row}
use Rattle.span_rows.specs.LentRows.{lent_rows}
use Rattle.span_groups.specs.GroupStates.{keys_at, AreGroupsOf}
use Rattle.span_groups.specs.StateLists.{groups_in}
use Rattle.span_groups.proofs.Shown.{AreShown}
use Rattle.span_groups.proofs.group.rows_of.Given as goal

abbrev pub invariant-loop-at : goal.invariant-loop-at
invariant-loop-at l = (g : Grouping) (rows : List Row) → g.keys ≡ l.places → length g.aggregates ≡ l.width
    → AreGroupsOf g rows (groups_in l.width (keys_at l.places (lent_rows l.firsts)) l.states)
    → AreShown g rows (groups_in l.width (keys_at l.places (lent_rows l.firsts)) l.states) l.rows (drop l.at (groups_in l.width (keys_at l.places (lent_rows l.firsts)) l.states))
