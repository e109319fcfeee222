-- Parts in ranges of as many each, and the groups of the rows of each range.
use Rattle.std.specs.Prelude.{◌≡◌, ℕ, ◌*◌, ◌<◌, Err, IfOk, List, Result, drop, length, slice_index_or, take}
use denote.Ref.{Bor}
use Rattle.span_expr.specs.declared.cell.Failure.{Failure}
use Rattle.span_expr.specs.declared.cell.Failure.TheVariants.{Fault}
use Rattle.span_query.specs.declared.query.Grouping.{Grouping}
use Rattle.span_query.specs.Rows.{Row}
use Rattle.span_rows.specs.LentRows.{lent_rows}
use Rattle.span_collected.specs.declared.lent.LentGroups.{LentGroups}
use Rattle.span_collected.specs.KeptGroups.{AreGroupsWith}
use Rattle.span_groups.specs.MergedGroups.{AnyFault}
use Rattle.span_collected.specs.Parts.{all_rows}

-- the items of the range with a number, where each range has `size` of them
abbrev pub range_at : {X : Type 0} → ℕ → List X → ℕ → List X
range_at size items number = take size (drop (number * size) items)

-- the groups of some rows
abbrev pub IsGroupsOf : Grouping → List Row → LentGroups → Type 0
IsGroupsOf g rows made = AreGroupsWith g rows (lent_rows made.firsts.items) made.states.items

-- the groups of some rows, or why there are none
pub record IsRangeMade (g : Grouping) (rows : List Row) (made : Result LentGroups Failure) : Type 0 where
  pub ok : IfOk made (IsGroupsOf g rows)
  pub fault : made ≡ Err Fault → AnyFault g rows

-- the groups of each of `count` ranges
pub record AreRangesMade (g : Grouping) (size : ℕ) (parts : List (Bor (List Row))) (count : ℕ) (made : List (Result LentGroups Failure)) : Type 0 where
  pub counted : length made ≡ count
  pub each : (number : ℕ) (d : Result LentGroups Failure) → number < count → IsRangeMade g (all_rows (range_at size parts number)) (slice_index_or made number d)
