-- The rows of ranges of parts, one range after another, and the groups of each.
use Rattle.std.proofs.Common.{◌≡◌, ◌∙◌, ℕ, ◌+◌, ◌*◌, ◌≤◌, ◌++◌, [], Err, IfOk, List, Ok, Result, drop, length, take, ap, sym, arith}
use Rattle.span_expr.specs.declared.cell.Failure.{Failure}
use Rattle.std.proofs.Math.Seq.{take-add}
use Rattle.std.proofs.lemmas.Grind.{flat_map-append}
use Rattle.std.proofs.lemmas.List.{length-map, take_all, take-append-drop}
use denote.Ref.{Bor}
use Rattle.span_query.specs.declared.query.Grouping.{Grouping}
use Rattle.span_query.specs.Groups.{columns_at}
use Rattle.span_query.specs.Rows.{Row}
use Rattle.span_rows.specs.LentRows.{lent_rows}
use Rattle.span_collected.specs.declared.lent.LentGroups.{LentGroups}
use Rattle.span_groups.specs.MergedGroups.{AnyFault}
use Rattle.span_collected.specs.Parts.{all_rows}
use Rattle.span_collected.proofs.KeptGroups.{any_of_part}
use Rattle.span_classes.specs.Ranges.{IsGroupsOf, IsRangeMade, range_at}

module _ (size : ℕ) (parts : List (Bor (List Row))) where
  pub range_none : all_rows (take (0 * size) parts) ≡ []
  range_none = ap (λ (n : ℕ). all_rows (take n parts)) {y = 0} (omega arith)

  pub range_next : (number : ℕ) → all_rows (take ((number + 1) * size) parts) ≡ all_rows (take (number * size) parts) ++ all_rows (range_at size parts number)
  range_next number =
      ap (λ (n : ℕ). all_rows (take n parts)) (omega arith)
      ∙ ap all_rows (take-add (number * size) size parts)
      ∙ flat_map-append (λ (part : Bor (List Row)). part.now) (take (number * size) parts) (range_at size parts number)

  range_split : (number : ℕ) → all_rows parts ≡ all_rows (take (number * size) parts) ++ (all_rows (range_at size parts number) ++ all_rows (drop size (drop (number * size) parts)))
  range_split number =
      let rest : List (Bor (List Row)) = drop (number * size) parts in
      let front : List (Bor (List Row)) = take (number * size) parts in
      ap all_rows (sym (take-append-drop (number * size) parts))
      ∙ flat_map-append (λ (part : Bor (List Row)). part.now) front rest
      ∙ ap (λ (l : List Row). all_rows front ++ l) (ap all_rows (sym (take-append-drop size rest)) ∙ flat_map-append (λ (part : Bor (List Row)). part.now) (take size rest) (drop size rest))

  -- a fault in a range is one in all parts
  pub range_fault : (g : Grouping) (number : ℕ) → AnyFault g (all_rows (range_at size parts number)) → AnyFault g (all_rows parts)
  range_fault g number found =
      any_of_part g (all_rows (take (number * size) parts)) (all_rows (range_at size parts number)) (all_rows (drop size (drop (number * size) parts))) (all_rows parts) (range_split number) found

  pub ranges_all : (count : ℕ) → length parts ≤ count * size → all_rows (take (count * size) parts) ≡ all_rows parts
  ranges_all count whole = ap all_rows (take_all (count * size) parts whole)

-- there are as many states as the groups have aggregates
pub wide_groups : (g : Grouping) (rows : List Row) (made : LentGroups) → IsGroupsOf g rows made → length made.states.items ≡ length made.firsts.items * length g.aggregates
wide_groups g rows made are =
    are.whole
    ∙ ap (λ (n : ℕ). n * length g.aggregates) (length-map (lent_rows made.firsts.items) (columns_at g.keys) ∙ length-map made.firsts.items (λ (r : Bor Row). r.now))

pub wide_made : (g : Grouping) (rows : List Row) (made : Result LentGroups Failure) → IsRangeMade g rows made → IfOk made (λ (more : LentGroups). length more.states.items ≡ length more.firsts.items * length g.aggregates)
wide_made g rows (Ok more) is = wide_groups g rows more is.ok
wide_made g rows (Err why) is = tt {0}
