-- One pass over the rows: the groups of those kept so far, and the rows that are left.
use Rattle.std.proofs.Common.{◌≡◌, ℕ, ◌+◌, ◌<◌, ◌≤◌, ◌^◌, true, false, List, [], ◌∷◌, ◌++◌, length, get_or, drop, Any, Option, Some, None, Result, Err, refl, sym, ap, ◌∙◌, subst, append_assoc, arith}
use Rattle.std.proofs.lemmas.List.{append-nil, drop_all, length-append}
use Rattle.std.proofs.lemmas.Option.{same_Some}
use Rattle.span_value.proofs.Lists.{drop_read}
use Rattle.span_expr.specs.declared.expr.Expr.{Expr}
use Rattle.span_expr.specs.declared.cell.Failure.{Failure}
use Rattle.span_expr.specs.declared.cell.Failure.TheVariants as failure
use Rattle.span_query.specs.declared.query.Grouping.{Grouping}
use Rattle.span_query.specs.Rows.{Row, Rows, ◌>>=◌, append_results, keep_if, holds, filter_where}
use Rattle.span_query.specs.Groups.{groups}
use Rattle.span_query.proofs.Results.{filter_where-nil, nil-append_results}
use Rattle.span_groups.specs.declared.aggregate.AggregateState.{AggregateState}
use Rattle.span_groups.specs.declared.group.GroupLists.{GroupLists}
use Rattle.span_rows.specs.RowPlaces.{rows_at}
use Rattle.span_conditions.specs.Answers.{Gives}
use Rattle.span_rows.specs.Filtering.{holds_where}
use Rattle.span_groups.specs.States.{operand_at}
use Rattle.span_groups.specs.GroupStates.{keys_at, AreGroupLists, AreGroupsWhere, CanCountRow, HaveKeys}
use Rattle.span_rows.proofs.Gathering.{gathered_at, one_more, one_less, one_fails, then_fails}
use Rattle.span_groups.proofs.Shown.{groups-fault}

-- before row i, where these are the groups so far
pub record HavePassed (filter : Option Expr) (g : Grouping) (rows : List Row) (i : ℕ) (keys : List Row) (states : List AggregateState) : Type 0 where
  pub kept : List Row
  pub all : filter_where filter rows ≡ append_results (Some kept) (filter_where filter (drop i rows))
  pub are : AreGroupLists g kept keys states
  pub few : length kept ≤ i

-- what one row gives
abbrev judged : Option Expr → Row → Rows
judged filter row = holds_where filter row >>= (λ b. Some (keep_if row b))

kept_at : (filter : Option Expr) (rows : List Row) (i : ℕ) (row : Row) → i < length rows → row ≡ get_or rows i row → filter_where filter (drop i rows) ≡ append_results (judged filter row) (filter_where filter (drop (i + 1) rows))
kept_at None rows i row inside is = ap (λ (l : List Row). Some l) (drop_read rows i row inside is)
kept_at (Some e) rows i row inside is = gathered_at (λ row. holds e row >>= (λ b. Some (keep_if row b))) rows i row inside is

module _ (filter : Option Expr) (g : Grouping) (rows : List Row) (i : ℕ) (keys : List Row) (states : List AggregateState) (passed : HavePassed filter g rows i keys states) where
  module _ (row : Row) (inside : i < length rows) (is : row ≡ get_or rows i row) where
    next : filter_where filter (drop i rows) ≡ append_results (judged filter row) (filter_where filter (drop (i + 1) rows))
    next = kept_at filter rows i row inside is

    pub can_count_passed : length rows < 2 ^ 64 → CanCountRow g keys states
    can_count_passed small = record { rows = passed.kept; are = passed.are; few = omega (arith, passed.few) }

    module _ (holds : holds_where filter row ≡ Some true) where
      with_it : filter_where filter rows ≡ append_results (Some (passed.kept ++ row ∷ [])) (filter_where filter (drop (i + 1) rows))
      with_it = one_more _ _ _ _ passed.kept (row ∷ []) passed.all next (ap (λ o. o >>= (λ b. Some (keep_if row b))) holds)

      pub pass_keeps : (more : List Row) (new : List AggregateState) → ((rows : List Row) → AreGroupLists g rows keys states → AreGroupLists g (rows ++ row ∷ []) more new) → HavePassed filter g rows (i + 1) more new
      pass_keeps more new takes = record {
        kept = passed.kept ++ row ∷ [];
        all = with_it;
        are = takes passed.kept passed.are;
        few = omega (arith, passed.few, length-append passed.kept (row ∷ []));
      }

      fault_after : Any (λ a. operand_at row a ≡ None) g.aggregates → (rest : Rows) → (append_results (Some (passed.kept ++ row ∷ [])) rest >>= groups g) ≡ None
      fault_after any None = refl
      fault_after any (Some later) = ap (groups g) (append_assoc passed.kept (row ∷ []) later) ∙ groups-fault g passed.kept row later any

      pub take_fails : (why : Failure) → (◌≡◌ {A = Result (Unit {0}) Failure} (Err why) (Err failure.Fault) → Any (λ a. operand_at row a ≡ None) g.aggregates) → Gives (Err why) (filter_where filter rows >>= groups g)
      take_fails failure.Fault any = ap (λ (o : Rows). o >>= groups g) with_it ∙ fault_after (any refl) (filter_where filter (drop (i + 1) rows))
      take_fails failure.OutOfMemory any = tt {0}

    pub pass_drops : holds_where filter row ≡ Some false → HavePassed filter g rows (i + 1) keys states
    pass_drops holds = record {
      kept = passed.kept;
      all = one_less _ _ _ _ passed.kept passed.all next (ap (λ o. o >>= (λ b. Some (keep_if row b))) holds);
      are = passed.are;
      few = omega (arith, passed.few);
    }

    pub pass_fails : (why : Failure) → Gives (Err why) (holds_where filter row) → Gives (Err why) (filter_where filter rows >>= groups g)
    pass_fails why gives =
        then_fails why (filter_where filter rows) (groups g)
        (one_fails why _ _ _ _ passed.kept passed.all next (then_fails why (holds_where filter row) (λ b. Some (keep_if row b)) gives))

  pub kept_all : length rows ≤ i → filter_where filter rows ≡ Some passed.kept
  kept_all past =
      passed.all
      ∙ ap (λ (l : List Row). append_results (Some passed.kept) (filter_where filter l)) (drop_all i rows past)
      ∙ ap (append_results (Some passed.kept)) (filter_where-nil filter)
      ∙ ap (λ (l : List Row). Some l) (append-nil passed.kept)

  pub groups_passed : (x : GroupLists) → x.states.items ≡ states → HaveKeys g (rows_at rows x.firsts.items) keys → length rows ≤ i → AreGroupsWhere filter g rows x
  groups_passed x same have past = record {
    kept = passed.kept;
    those = kept_all past;
    are = subst (λ (ss : List AggregateState). AreGroupLists g passed.kept (keys_at g.keys (rows_at rows x.firsts.items)) ss) (sym same) (subst (λ (ks : List Row). AreGroupLists g passed.kept ks states) (sym have) passed.are);
  }

pub passed_none : (filter : Option Expr) (g : Grouping) (rows keys : List Row) (states : List AggregateState) → AreGroupLists g [] keys states → HavePassed filter g rows 0 keys states
passed_none filter g rows keys states are = record { kept = []; all = sym (nil-append_results (filter_where filter rows)); are = are; few = omega arith }

-- without a condition they are the groups of all rows
pub rows_passed : (g : Grouping) (rows : List Row) (i : ℕ) (keys : List Row) (states : List AggregateState) → HavePassed None g rows i keys states → length rows ≤ i → AreGroupLists g rows keys states
rows_passed g rows i keys states passed past =
    subst (λ (l : List Row). AreGroupLists g l keys states) (same_Some passed.kept rows (sym (kept_all None g rows i keys states passed past))) passed.are
