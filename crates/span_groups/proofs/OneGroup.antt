-- The one group of all rows, where there are no key columns.
use Rattle.std.proofs.Common.{◌≡◌, ℕ, ◌+◌, ◌<◌, ◌^◌, List, [], ◌∷◌, ◌++◌, length, get_or, take, drop, Any, None, Err, refl, sym, ap, ◌∙◌, subst, arith}
use Rattle.std.proofs.lemmas.List.{length-take-le, take_all, take_more, take-append-drop}
use Rattle.std.proofs.lemmas.List.Elements.{All-replicate}
use Rattle.span_value.proofs.Lists.{drop_read}
use Rattle.span_expr.specs.declared.cell.Failure.{Failure}
use Rattle.span_expr.specs.declared.cell.Failure.TheVariants as failure
use Rattle.span_query.specs.declared.query.Aggregate.{Aggregate}
use Rattle.span_query.specs.declared.query.Grouping.{Grouping}
use Rattle.span_query.specs.Rows.{Row}
use Rattle.span_query.specs.Groups.{groups, group_keys, rows_with}
use Rattle.span_conditions.specs.Answers.{Gives}
use Rattle.span_rows.proofs.Gathering.{taken_more}
use Rattle.span_rows.specs.RowPlaces.{rows_at}
use Rattle.span_groups.specs.declared.aggregate.AggregateState.{AggregateState}
use Rattle.span_groups.specs.declared.group.GroupLists.{GroupLists}
use Rattle.span_groups.specs.StateLists.{Group, states_from, IsChangedAt}
use Rattle.span_groups.specs.States.{operand_at, IsStateOf, AreStatesOf, CanCountOne}
use Rattle.span_groups.specs.GroupStates.{keys_at, AreGroupLists, AreGroupsWhere, HasTakenRows}
use Rattle.span_groups.proofs.Shown.{groups-fault}
use Rattle.span_groups.proofs.Together.{states_more}

-- without key columns all rows have the one key
all_with : (rows : List Row) → rows_with [] [] rows ≡ rows
all_with [] = refl
all_with (r ∷ rows) = ap (λ (l : List Row). r ∷ l) (all_with rows)

pub counted_more : (all : List Aggregate) (rows : List Row) (states new : List AggregateState) (i : ℕ) (a : Aggregate) (s : AggregateState) → i < length all → a ≡ get_or all i a → AreStatesOf (take i all) rows states → IsStateOf a rows s
    → new ≡ states ++ s ∷ [] → AreStatesOf (take (i + 1) all) rows new
counted_more all rows states new i a s inside at h is added =
    let front : take i all ++ a ∷ [] ≡ take (i + 1) all = sym (take_more all i a inside ∙ ap (λ (b : Aggregate). take i all ++ b ∷ []) (sym at)) in
    subst (λ (ss : List AggregateState). AreStatesOf (take (i + 1) all) rows ss) (sym added)
    (subst (λ (xs : List Aggregate). AreStatesOf xs rows (states ++ s ∷ [])) front (states_more (take i all) rows states a s h is))

pub one_group_held : (g : Grouping) (rows : List Row) (states : List AggregateState) → g.keys ≡ [] → AreStatesOf g.aggregates rows states → AreGroupLists g rows ([] ∷ []) states
one_group_held g rows states none are =
    let width : ℕ = length g.aggregates in
    let key : Row = [] in
    let all : rows_with g.keys key rows ≡ rows = ap (λ (ks : List ℕ). rows_with ks key rows) none ∙ all_with rows in
    let whole : take width states ≡ states = take_all width states (omega (arith, are.long)) in
    let taken : AreStatesOf g.aggregates (rows_with g.keys key rows) (take width states) =
    subst (λ (ss : List AggregateState). AreStatesOf g.aggregates (rows_with g.keys key rows) ss) (sym whole) (subst (λ (rs : List Row). AreStatesOf g.aggregates rs states) (sym all) are) in
    let group : Group = record { key = key; states = take width states } in
    record {
      whole = omega (arith, are.long);
      are = record {
        keyed = sym (ap (λ (ks : List ℕ). group_keys ks rows) none);
        each = All-replicate (HasTakenRows g rows) 1 group taken;
      };
    }

pub counted_group : (g : Grouping) (rows : List Row) (x : GroupLists) → g.keys ≡ [] → x.firsts.items ≡ 0 ∷ [] → AreStatesOf g.aggregates rows x.states.items → AreGroupsWhere None g rows x
counted_group g rows x none first states =
    let one : keys_at g.keys (rows_at rows x.firsts.items) ≡ [] ∷ [] = ap (λ (ks : List ℕ). keys_at ks (rows_at rows x.firsts.items)) none ∙ ap (λ (fs : List ℕ). keys_at [] (rows_at rows fs)) first in
    record {
      kept = rows;
      those = refl;
      are = subst (λ (ks : List Row). AreGroupLists g rows ks x.states.items) (sym one) (one_group_held g rows x.states.items none states);
    }

-- ---- one row after another

-- the states of all aggregates, from the first on
pub all_from : (width : ℕ) (states : List AggregateState) → length states ≡ width → states_from 0 width states ≡ states
all_from width states long = take_all width states (omega (arith, long))

module _ (all : List Aggregate) (rows : List Row) (i : ℕ) (states : List AggregateState) (are : AreStatesOf all (take i rows) states) where
  are_from : AreStatesOf all (take i rows) (states_from 0 (length all) states)
  are_from = subst (λ (ss : List AggregateState). AreStatesOf all (take i rows) ss) (sym (all_from (length all) states are.long)) are

  pub can_count_next : i < length rows → length rows < 2 ^ 64 → CanCountOne all (states_from 0 (length all) states)
  can_count_next inside small = record { rows = take i rows; are = are_from; few = omega (arith, inside, small, length-take-le i rows (omega (arith, inside))) }

  pub next_taken : (row : Row) → i < length rows → row ≡ get_or rows i row → (new : List AggregateState) → IsChangedAt 0 (length all) states new
      → ((taken : List Row) → AreStatesOf all taken (states_from 0 (length all) states) → AreStatesOf all (taken ++ row ∷ []) (states_from 0 (length all) new))
      → AreStatesOf all (take (i + 1) rows) new
  next_taken row inside is new changed takes =
      subst (λ (rs : List Row). AreStatesOf all rs new) (taken_more rows i row inside is)
      (subst (λ (ss : List AggregateState). AreStatesOf all (take i rows ++ row ∷ []) ss) (all_from (length all) new (changed.long ∙ are.long)) (takes (take i rows) are_from))

pub rows_fail : (g : Grouping) (rows : List Row) (why : Failure)
    → (why ≡ failure.Fault → Any (λ row. Any (λ a. operand_at row a ≡ None) g.aggregates) rows) → Gives (Err why) (groups g rows)
rows_fail g rows failure.Fault any =
    let found = any refl in
    let split : rows ≡ take found.0 rows ++ found.1 ∷ drop (found.0 + 1) rows =
    sym (take-append-drop found.0 rows) ∙ ap (λ (l : List Row). take found.0 rows ++ l) (drop_read rows found.0 found.1 found.2 (sym found.3)) in
    ap (groups g) split ∙ groups-fault g (take found.0 rows) found.1 (drop (found.0 + 1) rows) found.4
rows_fail g rows failure.OutOfMemory any = tt {0}
