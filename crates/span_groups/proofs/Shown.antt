-- The rows of groups, and what a fault of an operand makes of them.
use Rattle.std.proofs.Common.{◌≡◌, ℕ, zero, suc, ◌<◌, true, cond, List, [], ◌∷◌, ◌++◌, length, get_or, All, Any, Some, None, Result, Err, refl, sym, ap, ◌∙◌, subst, arith}
use Rattle.std.specs.Option.{option_map}
use Rattle.std.proofs.lemmas.List.{append-nil}
use Rattle.std.proofs.lemmas.List.Elements.{filter-append}
use Rattle.span_value.specs.declared.value.Value.{Value}
use Rattle.span_expr.specs.declared.cell.Failure.{Failure}
use Rattle.span_expr.specs.declared.cell.Failure.TheVariants as failure
use Rattle.span_expr.specs.Meaning.{val}
use Rattle.span_query.specs.declared.query.Aggregate.{Aggregate}
use Rattle.span_query.specs.declared.query.Aggregate.TheVariants.{CountRows, Of}
use Rattle.span_query.specs.declared.query.Grouping.{Grouping}
use Rattle.span_query.specs.Rows.{Row, Rows, OrFault, ◌>>=◌, value_of, append_results, concat_map, each, singleton}
use Rattle.span_query.specs.Groups.{are_equal, columns_at, group_keys, rows_with, of_values, without_nulls, aggregate, group_row, groups}
use Rattle.span_query.proofs.Results.{append_results-none, concat_map-append}
use Rattle.span_groups.specs.StateLists.{Group}
use Rattle.span_conditions.specs.Answers.{Gives, Puts}
use Rattle.span_rows.specs.Keys.{place_of}
use Rattle.span_groups.specs.declared.aggregate.AggregateState.{AggregateState}
use Rattle.span_groups.specs.States.{AreStatesOf, operand_at}
use Rattle.span_groups.specs.GroupStates.{keys_of, HasTakenRows, AreGroupsOf}
use Rattle.span_rows.proofs.Gathering.{one_more, one_fails}
use Rattle.span_rows.proofs.Alike.{are_equal-itself}
use Rattle.span_rows.proofs.Places.{place_found, place_known, has_key}

pub puts_fails : {A : Type 0} (why : Failure) (o : OrFault A) (new : A) → Puts (Err why) o new → Gives {A = A} (Err why) o
puts_fails failure.Fault o new h = h
puts_fails failure.OutOfMemory o new h = tt {0}

-- ---- the row of each group

groups-keyed : (g : Grouping) (rows : List Row) (keys : List Row) → keys ≡ group_keys g.keys rows → groups g rows ≡ each (group_row g rows) keys
groups-keyed g rows keys is = ap (each (group_row g rows)) (sym is)

-- what is made of the key and the states of a group is its row
pub gives_row : (g : Grouping) (rows : List Row) (x : Group) (r : Result Row Failure) (key : Row) (states : List AggregateState) → key ≡ x.key → states ≡ x.states
    → ((all : List Aggregate) (taken : List Row) → AreStatesOf all taken states → Gives r (each (aggregate taken) all >>= (λ vs. Some (key ++ vs)))) → HasTakenRows g rows x → Gives r (group_row g rows x.key)
gives_row g rows x r key states same are gives taken =
    let its : List Row = rows_with g.keys x.key rows in
    subst (λ (k : Row). Gives r (each (aggregate its) g.aggregates >>= (λ vs. Some (k ++ vs)))) same
    (gives g.aggregates its (subst (λ (ss : List AggregateState). AreStatesOf g.aggregates its ss) (sym are) taken))

module _ (g : Grouping) (rows : List Row) where
  abbrev row_of : Group → OrFault (List Row)
  row_of x = option_map singleton (group_row g rows x.key)

  abbrev pub rows_by : List Group → Rows
  rows_by all = concat_map row_of all

  rows_by-keys : (all : List Group) → each (group_row g rows) (keys_of all) ≡ rows_by all
  rows_by-keys [] = refl
  rows_by-keys (x ∷ all) = ap (append_results (row_of x)) (rows_by-keys all)

  pub groups-shown : (all : List Group) → AreGroupsOf g rows all → groups g rows ≡ rows_by all
  groups-shown all are = groups-keyed g rows (keys_of all) are.keyed ∙ rows_by-keys all

  -- of the groups, these rows were made, and these groups are left
  pub record AreShown (all : List Group) (found : List Row) (left : List Group) : Type 0 where
    pub shown : rows_by all ≡ append_results (Some found) (rows_by left)
    pub taken : All (HasTakenRows g rows) left

  module _ (all : List Group) (found : List Row) (x : Group) (left : List Group) (are : AreShown all found (x ∷ left)) where
    pub next_taken : HasTakenRows g rows x
    next_taken = are.taken 0 x (omega arith)

    pub shown_more : (row : Row) → group_row g rows x.key ≡ Some row → AreShown all (found ++ row ∷ []) left
    shown_more row gives = record {
      shown = one_more _ (rows_by (x ∷ left)) (row_of x) (rows_by left) found (row ∷ []) are.shown refl (ap (option_map singleton) gives);
      taken = λ k d inside. are.taken (suc k) d (omega arith);
    }

    pub shown_fails : (why : Failure) → Gives (Err why) (group_row g rows x.key) → Gives (Err why) (rows_by all)
    shown_fails failure.Fault gives = one_fails failure.Fault _ (rows_by (x ∷ left)) (row_of x) (rows_by left) found are.shown refl (ap (option_map singleton) gives)
    shown_fails failure.OutOfMemory gives = tt {0}

  pub shown_all : (all : List Group) (found : List Row) → AreShown all found [] → rows_by all ≡ Some found
  shown_all all found are = are.shown ∙ ap (λ (l : List Row). Some l) (append-nil found)

-- ---- faults

-- where one of them is the fault, all are
each-fault : {A B : Type 0} (f : A → OrFault B) (before : List A) (x : A) (later : List A) → f x ≡ None → each f (before ++ x ∷ later) ≡ None
each-fault f before x later fault =
    concat_map-append (λ x. option_map singleton (f x)) before (x ∷ later)
    ∙ ap (λ o. append_results (each f before) (append_results (option_map singleton o) (each f later))) fault
    ∙ append_results-none (each f before)

each-any : {A B : Type 0} (f : A → OrFault B) (xs : List A) (k : ℕ) (x : A) → k < length xs → get_or xs k x ≡ x → f x ≡ None → each f xs ≡ None
each-any f [] k x inside is fault = absurd (omega arith)
each-any f (y ∷ xs) zero x inside is fault = ap (λ o. append_results (option_map singleton o) (each f xs)) (ap f is ∙ fault)
each-any f (y ∷ xs) (suc k) x inside is fault =
    ap (append_results (option_map singleton (f y))) (each-any f xs k x (omega arith) is fault) ∙ append_results-none (option_map singleton (f y))

aggregate-fault : (a : Aggregate) (before : List Row) (row : Row) (later : List Row) → operand_at row a ≡ None → aggregate (before ++ row ∷ later) a ≡ None
aggregate-fault CountRows before row later fault = absurd cc
aggregate-fault (Of f e) before row later fault =
    ap (λ (o : OrFault (List Value)). o >>= (λ vs. value_of (of_values f (without_nulls vs)))) (each-fault (λ (r : Row). value_of (val r e)) before row later fault)

rows_with-at : (places : List ℕ) (key : Row) (before : List Row) (row : Row) (later : List Row) → are_equal key (columns_at places row) ≡ true → rows_with places key (before ++ row ∷ later) ≡ rows_with places key before ++ row ∷ rows_with places key later
rows_with-at places key before row later alike =
    filter-append (λ (r : Row). are_equal key (columns_at places r)) before (row ∷ later)
    ∙ ap (λ b. rows_with places key before ++ cond b (row ∷ rows_with places key later) (rows_with places key later)) alike

-- AN OPERAND THAT FAULTS AT A ROW makes all the groups the fault
pub groups-fault : (g : Grouping) (before : List Row) (row : Row) (later : List Row) → Any (λ a. operand_at row a ≡ None) g.aggregates → groups g (before ++ row ∷ later) ≡ None
groups-fault g before row later any =
    let all = before ++ row ∷ later in
    let key = columns_at g.keys row in
    let keys = group_keys g.keys all in
    let rest : List Row = rows_with g.keys key later in
    let within : place_of keys key < length keys = place_known keys key (has_key g.keys before row later) in
    let aggregates : each (aggregate (rows_with g.keys key all)) g.aggregates ≡ None =
    ap (λ (rows : List Row). each (aggregate rows) g.aggregates) (rows_with-at g.keys key before row later (are_equal-itself key))
    ∙ each-any (aggregate (rows_with g.keys key before ++ row ∷ rest)) g.aggregates any.0 any.1 any.2 any.3 (aggregate-fault any.1 (rows_with g.keys key before) row rest any.4) in
    let one : group_row g all key ≡ None = ap (λ (o : OrFault (List Value)). o >>= (λ vs. Some (key ++ vs))) aggregates in
    each-any (group_row g all) keys (place_of keys key) key within (place_found keys key key within) one
