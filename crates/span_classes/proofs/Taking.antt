-- One more row for the groups of a class.
use Rattle.std.proofs.Common.{◌≡◌, ℕ, ◌+◌, ◌*◌, ◌^◌, ◌<◌, ◌≤◌, suc, Bool, true, false, cond, not, List, [], ◌∷◌, ◌++◌, length, get_or, map, take, drop, Err, None, refl, sym, ap, ◌∙◌, subst, arith}
use Rattle.std.specs.List.{Any, filter}
use denote.Ref.{Bor}
use Rattle.std.proofs.lemmas.List.{map-append, append-nil, get_or-map, length-map, length-take-le, take-append-drop, take_all, take_more}
use Rattle.std.proofs.lemmas.List.Elements.{filter-append}
use Rattle.span_value.proofs.Lists.{drop_read}
use Rattle.span_expr.specs.declared.cell.Failure.{Failure}
use Rattle.span_expr.specs.declared.cell.Failure.TheVariants as failure
use Rattle.span_query.specs.declared.query.Grouping.{Grouping}
use Rattle.span_query.specs.Rows.{Row}
use Rattle.span_query.specs.Groups.{columns_at, distinct, group_keys, groups}
use Rattle.span_conditions.specs.Answers.{Gives}
use Rattle.span_rows.specs.Keys.{contains_row, place_of, with_new}
use Rattle.span_rows.specs.LentRows.{lent_rows}
use Rattle.span_rows.proofs.Places.{contains_row-distinct}
use Rattle.span_groups.specs.declared.aggregate.AggregateState.{AggregateState}
use Rattle.span_collected.specs.declared.lent.LentGroups.{LentGroups}
use Rattle.span_groups.specs.GroupStates.{AreGroupLists, CanCountRow, HaveKeys, keys_at}
use Rattle.span_groups.specs.States.{operand_at}
use Rattle.span_groups.proofs.GroupSteps.{firsts_by, known_of, new_of}
use Rattle.span_collected.proofs.KeptGroups.{part_fails}
use Rattle.span_groups.proofs.StateLists.{keys_in}
use Rattle.span_classes.specs.declared.class.Class.{Class}
use Rattle.span_classes.specs.Classes.{first_places, is_in_class, rows_of_class, HaveTaken}
use Rattle.span_classes.proofs.Firsts.{place_first}
use Rattle.span_classes.proofs.Keys.{contains-kind, groups-none, keys_of_kind}

pub distinct_keys : (places : List ℕ) (rows : List Row) → 0 < length places → group_keys places rows ≡ distinct (keys_at places rows)
distinct_keys [] rows keyed = absurd (omega arith)
distinct_keys (p ∷ places) rows keyed = refl

module _ (g : Grouping) (class : Class) (keyed : 0 < length g.keys) (taken rest : List Row) (row : Row) where
  abbrev key : Row
  key = columns_at g.keys row

  abbrev all : List Row
  all = taken ++ row ∷ rest

  rows_more : (b : Bool) → is_in_class class key ≡ b → rows_of_class g.keys class (taken ++ row ∷ []) ≡ rows_of_class g.keys class taken ++ cond b (row ∷ []) []
  rows_more b e =
      filter-append (λ (r : Row). is_in_class class (columns_at g.keys r)) taken (row ∷ [])
      ∙ ap (λ c. rows_of_class g.keys class taken ++ cond c (row ∷ []) []) e

  -- ---- a row of another class

  pub taken_other : (keys : List Row) (made : LentGroups) (firsts : List ℕ) → is_in_class class key ≡ false → HaveTaken g class all taken keys made firsts → HaveTaken g class all (taken ++ row ∷ []) keys made firsts
  taken_other keys made firsts other h = record {
    are = subst (λ (l : List Row). AreGroupLists g l keys made.states.items) (sym (rows_more false other ∙ append-nil (rows_of_class g.keys class taken))) h.are;
    keyed = h.keyed;
    placed = h.placed;
  }

  -- ---- a row of the class

  module _ (its : is_in_class class key ≡ true) (keys new : List Row) (is : new ≡ with_new keys key) where
    -- a key that no group has is that of no row before
    none_before : (states : List AggregateState) → AreGroupLists g (rows_of_class g.keys class taken) keys states → contains_row keys key ≡ false → contains_row (keys_at g.keys taken) key ≡ false
    none_before states are none =
        sym (contains_row-distinct (keys_at g.keys taken) key)
        ∙ ap (λ (ks : List Row). contains_row ks key) (sym (distinct_keys g.keys taken keyed))
        ∙ sym (contains-kind (is_in_class class) key its (group_keys g.keys taken))
        ∙ ap (λ (ks : List Row). contains_row ks key) (sym (keys_of_kind g.keys (is_in_class class) taken keyed) ∙ sym are.are.keyed ∙ keys_in (length g.aggregates) keys states)
        ∙ none

    placed_new : (firsts : List ℕ) (states : List AggregateState) → AreGroupLists g (rows_of_class g.keys class taken) keys states → contains_row keys key ≡ false → firsts ≡ first_places g.keys all keys
        → firsts ++ length taken ∷ [] ≡ first_places g.keys all new
    placed_new firsts states are none placed =
        let ks : List Row = keys_at g.keys all in
        let apart : ks ≡ keys_at g.keys taken ++ key ∷ keys_at g.keys rest = map-append (columns_at g.keys) taken (row ∷ rest) in
        let at : place_of ks key ≡ length taken =
        ap (λ (l : List Row). place_of l key) apart
        ∙ place_first (keys_at g.keys taken) key (keys_at g.keys rest) (none_before states are none)
        ∙ length-map taken (columns_at g.keys) in
        ap (λ (l : List ℕ). l ++ length taken ∷ []) placed
        ∙ ap (λ (n : ℕ). map (place_of ks) keys ++ n ∷ []) (sym at)
        ∙ sym (map-append (place_of ks) keys (key ∷ []))
        ∙ ap (map (place_of ks)) (sym (is ∙ ap (λ b. cond b keys (keys ++ key ∷ [])) none))

    placed_known : (firsts : List ℕ) → contains_row keys key ≡ true → firsts ≡ first_places g.keys all keys → firsts ≡ first_places g.keys all new
    placed_known firsts known placed = placed ∙ ap (first_places g.keys all) (sym (is ∙ ap (λ b. cond b keys (keys ++ key ∷ [])) known))

    placed_by : (b : Bool) (old now : List ℕ) (states : List AggregateState) → AreGroupLists g (rows_of_class g.keys class taken) keys states → b ≡ not (contains_row keys key)
        → (b ≡ true → now ≡ old ++ length taken ∷ []) → (b ≡ false → now ≡ old) → old ≡ first_places g.keys all keys → now ≡ first_places g.keys all new
    placed_by true old now states are added more same placed = more refl ∙ placed_new old states are (new_of true (contains_row keys key) added refl) placed
    placed_by false old now states are added more same placed = same refl ∙ placed_known old (known_of false (contains_row keys key) added refl) placed

    pub taken_own : (b : Bool) (old now : LentGroups) (firsts later : List ℕ) → b ≡ not (contains_row keys key)
        → ((rows : List Row) → AreGroupLists g rows keys old.states.items → AreGroupLists g (rows ++ row ∷ []) new now.states.items)
        → (b ≡ true → lent_rows now.firsts.items ≡ lent_rows old.firsts.items ++ row ∷ []) → (b ≡ false → lent_rows now.firsts.items ≡ lent_rows old.firsts.items)
        → (b ≡ true → later ≡ firsts ++ length taken ∷ []) → (b ≡ false → later ≡ firsts)
        → HaveTaken g class all taken keys old firsts → HaveTaken g class all (taken ++ row ∷ []) new now later
    taken_own b old now firsts later added takes more same longer as_long h = record {
      are = subst (λ (l : List Row). AreGroupLists g l new now.states.items) (sym (rows_more true its)) (takes (rows_of_class g.keys class taken) h.are);
      keyed = firsts_by g b (lent_rows old.firsts.items) (lent_rows now.firsts.items) keys new row is added more same h.keyed;
      placed = placed_by b firsts later old.states.items h.are added longer as_long h.placed;
    }

-- ---- a row of all rows

filter_most : {X : Type 0} (p : X → Bool) (xs : List X) → length (filter p xs) ≤ length xs
filter_most p [] = omega arith
filter_most p (x ∷ xs) = elim (p x) as (λ b. length (cond b (x ∷ filter p xs) (filter p xs)) ≤ suc (length xs)) [
  | true ↦ omega (arith, filter_most p xs)
  | false ↦ omega (arith, filter_most p xs)
]

pub can_count : (g : Grouping) (class : Class) (taken keys : List Row) (states : List AggregateState) → AreGroupLists g (rows_of_class g.keys class taken) keys states → length taken + 1 < 2 ^ 64 → CanCountRow g keys states
can_count g class taken keys states are few = record {
  rows = rows_of_class g.keys class taken;
  are = are;
  few = omega (arith, few, filter_most (λ (r : Row). is_in_class class (columns_at g.keys r)) taken);
}

pub row_split : (rows : List (Bor Row)) (at : ℕ) (x : Bor Row) → at < length rows → x ≡ get_or rows at x → lent_rows rows ≡ take at (lent_rows rows) ++ x.now ∷ drop (at + 1) (lent_rows rows)
row_split rows at x within is =
    let inside : at < length (lent_rows rows) = omega (arith, within, length-map rows (λ (r : Bor Row). r.now)) in
    let there : x.now ≡ get_or (lent_rows rows) at x.now = sym (get_or-map (λ (r : Bor Row). r.now) rows at x x.now within ∙ ap (λ (r : Bor Row). r.now) (sym is)) in
    sym (take-append-drop at (lent_rows rows)) ∙ ap (λ (l : List Row). take at (lent_rows rows) ++ l) (drop_read (lent_rows rows) at x.now inside there)

pub row_next : (rows : List (Bor Row)) (at : ℕ) (x : Bor Row) → at < length rows → x ≡ get_or rows at x → take (at + 1) (lent_rows rows) ≡ take at (lent_rows rows) ++ x.now ∷ []
row_next rows at x within is =
    take_more (lent_rows rows) at x.now (omega (arith, within, length-map rows (λ (r : Bor Row). r.now)))
    ∙ ap (λ (r : Row). take at (lent_rows rows) ++ r ∷ []) (get_or-map (λ (r : Bor Row). r.now) rows at x x.now within ∙ ap (λ (r : Bor Row). r.now) (sym is))

pub before_length : (rows : List (Bor Row)) (at : ℕ) → at ≤ length rows → length (take at (lent_rows rows)) ≡ at
before_length rows at within = length-take-le at (lent_rows rows) (omega (arith, within, length-map rows (λ (r : Bor Row). r.now)))

pub row_fails : (g : Grouping) (before after all : List Row) (row : Row) (why : Failure) → all ≡ before ++ row ∷ after → (why ≡ failure.Fault → Any (λ a. operand_at row a ≡ None) g.aggregates) → Gives {A = List Row} (Err why) (groups g all)
row_fails g before after all row why is any = part_fails g before (row ∷ []) after all why is (λ e. (0, row, omega arith, refl, any e))

-- ---- all rows

pub taken_all : (g : Grouping) (class : Class) (rows : List (Bor Row)) (at : ℕ) (keys : List Row) (made : LentGroups) (firsts : List ℕ) → length rows ≤ at → HaveTaken g class (lent_rows rows) (take at (lent_rows rows)) keys made firsts
    → HaveTaken g class (lent_rows rows) (lent_rows rows) keys made firsts
taken_all g class rows at keys made firsts past h =
    subst (λ (l : List Row). HaveTaken g class (lent_rows rows) l keys made firsts) (take_all at (lent_rows rows) (omega (arith, past, length-map rows (λ (r : Bor Row). r.now)))) h

module _ (g : Grouping) (class : Class) (keyed : 0 < length g.keys) (all keys : List Row) (made : LentGroups) (firsts : List ℕ) (h : HaveTaken g class all all keys made firsts) where
  pub keys_are : keys ≡ group_keys g.keys (rows_of_class g.keys class all)
  keys_are = sym (keys_in (length g.aggregates) keys made.states.items) ∙ h.are.are.keyed

  pub lists_are : AreGroupLists g (rows_of_class g.keys class all) (keys_at g.keys (lent_rows made.firsts.items)) made.states.items
  lists_are = subst (λ (l : List Row). AreGroupLists g (rows_of_class g.keys class all) l made.states.items) (sym h.keyed) h.are

  pub placed_are : firsts ≡ first_places g.keys all (group_keys g.keys (rows_of_class g.keys class all))
  placed_are = h.placed ∙ ap (first_places g.keys all) keys_are

  pub class_fails : (why : Failure) → Gives {A = List Row} (Err why) (groups g (rows_of_class g.keys class all)) → Gives {A = List Row} (Err why) (groups g all)
  class_fails failure.Fault none = groups-none g (is_in_class class) all keyed none
  class_fails failure.OutOfMemory none = tt {0}
