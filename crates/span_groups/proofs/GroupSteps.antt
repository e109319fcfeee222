-- The group of the key of a row: it is there, or it is added after the others.
use Rattle.std.proofs.Common.{◌≡◌, ◌≢◌, ℕ, Result, Ok, Err, IfOk, OnOk, ◌+◌, ◌*◌, ◌<◌, ◌≤◌, ◌^◌, Bool, true, false, cond, not, List, [], ◌∷◌, ◌++◌, length, set, get_or, drop, refl, sym, ap, ◌∙◌, subst, inl, inr, arith}
use Rattle.std.proofs.lemmas.Bool.{cases_eq}
use Rattle.std.proofs.lemmas.List.{length_push, length-map, map-append, get_or-map}
use denote.Ref.{Bor}
use Rattle.span_query.specs.declared.query.Aggregate.{Aggregate}
use Rattle.span_query.specs.declared.query.Grouping.{Grouping}
use Rattle.span_query.specs.Rows.{Row}
use Rattle.span_query.specs.Groups.{columns_at, group_keys, rows_with}
use Rattle.span_rows.specs.Keys.{contains_row, with_new, place_of}
use Rattle.span_rows.specs.LentRows.{lent_rows}
use Rattle.span_rows.specs.RowPlaces.{rows_at}
use Rattle.span_rows.proofs.Places.{place_known, place_most, place_tells, group_keys-more}
use Rattle.span_groups.specs.declared.aggregate.AggregateState.{AggregateState}
use Rattle.span_groups.specs.declared.group.GroupLists.{GroupLists}
use Rattle.span_groups.specs.StateLists.{Group, groups_in, states_from, IsChangedAt}
use Rattle.span_groups.specs.States.{AreAdded, AreStatesOf, CanCountOne}
use Rattle.span_groups.specs.GroupStates.{keys_of, keys_at, groups_by, AreGroups, AreGroupsOf, AreGroupLists, AreInStep, CanCountRow, HasPlace, HaveKeys, HoldGroups}
use Rattle.span_groups.specs.MergedGroups.{AreWholeGroups, HasGroupAt}
use Rattle.span_groups.proofs.Absorbed.{TakesRow, can_count_group, absorbed}
use Rattle.span_groups.proofs.AddedStates.{added_is}
use Rattle.span_groups.proofs.MergedGroups.{groups_are_whole, group_merged, has_group, new_group_at}
use Rattle.span_groups.proofs.StateLists.{keys_in, count_in, fits_at, group_found, changed_at, added_last, added_long}

-- ---- the key among the keys

-- where there are no key columns, the one key is there
pub record IsOneKey (keys : List Row) (key : Row) : Type 0 where
  pub place : 0 ≡ place_of keys key
  pub added : false ≡ not (contains_row keys key)
  pub kept : keys ≡ with_new keys key

pub one_key : (places : List ℕ) (keys : List Row) (row : Row) → places ≡ [] → (places ≡ [] → keys ≡ [] ∷ []) → IsOneKey keys (columns_at places row)
one_key [] keys row is one = subst (λ (ks : List Row). IsOneKey ks []) (sym (one refl)) (record { place = refl; added = refl; kept = refl })
one_key (p ∷ places) keys row is one = absurd cc

pub one_kept : (places : List ℕ) (keys new : List Row) (row : Row) → (places ≡ [] → keys ≡ [] ∷ []) → new ≡ with_new keys (columns_at places row) → places ≡ [] → new ≡ [] ∷ []
one_kept [] keys new row one is none = is ∙ ap (λ (ks : List Row). with_new ks []) (one refl)
one_kept (p ∷ places) keys new row one is none = absurd cc

pub new_of : (b known : Bool) → b ≡ not known → b ≡ true → known ≡ false
new_of b true is e = absurd (let clash : true ≡ false = sym e ∙ is in cc)
new_of b false is e = refl

pub known_of : (b known : Bool) → b ≡ not known → b ≡ false → known ≡ true
known_of b true is e = refl
known_of b false is e = absurd (let clash : true ≡ false = sym is ∙ e in cc)

keys_known : (keys new : List Row) (key : Row) → new ≡ with_new keys key → contains_row keys key ≡ true → new ≡ keys
keys_known keys new key is known = is ∙ ap (λ b. cond b keys (keys ++ key ∷ [])) known

keys_new : (keys new : List Row) (key : Row) → new ≡ with_new keys key → contains_row keys key ≡ false → new ≡ keys ++ key ∷ []
keys_new keys new key is known = is ∙ ap (λ b. cond b keys (keys ++ key ∷ [])) known

place_past : (keys : List Row) (key : Row) → contains_row keys key ≡ false → place_of keys key ≡ length keys
place_past keys key new = elim (cases_eq (place_of keys key) (length keys)) [
  | inl same ↦ same
  | inr other ↦
      let known : contains_row keys key ≡ true = (place_tells keys key).0 (omega (arith, place_most keys key, other)) in
      absurd (let clash : true ≡ false = sym known ∙ new in cc)
]

-- ---- the first rows

pub first_known : (g : Grouping) (firsts keys new : List Row) (key : Row) → new ≡ with_new keys key → contains_row keys key ≡ true → HaveKeys g firsts keys → HaveKeys g firsts new
first_known g firsts keys new key is known have = have ∙ sym (keys_known keys new key is known)

pub first_new : (g : Grouping) (firsts keys new : List Row) (row : Row) → new ≡ with_new keys (columns_at g.keys row) → contains_row keys (columns_at g.keys row) ≡ false
    → HaveKeys g firsts keys → HaveKeys g (firsts ++ row ∷ []) new
first_new g firsts keys new row is none have =
    map-append (columns_at g.keys) firsts (row ∷ [])
    ∙ ap (λ (ks : List Row). ks ++ columns_at g.keys row ∷ []) have
    ∙ sym (keys_new keys new (columns_at g.keys row) is none)

pub rows_at-push : (all : List Row) (places : List ℕ) (place : ℕ) (row : Row) → get_or all place [] ≡ row → rows_at all (places ++ place ∷ []) ≡ rows_at all places ++ row ∷ []
rows_at-push all places place row is =
    map-append (λ (p : ℕ). get_or all p []) places (place ∷ []) ∙ ap (λ (r : Row). rows_at all places ++ r ∷ []) is

pub lent-push : (rows : List (Bor Row)) (row : Bor Row) → lent_rows (rows ++ row ∷ []) ≡ lent_rows rows ++ row.now ∷ []
lent-push rows row = map-append (λ (r : Bor Row). r.now) rows (row ∷ [])

-- by whether the key was added
pub firsts_by : (g : Grouping) (b : Bool) (old now keys new : List Row) (row : Row) → new ≡ with_new keys (columns_at g.keys row) → b ≡ not (contains_row keys (columns_at g.keys row))
    → (b ≡ true → now ≡ old ++ row ∷ []) → (b ≡ false → now ≡ old) → HaveKeys g old keys → HaveKeys g now new
firsts_by g true old now keys new row is added more same have =
    subst (λ (l : List Row). HaveKeys g l new) (sym (more refl))
    (first_new g old keys new row is (new_of true (contains_row keys (columns_at g.keys row)) added refl) have)
firsts_by g false old now keys new row is added more same have =
    subst (λ (l : List Row). HaveKeys g l new) (sym (same refl))
    (first_known g old keys new (columns_at g.keys row) is (known_of false (contains_row keys (columns_at g.keys row)) added refl) have)

-- ---- the group

module _ (g : Grouping) (row : Row) (keys new : List Row) (states : List AggregateState) (step : AreInStep g keys states) (is : new ≡ with_new keys (columns_at g.keys row))
    (at : ℕ) (place : at ≡ place_of keys (columns_at g.keys row)) where
  abbrev width : ℕ
  width = length g.aggregates

  abbrev key : Row
  key = columns_at g.keys row

  among : at ≡ place_of (keys_of (groups_by g keys states)) key
  among = place ∙ ap (λ (ks : List Row). place_of ks key) (sym (keys_in width keys states))

  module _ (known : contains_row keys key ≡ true) where
    same_keys : new ≡ keys
    same_keys = keys_known keys new key is known

    inside : at < length keys
    inside = omega (arith, place, place_known keys key known)

    pub step_known : AreInStep g new states
    step_known = record {
      whole = step.whole ∙ ap (λ (ks : List Row). length ks * width) (sym same_keys);
      one = one_kept g.keys keys new row step.one is;
    }

    pub within_known : at < length new
    within_known = omega (arith, inside, ap (λ (ks : List Row). length ks) same_keys)

    pub place_has_group : (rows : List Row) → AreWholeGroups g keys rows (groups_by g keys states) → HasGroupAt g key keys rows (groups_by g new states) at
    place_has_group rows h =
        let apart : at ≢ length (groups_by g keys states) = λ past. absurd (omega (arith, inside, past, count_in width keys states)) in
        subst (λ (ks : List Row). HasGroupAt g key keys rows (groups_by g ks states) at) (sym same_keys) (has_group g key keys rows (groups_by g keys states) h at among apart)

  module _ (none : contains_row keys key ≡ false) (now : List AggregateState) (added : AreAdded g.aggregates states now) where
    abbrev fresh : List AggregateState
    fresh = drop (length states) now

    more_keys : new ≡ keys ++ key ∷ []
    more_keys = keys_new keys new key is none

    past : at ≡ length keys
    past = place ∙ place_past keys key none

    pub step_new : AreInStep g new now
    step_new = record {
      whole =
          ap (λ (l : List AggregateState). length l) (sym (added_is g.aggregates states now added))
          ∙ added_long width keys states fresh key step.whole added.fresh.long
          ∙ ap (λ (ks : List Row). length ks * width) (sym more_keys);
      one = one_kept g.keys keys new row step.one is;
    }

    pub within_new : at < length new
    within_new = omega (arith, past, ap (λ (ks : List Row). length ks) more_keys, length_push keys key)

    pub place_new_group : (rows : List Row) → AreWholeGroups g keys rows (groups_by g keys states) → HasGroupAt g key keys rows (groups_by g new now) at
    place_new_group rows h =
        let x : Group = record { key = key; states = fresh } in
        let old : List Group = groups_by g keys states in
        let made : groups_by g new now ≡ old ++ x ∷ [] =
        ap (λ (l : List AggregateState). groups_in width new l) (sym (added_is g.aggregates states now added))
        ∙ ap (λ (ks : List Row). groups_in width ks (states ++ fresh)) more_keys
        ∙ added_last width keys states fresh key step.whole added.fresh.long in
        subst (λ (l : List Group). HasGroupAt g key keys rows l at) (sym made)
        (new_group_at g key keys rows old h at among x (past ∙ sym (count_in width keys states)) refl added.fresh)

-- ---- its states changed

module _ (g : Grouping) (rows keys : List Row) (states : List AggregateState) (h : AreGroupLists g rows keys states) where
  keys_are : keys ≡ group_keys g.keys rows
  keys_are = sym (keys_in (length g.aggregates) keys states) ∙ h.are.keyed

  pub as_whole : AreWholeGroups g keys rows (groups_by g keys states)
  as_whole = subst (λ (ks : List Row). AreWholeGroups g ks rows (groups_by g keys states)) (sym keys_are) (groups_are_whole g rows (groups_by g keys states) h.are)

  no_columns : (places : List ℕ) → places ≡ [] → group_keys places rows ≡ [] ∷ []
  no_columns [] is = refl
  no_columns (p ∷ places) is = absurd cc

  pub in_step : AreInStep g keys states
  in_step = record { whole = h.whole; one = λ none. keys_are ∙ no_columns g.keys none }

  pub has_place : (row : Row) (groups : List Group) (at : ℕ) → HasGroupAt g (columns_at g.keys row) keys rows groups at → HasPlace g row rows groups at
  has_place row groups at has = record {
    are = subst (λ (ks : List Row). AreGroups g ks rows groups) (ap (λ (ks : List Row). with_new ks (columns_at g.keys row)) keys_are ∙ sym (group_keys-more g.keys rows row)) has.are.are;
    within = has.within;
    key = has.has_key;
  }

module _ (g : Grouping) (keys : List Row) (old : List AggregateState) (at : ℕ) (within : at < length keys) where
  abbrev pub group_at : List AggregateState → Group
  group_at states = record { key = get_or keys at []; states = states_from (at * length g.aggregates) (length g.aggregates) states }

  is_there : group_at old ≡ get_or (groups_by g keys old) at (group_at old)
  is_there = sym (group_found (length g.aggregates) keys old at (group_at old) [] within)

  pub can_count_at : (row : Row) (rows : List Row) → HasPlace g row rows (groups_by g keys old) at → length rows + 1 < 2 ^ 64
      → CanCountOne g.aggregates (states_from (at * length g.aggregates) (length g.aggregates) old)
  can_count_at row rows place few = can_count_group g row rows (groups_by g keys old) at place (group_at old) is_there few

  module _ (new : List AggregateState) (changed : IsChangedAt (at * length g.aggregates) (length g.aggregates) old new) where
    is_changed : groups_by g keys new ≡ set (groups_by g keys old) at (group_at new)
    is_changed = changed_at (length g.aggregates) keys old new at [] within changed

    pub row_taken : (row : Row) (rows : List Row) → length old ≡ length keys * length g.aggregates → HasPlace g row rows (groups_by g keys old) at
        → TakesRow g.aggregates row (group_at old).states (group_at new).states → AreGroupLists g (rows ++ row ∷ []) keys new
    row_taken row rows whole place takes = record {
      whole = changed.long ∙ whole;
      are = subst (AreGroupsOf g (rows ++ row ∷ [])) (sym is_changed) (absorbed g row rows (groups_by g keys old) at place (group_at old) (group_at new) is_there refl takes);
    }

    pub states_merged : (key : Row) (before rows next : List Row) (more : List AggregateState) → HasGroupAt g key before rows (groups_by g keys old) at
        → ((rs ns : List Row) → AreStatesOf g.aggregates rs (group_at old).states → AreStatesOf g.aggregates ns more → AreStatesOf g.aggregates (rs ++ ns) (group_at new).states)
        → AreStatesOf g.aggregates (rows_with g.keys key next) more → AreWholeGroups g (with_new before key) (rows ++ rows_with g.keys key next) (groups_by g keys new)
    states_merged key before rows next more has takes taken =
        subst (λ (l : List Group). AreWholeGroups g (with_new before key) (rows ++ rows_with g.keys key next) l) (sym is_changed)
        (group_merged g key before rows next (groups_by g keys old) at has (group_at old) (group_at new) is_there refl more takes taken)

-- ---- the group of the key of a row is at a place

module _ (g : Grouping) (row : Row) (keys new : List Row) (old mid : List AggregateState) (at : ℕ) (step : AreInStep g new mid) (within : at < length new)
    (place : (rows : List Row) → AreWholeGroups g keys rows (groups_by g keys old) → HasGroupAt g (columns_at g.keys row) keys rows (groups_by g new mid) at) where
  abbrev count : ℕ
  count = length g.aggregates

  abbrev its_key : Row
  its_key = columns_at g.keys row

  its_place : (rows : List Row) → AreGroupLists g rows keys old → HasPlace g row rows (groups_by g new mid) at
  its_place rows h = has_place g rows keys old h row (groups_by g new mid) at (place rows (as_whole g rows keys old h))

  pub states_within : at * count + count ≤ length mid
  states_within = omega (arith, fits_at at count (length new) within, step.whole)

  pub can_count : CanCountRow g keys old → CanCountOne g.aggregates (states_from (at * count) count mid)
  can_count can = can_count_at g new mid at within row can.rows (its_place can.rows can.are) can.few

  pub taken_at : (now : List AggregateState) → IsChangedAt (at * count) count mid now → TakesRow g.aggregates row (states_from (at * count) count mid) (states_from (at * count) count now)
      → (rows : List Row) → AreGroupLists g rows keys old → AreGroupLists g (rows ++ row ∷ []) new now
  taken_at now changed takes rows h = row_taken g new mid at within now changed row rows step.whole (its_place rows h) takes

  pub step_after : (now : List AggregateState) → length now ≡ length mid → AreInStep g new now
  step_after now same = record { whole = same ∙ step.whole; one = step.one }

  pub merged_at : (now more : List AggregateState) → length more ≡ count → IsChangedAt (at * count) (length more) mid now
      → ((all : List Aggregate) (rs ns : List Row) → AreStatesOf all rs (states_from (at * count) (length more) mid) → AreStatesOf all ns more → AreStatesOf all (rs ++ ns) (states_from (at * count) (length more) now))
      → (rows next : List Row) → AreWholeGroups g keys rows (groups_by g keys old) → AreStatesOf g.aggregates (rows_with g.keys its_key next) more
      → AreWholeGroups g (with_new keys its_key) (rows ++ rows_with g.keys its_key next) (groups_by g new now)
  merged_at now more wide changed takes rows next h taken =
      states_merged g new mid at within now (subst (λ (n : ℕ). IsChangedAt (at * count) n mid now) wide changed) its_key keys rows next more (place rows h)
      (λ rs ns.
      subst (λ (n : ℕ). AreStatesOf g.aggregates rs (states_from (at * count) n mid) → AreStatesOf g.aggregates ns more → AreStatesOf g.aggregates (rs ++ ns) (states_from (at * count) n now)) wide
      (takes g.aggregates rs ns)) taken

-- ---- the group at a place, by its first row

key_by_first : (places : List ℕ) (firsts : List (Bor Row)) (at : ℕ) (first : Bor Row) → at < length firsts → first ≡ get_or firsts at first → get_or (keys_at places (lent_rows firsts)) at [] ≡ columns_at places first.now
key_by_first places firsts at first within is =
    get_or-map (columns_at places) (lent_rows firsts) at first.now [] (omega (arith, within, length-map firsts (λ (r : Bor Row). r.now)))
    ∙ ap (columns_at places) (get_or-map (λ (r : Bor Row). r.now) firsts at first first.now within ∙ ap (λ (r : Bor Row). r.now) (sym is))

pub group_by_first : (places : List ℕ) (width : ℕ) (firsts : List (Bor Row)) (states : List AggregateState) (at : ℕ) (first : Bor Row) (d : Group) → at < length firsts → first ≡ get_or firsts at first
    → get_or (groups_in width (keys_at places (lent_rows firsts)) states) at d ≡ record { key = columns_at places first.now; states = states_from (at * width) width states }
group_by_first places width firsts states at first d within is =
    group_found width (keys_at places (lent_rows firsts)) states at d [] (omega (arith, within, length-map (lent_rows firsts) (columns_at places), length-map firsts (λ (r : Bor Row). r.now)))
    ∙ ap (λ (k : Row). record { key = k; states = states_from (at * width) width states }) (key_by_first places firsts at first within is)

pub count_by_firsts : (places : List ℕ) (width : ℕ) (firsts : List (Bor Row)) (states : List AggregateState) → length (groups_in width (keys_at places (lent_rows firsts)) states) ≡ length firsts
count_by_firsts places width firsts states =
    count_in width (keys_at places (lent_rows firsts)) states ∙ length-map (lent_rows firsts) (columns_at places) ∙ length-map firsts (λ (r : Bor Row). r.now)

key_by_row : (places : List ℕ) (firsts : List Row) (at : ℕ) (row : Row) → at < length firsts → row ≡ get_or firsts at row → get_or (keys_at places firsts) at [] ≡ columns_at places row
key_by_row places firsts at row within is = get_or-map (columns_at places) firsts at row [] within ∙ ap (columns_at places) (sym is)

pub group_by_row : (places : List ℕ) (width : ℕ) (firsts : List Row) (states : List AggregateState) (at : ℕ) (row : Row) (d : Group) → at < length firsts → row ≡ get_or firsts at row
    → get_or (groups_in width (keys_at places firsts) states) at d ≡ record { key = columns_at places row; states = states_from (at * width) width states }
group_by_row places width firsts states at row d within is =
    group_found width (keys_at places firsts) states at d [] (omega (arith, within, length-map firsts (columns_at places)))
    ∙ ap (λ (k : Row). record { key = k; states = states_from (at * width) width states }) (key_by_row places firsts at row within is)

pub count_by_rows : (places : List ℕ) (width : ℕ) (firsts : List Row) (states : List AggregateState) → length (groups_in width (keys_at places firsts) states) ≡ length firsts
count_by_rows places width firsts states = count_in width (keys_at places firsts) states ∙ length-map firsts (columns_at places)

-- the keys of groups that are whole are those of their lists
pub lists_of_groups : (g : Grouping) (keys : List Row) (states : List AggregateState) (ks rows : List Row) → AreWholeGroups g ks rows (groups_by g keys states) → keys ≡ ks
lists_of_groups g keys states ks rows h = sym (keys_in (length g.aggregates) keys states) ∙ h.are.keyed

-- ---- as many states as the groups have

pub held_whole : (g : Grouping) (all taken : List Row) (x : GroupLists) → HoldGroups g all taken x → length x.states.items ≡ length x.firsts.items * length g.aggregates
held_whole g all taken x h =
    h.whole ∙ ap (λ (n : ℕ). n * length g.aggregates) (length-map (rows_at all x.firsts.items) (columns_at g.keys) ∙ length-map x.firsts.items (λ (p : ℕ). get_or all p []))

pub lent_count : (rows : List Row) (lent : List (Bor Row)) (places : List ℕ) → lent_rows lent ≡ rows_at rows places → length lent ≡ length places
lent_count rows lent places is =
    sym (length-map lent (λ (r : Bor Row). r.now)) ∙ ap (λ (l : List Row). length l) is ∙ length-map places (λ (p : ℕ). get_or rows p [])

pub if_ok_both : {T E : Type 0} {P R : T → Type 0} {Q : Type 0} (r : Result T E) → ((done : T) → P done → Q → R done) → IfOk r P → OnOk r Q → IfOk r R
if_ok_both (Ok done) both p q = both done p q
if_ok_both (Err e) both p q = tt
