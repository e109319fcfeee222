-- One more row: it is taken by the group of its key, or by a new one after the others.
use Rattle.std.proofs.Common.{◌≡◌, ◌≢◌, ℕ, zero, suc, ◌+◌, ◌<◌, ◌^◌, true, false, List, [], ◌∷◌, ◌++◌, length, set, get_or, refl, sym, ap, ◌∙◌, subst, inl, inr, arith}
use Rattle.std.proofs.lemmas.Bool.{cases_eq}
use Rattle.std.proofs.lemmas.List.{length-map, length-set, get_or-map, get_or-set_same, get_or-set_other, append-nil}
use Rattle.span_query.specs.declared.query.Aggregate.{Aggregate}
use Rattle.span_query.specs.declared.query.Grouping.{Grouping}
use Rattle.span_query.specs.Rows.{Row}
use Rattle.span_query.specs.Groups.{are_equal, columns_at, rows_with}
use Rattle.span_groups.specs.declared.aggregate.AggregateState.{AggregateState}
use Rattle.span_groups.specs.StateLists.{Group}
use Rattle.span_rows.specs.Keys.{AreApart}
use Rattle.span_groups.specs.States.{AreStatesOf, CanCountOne}
use Rattle.span_groups.specs.GroupStates.{keys_of, HasTakenRows, AreGroupsOf, HasPlace}
use Rattle.span_rows.proofs.Alike.{are_equal-itself}
use Rattle.span_groups.proofs.Together.{filter-shorter}
use Rattle.span_rows.proofs.Places.{apart_at, group_keys-apart, rows_with-push}

pub key_at : (groups : List Group) (i : ℕ) (d : Group) (e : Row) → i < length groups → get_or (keys_of groups) i e ≡ (get_or groups i d).key
key_at groups i d e inside = get_or-map (λ (x : Group). x.key) groups i d e inside

pub key_count : (groups : List Group) → length (keys_of groups) ≡ length groups
key_count groups = length-map groups (λ (x : Group). x.key)

pub keys-same : (groups : List Group) (at : ℕ) (new : Group) → at < length groups → new.key ≡ (get_or groups at new).key → keys_of (set groups at new) ≡ keys_of groups
keys-same [] at new within same = refl
keys-same (x ∷ groups) zero new within same = ap (λ (k : Row). k ∷ keys_of groups) same
keys-same (x ∷ groups) (suc at) new within same = ap (λ (ks : List Row). x.key ∷ ks) (keys-same groups at new (omega arith) same)

-- the states after a row, whichever rows were taken before
abbrev pub TakesRow : List Aggregate → Row → List AggregateState → List AggregateState → Type 0
TakesRow aggregates row old new = (rows : List Row) → AreStatesOf aggregates rows old → AreStatesOf aggregates (rows ++ row ∷ []) new

module _ (g : Grouping) (row : Row) (rows : List Row) (groups : List Group) where
  abbrev key : Row
  key = columns_at g.keys row

  -- ---- the row

  module _ (at : ℕ) (place : HasPlace g row rows groups at) where
    pub can_count_group : (x : Group) → x ≡ get_or groups at x → length rows + 1 < 2 ^ 64 → CanCountOne g.aggregates x.states
    can_count_group x is few = record {
      rows = rows_with g.keys x.key rows;
      are = subst (HasTakenRows g rows) (sym is) (place.are.each at x place.within);
      few = omega (arith, filter-shorter (λ (r : Row). are_equal x.key (columns_at g.keys r)) rows);
    }

    -- no other group has the key
    other_key : (j : ℕ) (d : Group) → j < length groups → j ≢ at → are_equal (get_or groups j d).key key ≡ false
    other_key j d inside other =
        let keys = keys_of groups in
        let apart : are_equal (get_or keys j key) (get_or keys at key) ≡ false =
        apart_at keys (subst AreApart (sym place.are.keyed) (group_keys-apart g.keys (rows ++ row ∷ []))) at j key key (omega (arith, place.within, key_count groups)) (omega (arith, key_count groups)) other in
        ap (λ (k : Row). are_equal k key) (sym (key_at groups j d key inside))
        ∙ ap (are_equal (get_or keys j key)) (sym (key_at groups at d key place.within ∙ place.key d))
        ∙ apart

    module _ (was new : Group) (is : was ≡ get_or groups at was) (same : new.key ≡ was.key)
        (step : TakesRow g.aggregates row was.states new.states) where
      takes_here : HasTakenRows g (rows ++ row ∷ []) new
      takes_here =
          let old : HasTakenRows g rows was = subst (HasTakenRows g rows) (sym is) (place.are.each at was place.within) in
          let alike : are_equal new.key key ≡ true = ap (λ (k : Row). are_equal k key) (same ∙ ap (λ (x : Group). x.key) is ∙ place.key was) ∙ are_equal-itself key in
          let all : rows_with g.keys new.key (rows ++ row ∷ []) ≡ rows_with g.keys was.key rows ++ row ∷ [] =
          rows_with-push g.keys new.key rows row true alike ∙ ap (λ (k : Row). rows_with g.keys k rows ++ row ∷ []) same in
          subst (λ (rs : List Row). AreStatesOf g.aggregates rs new.states) (sym all) (step (rows_with g.keys was.key rows) old)

      passes_there : (x : Group) → are_equal x.key key ≡ false → HasTakenRows g rows x → HasTakenRows g (rows ++ row ∷ []) x
      passes_there x other h =
          subst (λ (rs : List Row). AreStatesOf g.aggregates rs x.states) (sym (rows_with-push g.keys x.key rows row false other ∙ append-nil (rows_with g.keys x.key rows))) h

      -- ONE MORE ROW: the groups with it
      pub absorbed : AreGroupsOf g (rows ++ row ∷ []) (set groups at new)
      absorbed = record {
        keyed = keys-same groups at new place.within (same ∙ ap (λ (x : Group). x.key) is ∙ place.key was ∙ sym (place.key new)) ∙ place.are.keyed;
        each = λ j d inside. elim (cases_eq j at) [
          | inl here ↦ subst (HasTakenRows g (rows ++ row ∷ [])) (sym (ap (λ i. get_or (set groups at new) i d) here ∙ get_or-set_same groups at new d place.within)) takes_here
          | inr other ↦
              let within : j < length groups = omega (arith, length-set groups at new) in
              subst (HasTakenRows g (rows ++ row ∷ [])) (sym (get_or-set_other groups at j new d other)) (passes_there (get_or groups j d) (other_key j d within other) (place.are.each j d within))
        ];
      }
