-- The states of several aggregates, one at a time.
use Rattle.std.proofs.Common.{◌≡◌, ℕ, suc, ◌+◌, ◌<◌, ◌≤◌, true, false, cond, not, List, [], ◌∷◌, ◌++◌, length, set, get_or, take, drop, slice_get, ◌^◌, Some, None, Err, refl, sym, ap, ◌∙◌, subst, inl, inr, arith}
use Rattle.std.specs.List.{filter}
use Rattle.std.specs.Option.{option_map}
use Rattle.std.proofs.lemmas.Bool.{cases_eq}
use Rattle.std.proofs.lemmas.List.{length-set, length-append, get_or-set_same, get_or-set_other, get_or_append_left, take_more, append-nil, drop_all}
use Rattle.std.proofs.Math.Seq.{get_or-append_seam}
use Rattle.std.proofs.lemmas.Option.{slice_get_within, slice_get-get_or, get_or_from_slice_get, slice_get_cases, slice_get_read, same_Some}
use Rattle.span_value.specs.declared.value.Value.{Value}
use Rattle.span_expr.specs.Meaning.{val}
use Rattle.span_expr.specs.Outcomes.{is_null}
use Rattle.span_query.specs.declared.query.Aggregate.{Aggregate}
use Rattle.span_query.specs.declared.query.Aggregate.TheVariants.{CountRows, Of}
use Rattle.span_query.specs.declared.query.Function.{Function}
use Rattle.span_query.specs.declared.query.Function.TheVariants as function
use Rattle.span_query.specs.Rows.{Row, OrFault, append_results, each, singleton, value_of}
use Rattle.span_query.specs.Groups.{without_nulls, aggregate}
use Rattle.span_expr.specs.declared.cell.Failure.{Failure}
use Rattle.span_expr.specs.declared.cell.Failure.TheVariants as failure
use Rattle.span_conditions.specs.Answers.{Gives}
use Rattle.span_rows.proofs.Gathering.{gathered_at, one_more, one_fails}
use Rattle.span_groups.specs.declared.aggregate.AggregateState.{AggregateState}
use Rattle.span_groups.specs.declared.aggregate.AggregateState.TheVariants as state
use Rattle.span_groups.specs.States.{count_of, HasCounted, HasTaken, IsStateOf, AreStatesOf, CanCountOne}

-- ---- how many were counted

has_counted : (n : ℕ) (s : AggregateState) → HasCounted n s → count_of s ≡ n
has_counted n (state.Count m) h = h
has_counted n (state.Sum s) h = absurd h
has_counted n (state.Least v) h = absurd h
has_counted n (state.Greatest v) h = absurd h

taken_count : (f : Function) (vs : List Value) (s : AggregateState) → HasTaken f vs s → count_of s ≤ length vs
taken_count function.Count vs s h = omega (arith, has_counted (length vs) s h)
taken_count function.Sum vs (state.Sum s) h = omega (arith, h.0)
taken_count function.Sum vs (state.Count n) h = absurd h
taken_count function.Sum vs (state.Least v) h = absurd h
taken_count function.Sum vs (state.Greatest v) h = absurd h
taken_count function.Min vs (state.Least v) h = omega arith
taken_count function.Min vs (state.Count n) h = absurd h
taken_count function.Min vs (state.Sum s) h = absurd h
taken_count function.Min vs (state.Greatest v) h = absurd h
taken_count function.Max vs (state.Greatest v) h = omega arith
taken_count function.Max vs (state.Count n) h = absurd h
taken_count function.Max vs (state.Sum s) h = absurd h
taken_count function.Max vs (state.Least v) h = absurd h

pub filter-shorter : {A : Type 0} (p : A → _) (xs : List A) → length (filter p xs) ≤ length xs
filter-shorter p [] = omega arith
filter-shorter p (x ∷ xs) = elim (p x) as (λ b. length (cond b (x ∷ filter p xs) (filter p xs)) ≤ suc (length xs)) [
  | true ↦ omega (arith, filter-shorter p xs)
  | false ↦ omega (arith, filter-shorter p xs)
]

same_Some_list : {A : Type 0} (o : OrFault (List A)) (b : OrFault A) (vs : List A) → append_results (option_map singleton b) o ≡ Some vs → (n : ℕ) → ((ws : List A) → o ≡ Some ws → length ws ≡ n) → length vs ≡ suc n
same_Some_list (Some ws) (Some v) vs e n h = let is : v ∷ ws ≡ vs = cc in ap (λ (l : List _). length l) (sym is) ∙ ap suc (h ws refl)
same_Some_list (Some ws) None vs e n h = absurd cc
same_Some_list None (Some v) vs e n h = absurd cc
same_Some_list None None vs e n h = absurd cc

pub each-length : {A B : Type 0} (f : A → OrFault B) (xs : List A) (ys : List B) → each f xs ≡ Some ys → length ys ≡ length xs
each-length f [] ys e = let is : [] ≡ ys = cc in ap (λ (l : List _). length l) (sym is)
each-length f (x ∷ xs) ys e = same_Some_list (each f xs) (f x) ys e (length xs) (λ ws is. each-length f xs ws is)

pub counted_few : (a : Aggregate) (rows : List Row) (s : AggregateState) → IsStateOf a rows s → count_of s ≤ length rows
counted_few CountRows rows s h = omega (arith, has_counted (length rows) s h)
counted_few (Of f e) rows s h =
    omega (arith, taken_count f (without_nulls h.0) s h.2, filter-shorter (λ (v : Value). not (is_null v)) h.0, each-length (λ (row : Row). value_of (val row e)) rows h.0 h.1)

-- ---- one more row

module _ (all : List Aggregate) (row : Row) (old : List AggregateState) where
  -- those before a place have taken the row
  abbrev pub Takes : List AggregateState → ℕ → Type 0
  Takes now at = (rows : List Row) → AreStatesOf all rows old → (k : ℕ) (a : Aggregate) (s : AggregateState) → slice_get all k ≡ Some a → slice_get now k ≡ Some s
      → (k < at → IsStateOf a (rows ++ row ∷ []) s) × (at ≤ k → IsStateOf a rows s)

  pub takes_none : Takes old 0
  takes_none rows h k a s here there = (λ never. absurd (omega arith), λ _. h.each k a s here there)

  pub takes_one : (now : List AggregateState) (at : ℕ) (a : Aggregate) (was new : AggregateState) → Takes now at → slice_get all at ≡ Some a → slice_get now at ≡ Some was
      → ((rows : List Row) → IsStateOf a rows was → IsStateOf a (rows ++ row ∷ []) new) → Takes (set now at new) (at + 1)
  takes_one now at a was new h here there step rows are k b s found held =
      let within = slice_get_within now at was there in
      let is = get_or_from_slice_get _ k s s held in
      elim (cases_eq k at) [
        | inl same ↦
            let one : b ≡ a = same_Some _ _ (sym found ∙ ap (slice_get all) same ∙ here) in
            let made : s ≡ new = sym is ∙ ap (λ i. get_or (set now at new) i s) same ∙ get_or-set_same now at new s within in
            (λ _. rw (one, made) (step _ ((h rows are at a was here there).1 (omega arith))), λ never. absurd (omega arith))
        | inr other ↦
            let inside : k < length now = omega (arith, slice_get_within _ k s held, length-set now at new) in
            let before = h rows are k b s found (slice_get-get_or now k s inside ∙ ap (λ x. Some x) (sym (get_or-set_other now at k new s other) ∙ is)) in
            (λ less. before.0 (omega arith), λ more. before.1 (omega arith))
      ]

  pub takes_all : (now : List AggregateState) (at : ℕ) → length now ≡ length old → Takes now at → (rows : List Row) → (h : AreStatesOf all rows old) → length all ≤ at
      → AreStatesOf all (rows ++ row ∷ []) now
  takes_all now at same takes rows h all_done =
      record { long = same ∙ h.long; each = λ k a s here there. (takes rows h k a s here there).0 (omega (arith, slice_get_within all k a here)) }

  pub can_count_more : (now : List AggregateState) (at : ℕ) (a : Aggregate) (s : AggregateState) → CanCountOne all old → Takes now at → slice_get all at ≡ Some a → slice_get now at ≡ Some s → count_of s + 1 < 2 ^ 64
  can_count_more now at a s can takes here there = omega (arith, can.few, counted_few a can.rows s ((takes can.rows can.are at a s here there).1 (omega arith)))

-- ---- one more aggregate

module _ {A : Type 0} (xs : List A) (x : A) (k : ℕ) (y : A) (found : slice_get (xs ++ x ∷ []) k ≡ Some y) where
  before_last : k < length xs → slice_get xs k ≡ Some y
  before_last inside = slice_get-get_or xs k y inside ∙ ap (λ z. Some z) (sym (get_or_append_left xs (x ∷ []) y k inside) ∙ get_or_from_slice_get (xs ++ x ∷ []) k y y found)

  is_last : k ≡ length xs → y ≡ x
  is_last e = sym (get_or_from_slice_get (xs ++ x ∷ []) k y y found) ∙ ap (λ i. get_or (xs ++ x ∷ []) i y) e ∙ get_or-append_seam xs x [] y

pub states_more : (all : List Aggregate) (rows : List Row) (states : List AggregateState) (a : Aggregate) (s : AggregateState) → AreStatesOf all rows states → IsStateOf a rows s → AreStatesOf (all ++ a ∷ []) rows (states ++ s ∷ [])
states_more all rows states a s h is = record {
  long = omega (arith, h.long, length-append states (s ∷ []), length-append all (a ∷ []));
  each = λ k b t found held. elim (cases_eq k (length all)) [
    | inl same ↦
        let one : b ≡ a = is_last all a k b found same in
        let made : t ≡ s = is_last states s k t held (omega (arith, h.long)) in
        rw (one, made) is
    | inr other ↦
        let inside : k < length all = omega (arith, slice_get_within (all ++ a ∷ []) k b found, length-append all (a ∷ [])) in
        h.each k b t (before_last all a k b found inside) (before_last states s k t held (omega (arith, h.long)))
  ];
}

pub new_more : (all : List Aggregate) (states : List AggregateState) (i : ℕ) (a : Aggregate) (s : AggregateState) → i < length all → a ≡ get_or all i a → AreStatesOf (take i all) [] states → IsStateOf a [] s → AreStatesOf (take (i + 1) all) [] (states ++ s ∷ [])
new_more all states i a s inside at h is =
    let front : take i all ++ a ∷ [] ≡ take (i + 1) all = sym (take_more all i a inside ∙ ap (λ (b : Aggregate). take i all ++ b ∷ []) (sym at)) in
    subst (λ (xs : List Aggregate). AreStatesOf xs [] (states ++ s ∷ [])) front (states_more (take i all) [] states a s h is)

-- ---- outcomes

found_at : {A : Type 0} (xs : List A) (i : ℕ) → i < length xs → (x : A) × (slice_get xs i ≡ Some x) × (x ≡ get_or xs i x)
found_at xs i inside = elim (slice_get_cases xs i).1 [
  | inl here ↦ (here.0, here.2, sym here.3)
  | inr past ↦ absurd (omega (arith, past.0))
]

module _ (key : Row) (all : List Aggregate) (rows : List Row) (states : List AggregateState) (are : AreStatesOf all rows states) (i : ℕ) (out : Row)
    (so_far : append_results (Some key) (each (aggregate rows) all) ≡ append_results (Some out) (each (aggregate rows) (drop i all))) where
  module _ (s : AggregateState) (inside : i < length states) (at : s ≡ get_or states i s) where
    within : i < length all
    within = omega (arith, are.long)

    here : (a : Aggregate) × (slice_get all i ≡ Some a) × (a ≡ get_or all i a)
    here = found_at all i within

    is_state : IsStateOf here.0 rows s
    is_state = are.each i here.0 s here.1 (slice_get_read states (length states) i s refl inside at)

    next : each (aggregate rows) (drop i all) ≡ append_results (option_map singleton (aggregate rows here.0)) (each (aggregate rows) (drop (i + 1) all))
    next = gathered_at (λ x. option_map singleton (aggregate rows x)) all i here.0 within here.2

    pub outcome_more : (v : Value) → ((a : Aggregate) (rows : List Row) → IsStateOf a rows s → aggregate rows a ≡ Some v) → append_results (Some key) (each (aggregate rows) all) ≡ append_results (Some (out ++ v ∷ [])) (each (aggregate rows) (drop (i + 1) all))
    outcome_more v gives = one_more _ _ _ _ out (v ∷ []) so_far next (ap (option_map singleton) (gives here.0 rows is_state))

    pub outcome_fails : (why : Failure) → ((a : Aggregate) (rows : List Row) → IsStateOf a rows s → Gives (Err why) (aggregate rows a)) → Gives (Err why) (append_results (Some key) (each (aggregate rows) all))
    outcome_fails failure.Fault gives = one_fails failure.Fault _ _ _ _ out so_far next (ap (option_map singleton) (gives here.0 rows is_state))
    outcome_fails failure.OutOfMemory gives = tt {0}

  pub outcomes_end : length states ≤ i → append_results (Some key) (each (aggregate rows) all) ≡ Some out
  outcomes_end past = so_far ∙ ap (λ (l : List Aggregate). append_results (Some out) (each (aggregate rows) l)) (drop_all i all (omega (arith, are.long))) ∙ ap (λ (l : Row). Some l) (append-nil out)
