-- States that take what others have taken.
use Rattle.std.proofs.Common.{◌≡◌, ℕ, ℤ, ◌+◌, ◌+ℤ◌, ◌<◌, ◌≤◌, Bool, true, false, cond, not, List, [], ◌∷◌, ◌++◌, length, set, get_or, slice_get, Option, Some, Result, Ok, IfOk, IsTrue, refl, sym, ap, ◌∙◌, subst, inl, inr, arith}
use Rattle.std.specs.List.{fold}
use Rattle.std.specs.Option.{option_map}
use Rattle.std.specs.declared.alloc.AllocError.{AllocError}
use Rattle.std.specs.declared.cmp.Ordering.{Ordering}
use Rattle.std.specs.declared.cmp.Ordering.TheVariants.{Less, Equal, Greater}
use Rattle.std.specs.Ordering.{is_lt, is_gt, is_le, ordering_reverse}
use Rattle.std.specs.BTreeMap.Comparable.{le_lt_trans}
use Rattle.std.proofs.lemmas.Bool.{cases_eq}
use Rattle.std.proofs.lemmas.Int.{ints}
use Rattle.std.proofs.lemmas.List.{length-append, length-set, get_or-set_same, get_or-set_other, append-nil}
use Rattle.std.proofs.lemmas.List.Elements.{filter-append}
use Rattle.std.proofs.lemmas.List.Sums.{fold-append}
use Rattle.std.proofs.lemmas.Option.{slice_get_within, slice_get-get_or, get_or_from_slice_get}
use Rattle.span_value.specs.declared.value.Value.{Value}
use Rattle.span_value.specs.Orders.{value_order}
use Rattle.span_value.proofs.Total.{value_order_total}
use Rattle.span_value.proofs.Comparisons.{is_greater, is_less}
use Rattle.span_expr.specs.Meaning.{val}
use Rattle.span_expr.specs.Outcomes.{is_null}
use Rattle.span_query.specs.declared.query.Aggregate.{Aggregate}
use Rattle.span_query.specs.declared.query.Aggregate.TheVariants.{CountRows, Of}
use Rattle.span_query.specs.declared.query.Function.{Function}
use Rattle.span_query.specs.declared.query.Function.TheVariants as function
use Rattle.span_query.specs.Rows.{Row, OrFault, value_of, append_results, singleton, each}
use Rattle.span_query.specs.Groups.{int_of, total, without_nulls, lesser, greater}
use Rattle.span_query.proofs.Results.{concat_map-append}
use Rattle.span_groups.specs.declared.sum.Sum.{Sum}
use Rattle.span_groups.specs.declared.aggregate.AggregateState.{AggregateState}
use Rattle.span_groups.specs.declared.aggregate.AggregateState.TheVariants as state
use Rattle.span_groups.specs.States.{best, better_of, HasCounted, HasTaken, IsStateOf, AreStatesOf}

-- ---- sums

total-append : (vs ws : List Value) → total (vs ++ ws) ≡ total vs +ℤ total ws
total-append [] ws = omega (arith, ints)
total-append (v ∷ vs) ws = ap (λ (z : ℤ). int_of v +ℤ z) (total-append vs ws) ∙ omega (arith, ints)

-- ---- the best of values

-- one value is better than another, by an order
module _ (is_better : Value → Value → Bool)
    (onward : (x y z : Value) → is_better z y ≡ true → is_better y x ≡ true → is_better z x ≡ true)
    (over : (x y z : Value) → is_better z x ≡ true → is_better y x ≡ false → is_better z y ≡ true) where
  abbrev pub better : Value → Value → Value
  better v w = cond (is_better w v) w v

  better_thrice : (x y z : Value) (p q r : Bool) → is_better y x ≡ p → is_better z y ≡ q → is_better z x ≡ r
      → cond (is_better z (cond p y x)) z (cond p y x) ≡ cond (is_better (cond q z y) x) (cond q z y) x
  better_thrice x y z true true r a b c =
      ap (λ (d : Bool). cond d z y) b ∙ sym (ap (λ (d : Bool). cond d z x) (onward x y z b a))
  better_thrice x y z true false r a b c = ap (λ (d : Bool). cond d z y) b ∙ sym (ap (λ (d : Bool). cond d y x) a)
  better_thrice x y z false true r a b c = refl
  better_thrice x y z false false true a b c = let same : true ≡ false = sym (over x y z c a) ∙ b in absurd cc
  better_thrice x y z false false false a b c = ap (λ (d : Bool). cond d z x) c ∙ sym (ap (λ (d : Bool). cond d y x) a)

  better-assoc : (x y z : Value) → better (better x y) z ≡ better x (better y z)
  better-assoc x y z = better_thrice x y z (is_better y x) (is_better z y) (is_better z x) refl refl refl

  fold-better : (v w : Value) (ws : List Value) → fold better (better v w) ws ≡ better v (fold better w ws)
  fold-better v w [] = refl
  fold-better v w (x ∷ ws) = ap (λ (u : Value). fold better u ws) (better-assoc v w x) ∙ fold-better v (better w x) ws

  pub best-append : (vs ws : List Value) → best better (vs ++ ws) ≡ better_of better (best better vs) (best better ws)
  best-append [] [] = refl
  best-append [] (w ∷ ws) = refl
  best-append (v ∷ vs) [] = ap (λ (us : List Value). Some (fold better v us)) (append-nil vs)
  best-append (v ∷ vs) (w ∷ ws) =
      ap (λ (u : Value). Some u) (fold-append better v vs (w ∷ ws) ∙ fold-better (fold better v vs) w ws)

not_less : (o : Ordering) → is_lt o ≡ false → is_le (ordering_reverse o) ≡ true
not_less Less e = absurd cc
not_less Equal e = refl
not_less Greater e = refl

not_greater : (o : Ordering) → is_gt o ≡ false → is_le o ≡ true
not_greater Less e = refl
not_greater Equal e = refl
not_greater Greater e = absurd cc

turned : (x y : Value) (o : Ordering) → value_order x y ≡ o → value_order y x ≡ ordering_reverse o
turned x y o e = value_order_total.antisymm y x ∙ ap ordering_reverse e

lesser_onward : (x y z : Value) → is_lt (value_order z y) ≡ true → is_lt (value_order y x) ≡ true → is_lt (value_order z x) ≡ true
lesser_onward x y z a b = ap is_lt (value_order_total.trans z y x (is_less _ a) (is_less _ b))

lesser_over : (x y z : Value) → is_lt (value_order z x) ≡ true → is_lt (value_order y x) ≡ false → is_lt (value_order z y) ≡ true
lesser_over x y z a b = elim (is_lt (value_order z y)) as (λ d. is_lt (value_order z y) ≡ d → d ≡ true) [
  | true ↦ λ e. refl
  | false ↦ λ e.
      let not_after : is_le (value_order y z) ≡ true = ap is_le (turned z y (value_order z y) refl) ∙ not_less (value_order z y) e in
      let less : value_order y x ≡ Less = le_lt_trans value_order_total y z x not_after (is_less _ a) in
      sym b ∙ ap is_lt less
] refl

greater_onward : (x y z : Value) → is_gt (value_order z y) ≡ true → is_gt (value_order y x) ≡ true → is_gt (value_order z x) ≡ true
greater_onward x y z a b =
    ap is_gt (turned x z Less (value_order_total.trans x y z (turned y x Greater (is_greater _ b)) (turned z y Greater (is_greater _ a))))

greater_over : (x y z : Value) → is_gt (value_order z x) ≡ true → is_gt (value_order y x) ≡ false → is_gt (value_order z y) ≡ true
greater_over x y z a b =
    ap is_gt (turned y z Less (le_lt_trans value_order_total y x z (not_greater _ b) (turned z x Greater (is_greater _ a))))

least-append : (vs ws : List Value) → best lesser (vs ++ ws) ≡ better_of lesser (best lesser vs) (best lesser ws)
least-append = best-append (λ w v. is_lt (value_order w v)) lesser_onward lesser_over

greatest-append : (vs ws : List Value) → best greater (vs ++ ws) ≡ better_of greater (best greater vs) (best greater ws)
greatest-append = best-append (λ w v. is_gt (value_order w v)) greater_onward greater_over

-- ---- one state

each-append : {A B : Type 0} (f : A → OrFault B) (xs ys : List A) (vs ws : List B) → each f xs ≡ Some vs → each f ys ≡ Some ws → each f (xs ++ ys) ≡ Some (vs ++ ws)
each-append f xs ys vs ws is more =
    concat_map-append (λ x. option_map singleton (f x)) xs ys ∙ ap (λ o. append_results o (each f ys)) is ∙ ap (λ o. append_results (Some vs) o) more

module _ (old more new : AggregateState) where
  abbrev pub TakesTaken : Type 0
  TakesTaken = (f : Function) (vs ws : List Value) → HasTaken f vs old → HasTaken f ws more → HasTaken f (vs ++ ws) new

  abbrev pub CountsCounted : Type 0
  CountsCounted = (n m : ℕ) → HasCounted n old → HasCounted m more → HasCounted (n + m) new

  abbrev pub TakesAll : Type 0
  TakesAll = (a : Aggregate) (rows next : List Row) → IsStateOf a rows old → IsStateOf a next more → IsStateOf a (rows ++ next) new

  takes_all_of : TakesTaken → CountsCounted → TakesAll
  takes_all_of takes counts CountRows rows next h l =
      subst (λ (n : ℕ). HasCounted n new) (sym (length-append rows next)) (counts (length rows) (length next) h l)
  takes_all_of takes counts (Of f e) rows next h l = (
    h.0 ++ l.0,
    each-append (λ (r : Row). value_of (val r e)) rows next h.0 l.0 h.1 l.1,
    subst (λ (vs : List Value). HasTaken f vs new) (sym (filter-append (λ (v : Value). not (is_null v)) h.0 l.0)) (takes f (without_nulls h.0) (without_nulls l.0) h.2 l.2),
  )

pub counts_merge : (n m k : ℕ) → k ≡ n + m → TakesAll (state.Count n) (state.Count m) (state.Count k)
counts_merge n m k is = takes_all_of (state.Count n) (state.Count m) (state.Count k) takes (λ a b h l. is ∙ omega (arith, h, l))
  where
    takes : TakesTaken (state.Count n) (state.Count m) (state.Count k)
    takes function.Count vs ws h l = omega (arith, is, h, l, length-append vs ws)
    takes function.Sum vs ws h l = absurd h
    takes function.Min vs ws h l = absurd h
    takes function.Max vs ws h l = absurd h

pub sums_merge : (s t u : Sum) → u.values ≡ s.values + t.values → u.total ≡ s.total +ℤ t.total → TakesAll (state.Sum s) (state.Sum t) (state.Sum u)
sums_merge s t u values sums = takes_all_of (state.Sum s) (state.Sum t) (state.Sum u) takes (λ a b h l. absurd h)
  where
    takes : TakesTaken (state.Sum s) (state.Sum t) (state.Sum u)
    takes function.Sum vs ws h l = (
      omega (arith, values, h.0, l.0, length-append vs ws),
      sums ∙ ap (λ (z : ℤ). z +ℤ t.total) h.1 ∙ ap (λ (z : ℤ). total vs +ℤ z) l.1 ∙ sym (total-append vs ws),
    )
    takes function.Count vs ws h l = absurd h
    takes function.Min vs ws h l = absurd h
    takes function.Max vs ws h l = absurd h

pub least_merge : (o p q : Option Value) → q ≡ better_of lesser o p → TakesAll (state.Least o) (state.Least p) (state.Least q)
least_merge o p q is = takes_all_of (state.Least o) (state.Least p) (state.Least q) takes (λ a b h l. absurd h)
  where
    takes : TakesTaken (state.Least o) (state.Least p) (state.Least q)
    takes function.Min vs ws h l =
        is ∙ ap (λ (x : Option Value). better_of lesser x p) h ∙ ap (better_of lesser (best lesser vs)) l ∙ sym (least-append vs ws)
    takes function.Count vs ws h l = absurd h
    takes function.Sum vs ws h l = absurd h
    takes function.Max vs ws h l = absurd h

pub greatest_merge : (o p q : Option Value) → q ≡ better_of greater o p → TakesAll (state.Greatest o) (state.Greatest p) (state.Greatest q)
greatest_merge o p q is = takes_all_of (state.Greatest o) (state.Greatest p) (state.Greatest q) takes (λ a b h l. absurd h)
  where
    takes : TakesTaken (state.Greatest o) (state.Greatest p) (state.Greatest q)
    takes function.Max vs ws h l =
        is ∙ ap (λ (x : Option Value). better_of greater x p) h ∙ ap (better_of greater (best greater vs)) l ∙ sym (greatest-append vs ws)
    takes function.Count vs ws h l = absurd h
    takes function.Sum vs ws h l = absurd h
    takes function.Min vs ws h l = absurd h

-- for the code, from which state each is
pub merged_by : (old more new : AggregateState) (result : Result Bool AllocError) (a b c : AggregateState) (d : Bool) → old ≡ a → more ≡ b → new ≡ c → result ≡ Ok d → (IsTrue d → TakesAll a b c)
    → IfOk result (λ done. IsTrue done → TakesAll old more new)
merged_by old more new result a b c d first second now gives takes = rw (first, second, now, gives) takes

-- ---- the states of several aggregates, one at a time

module _ (old more : List AggregateState) where
  -- those before a place have taken what the others there have taken
  abbrev pub TakesBefore : List AggregateState → ℕ → Type 0
  TakesBefore now at = (all : List Aggregate) (rows next : List Row) → AreStatesOf all rows old → AreStatesOf all next more → (k : ℕ) (a : Aggregate) (s : AggregateState)
      → slice_get all k ≡ Some a → slice_get now k ≡ Some s → (k < at → IsStateOf a (rows ++ next) s) × (at ≤ k → IsStateOf a rows s)

  pub none_before : TakesBefore old 0
  none_before all rows next h l k a s here there = (λ never. absurd (omega arith), λ _. h.each k a s here there)

  pub one_before : (now : List AggregateState) (at : ℕ) (was other new : AggregateState) → TakesBefore now at → slice_get now at ≡ Some was → slice_get more at ≡ Some other
      → TakesAll was other new → TakesBefore (set now at new) (at + 1)
  one_before now at was other new before there others step all rows next h l k b s found held =
      let within = slice_get_within now at was there in
      let is = get_or_from_slice_get _ k s s held in
      elim (cases_eq k at) [
        | inl same ↦
            let one : slice_get all at ≡ Some b = sym (ap (slice_get all) same) ∙ found in
            let made : s ≡ new = sym is ∙ ap (λ i. get_or (set now at new) i s) same ∙ get_or-set_same now at new s within in
            (λ _. subst (λ (t : AggregateState). IsStateOf b (rows ++ next) t) (sym made) (step b rows next ((before all rows next h l at b was one there).1 (omega arith)) (l.each at b other one others)), λ never. absurd (omega arith))
        | inr apart ↦
            let inside : k < length now = omega (arith, slice_get_within _ k s held, length-set now at new) in
            let kept = before all rows next h l k b s found (slice_get-get_or now k s inside ∙ ap (λ x. Some x) (sym (get_or-set_other now at k new s apart) ∙ is)) in
            (λ less. kept.0 (omega arith), λ past. kept.1 (omega arith))
      ]

  pub all_before : (now : List AggregateState) (at : ℕ) → length now ≡ length old → length old ≤ at → TakesBefore now at → (all : List Aggregate) (rows next : List Row) → AreStatesOf all rows old → AreStatesOf all next more → AreStatesOf all (rows ++ next) now
  all_before now at same done before all rows next h l = record {
    long = same ∙ h.long;
    each = λ k a s here there. (before all rows next h l k a s here there).0 (omega (arith, slice_get_within all k a here, h.long));
  }
