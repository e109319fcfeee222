-- A value put at a place of the last row.
use Rattle.std.proofs.Common.{◌≡◌, ◌∙◌, ◌≤◌, ◌<◌, ◌+◌, ◌-◌, ◌++◌, ◌∷◌, [], ℕ, zero, suc, List, take, drop, length, length-append, length-take, length-drop, set, ap, sym, subst, refl, arith}
use Rattle.span_value.proofs.Lists.{cons_inj}
use Rattle.span_value.specs.declared.value.Value.{Value}
use Rattle.span_query.specs.Rows.{Row}
use Rattle.span_rows.specs.Cuts.{cut_at, AreEnds}
use Rattle.span_rows.specs.LastRows.{IsPutInLast, IsPlaceInLast, IsNoPlaceInLast}
use Rattle.span_rows.proofs.Cutting.{ends_within}

module _ {A : Type 0} where
  no_last : (rows : List (List A)) (row : List A) → [] ≡ rows ++ row ∷ [] → ⊥
  no_last rows row e = omega (arith, ap (length {A = List A}) e, length-append rows (row ∷ []))

  drop_set : (all : List A) (at i j : ℕ) (v : A) → i ≡ at + j → drop at (set all i v) ≡ set (drop at all) j v
  drop_set [] zero i j v e = refl
  drop_set [] (suc at) i j v e = refl
  drop_set (x ∷ xs) zero i j v e = let same : i ≡ j = omega (arith, e) in ap (λ (k : ℕ). set (x ∷ xs) k v) same
  drop_set (x ∷ xs) (suc at) zero j v e = absurd (omega (arith, e))
  drop_set (x ∷ xs) (suc at) (suc i) j v e = drop_set xs at i j v (omega (arith, e))

  take_set : (xs : List A) (k j : ℕ) (v : A) → k ≤ j → take k (set xs j v) ≡ take k xs
  take_set [] zero j v past = refl
  take_set [] (suc k) j v past = refl
  take_set (x ∷ xs) zero j v past = refl
  take_set (x ∷ xs) (suc k) zero v past = absurd (omega arith)
  take_set (x ∷ xs) (suc k) (suc j) v past = ap (λ (l : List A). x ∷ l) (take_set xs k j v (omega arith))

  take_set_in : (xs : List A) (k p : ℕ) (v : A) → p < k → take k (set xs p v) ≡ set (take k xs) p v
  take_set_in [] zero p v less = refl
  take_set_in [] (suc k) p v less = refl
  take_set_in (x ∷ xs) zero p v less = absurd (omega arith)
  take_set_in (x ∷ xs) (suc k) zero v less = refl
  take_set_in (x ∷ xs) (suc k) (suc p) v less = ap (λ (l : List A). x ∷ l) (take_set_in xs k p v (omega arith))

  kept_before : (at e i : ℕ) (all : List A) (v : A) → at ≤ e → e ≤ i → take (e - at) (drop at (set all i v)) ≡ take (e - at) (drop at all)
  kept_before at e i all v first less =
      ap (take (e - at)) (drop_set all at i (i - at) v (omega arith)) ∙ take_set (drop at all) (e - at) (i - at) v (omega arith)

  set_last : (at e i p : ℕ) (all : List A) (v : A) → i ≡ at + p → p < e - at → take (e - at) (drop at (set all i v)) ≡ set (take (e - at) (drop at all)) p v
  set_last at e i p all v place less = ap (take (e - at)) (drop_set all at i p v place) ∙ take_set_in (drop at all) (e - at) p v less

  -- the last row is after the first places
  last_within : (at : ℕ) (ends : List ℕ) (all : List A) (rows : List (List A)) (row : List A) → AreEnds at ends (length all) → cut_at at ends all ≡ rows ++ row ∷ [] → at + length row ≤ length all
  last_within at [] all rows row are is = absurd (no_last rows row is)
  last_within at (e ∷ ends) all [] row are is =
      let same = cons_inj (take (e - at) (drop at all)) row (cut_at e ends all) [] is in
      omega (arith, are.0, ends_within e ends (length all) are.1, ap (length {A = A}) same.0, length-take (e - at) (drop at all), length-drop at all)
  last_within at (e ∷ ends) all (r ∷ rows) row are is =
      let same = cons_inj (take (e - at) (drop at all)) r (cut_at e ends all) (rows ++ row ∷ []) is in
      omega (arith, are.0, last_within e ends all rows row are.1 same.1)

  pub last_set : (at : ℕ) (ends : List ℕ) (all : List A) (rows : List (List A)) (row : List A) (i p : ℕ) (v : A) → AreEnds at ends (length all) → cut_at at ends all ≡ rows ++ row ∷ [] → p < length row → i + length row ≡ length all + p
      → cut_at at ends (set all i v) ≡ rows ++ set row p v ∷ []
  last_set at [] all rows row i p v are is less place = absurd (no_last rows row is)
  last_set at (e ∷ []) all [] row i p v are is less place =
      let same = cons_inj (take (e - at) (drop at all)) row [] [] is in
      let wide : length row ≡ e - at = omega (arith, are.0, are.1, ap (length {A = A}) same.0, length-take (e - at) (drop at all), length-drop at all) in
      ap (λ (l : List A). l ∷ []) (set_last at e i p all v (omega (arith, are.0, are.1, wide, place)) (omega (arith, less, wide)) ∙ ap (λ (l : List A). set l p v) same.0)
  last_set at (e ∷ f ∷ ends) all [] row i p v are is less place =
      let same = cons_inj (take (e - at) (drop at all)) row (cut_at e (f ∷ ends) all) [] is in
      absurd (omega (arith, ap (length {A = List A}) same.1))
  last_set at (e ∷ ends) all (r ∷ rows) row i p v are is less place =
      let same = cons_inj (take (e - at) (drop at all)) r (cut_at e ends all) (rows ++ row ∷ []) is in
      let after = last_within e ends all rows row are.1 same.1 in
      ap (λ (l : List A). l ∷ cut_at e ends (set all i v)) (kept_before at e i all v are.0 (omega (arith, after, place)) ∙ same.0)
      ∙ ap (λ (l : List (List A)). r ∷ l) (last_set e ends all rows row i p v are.1 same.1 less place)

pub same_ends : (ends : List ℕ) (values new : List Value) → AreEnds 0 ends (length values) → length new ≡ length values → AreEnds 0 ends (length new)
same_ends ends values new are same = subst (AreEnds 0 ends) (sym same) are

pub put_in_last : (ends : List ℕ) (values new : List Value) (width place at : ℕ) (v : Value) → AreEnds 0 ends (length values) → IsPlaceInLast (length values) width place at → new ≡ set values at v → IsPutInLast width place v (cut_at 0 ends values) (cut_at 0 ends new)
put_in_last ends values new width place at v are here e = record {
  put = λ rows row is wide.
      ap (λ (l : List Value). cut_at 0 ends l) e ∙ last_set 0 ends values rows row at place v are is (omega (arith, here.within, wide)) (omega (arith, here.is, wide));
}

set_none : (row : List Value) (place : ℕ) (v : Value) → length row ≤ place → row ≡ set row place v
set_none [] place v past = refl
set_none (x ∷ row) zero v past = absurd (omega arith)
set_none (x ∷ row) (suc place) v past = ap (λ (l : List Value). x ∷ l) (set_none row place v (omega arith))

pub not_put_in_last : (ends : List ℕ) (values : List Value) (width place : ℕ) (v : Value) → AreEnds 0 ends (length values) → IsNoPlaceInLast (length values) width place → IsPutInLast width place v (cut_at 0 ends values) (cut_at 0 ends values)
not_put_in_last ends values width place v are none = record {
  put = λ rows row is wide.
      let within = last_within 0 ends values rows row are is in
      let past : length row ≤ place = omega (arith, none_past width place (length values) none (omega (arith, within, wide)), wide) in
      is ∙ ap (λ (l : Row). rows ++ l ∷ []) (set_none row place v past);
}
  where
    none_past : (w p n : ℕ) → IsNoPlaceInLast n w p → w ≤ n → w ≤ p
    none_past w p n past some = grind (arith, past.none)
