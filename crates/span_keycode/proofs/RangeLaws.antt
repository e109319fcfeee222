-- Which keys a range holds.
use Rattle.std.proofs.Common.{◌≡◌, ◌≢◌, ◌↔◌, ℕ, ◌+◌, ◌<◌, ◌≤◌, List, [], ◌∷◌, ◌++◌, refl, sym, ◌∙◌, ap, subst, arith, inl, inr, Bool, true, false}
use Rattle.std.specs.Ordering.{ordering_then}
use Rattle.std.specs.declared.cmp.Ordering.{Ordering}
use Rattle.std.specs.declared.cmp.Ordering.TheVariants.{Less, Equal, Greater}
use Rattle.std.proofs.lemmas.Bool.{cases_order}
use Rattle.std.proofs.lemmas.Map.Lookups.{exact_bytes}
use Rattle.std.proofs.lemmas.List.{append-nil}
use Rattle.span_keycode.specs.declared.range.RangeComparison.{RangeComparison}
use Rattle.span_keycode.specs.declared.range.RangeComparison.TheVariants.{Equal as OpEqual, Less as OpLess, AtMost, Greater as OpGreater, AtLeast}
use Rattle.span_keycode.specs.Order.{byte_order, Decides}
use Rattle.span_keycode.specs.Coding.{AreBytes, apply_direction}
use Rattle.span_keycode.specs.Ranges.{in_front, next_after, low_of, high_of, holds, IsWithin}
use Rattle.span_keycode.proofs.Order.{decided}
use Rattle.span_keycode.proofs.Bounds.{begun_before, less_before, greater_after, front_same, front_less, front_greater, above_nothing, not_less, grown}

-- the first byte of a column's coding
abbrev pub mark : Bool → Bool → ℕ
mark false true = 0
mark false false = 1
mark true true = 255
mark true false = 254

-- a key t ∷ (k ++ more) compared with a bound that is made of t ∷ x; r is how the values compare
pub record IsAtBound (t : ℕ) (d null : Bool) (k x more : List ℕ) (r : Ordering) : Type 0 where
  pub small : t < 255
  pub decides : Decides k x (apply_direction d r)
  pub bytes : AreBytes k
  pub rest : List ℕ
  pub marked : k ≡ mark d null ∷ rest
  pub first : null ≡ true → r ≡ Less

module _ {t : ℕ} {d null : Bool} {k x more : List ℕ} {r : Ordering} (s : IsAtBound t d null k x more r) where
  at_code : byte_order (t ∷ (k ++ more)) (t ∷ x) ≡ ordering_then (apply_direction d r) (byte_order more [])
  at_code = front_same t t (k ++ more) x refl ∙ ap (byte_order (k ++ more)) (sym (append-nil x)) ∙ s.decides.at more []

  pub code_less : apply_direction d r ≡ Less → byte_order (t ∷ (k ++ more)) (t ∷ x) ≡ Less
  code_less e = at_code ∙ ap (λ (o : Ordering). ordering_then o (byte_order more [])) e

  pub code_equal : apply_direction d r ≡ Equal → byte_order (t ∷ (k ++ more)) (t ∷ x) ≢ Less
  code_equal e less = above_nothing more (sym (at_code ∙ ap (λ (o : Ordering). ordering_then o (byte_order more [])) e) ∙ less)

  pub code_greater : apply_direction d r ≡ Greater → byte_order (t ∷ (k ++ more)) (t ∷ x) ≢ Less
  code_greater e less = not_less _ (at_code ∙ ap (λ (o : Ordering). ordering_then o (byte_order more [])) e) less

  pub top : byte_order (t ∷ (k ++ more)) ((t + 1) ∷ []) ≡ Less
  top = front_less t (t + 1) (k ++ more) [] (omega arith)

  before_next : (next_after x ≢ [] → byte_order (k ++ more) (next_after x) ≡ Less) → (n : List ℕ) → next_after x ≡ n → byte_order (t ∷ (k ++ more)) (in_front t (next_after x)) ≡ Less
  before_next go [] e = ap (byte_order (t ∷ (k ++ more))) (ap (in_front t) e ∙ grown t s.small) ∙ top
  before_next go (c ∷ cs) e =
      ap (λ (n : List ℕ). byte_order (t ∷ (k ++ more)) (in_front t n)) e ∙ front_same t t (k ++ more) (c ∷ cs) refl ∙ ap (byte_order (k ++ more)) (sym e) ∙ go (λ none. let f : c ∷ cs ≡ [] = sym e ∙ none in cc)

  pub after_less : apply_direction d r ≡ Less → byte_order (t ∷ (k ++ more)) (next_after (t ∷ x)) ≡ Less
  after_less e = let P : Ordering → Type 0 = λ o. Decides k x o in before_next (less_before k x more (subst P e s.decides)) (next_after x) refl

  pub after_equal : apply_direction d r ≡ Equal → byte_order (t ∷ (k ++ more)) (next_after (t ∷ x)) ≡ Less
  after_equal e =
      let same : x ≡ k = sym (exact_bytes k x (decided k x (apply_direction d r) s.decides ∙ e)) in
      let P : List ℕ → Type 0 = λ y. byte_order (y ++ more) (next_after x) ≡ Less in
      before_next (λ some. subst P same (begun_before x more some)) (next_after x) refl

  pub after_greater : apply_direction d r ≡ Greater → byte_order (t ∷ (k ++ more)) (next_after (t ∷ x)) ≢ Less
  after_greater e =
      let P : Ordering → Type 0 = λ o. Decides k x o in
      let later = greater_after k x more s.bytes (subst P e s.decides) in
      by_next later.0 later.1 (next_after x) refl
    where
      by_next : next_after x ≢ [] → byte_order (k ++ more) (next_after x) ≢ Less → (n : List ℕ) → next_after x ≡ n → byte_order (t ∷ (k ++ more)) (in_front t (next_after x)) ≢ Less
      by_next some not_below [] e2 = absurd (some e2)
      by_next some not_below (c ∷ cs) e2 = λ less. not_below
          (ap (byte_order (k ++ more)) e2 ∙ sym (front_same t t (k ++ more) (c ∷ cs) refl) ∙ sym (ap (λ (n : List ℕ). byte_order (t ∷ (k ++ more)) (in_front t n)) e2) ∙ less)

  at_mark : (m : ℕ) → byte_order (t ∷ (k ++ more)) (t ∷ m ∷ []) ≡ byte_order (mark d null ∷ (s.rest ++ more)) (m ∷ [])
  at_mark m = front_same t t (k ++ more) (m ∷ []) refl ∙ ap (λ (y : List ℕ). byte_order (y ++ more) (m ∷ [])) s.marked

  pub mark_less : (m : ℕ) → mark d null < m → byte_order (t ∷ (k ++ more)) (t ∷ m ∷ []) ≡ Less
  mark_less m h = at_mark m ∙ front_less (mark d null) m (s.rest ++ more) [] h

  pub mark_more : (m : ℕ) → m ≤ mark d null → byte_order (t ∷ (k ++ more)) (t ∷ m ∷ []) ≢ Less
  mark_more m h less = elim (cases_order (mark d null) m) [
    | inl same ↦ above_nothing (s.rest ++ more) (sym (front_same (mark d null) m (s.rest ++ more) [] same) ∙ sym (at_mark m) ∙ less)
    | inr (inl l) ↦ omega arith
    | inr (inr g) ↦ not_less _ (front_greater (mark d null) m (s.rest ++ more) [] g) (sym (at_mark m) ∙ less)
  ]

-- NULL compares so with nothing
abbrev pub verdict : Bool → RangeComparison → Ordering → Bool
verdict true c r = false
verdict false c r = holds c r

no_truth : {A : Type 0} → false ≡ true → A
no_truth e = absurd (let f : false ≡ true = e in cc)

wrong_first : {A : Type 0} (r : Ordering) → r ≢ Less → (true ≡ true → r ≡ Less) → A
wrong_first r h f = absurd (h (f refl))

-- a key is in the range where its value compares so
pub within_where : (c : RangeComparison) (t : ℕ) (d null : Bool) (k x more : List ℕ) (r : Ordering) → IsAtBound t d null k x more r
    → IsWithin (low_of t d c (t ∷ x)) (high_of t d c (t ∷ x)) (t ∷ (k ++ more)) ↔ (verdict null c r ≡ true)
within_where OpEqual t false true k x more Less s = ((λ w. absurd (w.0 (code_less s refl))), (λ e. no_truth e))
within_where OpEqual t false true k x more Equal s = wrong_first Equal (λ e. let f : Equal ≡ Less = e in cc) s.first
within_where OpEqual t false true k x more Greater s = wrong_first Greater (λ e. let f : Greater ≡ Less = e in cc) s.first
within_where OpEqual t false false k x more Less s = ((λ w. absurd (w.0 (code_less s refl))), (λ e. no_truth e))
within_where OpEqual t false false k x more Equal s = ((λ w. refl), (λ e. (code_equal s refl, after_equal s refl)))
within_where OpEqual t false false k x more Greater s = ((λ w. absurd ((after_greater s refl) w.1)), (λ e. no_truth e))
within_where OpEqual t true true k x more Less s = ((λ w. absurd ((after_greater s refl) w.1)), (λ e. no_truth e))
within_where OpEqual t true true k x more Equal s = wrong_first Equal (λ e. let f : Equal ≡ Less = e in cc) s.first
within_where OpEqual t true true k x more Greater s = wrong_first Greater (λ e. let f : Greater ≡ Less = e in cc) s.first
within_where OpEqual t true false k x more Less s = ((λ w. absurd ((after_greater s refl) w.1)), (λ e. no_truth e))
within_where OpEqual t true false k x more Equal s = ((λ w. refl), (λ e. (code_equal s refl, after_equal s refl)))
within_where OpEqual t true false k x more Greater s = ((λ w. absurd (w.0 (code_less s refl))), (λ e. no_truth e))
within_where OpLess t false true k x more Less s = ((λ w. absurd (w.0 (mark_less s 1 (omega arith)))), (λ e. no_truth e))
within_where OpLess t false true k x more Equal s = wrong_first Equal (λ e. let f : Equal ≡ Less = e in cc) s.first
within_where OpLess t false true k x more Greater s = wrong_first Greater (λ e. let f : Greater ≡ Less = e in cc) s.first
within_where OpLess t false false k x more Less s = ((λ w. refl), (λ e. (mark_more s 1 (omega arith), code_less s refl)))
within_where OpLess t false false k x more Equal s = ((λ w. absurd ((code_equal s refl) w.1)), (λ e. no_truth e))
within_where OpLess t false false k x more Greater s = ((λ w. absurd ((code_greater s refl) w.1)), (λ e. no_truth e))
within_where OpLess t true true k x more Less s = ((λ w. absurd ((mark_more s 255 (omega arith)) w.1)), (λ e. no_truth e))
within_where OpLess t true true k x more Equal s = wrong_first Equal (λ e. let f : Equal ≡ Less = e in cc) s.first
within_where OpLess t true true k x more Greater s = wrong_first Greater (λ e. let f : Greater ≡ Less = e in cc) s.first
within_where OpLess t true false k x more Less s = ((λ w. refl), (λ e. (after_greater s refl, mark_less s 255 (omega arith))))
within_where OpLess t true false k x more Equal s = ((λ w. absurd (w.0 (after_equal s refl))), (λ e. no_truth e))
within_where OpLess t true false k x more Greater s = ((λ w. absurd (w.0 (after_less s refl))), (λ e. no_truth e))
within_where AtMost t false true k x more Less s = ((λ w. absurd (w.0 (mark_less s 1 (omega arith)))), (λ e. no_truth e))
within_where AtMost t false true k x more Equal s = wrong_first Equal (λ e. let f : Equal ≡ Less = e in cc) s.first
within_where AtMost t false true k x more Greater s = wrong_first Greater (λ e. let f : Greater ≡ Less = e in cc) s.first
within_where AtMost t false false k x more Less s = ((λ w. refl), (λ e. (mark_more s 1 (omega arith), after_less s refl)))
within_where AtMost t false false k x more Equal s = ((λ w. refl), (λ e. (mark_more s 1 (omega arith), after_equal s refl)))
within_where AtMost t false false k x more Greater s = ((λ w. absurd ((after_greater s refl) w.1)), (λ e. no_truth e))
within_where AtMost t true true k x more Less s = ((λ w. absurd ((mark_more s 255 (omega arith)) w.1)), (λ e. no_truth e))
within_where AtMost t true true k x more Equal s = wrong_first Equal (λ e. let f : Equal ≡ Less = e in cc) s.first
within_where AtMost t true true k x more Greater s = wrong_first Greater (λ e. let f : Greater ≡ Less = e in cc) s.first
within_where AtMost t true false k x more Less s = ((λ w. refl), (λ e. (code_greater s refl, mark_less s 255 (omega arith))))
within_where AtMost t true false k x more Equal s = ((λ w. refl), (λ e. (code_equal s refl, mark_less s 255 (omega arith))))
within_where AtMost t true false k x more Greater s = ((λ w. absurd (w.0 (code_less s refl))), (λ e. no_truth e))
within_where OpGreater t false true k x more Less s = ((λ w. absurd (w.0 (after_less s refl))), (λ e. no_truth e))
within_where OpGreater t false true k x more Equal s = wrong_first Equal (λ e. let f : Equal ≡ Less = e in cc) s.first
within_where OpGreater t false true k x more Greater s = wrong_first Greater (λ e. let f : Greater ≡ Less = e in cc) s.first
within_where OpGreater t false false k x more Less s = ((λ w. absurd (w.0 (after_less s refl))), (λ e. no_truth e))
within_where OpGreater t false false k x more Equal s = ((λ w. absurd (w.0 (after_equal s refl))), (λ e. no_truth e))
within_where OpGreater t false false k x more Greater s = ((λ w. refl), (λ e. (after_greater s refl, top s)))
within_where OpGreater t true true k x more Less s = ((λ w. absurd ((code_greater s refl) w.1)), (λ e. no_truth e))
within_where OpGreater t true true k x more Equal s = wrong_first Equal (λ e. let f : Equal ≡ Less = e in cc) s.first
within_where OpGreater t true true k x more Greater s = wrong_first Greater (λ e. let f : Greater ≡ Less = e in cc) s.first
within_where OpGreater t true false k x more Less s = ((λ w. absurd ((code_greater s refl) w.1)), (λ e. no_truth e))
within_where OpGreater t true false k x more Equal s = ((λ w. absurd ((code_equal s refl) w.1)), (λ e. no_truth e))
within_where OpGreater t true false k x more Greater s = ((λ w. refl), (λ e. (mark_more s 254 (omega arith), code_less s refl)))
within_where AtLeast t false true k x more Less s = ((λ w. absurd (w.0 (code_less s refl))), (λ e. no_truth e))
within_where AtLeast t false true k x more Equal s = wrong_first Equal (λ e. let f : Equal ≡ Less = e in cc) s.first
within_where AtLeast t false true k x more Greater s = wrong_first Greater (λ e. let f : Greater ≡ Less = e in cc) s.first
within_where AtLeast t false false k x more Less s = ((λ w. absurd (w.0 (code_less s refl))), (λ e. no_truth e))
within_where AtLeast t false false k x more Equal s = ((λ w. refl), (λ e. (code_equal s refl, top s)))
within_where AtLeast t false false k x more Greater s = ((λ w. refl), (λ e. (code_greater s refl, top s)))
within_where AtLeast t true true k x more Less s = ((λ w. absurd ((after_greater s refl) w.1)), (λ e. no_truth e))
within_where AtLeast t true true k x more Equal s = wrong_first Equal (λ e. let f : Equal ≡ Less = e in cc) s.first
within_where AtLeast t true true k x more Greater s = wrong_first Greater (λ e. let f : Greater ≡ Less = e in cc) s.first
within_where AtLeast t true false k x more Less s = ((λ w. absurd ((after_greater s refl) w.1)), (λ e. no_truth e))
within_where AtLeast t true false k x more Equal s = ((λ w. refl), (λ e. (mark_more s 254 (omega arith), after_equal s refl)))
within_where AtLeast t true false k x more Greater s = ((λ w. refl), (λ e. (mark_more s 254 (omega arith), after_less s refl)))
