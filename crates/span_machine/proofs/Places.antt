use Rattle.std.proofs.Common.{◌≡◌, ℕ, ◌<◌, ◌+◌, zero, suc, Bool, true, false, cond, List, [], ◌∷◌, Some, None, refl, ap, sym, ◌∙◌, subst, arith, get_or}
use Rattle.std.specs.Prelude.{slice_get, slice_set, find, position, count_by}
use Rattle.std.proofs.lemmas.Option.{get_or_from_slice_get, slice_get_within}
use Rattle.std.proofs.lemmas.List.Sums.{sum_by-set}
use Rattle.std.proofs.lemmas.List.Quantifiers.{position-Some}
use Rattle.std.specs.List.{position_from}
use Rattle.std.proofs.lemmas.Iterator.Adapters.{position_from-zero}
use Rattle.span_machine.specs.Place.{IsPlace}

module _ {A : Type 0} (test : A → Bool) where
  at_place : (xs : List A) (i : ℕ) (x : A) → slice_get xs i ≡ Some x → test x ≡ true → ((k : ℕ) → k < i → test (get_or xs k x) ≡ false) → IsPlace test xs i x
  at_place [] i x e passes before = cc
  at_place (y ∷ ys) zero x e passes before =
      let same : y ≡ x = cc in
      let first : test y ≡ true = subst (λ z. test z ≡ true) (sym same) passes in
      record {
        within = omega arith;
        here = e;
        found = rw first e;
        changed = λ change. rw first (ap (λ z. change z ∷ ys) same);
        without = rw first refl;
      }
  at_place (y ∷ ys) (suc i) x e passes before =
      let later : test y ≡ false = before 0 (omega arith) in
      let rest = at_place ys i x e passes (λ k below. before (suc k) (omega arith)) in
      record {
        within = let w = rest.within in omega arith;
        here = e;
        found = rw later rest.found;
        changed = λ change. rw later (ap (λ l. y ∷ l) (rest.changed change));
        without = rw later (ap (λ l. y ∷ l) rest.without);
      }

  -- by the place that `position` gives
  pub place_by_position : (xs : List A) (i : ℕ) (x : A) → position test xs ≡ Some i → slice_get xs i ≡ Some x → IsPlace test xs i x
  place_by_position xs i x e here =
      let says = position-Some test xs i x e in
      at_place xs i x here (subst (λ z. test z ≡ true) (get_or_from_slice_get xs i x x here) says.1) says.2

  none_from : (i : ℕ) (xs : List A) → position_from test i xs ≡ None → find test xs ≡ None
  none_from i [] = λ e. refl
  none_from i (x ∷ xs) = elim (test x) as (λ b. cond b (Some i) (position_from test (i + 1) xs) ≡ None → cond b (Some x) (find test xs) ≡ None) [ true ↦ λ e. cc | false ↦ λ e. none_from (i + 1) xs e ]

  pub none_by_position : (xs : List A) → position test xs ≡ None → find test xs ≡ None
  none_by_position xs e = none_from 0 xs (sym (position_from-zero test xs) ∙ e)

  -- how many pass after a change at a place
  pub count_by-set : (xs : List A) (i : ℕ) (x v : A) → slice_get xs i ≡ Some x → count_by test (slice_set xs i v) + cond (test x) 1 0 ≡ count_by test xs + cond (test v) 1 0
  count_by-set xs i x v e = subst (λ z. count_by test (slice_set xs i v) + cond (test z) 1 0 ≡ count_by test xs + cond (test v) 1 0) (get_or_from_slice_get xs i x x e) (sum_by-set (λ z. cond (test z) 1 0) xs i v x (slice_get_within xs i x e))
