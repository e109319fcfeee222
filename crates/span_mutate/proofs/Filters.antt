-- Filters of lists.
use Rattle.std.proofs.Common.{◌≡◌, ℕ, Bool, true, false, ◌==◌, ◌||◌, cond, List, [], ◌∷◌, Option, Some, refl, sym, ap, ◌∙◌}
use Rattle.std.specs.List.{filter, find, list_any}
use Rattle.std.proofs.lemmas.Bool.{eqb-true}

pub filter_yes : {X : Type 0} (p : X → Bool) (x : X) (xs : List X) → p x ≡ true → filter p (x ∷ xs) ≡ x ∷ filter p xs
filter_yes p x xs h = ap (λ (b : Bool). cond b (x ∷ filter p xs) (filter p xs)) h

pub filter_no : {X : Type 0} (p : X → Bool) (x : X) (xs : List X) → p x ≡ false → filter p (x ∷ xs) ≡ filter p xs
filter_no p x xs h = ap (λ (b : Bool). cond b (x ∷ filter p xs) (filter p xs)) h

-- a filter that keeps all that the next one keeps
pub filter_within : {X : Type 0} (p q : X → Bool) → ((x : X) → p x ≡ true → q x ≡ true) → (xs : List X) → filter p (filter q xs) ≡ filter p xs
filter_within p q keeps [] = refl
filter_within {X} p q keeps (x ∷ xs) = cases (p x) (q x) (filter_within p q keeps xs) refl refl
  where
    cases : (a b : Bool) → filter p (filter q xs) ≡ filter p xs → p x ≡ a → q x ≡ b → filter p (filter q (x ∷ xs)) ≡ filter p (x ∷ xs)
    cases true true again e f = ap (filter p) (filter_yes q x xs f) ∙ filter_yes p x (filter q xs) e ∙ ap (λ (l : List X). x ∷ l) again ∙ sym (filter_yes p x xs e)
    cases true false again e f = absurd (let g : true ≡ false = sym (keeps x e) ∙ f in cc)
    cases false true again e f = ap (filter p) (filter_yes q x xs f) ∙ filter_no p x (filter q xs) e ∙ again ∙ sym (filter_no p x xs e)
    cases false false again e f = ap (filter p) (filter_no q x xs f) ∙ again ∙ sym (filter_no p x xs e)

-- what a test finds is found where all that passes it is kept
pub find_kept : {X : Type 0} (test p : X → Bool) → ((x : X) → test x ≡ true → p x ≡ true) → (xs : List X) → find test (filter p xs) ≡ find test xs
find_kept test p keeps [] = refl
find_kept {X} test p keeps (x ∷ xs) = cases (p x) (test x) (find_kept test p keeps xs) refl refl
  where
    cases : (a b : Bool) → find test (filter p xs) ≡ find test xs → p x ≡ a → test x ≡ b → find test (filter p (x ∷ xs)) ≡ find test (x ∷ xs)
    cases true b again e f = ap (find test) (filter_yes p x xs e) ∙ ap (λ (o : Option X). cond (test x) (Some x) o) again
    cases false true again e f = absurd (let g : false ≡ true = sym e ∙ keeps x f in cc)
    cases false false again e f = ap (find test) (filter_no p x xs e) ∙ again ∙ sym (ap (λ (b : Bool). cond b (Some x) (find test xs)) f)

-- a number that is found in a filter passes it
pub found_passes : (p : ℕ → Bool) (n : ℕ) (ns : List ℕ) → list_any (λ (k : ℕ). k == n) (filter p ns) ≡ true → p n ≡ true
found_passes p n [] h = absurd (let g : false ≡ true = h in cc)
found_passes p n (k ∷ ns) h = cases (p k) (k == n) (found_passes p n ns) refl refl
  where
    cases : (a b : Bool) → (list_any (λ (k : ℕ). k == n) (filter p ns) ≡ true → p n ≡ true) → p k ≡ a → (k == n) ≡ b → p n ≡ true
    cases true true again e f = ap p (sym (eqb-true k n f)) ∙ e
    cases true false again e f = again
        (sym (ap (λ (b : Bool). b || list_any (λ (k : ℕ). k == n) (filter p ns)) f) ∙ sym (ap (list_any (λ (k : ℕ). k == n)) (filter_yes p k ns e)) ∙ h)
    cases false b again e f = again (sym (ap (list_any (λ (k : ℕ). k == n)) (filter_no p k ns e)) ∙ h)
