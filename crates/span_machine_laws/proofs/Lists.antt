use Rattle.std.proofs.Common.{◌≡◌, ℕ, zero, suc, Bool, true, false, cond, List, [], ◌∷◌, ◌++◌, Some, refl, ap, subst, inl, inr, ◌⊎◌}
use Rattle.std.specs.Prelude.{slice_get, slice_set, find, filter}
use Rattle.std.specs.List.{AllByRecursion, list_all}
use Rattle.std.proofs.lemmas.Bool.{and_parts}
use Rattle.span_value.proofs.Lists.{all_found_at}
use Rattle.span_machine.specs.Machine.{changed_first, without_first}

pub slice_get-set : {A : Type 0} (xs : List A) (i j : ℕ) (v x : A) → slice_get (slice_set xs i v) j ≡ Some x → ((j ≡ i) × (x ≡ v)) ⊎ (slice_get xs j ≡ Some x)
slice_get-set [] i j v x h = inr h
slice_get-set (y ∷ ys) zero zero v x h = inl (refl, cc)
slice_get-set (y ∷ ys) zero (suc j) v x h = inr h
slice_get-set (y ∷ ys) (suc i) zero v x h = inr h
slice_get-set (y ∷ ys) (suc i) (suc j) v x h = elim (slice_get-set ys i j v x h) [ inl e ↦ inl (ap suc e.0, e.1) | inr g ↦ inr g ]

pub set_here : {A : Type 0} (xs : List A) (i : ℕ) (v x : A) → slice_get (slice_set xs i v) i ≡ Some x → x ≡ v
set_here [] i v x h = cc
set_here (y ∷ ys) zero v x h = cc
set_here (y ∷ ys) (suc i) v x h = set_here ys i v x h

-- ---- what is in a list

-- x is in the list
abbrev pub IsIn : {A : Type 0} → A → List A → Type 0
IsIn x xs = (i : ℕ) × (slice_get xs i ≡ Some x)

-- what a search finds is in the list
pub found_in : {A : Type 0} (test : A → Bool) (xs : List A) (x : A) → find test xs ≡ Some x → IsIn x xs
found_in test [] x = λ e. absurd (cc)
found_in test (y ∷ ys) x = elim (test y) as (λ b. cond b (Some y) (find test ys) ≡ Some x → IsIn x (y ∷ ys)) [
  | true ↦ λ e. (0, e)
  | false ↦ λ e. let rest = found_in test ys x e in (suc rest.0, rest.1)
]

-- what a search finds passes
pub found_passes : {A : Type 0} (test : A → Bool) (xs : List A) (x : A) → find test xs ≡ Some x → test x ≡ true
found_passes test [] x = λ e. absurd (cc)
found_passes test (y ∷ ys) x = elim (test y) as (λ b. test y ≡ b → cond b (Some y) (find test ys) ≡ Some x → test x ≡ true) [
  | true ↦ λ is e. let same : y ≡ x = cc in subst (λ z. test z ≡ true) same is
  | false ↦ λ is e. found_passes test ys x e
] refl

pub kept_after : {A : Type 0} (xs ys : List A) (x y : A) → (IsIn x xs → IsIn x ys) → (i : ℕ) → slice_get (y ∷ xs) i ≡ Some x → IsIn x (y ∷ ys)
kept_after xs ys x y back zero e = (0, e)
kept_after xs ys x y back (suc i) e = let rest = back (i, e) in (suc rest.0, rest.1)

-- what a filter keeps is in the list
pub kept_in : {A : Type 0} (test : A → Bool) (xs : List A) (x : A) → IsIn x (filter test xs) → IsIn x xs
kept_in test [] x = λ is. is
kept_in test (y ∷ ys) x = elim (test y) as (λ b. IsIn x (cond b (y ∷ filter test ys) (filter test ys)) → IsIn x (y ∷ ys)) [
  | true ↦ λ is. kept_after (filter test ys) ys x y (kept_in test ys x) is.0 is.1
  | false ↦ λ is. let rest = kept_in test ys x is in (suc rest.0, rest.1)
]

-- what is changed is in the list
pub changed_in : {A : Type 0} (test : A → Bool) (change : A → A) (xs : List A) (x : A) → find test xs ≡ Some x → IsIn (change x) (changed_first test change xs)
changed_in test change [] x = λ e. absurd (cc)
changed_in test change (y ∷ ys) x = elim (test y) as (λ b. cond b (Some y) (find test ys) ≡ Some x → IsIn (change x) (cond b (change y ∷ ys) (y ∷ changed_first test change ys))) [
  | true ↦ λ e. let same : y ≡ x = cc in (0, ap (λ z. Some (change z)) same)
  | false ↦ λ e. let rest = changed_in test change ys x e in (suc rest.0, rest.1)
]

-- ---- what holds of each

-- what holds at each place holds of each
pub all_places : {A : Type 0} (P : A → Type 0) (xs : List A) → ((x : A) → IsIn x xs → P x) → AllByRecursion P xs
all_places P [] each = tt
all_places P (x ∷ xs) each = (each x (0, refl), all_places P xs (λ y is. each y (suc is.0, is.1)))

pub all_both : {A : Type 0} (P Q R : A → Type 0) → ((x : A) → P x → Q x → R x) → (xs : List A) → AllByRecursion P xs → AllByRecursion Q xs → AllByRecursion R xs
all_both P Q R make [] ps qs = tt
all_both P Q R make (x ∷ xs) ps qs = (make x ps.0 qs.0, all_both P Q R make xs ps.1 qs.1)

module _ {A : Type 0} (P : A → Type 0) where
  pub all_changed : (test : A → Bool) (change : A → A) → ((x : A) → P x → P (change x)) → (xs : List A) → AllByRecursion P xs → AllByRecursion P (changed_first test change xs)
  all_changed test change kept [] all = tt
  all_changed test change kept (x ∷ xs) all = elim (test x) as (λ b. AllByRecursion P (cond b (change x ∷ xs) (x ∷ changed_first test change xs))) [
    | true ↦ (kept x all.0, all.1)
    | false ↦ (all.0, all_changed test change kept xs all.1)
  ]

  pub all_without : (test : A → Bool) (xs : List A) → AllByRecursion P xs → AllByRecursion P (without_first test xs)
  all_without test [] all = tt
  all_without test (x ∷ xs) all = elim (test x) as (λ b. AllByRecursion P (cond b xs (x ∷ without_first test xs))) [
    | true ↦ all.1
    | false ↦ (all.0, all_without test xs all.1)
  ]

  pub all_found : (test : A → Bool) (xs : List A) (x : A) → find test xs ≡ Some x → AllByRecursion P xs → P x
  all_found test [] x = λ e all. cc
  all_found test (y ∷ ys) x = elim (test y) as (λ b. cond b (Some y) (find test ys) ≡ Some x → P y × AllByRecursion P ys → P x) [
    | true ↦ λ e all. let same : y ≡ x = cc in subst P same all.0
    | false ↦ λ e all. all_found test ys x e all.1
  ]

  pub all_in : (xs : List A) (x : A) → IsIn x xs → AllByRecursion P xs → P x
  all_in xs x is all = all_found_at P xs is.0 x is.1 all

  pub all_true : (p : A → Bool) → ((x : A) → p x ≡ true → P x) → (xs : List A) → list_all p xs ≡ true → AllByRecursion P xs
  all_true p means [] e = tt
  all_true p means (x ∷ xs) e = (means x (and_parts (p x) (list_all p xs) e).0, all_true p means xs (and_parts (p x) (list_all p xs) e).1)

  -- the first that passes is changed, and no other
  pub all_changed_found : (test : A → Bool) (change : A → A) (xs : List A) (x : A) → find test xs ≡ Some x → P (change x) → AllByRecursion P xs → AllByRecursion P (changed_first test change xs)
  all_changed_found test change [] x = λ e p all. tt
  all_changed_found test change (y ∷ ys) x = elim (test y) as (λ b. cond b (Some y) (find test ys) ≡ Some x → P (change x) → P y × AllByRecursion P ys → AllByRecursion P (cond b (change y ∷ ys) (y ∷ changed_first test change ys))) [
    | true ↦ λ e p all. let same : x ≡ y = cc in (subst (λ z. P (change z)) same p, all.1)
    | false ↦ λ e p all. (all.0, all_changed_found test change ys x e p all.1)
  ]

-- ---- the first that passes, and filters

pub one_or_other : {A : Type 0} (P : A → Type 0) (b : Bool) (x y : A) → P x → P y → P (cond b x y)
one_or_other P true x y p q = p
one_or_other P false x y p q = q

-- the first that passes, with what is before and after it
pub record Split {A : Type 0} (test : A → Bool) (xs : List A) (x : A) : Type 0 where
  pub front : List A
  pub back : List A
  pub whole : xs ≡ front ++ x ∷ back
  pub changed : (change : A → A) → changed_first test change xs ≡ front ++ change x ∷ back
  pub without : without_first test xs ≡ front ++ back

pub split_found : {A : Type 0} (test : A → Bool) (xs : List A) (x : A) → find test xs ≡ Some x → Split test xs x
split_found test [] x = λ e. absurd (cc)
split_found test (y ∷ ys) x = elim (test y) as (λ b. test y ≡ b → cond b (Some y) (find test ys) ≡ Some x → Split test (y ∷ ys) x) [
  | true ↦ λ is e. let same : y ≡ x = cc in record { front = []; back = ys; whole = ap (λ z. z ∷ ys) same; changed = λ change. rw is (ap (λ z. change z ∷ ys) same); without = rw is refl }
  | false ↦ λ is e. let rest = split_found test ys x e in record { front = y ∷ rest.front; back = rest.back; whole = ap (λ l. y ∷ l) rest.whole; changed = λ change. rw is (ap (λ l. y ∷ l) (rest.changed change)); without = rw is (ap (λ l. y ∷ l) rest.without) }
] refl

pub not_nil : {A : Type 0} (xs ys : List A) (x : A) → xs ++ x ∷ ys ≡ [] → ⊥
not_nil [] ys x = λ e. cc
not_nil (z ∷ zs) ys x = λ e. cc

pub both_nil : {A : Type 0} (xs ys : List A) → xs ++ ys ≡ [] → (xs ≡ []) × (ys ≡ [])
both_nil [] ys = λ e. (refl, e)
both_nil (z ∷ zs) ys = λ e. absurd (cc)
