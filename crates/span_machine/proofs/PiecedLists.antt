use Rattle.std.proofs.Common.{◌≡◌, Bool, true, false, cond, List, [], ◌∷◌, Some, refl, ap}
use Rattle.std.specs.Prelude.{map, find, option_map}
use Rattle.span_machine.specs.Machine.{without_first}

-- finding and changing what is inside the items of a list
module _ {A B : Type 0} (f : A → B) (test : B → Bool) where
  pub find-map : (xs : List A) → find test (map f xs) ≡ option_map f (find (λ x. test (f x)) xs)
  find-map [] = refl
  find-map (x ∷ xs) = elim (test (f x)) as (λ b. cond b (Some (f x)) (find test (map f xs)) ≡ option_map f (cond b (Some x) (find (λ y. test (f y)) xs))) [
    | true ↦ refl
    | false ↦ find-map xs
  ]

  pub without_first-map : (xs : List A) → without_first test (map f xs) ≡ map f (without_first (λ x. test (f x)) xs)
  without_first-map [] = refl
  without_first-map (x ∷ xs) = elim (test (f x)) as (λ b. cond b (map f xs) (f x ∷ without_first test (map f xs)) ≡ map f (cond b xs (x ∷ without_first (λ y. test (f y)) xs))) [
    | true ↦ refl
    | false ↦ ap (λ l. f x ∷ l) (without_first-map xs)
  ]
