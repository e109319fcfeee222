-- Lists that rise: with the same elements they are the same.
use Rattle.std.proofs.Common.{◌≡◌, ◌≢◌, zero, suc, List, [], ◌∷◌, refl, sym, subst, inl, inr, ◌⊎◌}
use Rattle.std.specs.List.{AllByRecursion}
use Rattle.std.specs.declared.cmp.Ordering.{Ordering}
use Rattle.std.specs.declared.cmp.Ordering.TheVariants.{Less}
use Rattle.span_mutate.specs.Directories.{IsRising}
use Rattle.span_machine_laws.proofs.Lists.{IsIn, all_in}

-- in a list with a head, the head or among the rest
pub in_cons : {X : Type 0} (x y : X) (ys : List X) → IsIn x (y ∷ ys) → (x ≡ y) ⊎ IsIn x ys
in_cons x y ys (zero, e) = inl cc
in_cons x y ys (suc i, e) = inr (i, e)

module _ {X : Type 0} (R : X → X → Ordering) (never : (x : X) → R x x ≢ Less) (across : (x y z : X) → R x y ≡ Less → R y z ≡ Less → R x z ≡ Less) where
  -- the first of one is the first of the other
  same_first : (x y : X) (xs ys : List X) → AllByRecursion (λ z. R x z ≡ Less) xs → AllByRecursion (λ z. R y z ≡ Less) ys → IsIn x (y ∷ ys) → IsIn y (x ∷ xs) → x ≡ y
  same_first x y xs ys up_x up_y at_x at_y = elim (in_cons x y ys at_x) [
    | inl e ↦ e
    | inr later ↦ elim (in_cons y x xs at_y) [
      | inl e ↦ sym e
      | inr other ↦ absurd (never x (across x y x (all_in (λ z. R x z ≡ Less) xs y other up_x) (all_in (λ z. R y z ≡ Less) ys x later up_y)))
    ]
  ]

  -- what is in the rest of one is in the rest of the other
  in_rest : (x z : X) (xs ys : List X) → AllByRecursion (λ w. R x w ≡ Less) xs → IsIn z xs → IsIn z (x ∷ ys) → IsIn z ys
  in_rest x z xs ys up at there = elim (in_cons z x ys there) [
    | inl e ↦ absurd (never x (subst (λ w. R x w ≡ Less) e (all_in (λ w. R x w ≡ Less) xs z at up)))
    | inr rest ↦ rest
  ]

  pub same_rising : (xs ys : List X) → IsRising R xs → IsRising R ys → ((x : X) → IsIn x xs → IsIn x ys) → ((y : X) → IsIn y ys → IsIn y xs) → xs ≡ ys
  same_rising [] [] up down there back = refl
  same_rising [] (y ∷ ys) up down there back = absurd (let bad = back y (0, refl) in let e = bad.1 in cc)
  same_rising (x ∷ xs) [] up down there back = absurd (let bad = there x (0, refl) in let e = bad.1 in cc)
  same_rising (x ∷ xs) (y ∷ ys) up down there back =
      let e : x ≡ y = same_first x y xs ys up.0 down.0 (there x (0, refl)) (back y (0, refl)) in
      let up_y : AllByRecursion (λ w. R y w ≡ Less) xs = subst (λ z. AllByRecursion (λ w. R z w ≡ Less) xs) e up.0 in
      let rest : xs ≡ ys = same_rising xs ys up.1 down.1
      (λ z at. in_rest y z xs ys up_y at (there z (suc at.0, at.1)))
      (λ z at. in_rest y z ys xs down.0 at (subst (λ w. IsIn z (w ∷ xs)) e (back z (suc at.0, at.1)))) in
      cc
