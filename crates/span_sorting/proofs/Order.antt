-- Two lists in order, with the same order of ties, are one list.
use Rattle.std.proofs.Common.{◌≡◌, Bool, true, false, cond, not, ◌&&◌, List, [], ◌∷◌, refl, ap, sym, ◌∙◌}
use Rattle.std.specs.List.{AllByRecursion, filter}
use Rattle.std.specs.List.Sorted.{ties}
use Rattle.std.specs.Cmp.{IsStrictWeakOrder}
use Rattle.span_sorting.specs.Orders.{IsSorted}

module _ {A : Type 0} (lt : A → A → Bool) (o : IsStrictWeakOrder lt) where
  pub irreflexive : (x : A) → lt x x ≡ false
  irreflexive x = elim (lt x x) as (λ b. lt x x ≡ b → b ≡ false) [ true ↦ λ e. sym e ∙ o.one_way x x e | false ↦ λ e. refl ] refl

  ties_itself : (x : A) → ties lt x x ≡ true
  ties_itself x = rw (irreflexive x) refl

  -- what is less than the first has no ties
  no_ties : (z y : A) → lt z y ≡ true → (ys : List A) → AllByRecursion (λ w. lt w y ≡ false) ys → filter (ties lt z) ys ≡ []
  no_ties z y less [] all = refl
  no_ties z y less (w ∷ ys) all = elim (lt z w) as (λ b. lt z w ≡ b → cond (not b && not (lt w z)) (w ∷ filter (ties lt z) ys) (filter (ties lt z) ys) ≡ []) [
    | true ↦ λ e. no_ties z y less ys all.1
    | false ↦ λ e. let bad : lt z y ≡ false = o.chain z w y e all.0 in absurd (let c : true ≡ false = sym less ∙ bad in cc)
  ] refl

  tails : (x y z : A) (ys zs : List A) → y ≡ z → filter (ties lt x) (y ∷ ys) ≡ filter (ties lt x) (z ∷ zs) → filter (ties lt x) ys ≡ filter (ties lt x) zs
  tails x y z ys zs e same =
      let moved : cond (ties lt x y) (y ∷ filter (ties lt x) ys) (filter (ties lt x) ys) ≡ cond (ties lt x y) (y ∷ filter (ties lt x) zs) (filter (ties lt x) zs) = same ∙ ap (λ w. cond (ties lt x w) (w ∷ filter (ties lt x) zs) (filter (ties lt x) zs)) (sym e) in
      elim (ties lt x y) as (λ b. cond b (y ∷ filter (ties lt x) ys) (filter (ties lt x) ys) ≡ cond b (y ∷ filter (ties lt x) zs) (filter (ties lt x) zs) → filter (ties lt x) ys ≡ filter (ties lt x) zs) [ true ↦ λ m. cc | false ↦ λ m. m ] moved

  -- two lists in order, with the same order of ties, are one
  pub one_order : (ys zs : List A) → IsSorted lt ys → IsSorted lt zs → ((x : A) → filter (ties lt x) ys ≡ filter (ties lt x) zs) → ys ≡ zs
  one_order [] [] p q same = refl
  one_order [] (z ∷ zs) p q same = let e : [] ≡ cond (ties lt z z) (z ∷ filter (ties lt z) zs) (filter (ties lt z) zs) = same z in let f : [] ≡ z ∷ filter (ties lt z) zs = e ∙ ap (λ b. cond b (z ∷ filter (ties lt z) zs) (filter (ties lt z) zs)) (ties_itself z) in cc
  one_order (y ∷ ys) [] p q same = let e : cond (ties lt y y) (y ∷ filter (ties lt y) ys) (filter (ties lt y) ys) ≡ [] = same y in let f : y ∷ filter (ties lt y) ys ≡ [] = sym (ap (λ b. cond b (y ∷ filter (ties lt y) ys) (filter (ties lt y) ys)) (ties_itself y)) ∙ e in cc
  one_order (y ∷ ys) (z ∷ zs) p q same =
      let here : y ∷ filter (ties lt y) ys ≡ filter (ties lt y) (z ∷ zs) = sym (ap (λ b. cond b (y ∷ filter (ties lt y) ys) (filter (ties lt y) ys)) (ties_itself y)) ∙ same y in
      let there : filter (ties lt z) (y ∷ ys) ≡ z ∷ filter (ties lt z) zs = same z ∙ ap (λ b. cond b (z ∷ filter (ties lt z) zs) (filter (ties lt z) zs)) (ties_itself z) in
      elim (lt y z) as (λ b. lt y z ≡ b → y ∷ ys ≡ z ∷ zs) [
        | true ↦ λ e.
            let none : filter (ties lt y) zs ≡ [] = no_ties y z e zs q.0 in
            let bad : filter (ties lt y) (z ∷ zs) ≡ [] = ap (λ b. cond (not b && not (lt z y)) (z ∷ filter (ties lt y) zs) (filter (ties lt y) zs)) e ∙ none in
            let f : y ∷ filter (ties lt y) ys ≡ [] = here ∙ bad in cc
        | false ↦ λ e. elim (lt z y) as (λ b. lt z y ≡ b → y ∷ ys ≡ z ∷ zs) [
          | true ↦ λ f.
              let none : filter (ties lt z) ys ≡ [] = no_ties z y f ys p.0 in
              let bad : filter (ties lt z) (y ∷ ys) ≡ [] = ap (λ b. cond (not b && not (lt y z)) (y ∷ filter (ties lt z) ys) (filter (ties lt z) ys)) f ∙ none in
              let g : z ∷ filter (ties lt z) zs ≡ [] = sym there ∙ bad in cc
          | false ↦ λ f.
              let t : ties lt y z ≡ true = rw (e, f) refl in
              let g : y ∷ filter (ties lt y) ys ≡ z ∷ filter (ties lt y) zs = here ∙ ap (λ b. cond b (z ∷ filter (ties lt y) zs) (filter (ties lt y) zs)) t in
              let first : y ≡ z = cc in
              let rest : ys ≡ zs = one_order ys zs p.1 q.1 (λ x. tails x y z ys zs first (same x)) in
              cc
        ] refl
      ] refl
