-- Lists whose items all pass, lists in order, and the parts of them.
use Rattle.std.proofs.Common.{◌≡◌, Bool, true, false, ◌||◌, cond, List, [], ◌∷◌, Some, None, refl, sym, ap, subst, ◌∙◌}
use Rattle.std.specs.List.{find, list_any, AllByRecursion}

-- ---- what is found

pub any_all : {X : Type 0} (P : X → Type 0) (p : X → Bool) (xs : List X) → AllByRecursion P xs → list_any p xs ≡ true → (x : X) × P x × (p x ≡ true)
any_all P p [] h e = absurd (let f : false ≡ true = e in cc)
any_all {X} P p (x ∷ xs) h e = cases (p x) refl (any_all P p xs h.1) e
  where
    cases : (b : Bool) → p x ≡ b → (list_any p xs ≡ true → (y : X) × P y × (p y ≡ true)) → (b || list_any p xs) ≡ true → (y : X) × P y × (p y ≡ true)
    cases true f again g = (x, h.0, f)
    cases false f again g = again g

pub found_all : {X : Type 0} (P : X → Type 0) (p : X → Bool) (xs : List X) (x : X) → AllByRecursion P xs → find p xs ≡ Some x → P x × (p x ≡ true)
found_all P p [] x h e = absurd (let f : None ≡ Some x = e in cc)
found_all {X} P p (y ∷ ys) x h e = cases (p y) refl (found_all P p ys x h.1) e
  where
    cases : (b : Bool) → p y ≡ b → (find p ys ≡ Some x → P x × (p x ≡ true)) → cond b (Some y) (find p ys) ≡ Some x → P x × (p x ≡ true)
    cases true f again g =
        let same : y ≡ x = cc in
        (subst P same h.0, ap p (sym same) ∙ f)
    cases false f again g = again g

pub none_any : {X : Type 0} (p : X → Bool) (xs : List X) → list_any p xs ≡ false → find p xs ≡ None
none_any p [] e = refl
none_any {X} p (x ∷ xs) e = cases (p x) (none_any p xs) e
  where
    cases : (b : Bool) → (list_any p xs ≡ false → find p xs ≡ None) → (b || list_any p xs) ≡ false → cond b (Some x) (find p xs) ≡ None
    cases true again g = absurd (let f : true ≡ false = g in cc)
    cases false again g = again g

pub any_none : {X : Type 0} (p : X → Bool) (xs : List X) → AllByRecursion (λ x. p x ≡ false) xs → list_any p xs ≡ false
any_none p [] h = refl
any_none p (x ∷ xs) h = ap (λ (b : Bool). b || list_any p xs) h.0 ∙ any_none p xs h.1
