-- Lists whose elements are related place by place.
use Rattle.std.proofs.Common.{◌≡◌, ℕ, zero, suc, ◌+◌, ◌<◌, List, [], ◌∷◌, ◌++◌, ◌∙◌, length, take, get_or, ap, sym, subst, arith}
use Rattle.std.specs.List.{AllZip}
use Rattle.std.proofs.lemmas.List.{take_more}

pub push : {A B : Type 0} (R : A → B → Type 0) (xs : List A) (ys : List B) (x : A) (y : B) → AllZip R xs ys → R x y → AllZip R (xs ++ x ∷ []) (ys ++ y ∷ [])
push R [] [] x y h r = (r, tt)
push R [] (z ∷ ys) x y h r = absurd h
push R (w ∷ xs) [] x y h r = absurd h
push R (w ∷ xs) (z ∷ ys) x y h r = (h.0, push R xs ys x y h.1 r)

-- one more on both sides
pub one_more : {A B : Type 0} (R : A → B → Type 0) (xs : List A) (ys : List B) (i : ℕ) (d x : A) (y : B)
    → i < length xs → x ≡ get_or xs i d → AllZip R (take i xs) ys → R x y → AllZip R (take (i + 1) xs) (ys ++ y ∷ [])
one_more R xs ys i d x y lt is h r =
    subst (λ l. AllZip R l (ys ++ y ∷ [])) (ap (λ z. take i xs ++ z ∷ []) is ∙ sym (take_more xs i d lt)) (push R (take i xs) ys x y h r)

-- where nothing is in the relation to one element, no list does to all
pub none_at : {A B : Type 0} (R : A → B → Type 0) (xs : List A) (i : ℕ) (d x : A)
    → i < length xs → x ≡ get_or xs i d → ((y : B) → R x y → ⊥) → (ys : List B) → AllZip R xs ys → ⊥
none_at R [] i d x lt is none ys h = omega arith
none_at R (w ∷ xs) zero d x lt is none [] h = h
none_at R (w ∷ xs) zero d x lt is none (y ∷ ys) h = none y (subst (λ v. R v y) (sym is) h.0)
none_at R (w ∷ xs) (suc i) d x lt is none [] h = h
none_at R (w ∷ xs) (suc i) d x lt is none (y ∷ ys) h = none_at R xs i d x (omega arith) is none ys h.1
