-- The owners' parts of lists.
use Rattle.std.proofs.Common.{◌≡◌, ◌≢◌, ℕ, ◌==◌, Bool, true, false, List, [], ◌∷◌, ◌++◌, refl, sym, ap, ◌∙◌, if◌then◌else◌, ne_eqb, eq-eqb, append_assoc}
use Rattle.std.proofs.lemmas.List.{append-nil}
use mathlib.Core.List.{IsPrefix}
use Rattle.std.proofs.lemmas.Bool.{cond-true, cond-false}
use Rattle.span_machine.specs.declared.transaction.Commit.{Commit}
use Rattle.span_board.specs.Known.{owned}

pub if_append : {A : Type 0} (b : Bool) (a : A) (s t u : List A) → s ≡ t ++ u → (if b then a ∷ s else s) ≡ (if b then a ∷ t else t) ++ u
if_append true a s t u e = ap (λ l. a ∷ l) e
if_append false a s t u e = e

pub owned_append : (o : ℕ) (xs ys : List Commit) → owned o (xs ++ ys) ≡ owned o xs ++ owned o ys
owned_append o [] ys = refl
owned_append o (x ∷ xs) ys = if_append (x.owner == o) x (owned o (xs ++ ys)) (owned o xs) (owned o ys) (owned_append o xs ys)

pub owned_this : (o : ℕ) (xs : List Commit) (c : Commit) → c.owner ≡ o → owned o (xs ++ c ∷ []) ≡ owned o xs ++ c ∷ []
owned_this o xs c e = owned_append o xs (c ∷ []) ∙ ap (λ l. owned o xs ++ l) (cond-true (c.owner == o) (c ∷ []) [] (eq-eqb c.owner o e))

pub owned_other : (o : ℕ) (xs : List Commit) (c : Commit) → c.owner ≢ o → owned o (xs ++ c ∷ []) ≡ owned o xs
owned_other o xs c ne = owned_append o xs (c ∷ []) ∙ (ap (λ l. owned o xs ++ l) (cond-false (c.owner == o) (c ∷ []) [] (ne_eqb c.owner o ne)) ∙ append-nil (owned o xs))

-- what follows a list without making it longer is nothing
pub nothing_after : {A : Type 0} (xs ys : List A) → xs ++ ys ≡ xs → ys ≡ []
nothing_after [] ys e = e
nothing_after (x ∷ xs) ys e = nothing_after xs ys (cc (e))

-- where a longer list has no more of an owner, what was added has none of it
pub owned_between : (o : ℕ) (xs ys : List Commit) → owned o (xs ++ ys) ≡ owned o xs → owned o ys ≡ []
owned_between o xs ys e = nothing_after (owned o xs) (owned o ys) (sym (owned_append o xs ys) ∙ e)

pub prefix_longer : {A : Type 0} (xs ys zs : List A) → IsPrefix xs ys → IsPrefix xs (ys ++ zs)
prefix_longer xs ys zs p = (p.0 ++ zs, sym (append_assoc xs p.0 zs) ∙ ap (λ w. w ++ zs) p.1)

pub prefix_self : {A : Type 0} (xs : List A) → IsPrefix xs xs
prefix_self xs = ([], append-nil xs)
