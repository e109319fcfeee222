-- A parameter is added in the place of the one with its name, or after the others.
use Rattle.std.proofs.Common.{◌≡◌, ◌∙◌, sym, refl, ap, ℕ, zero, suc, ◌+◌, ◌<◌, Bool, true, false, if◌then◌else◌, List, [], ◌∷◌, ◌++◌, length, arith, Some, None}
use Rattle.std.specs.Prelude.{slice_set}
use Rattle.std.specs.List.{position_from}
use Rattle.std.proofs.Math.ListN.{get_or}
use Rattle.std.proofs.lemmas.List.Quantifiers.{position-Some}
use Rattle.std.proofs.lemmas.Iterator.Adapters.{position_from-zero}
use Rattle.span_schema.specs.Tables.{is_same_name}
use Rattle.span_params.specs.declared.params.Parameter.{Parameter}
use Rattle.span_params.specs.Parameters.{place_of, with_parameter}

abbrev has_name_of : Parameter → Parameter → Bool
has_name_of p q = is_same_name q.name p.name

here : (p q : Parameter) (qs : List Parameter) → is_same_name q.name p.name ≡ true → p ∷ qs ≡ with_parameter p (q ∷ qs)
here p q qs is = sym (ap (λ (b : Bool). if b then p ∷ qs else q ∷ with_parameter p qs) is)

rest : (p q : Parameter) (qs : List Parameter) → is_same_name q.name p.name ≡ false → q ∷ with_parameter p qs ≡ with_parameter p (q ∷ qs)
rest p q qs is = sym (ap (λ (b : Bool). if b then p ∷ qs else q ∷ with_parameter p qs) is)

set_at : (ps : List Parameter) (p : Parameter) (at : ℕ) → at < length ps → is_same_name (get_or ps at p).name p.name ≡ true → ((k : ℕ) → k < at → is_same_name (get_or ps k p).name p.name ≡ false) → slice_set ps at p ≡ with_parameter p ps
set_at [] p at within found before = absurd (omega (arith, within))
set_at (q ∷ qs) p zero within found before = here p q qs found
set_at (q ∷ qs) p (suc n) within found before =
    ap (λ (xs : List Parameter). q ∷ xs) (set_at qs p n (omega (arith, within)) found (λ k l. before (suc k) (omega (arith, l)))) ∙ rest p q qs (before zero (omega arith))

pub in_its_place : (ps : List Parameter) (p : Parameter) (at : ℕ) → place_of ps p.name ≡ Some at → slice_set ps at p ≡ with_parameter p ps
in_its_place ps p at found =
    let facts = position-Some (has_name_of p) ps at p found in
    set_at ps p at facts.0 facts.1 facts.2

none_from : (ps : List Parameter) (p : Parameter) (i : ℕ) → position_from (has_name_of p) i ps ≡ None → ps ++ p ∷ [] ≡ with_parameter p ps
none_from [] p i none = refl
none_from (q ∷ qs) p i none = go (has_name_of p q) refl none (none_from qs p (i + 1)) where
  go : (b : Bool) → has_name_of p q ≡ b → (if b then Some i else position_from (has_name_of p) (i + 1) qs) ≡ None → (position_from (has_name_of p) (i + 1) qs ≡ None → qs ++ p ∷ [] ≡ with_parameter p qs) → q ∷ (qs ++ p ∷ []) ≡ with_parameter p (q ∷ qs)
  go true is some more = absurd cc
  go false is none_there more = ap (λ (xs : List Parameter). q ∷ xs) (more none_there) ∙ rest p q qs is

pub at_the_end : (ps : List Parameter) (p : Parameter) → place_of ps p.name ≡ None → ps ++ p ∷ [] ≡ with_parameter p ps
at_the_end ps p none = none_from ps p 0 (sym (position_from-zero (has_name_of p) ps) ∙ none)

pub ruleset adding_steps = (in_its_place, at_the_end)
