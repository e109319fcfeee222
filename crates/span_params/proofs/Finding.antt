-- What is found by a name after a parameter was added.
use Rattle.std.proofs.Common.{◌≡◌, ◌∙◌, sym, refl, ap, ℕ, Bool, true, false, if◌then◌else◌, List, [], ◌∷◌, Option, Some}
use Rattle.std.specs.Str.{bytes_eq, str_to_ascii_lowercase}
use Rattle.std.proofs.lemmas.Slice.Eq.{bytes_eq-Decides}
use Rattle.span_schema.specs.Tables.{is_same_name}
use Rattle.span_schema.proofs.Names.{not_other_way}
use Rattle.span_params.specs.declared.params.Parameter.{Parameter}
use Rattle.span_params.specs.Parameters.{parameter_named, with_parameter}
use Rattle.span_params.specs.Laws.{AddedIsFound, AreDistinct, StayDistinct}

-- ---- names

-- the letters in lower case
abbrev low : List ℕ → List ℕ
low = str_to_ascii_lowercase

alike : (a b : List ℕ) → is_same_name a b ≡ true → low a ≡ low b
alike a b = (bytes_eq-Decides (low a) (low b)).0

-- a name is the same as another of which one is the same
through : (a b c : List ℕ) → is_same_name a b ≡ true → is_same_name a c ≡ is_same_name b c
through a b c is = ap (λ (xs : List ℕ). bytes_eq xs (low c)) (alike a b is)

from_either : (c a b : List ℕ) → is_same_name a b ≡ true → is_same_name c a ≡ is_same_name c b
from_either c a b is = ap (λ (xs : List ℕ). bytes_eq (low c) xs) (alike a b is)

-- ---- the added parameter is found

-- one was in the place of the other
in_place : {A : Type 0} (new old rest : A) (t u : Bool) → u ≡ t → (if t then new else rest) ≡ (if t then new else (if u then old else rest))
in_place new old rest true u is = refl
in_place new old rest false u is = ap (λ (v : Bool). if v then old else rest) (sym is)

-- one is before the other
apart : {A : Type 0} (new other rest : A) (t u : Bool) → (t ≡ true → u ≡ false) → (if u then other else (if t then new else rest)) ≡ (if t then new else (if u then other else rest))
apart new other rest true u no_two = ap (λ (v : Bool). if v then other else new) (no_two refl)
apart new other rest false u no_two = refl

pub found : AddedIsFound
found p [] name = refl
found p (q ∷ qs) name = go (is_same_name q.name p.name) refl (found p qs name) where
  go : (b : Bool) → is_same_name q.name p.name ≡ b → parameter_named (with_parameter p qs) name ≡ (if is_same_name p.name name then Some p else parameter_named qs name) → parameter_named (if b then p ∷ qs else q ∷ with_parameter p qs) name ≡ (if is_same_name p.name name then Some p else parameter_named (q ∷ qs) name)
  go true is more = in_place (Some p) (Some q) (parameter_named qs name) (is_same_name p.name name) (is_same_name q.name name) (through q.name p.name name is)
  go false isnt more =
      ap (λ (o : Option Parameter). if is_same_name q.name name then Some q else o) more
      ∙ apart (Some p) (Some q) (parameter_named qs name) (is_same_name p.name name) (is_same_name q.name name) (λ is. not_other_way name q.name (sym (through p.name name q.name is) ∙ not_other_way q.name p.name isnt))

-- ---- no two have one name

by_either : (ps : List Parameter) (a b : List ℕ) → is_same_name a b ≡ true → parameter_named ps a ≡ parameter_named ps b
by_either [] a b is = refl
by_either (p ∷ ps) a b is =
    ap (λ (t : Bool). if t then Some p else parameter_named ps a) (from_either p.name a b is) ∙ ap (λ (o : Option Parameter). if is_same_name p.name b then Some p else o) (by_either ps a b is)

pub distinct : StayDistinct
distinct p [] h = (refl, tt)
distinct p (q ∷ qs) h = go (is_same_name q.name p.name) refl (distinct p qs h.1) where
  go : (b : Bool) → is_same_name q.name p.name ≡ b → AreDistinct (with_parameter p qs) → AreDistinct (if b then p ∷ qs else q ∷ with_parameter p qs)
  go true is more = (sym (by_either qs q.name p.name is) ∙ h.0, h.1)
  go false isnt more = (found p qs q.name ∙ ap (λ (t : Bool). if t then Some p else parameter_named qs q.name) (not_other_way q.name p.name isnt) ∙ h.0, more)
