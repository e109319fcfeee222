-- Names that are the same but for the letters' case, and the places of columns by name.
use Rattle.std.proofs.Common.{◌≡◌, ℕ, ◌<◌, Bool, true, false, List, [], ◌∷◌, Some, length, refl, sym, ◌∙◌}
use Rattle.std.specs.Str.{str_to_ascii_lowercase}
use Rattle.std.proofs.lemmas.List.Quantifiers.{position-Some}
use Rattle.std.proofs.lemmas.Slice.Eq.{bytes_eq-Decides}
use Rattle.span_schema.specs.declared.table.Column.{Column}
use Rattle.span_schema.specs.Tables.{is_same_name, column_place}

pub same_lower : (a b : List ℕ) → is_same_name a b ≡ true → str_to_ascii_lowercase a ≡ str_to_ascii_lowercase b
same_lower a b e = (bytes_eq-Decides (str_to_ascii_lowercase a) (str_to_ascii_lowercase b)).0 e

pub lower_same : (a b : List ℕ) → str_to_ascii_lowercase a ≡ str_to_ascii_lowercase b → is_same_name a b ≡ true
lower_same a b e = (bytes_eq-Decides (str_to_ascii_lowercase a) (str_to_ascii_lowercase b)).1 e

pub not_other_way : (a b : List ℕ) → is_same_name a b ≡ false → is_same_name b a ≡ false
not_other_way a b h = cases (is_same_name b a) refl
  where
    cases : (t : Bool) → is_same_name b a ≡ t → t ≡ false
    cases true e = absurd (let f : true ≡ false = sym (lower_same a b (sym (same_lower b a e))) ∙ h in cc)
    cases false e = refl

pub place_within : (columns : List Column) (name : List ℕ) (place : ℕ) → column_place columns name ≡ Some place → place < length columns
place_within [] name place is = cc is
place_within (c ∷ columns) name place is = (position-Some (λ (c : Column). is_same_name c.name name) (c ∷ columns) place c is).0
