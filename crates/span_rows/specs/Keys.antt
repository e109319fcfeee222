-- Rows that are kept by their first appearance, one after another.
use Rattle.std.specs.Prelude.{◌≡◌, ℕ, zero, suc, List, [], ◌∷◌, ◌++◌, Bool, false, if◌then◌else◌}
use Rattle.std.specs.List.{list_any}
use Rattle.span_query.specs.Rows.{Row}
use Rattle.span_query.specs.Groups.{are_equal}

-- whether one of the rows is equal to it
abbrev pub contains_row : List Row → Row → Bool
contains_row rows row = list_any (λ (x : Row). are_equal x row) rows

-- the rows, and one more where none of them is equal to it
abbrev pub with_new : List Row → Row → List Row
with_new rows row = if contains_row rows row then rows else rows ++ row ∷ []

-- the place of the first row that is equal to it, or the number of rows
abbrev pub place_of : List Row → Row → ℕ
place_of [] row = zero
place_of (x ∷ rows) row = if are_equal x row then zero else suc (place_of rows row)

-- no two keys are equal
abbrev pub AreApart : List Row → Type 0
AreApart [] = Unit {0}
AreApart (x ∷ keys) = (contains_row keys x ≡ false) × AreApart keys
