-- The columns of a record, and the mutation that its fields make.
use Rattle.std.specs.Prelude.{◌≡◌, ℕ, ◌==◌, ◌<◌, List, [], ◌∷◌, ⊤, false, true, None, Some, ◌⊎◌, map, codes, get_or, length}
use Rattle.std.specs.List.{list_any}
use Rattle.span_schema.specs.declared.table.Column.{Column}
use Rattle.span_schema.specs.Tables.{column_place}
use Rattle.span_records.specs.Record.{pieces}

-- these are the numbers below n, in order
abbrev pub AreBelow : ℕ → List ℕ → Type 0
AreBelow n places = (length places ≡ n) × ((i : ℕ) → i < n → get_or places i 0 ≡ i)

-- no number is there twice
abbrev pub NoneTwice : List ℕ → Type 0
NoneTwice [] = ⊤
NoneTwice (place ∷ places) = (list_any (λ other. place == other) places ≡ false) × NoneTwice places

-- the columns of these names are at these places, counted from 0, and none is named twice
abbrev pub AreNamed : List Column → List (List ℕ) → List ℕ → Type 0
AreNamed columns names places = (map (column_place columns) names ≡ map Some places) × NoneTwice places

-- no column has the name, or its place is among those before
abbrev pub IsUnplaced : List Column → List ℕ → List ℕ → Type 0
IsUnplaced columns before name =
    (column_place columns name ≡ None)
    ⊎ ((place : ℕ) × (column_place columns name ≡ Some place) × (list_any (λ other. other == place) before ≡ true))

-- The columns that a text names: all in order where it is `*`, else those whose names are between its commas.
abbrev pub ArePlaces : List Column → List ℕ → List ℕ → Type 0
ArePlaces columns text places =
    (text ≡ codes "*" → AreBelow (length columns) places)
    × ((text ≡ codes "*" → ⊥) → AreNamed columns (pieces text) places)

-- the text names no columns, or one twice
abbrev pub NamesNone : List Column → List ℕ → Type 0
NamesNone columns text = (places : List ℕ) → ArePlaces columns text places → ⊥
