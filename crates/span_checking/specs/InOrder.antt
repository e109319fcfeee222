-- Cells and keys by the places of their columns. Those of a load name all columns outside the key, in their order.
use Rattle.std.specs.Prelude.{ℕ, Bool, true, false, ◌||◌, ◌&&◌, List, [], ◌∷◌, Option, Some, None, slice_get, bytes_eq}
use Rattle.std.specs.Option.{option_or}
use Rattle.span_value.specs.Results.{first_cause}
use Rattle.span_value.specs.declared.value.Value.{Value}
use Rattle.span_value.specs.declared.refusal.Refusal.{Refusal}
use Rattle.span_value.specs.declared.refusal.Refusal.TheVariants.{WrongType, NullNotAllowed, ValueTooLong}
use Rattle.span_schema.specs.declared.table.Table.{Table}
use Rattle.span_schema.specs.declared.table.Column.{Column}
use Rattle.span_schema.specs.Layouts.{other_places}
use Rattle.span_mutate.specs.declared.mutation.NamedValue.{NamedValue}
use Rattle.span_checking.specs.Columns.{has_wrong_type, is_null_refused, is_too_long}

-- the cell names the column, letter by letter
abbrev pub is_cell_of : Option Column → NamedValue → Bool
is_cell_of None x = false
is_cell_of (Some c) x = bytes_eq x.column c.name

-- one cell for the column at each of these places, in order
abbrev pub are_cells_at : List Column → List ℕ → List NamedValue → Bool
are_cells_at columns [] [] = true
are_cells_at columns [] (x ∷ xs) = false
are_cells_at columns (p ∷ ps) [] = false
are_cells_at columns (p ∷ ps) (x ∷ xs) = is_cell_of (slice_get columns p) x && are_cells_at columns ps xs

-- the cells name the columns outside the key, one for each, in the order of declaration
abbrev pub are_in_order : Table → List NamedValue → Bool
are_in_order t cells = are_cells_at t.columns (other_places t.key 0 t.columns) cells

-- the name is the column's, letter by letter
abbrev pub is_name_of : Option Column → List ℕ → Bool
is_name_of None name = false
is_name_of (Some c) name = bytes_eq name c.name

-- one name for the column at each of these places, in order
abbrev pub are_names_at : List Column → List ℕ → List (List ℕ) → Bool
are_names_at columns [] [] = true
are_names_at columns [] (name ∷ names) = false
are_names_at columns (p ∷ ps) [] = false
are_names_at columns (p ∷ ps) (name ∷ names) = is_name_of (slice_get columns p) name && are_names_at columns ps names

-- why a column takes no such value
abbrev pub value_causes : Option Column → Value → List (Bool × Refusal)
value_causes o v =
    (has_wrong_type o v, WrongType) ∷ (is_null_refused o v, NullNotAllowed) ∷ (is_too_long o v, ValueTooLong) ∷ []

-- the values of cells in turn, each with the column at its place
abbrev pub values_cause : List Column → List ℕ → List NamedValue → Option Refusal
values_cause columns [] xs = None
values_cause columns (p ∷ ps) [] = None
values_cause columns (p ∷ ps) (x ∷ xs) =
    option_or (first_cause (value_causes (slice_get columns p) x.value)) (values_cause columns ps xs)

-- the same of values, where they are there
abbrev pub cell_cause : Option Column → Option Value → Option Refusal
cell_cause o None = None
cell_cause o (Some v) = first_cause (value_causes o v)

abbrev pub row_cause : List Column → List ℕ → List (Option Value) → Option Refusal
row_cause columns [] vs = None
row_cause columns (p ∷ ps) [] = None
row_cause columns (p ∷ ps) (v ∷ vs) = option_or (cell_cause (slice_get columns p) v) (row_cause columns ps vs)

-- a value of the key, with the column at its place, of which a rule is broken
abbrev pub places_break : (Option Column → Value → Bool) → List Column → List ℕ → List Value → Bool
places_break rule columns [] vs = false
places_break rule columns (p ∷ ps) [] = false
places_break rule columns (p ∷ ps) (v ∷ vs) = rule (slice_get columns p) v || places_break rule columns ps vs
