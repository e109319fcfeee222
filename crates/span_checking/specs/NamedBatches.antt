-- The columns of a batch, whose names are looked up once for all its rows: words of the code alone.
use Rattle.std.specs.Prelude.{◌≡◌, ◌≢◌, ℕ, Bool, true, false, not, ◌==◌, ◌&&◌, ◌||◌, List, [], ◌∷◌, ◌++◌, length, map, position, get_or, slice_get, Option, Some, None, IfSome, is_some, is_none}
use Rattle.std.specs.List.{AllByRecursion, list_all, list_any, position_or_len}
use Rattle.span_value.specs.declared.value.Value.{Value}
use Rattle.span_schema.specs.declared.table.Table.{Table}
use Rattle.span_schema.specs.declared.table.Column.{Column}
use Rattle.span_schema.specs.Tables.{is_same_name}
use Rattle.span_schema.specs.Numbers.{IsTable, number_named, table_at, columns_of, other_places}
use Rattle.span_mutate.specs.declared.batch.Heading.{Heading}
use Rattle.span_checking.specs.declared.named_columns.NamedColumns.{NamedColumns}
use Rattle.span_checking.specs.Columns.{cell_column}
use Rattle.span_checking.specs.InOrder.{are_names_at}
use Rattle.span_mutate.specs.Kinds.{is_delete}

-- a value for each of the names
abbrev pub is_full : List (List ℕ) → List (Option Value) → Bool
is_full names cells = (length names == length cells) && list_all is_some cells

-- A batch of the table with this number that removes no row. Its columns are those outside the key, one for each, letter
-- by letter and in the order of declaration.
pub record IsBound (tables : List Table) (heading : Heading) (n : ℕ) : Type 0 where
  pub table : IsTable tables n
  pub named : number_named tables heading.table ≡ Some n
  pub put : is_delete heading.kind ≡ false
  pub order : are_names_at (columns_of tables n) (other_places tables n) heading.columns ≡ true

abbrev pub has_name : List (List ℕ) → List ℕ → Bool
has_name names name = list_any (λ (n : List ℕ). is_same_name n name) names

-- the name of a column outside the key that none of the names before it is
abbrev pub is_new_name : Table → List (List ℕ) → List ℕ → Bool
is_new_name t before name = is_some (cell_column t name) && not (has_name before name)

-- names of columns outside the key, each once
abbrev pub are_new_names : Table → List (List ℕ) → List (List ℕ) → Bool
are_new_names t before [] = true
are_new_names t before (n ∷ ns) = is_new_name t before n && are_new_names t (before ++ n ∷ []) ns

-- the place of the column with a name, or how many columns there are
abbrev pub place_named : List Column → List ℕ → ℕ
place_named columns name = position_or_len (λ (c : Column). is_same_name c.name name) columns

-- which of the names is the column's, if one is
abbrev pub name_of : List (List ℕ) → Option Column → Option ℕ
name_of names None = None
name_of names (Some c) = position (λ (n : List ℕ). is_same_name n c.name) names

-- the value under the name with a number, if there is one
abbrev pub value_at : List (Option Value) → Option ℕ → Option Value
value_at values None = None
value_at values (Some i) = get_or values i None

-- a NOT NULL column without a value
abbrev pub is_left_out : Option Column → Option Value → Bool
is_left_out None v = false
is_left_out (Some c) v = c.not_null && is_none v

-- such a column among those at these places, whose names have these numbers
abbrev pub lacks_value : List Column → List ℕ → List (Option ℕ) → List (Option Value) → Bool
lacks_value columns [] is values = false
lacks_value columns (p ∷ ps) [] values = false
lacks_value columns (p ∷ ps) (i ∷ is) values =
    is_left_out (slice_get columns p) (value_at values i) || lacks_value columns ps is values

-- A batch that removes no row. Its columns are some of those outside the key of its table, each once, in any order. Of each name
-- the place of its column is known, and of each column outside the key, in the order of declaration, its name.
pub record IsNamed (tables : List Table) (heading : Heading) (c : NamedColumns) : Type 0 where
  pub table : IsTable tables c.table
  pub named : number_named tables heading.table ≡ Some c.table
  pub put : is_delete heading.kind ≡ false
  pub new : IfSome (table_at tables c.table) (λ (t : Table). are_new_names t [] heading.columns ≡ true)
  pub places : c.places.items ≡ map (place_named (columns_of tables c.table)) heading.columns
  pub names : c.names.items
      ≡ map (λ (p : ℕ). name_of heading.columns (slice_get (columns_of tables c.table) p)) (other_places tables c.table)

-- no two of the numbers are the same
abbrev pub AreApart : List (Option ℕ) → Type 0
AreApart [] = Unit {0}
AreApart (i ∷ is) = AllByRecursion (λ (j : Option ℕ). (k : ℕ) → i ≡ Some k → j ≢ Some k) is × AreApart is
