-- Select lists that are columns alone, and the keys of their rows as keys of the rows that the columns are of.
use Rattle.std.specs.Prelude.{◌≡◌, ℕ, List, map, Option, Some, slice_get}
use Rattle.std.specs.Option.{option_map}
use Rattle.span_expr.specs.declared.expr.Expr.{Expr}
use Rattle.span_expr.specs.Forms.{as_column}
use Rattle.span_query.specs.declared.query.SortKey.{SortKey}

abbrev pub AreColumns : List Expr → List ℕ → Type 0
AreColumns outputs columns = map as_column outputs ≡ map (λ column. Some column) columns

-- the key of a row, where it is one of the row's columns
abbrev pub key_over : List ℕ → SortKey → Option SortKey
key_over columns key =
    option_map (λ (column : ℕ). record { column = column; is_descending = key.is_descending })
    (slice_get columns key.column)

abbrev pub AreKeysOver : List ℕ → List SortKey → List SortKey → Type 0
AreKeysOver columns keys moved = map (key_over columns) keys ≡ map (λ key. Some key) moved
