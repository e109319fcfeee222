-- A select list that is all columns of each row, in their order, gives the rows as they are.
use Rattle.std.proofs.Common.{◌≡◌, ◌∙◌, ℕ, zero, suc, ◌<◌, ◌==◌, Bool, true, List, [], ◌∷◌, Some, map, length, get_or, refl, ap, sym, arith}
use Rattle.std.specs.List.{list_all}
use Rattle.std.proofs.lemmas.Bool.{and_parts, eqb-true}
use Rattle.std.proofs.lemmas.List.{ext_get_or, length-map, get_or-map}
use Rattle.span_value.specs.declared.value.Value.TheVariants as value
use Rattle.span_expr.specs.declared.expr.Expr.{Expr}
use Rattle.span_expr.specs.Operators.{column_of}
use Rattle.span_query.specs.Rows.{Row, project_rows}
use Rattle.span_query.specs.Groups.{columns_at}
use Rattle.span_sorting.specs.Columns.{AreColumns}
use Rattle.span_sorting.proofs.TakenColumns.{project_columns}

-- each column is its own place in the list
abbrev AreInOrder : List ℕ → Type 0
AreInOrder columns = (i : ℕ) → i < length columns → get_or columns i 0 ≡ i

-- a row has a number of values
abbrev has_width : ℕ → Row → Bool
has_width width row = length row == width

column_read : (row : Row) (i : ℕ) → column_of row i ≡ get_or row i value.Null
column_read [] i = refl
column_read (v ∷ row) zero = refl
column_read (v ∷ row) (suc i) = column_read row i

same_row : (columns : List ℕ) (row : Row) → AreInOrder columns → length row ≡ length columns → columns_at columns row ≡ row
same_row columns row order wide =
    ext_get_or value.Null (columns_at columns row) row (length-map columns (column_of row) ∙ sym wide)
    (λ i within.
    (let inside : i < length columns = omega (arith, within, length-map columns (column_of row)) in
    get_or-map (column_of row) columns i 0 value.Null inside ∙ ap (column_of row) (order i inside) ∙ column_read row i))

pub same_rows : (columns : List ℕ) (rows : List Row) → AreInOrder columns → list_all (has_width (length columns)) rows ≡ true
    → map (columns_at columns) rows ≡ rows
same_rows columns [] order wide = refl
same_rows columns (row ∷ rows) order wide =
    let width : ℕ = length columns in
    let parts = and_parts (has_width width row) (list_all (has_width width) rows) wide in
    ap (λ (r : Row). r ∷ map (columns_at columns) rows) (same_row columns row order (eqb-true (length row) width parts.0))
    ∙ ap (λ (rs : List Row). row ∷ rs) (same_rows columns rows order parts.1)

pub as_they_are : (outputs : List Expr) (columns : List ℕ) (rows : List Row) → AreColumns outputs columns
    → ((i : ℕ) → i < length columns → get_or columns i 0 ≡ i) → list_all (λ (row : Row). length row == length columns) rows ≡ true
    → project_rows outputs rows ≡ Some rows
as_they_are outputs columns rows are order wide =
    project_columns outputs columns rows are ∙ ap (λ (all : List Row). Some all) (same_rows columns rows order wide)
