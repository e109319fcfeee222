-- Rows are put in order before or after their columns are taken.
use Rattle.std.proofs.Common.{◌≡◌, refl, ap, ◌∙◌, ℕ, Bool, List, [], ◌∷◌, map, Option, Some, None, take, drop}
use Rattle.std.specs.Prelude.{slice_get, option_map}
use Rattle.std.specs.declared.cmp.Ordering.{Ordering}
use Rattle.std.specs.Ordering.{is_lt}
use Rattle.std.proofs.lemmas.List.{take-map, drop-map}
use Rattle.std.proofs.lemmas.Option.{slice_get-map}
use Rattle.span_value.specs.declared.value.Value.{Value}
use Rattle.span_value.specs.Orders.{value_order}
use Rattle.span_expr.specs.declared.expr.Expr.{Expr}
use Rattle.span_expr.specs.Forms.{as_column}
use Rattle.span_expr.specs.Operators.{column_of, or_null}
use Rattle.span_expr.proofs.Equalities.{val-column}
use Rattle.span_query.specs.declared.query.SortKey.{SortKey}
use Rattle.span_query.specs.declared.query.Limit.{Limit}
use Rattle.span_query.specs.Rows.{Row, OrFault, append_results, singleton, value_of, values, project_rows}
use Rattle.span_query.specs.Groups.{columns_at}
use Rattle.span_query.specs.Meaning.{limit_rows}
use Rattle.span_query.specs.Sorting.{reverse_if, or_next, key_order, row_order, comes_before, sorted}
use Rattle.span_sorting.specs.Columns.{AreColumns, AreKeysOver, key_over}
use Rattle.span_sorting.proofs.Sorting.{sorted_map}

-- ---- the select list

values_of_columns : (outputs : List Expr) (columns : List ℕ) (row : Row) → AreColumns outputs columns → values outputs row ≡ Some (columns_at columns row)
values_of_columns [] [] row is = refl
values_of_columns [] (c ∷ columns) row is = absurd (let e : [] ≡ Some c ∷ map (λ column. Some column) columns = is in cc)
values_of_columns (e ∷ outputs) [] row is = absurd (let f : as_column e ∷ map as_column outputs ≡ [] = is in cc)
values_of_columns (e ∷ outputs) (c ∷ columns) row is =
    let both : as_column e ∷ map as_column outputs ≡ Some c ∷ map (λ column. Some column) columns = is in
    let first : as_column e ≡ Some c = cc in
    let rest : AreColumns outputs columns = cc in
    ap (λ o. append_results (option_map singleton (value_of o)) (values outputs row)) (val-column row e c first)
    ∙ ap (append_results (Some (column_of row c ∷ []))) (values_of_columns outputs columns row rest)

pub project_columns : (outputs : List Expr) (columns : List ℕ) (rows : List Row) → AreColumns outputs columns → project_rows outputs rows ≡ Some (map (columns_at columns) rows)
project_columns outputs columns [] is = refl
project_columns outputs columns (row ∷ rows) is =
    ap (λ (o : OrFault Row). append_results (option_map singleton o) (project_rows outputs rows)) (values_of_columns outputs columns row is)
    ∙ ap (append_results (Some (columns_at columns row ∷ []))) (project_columns outputs columns rows is)

-- ---- the keys

module _ (columns : List ℕ) where
  column_taken : (row : Row) (k c : ℕ) → slice_get columns k ≡ Some c → column_of (columns_at columns row) k ≡ column_of row c
  column_taken row k c is = ap or_null (slice_get-map (column_of row) columns k ∙ ap (option_map (column_of row)) is)

  found_column : (key moved : SortKey) (o : Option ℕ) → slice_get columns key.column ≡ o
      → option_map (λ (column : ℕ). record { column = column; is_descending = key.is_descending }) o ≡ Some moved
      → (slice_get columns key.column ≡ Some moved.column) × (key.is_descending ≡ moved.is_descending)
  found_column key moved None is e = absurd (let f : None ≡ Some moved = e in cc)
  found_column key moved (Some c) is e =
      let f : Some (record { column = c; is_descending = key.is_descending }) ≡ Some moved = e in
      let same : record { column = c; is_descending = key.is_descending } ≡ moved = cc in
      (is ∙ ap (λ (k : SortKey). Some k.column) same, ap (λ (k : SortKey). k.is_descending) same)

  key_taken : (key moved : SortKey) (r s : Row) → key_over columns key ≡ Some moved → key_order key (columns_at columns r) (columns_at columns s) ≡ key_order moved r s
  key_taken key moved r s e =
      let found = found_column key moved (slice_get columns key.column) refl e in
      ap (λ (v : Value). reverse_if key.is_descending (value_order v (column_of (columns_at columns s) key.column))) (column_taken r key.column moved.column found.0)
      ∙ ap (λ (v : Value). reverse_if key.is_descending (value_order (column_of r moved.column) v)) (column_taken s key.column moved.column found.0)
      ∙ ap (λ (b : Bool). reverse_if b (value_order (column_of r moved.column) (column_of s moved.column))) found.1

  order_taken : (keys moved : List SortKey) (r s : Row) → AreKeysOver columns keys moved → row_order keys (columns_at columns r) (columns_at columns s) ≡ row_order moved r s
  order_taken [] [] r s is = refl
  order_taken [] (m ∷ moved) r s is = absurd (let e : [] ≡ Some m ∷ map (λ key. Some key) moved = is in cc)
  order_taken (key ∷ keys) [] r s is = absurd (let e : key_over columns key ∷ map (key_over columns) keys ≡ [] = is in cc)
  order_taken (key ∷ keys) (m ∷ moved) r s is =
      let both : key_over columns key ∷ map (key_over columns) keys ≡ Some m ∷ map (λ key. Some key) moved = is in
      let first : key_over columns key ≡ Some m = cc in
      let rest : AreKeysOver columns keys moved = cc in
      ap (λ (o : Ordering). or_next o (row_order keys (columns_at columns r) (columns_at columns s))) (key_taken key m r s first)
      ∙ ap (or_next (key_order m r s)) (order_taken keys moved r s rest)

-- ---- sorting

limit_map : (p : Row → Row) (limit : Option Limit) (rows : List Row) → limit_rows limit (map p rows) ≡ map p (limit_rows limit rows)
limit_map p None rows = refl
limit_map p (Some l) rows = ap (take l.rows) (drop-map p l.skip rows) ∙ take-map p l.rows (drop l.skip rows)

-- the columns of the rows in order are the rows of these columns in order, and so is what LIMIT leaves
pub columns_in_order : (columns : List ℕ) (keys moved : List SortKey) (limit : Option Limit) (rows : List Row) → AreKeysOver columns keys moved
    → limit_rows limit (sorted keys (map (columns_at columns) rows)) ≡ map (columns_at columns) (limit_rows limit (sorted moved rows))
columns_in_order columns keys moved limit rows is =
    ap (limit_rows limit) (sorted_map (columns_at columns) (comes_before keys) (comes_before moved) (λ r s. ap is_lt (order_taken columns keys moved r s is)) rows)
    ∙ limit_map (columns_at columns) limit (sorted moved rows)
