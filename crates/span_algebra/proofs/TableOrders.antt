-- A query that answers the rows of a table as they are, in the order of some keys.
use Rattle.std.proofs.Common.{◌≡◌, ◌∙◌, ℕ, ◌<◌, ◌==◌, ◌&&◌, Bool, true, List, [], ◌∷◌, None, Option, Some, map, length, get_or, refl, ap}
use Rattle.std.specs.List.{AllByRecursion}
use Rattle.std.proofs.lemmas.Bool.{and_parts}
use Rattle.span_query.specs.declared.query.BoundQuery.{BoundQuery}
use Rattle.span_query.specs.declared.query.BoundQuery.TheOpen.{BoundQuery-F}
use Rattle.span_query.specs.declared.query.BoundQuery.TheViews.{out-BoundQuery}
use Rattle.span_query.specs.declared.query.Limit.{Limit}
use Rattle.span_query.specs.declared.query.SortKey.{SortKey}
use Rattle.span_query.specs.Groups.{columns_at}
use Rattle.span_query.specs.Meaning.{limit_rows, meaning_over}
use Rattle.span_query.specs.Rows.{Row, Rows, ◌>>=◌}
use Rattle.span_query.specs.Sorting.{comes_before, sorted}
use Rattle.span_sorting.proofs.Sorting.{all_in_order}
use Rattle.span_algebra.specs.declared.ordered.ColumnOrder.{ColumnOrder}
use Rattle.span_algebra.specs.ColumnOrders.{IsColumnOrder, IsTable, have_width}
use Rattle.span_algebra.proofs.AllValues.{same_rows}
use Rattle.span_algebra.proofs.InOrder.{columns_first, ordered_meaning, rows_of_table}

module _ (width : ℕ) where
  abbrev HasWidth : Row → Type 0
  HasWidth row = (length row == width) ≡ true

  each_wide : (rows : List Row) → have_width width rows ≡ true → AllByRecursion HasWidth rows
  each_wide [] wide = tt
  each_wide (row ∷ rows) wide =
      let parts = and_parts (length row == width) (have_width width rows) wide in
      (parts.0, each_wide rows parts.1)

  all_wide : (rows : List Row) → AllByRecursion HasWidth rows → have_width width rows ≡ true
  all_wide [] all = refl
  all_wide (row ∷ rows) all = ap (λ (b : Bool). b && have_width width rows) all.0 ∙ all_wide rows all.1

  sorted_wide : (keys : List SortKey) (rows : List Row) → have_width width rows ≡ true → have_width width (sorted keys rows) ≡ true
  sorted_wide keys rows wide = all_wide (sorted keys rows) (all_in_order (comes_before keys) HasWidth rows (each_wide rows wide))

pub table_in_order : (query : BoundQuery) (order : ColumnOrder) → IsColumnOrder (out-BoundQuery query) order → IsTable (out-BoundQuery query).first 1
    → (out-BoundQuery query).limit ≡ None → ((i : ℕ) → i < length order.columns.items → get_or order.columns.items i 0 ≡ i)
    → (tables : ℕ → Rows) (rows : List Row) → tables 1 ≡ Some rows → have_width (length order.columns.items) rows ≡ true
    → meaning_over tables query ≡ Some (sorted order.keys.items rows)
table_in_order query order is table none turn tables rows given wide =
    let q : BoundQuery-F BoundQuery = out-BoundQuery query in
    let columns : List ℕ = order.columns.items in
    let keys = order.keys.items in
    let width : ℕ = length columns in
    ordered_meaning tables query order is
    ∙ ap (λ (o : Rows). o >>= (λ some. Some (columns_first q order some))) (rows_of_table tables q.first 1 table ∙ given)
    ∙ ap (λ (limit : Option Limit). Some (map (columns_at columns) (limit_rows limit (sorted keys rows)))) none
    ∙ ap (λ (l : List Row). Some l) (same_rows columns (sorted keys rows) turn (sorted_wide width keys rows wide))
