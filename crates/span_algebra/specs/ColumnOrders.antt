-- Queries whose rows are put in order before the columns of their select list are copied.
use Rattle.std.specs.Prelude.{◌≡◌, ◌==◌, ℕ, Bool, true, false, List, [], None, Some, length}
use Rattle.std.specs.List.{list_all}
use Rattle.span_query.specs.declared.query.Block.{Block}
use Rattle.span_query.specs.declared.query.BoundQuery.{BoundQuery}
use Rattle.span_query.specs.declared.query.BoundQuery.TheOpen.{BoundQuery-F}
use Rattle.span_query.specs.declared.query.Item.TheVariants as item
use Rattle.span_query.specs.Meaning.{meaning_over}
use Rattle.span_query.specs.Rows.{Row, Rows}
use Rattle.span_query.specs.Sorting.{sorted}
use Rattle.span_sorting.specs.Columns.{AreColumns, AreKeysOver}
use Rattle.span_algebra.specs.declared.ordered.ColumnOrder.{ColumnOrder}
use Rattle.span_algebra.specs.declared.ordered.TableOrder.{TableOrder}

-- the query is one SELECT, whose select list is taken at each row of its FROM where its condition is TRUE
pub record TakesRows {Q : Type 0} (q : BoundQuery-F Q) : Type 0 where
  pub others : q.others ≡ []
  pub grouping : q.first.grouping ≡ None
  pub distinct : q.first.is_distinct ≡ false

-- the same, and the select list is these columns, and these are its keys as keys of the rows of the FROM
pub record IsColumnOrder {Q : Type 0} (q : BoundQuery-F Q) (order : ColumnOrder) : Type 0 where
  pub takes : TakesRows q
  pub columns : AreColumns q.first.outputs order.columns.items
  pub keys : AreKeysOver order.columns.items q.order order.keys.items

-- the block takes all rows of one table
pub record IsTable {Q : Type 0} (b : Block Q) (number : ℕ) : Type 0 where
  pub from : b.from ≡ item.Table number
  pub joins : b.joins ≡ []
  pub filter : b.filter ≡ None

-- each row has a number of values
abbrev pub have_width : ℕ → List Row → Bool
have_width width rows = list_all (λ (row : Row). length row == width) rows

-- the query means the rows of the first table in the order of the keys, where each of them has the width
abbrev pub IsTableOrder : BoundQuery → TableOrder → Type 0
IsTableOrder query order =
    (tables : ℕ → Rows) (rows : List Row) → tables 1 ≡ Some rows → have_width order.width rows ≡ true
    → meaning_over tables query ≡ Some (sorted order.keys.items rows)
