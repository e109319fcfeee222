-- What a query means whose rows are put in order before the columns of its select list are copied.
use Rattle.std.proofs.Common.{◌≡◌, ◌∙◌, refl, ap, sym, ℕ, Bool, false, List, [], map, Option, Some, None, Err}
use Rattle.std.specs.Prelude.{IfSome}
use Rattle.std.proofs.lemmas.List.{append-nil}
use Rattle.span_expr.specs.declared.expr.Expr.{Expr}
use Rattle.span_query.specs.declared.query.Block.{Block}
use Rattle.span_query.specs.declared.query.BoundQuery.{BoundQuery}
use Rattle.span_query.specs.declared.query.BoundQuery.TheOpen.{BoundQuery-F}
use Rattle.span_query.specs.declared.query.BoundQuery.TheViews.{out-BoundQuery}
use Rattle.span_query.specs.declared.query.Grouping.{Grouping}
use Rattle.span_query.specs.declared.query.Item.{Item}
use Rattle.span_query.specs.declared.query.Item.TheVariants as item
use Rattle.span_query.specs.declared.query.Join.{Join}
use Rattle.span_query.specs.Groups.{columns_at, group_rows}
use Rattle.span_query.specs.Layers.{map_block, map_item, map_join, map_layer}
use Rattle.span_query.specs.Meaning.{block_rows, distinct_if, from, item_rows, limit_rows, meaning_over, query_rows}
use Rattle.span_query.specs.Rows.{Row, Rows, ◌>>=◌, append_results, concat_map, filter_where, project_rows}
use Rattle.span_query.specs.Sorting.{sorted}
use Rattle.span_expr.specs.declared.cell.Failure.{Failure}
use Rattle.span_expr.specs.declared.cell.Failure.TheVariants.{Fault, OutOfMemory}
use Rattle.span_conditions.specs.Answers.{Gives}
use Rattle.span_sorting.proofs.Limits.{IsNeededBy, limit_of_first}
use Rattle.span_sorting.proofs.TakenColumns.{project_columns, columns_in_order}
use Rattle.span_algebra.specs.declared.ordered.ColumnOrder.{ColumnOrder}
use Rattle.span_algebra.specs.ColumnOrders.{IsColumnOrder, IsTable}
use Rattle.span_algebra.specs.Sources.{GivesRows, SortsAs}
use Rattle.span_algebra.proofs.Derived.{joins-fail, meaning_is}

-- the rows of the FROM of a block
abbrev pub rows_from : (ℕ → Rows) → Block BoundQuery → Rows
rows_from tables b = from tables (map_item (meaning_over tables) b.from) (map (map_join (meaning_over tables)) b.joins)

-- those at which its condition is TRUE
abbrev pub rows_where : (ℕ → Rows) → Block BoundQuery → Rows
rows_where tables b = rows_from tables b >>= filter_where b.filter

-- the columns of the rows in order
abbrev pub columns_first : BoundQuery-F BoundQuery → ColumnOrder → List Row → List Row
columns_first q order rows = map (columns_at order.columns.items) (limit_rows q.limit (sorted order.keys.items rows))

module _ (tables : ℕ → Rows) (q : BoundQuery-F BoundQuery) (order : ColumnOrder) (h : IsColumnOrder q order) where
  abbrev last : Rows → Rows
  last found = found >>= (λ rows. Some (limit_rows q.limit (sorted q.order rows)))

  abbrev output : Rows → Option Grouping → Bool → Rows
  output o grouping distinct = o >>= group_rows grouping >>= project_rows q.first.outputs >>= (λ rows. Some (distinct_if distinct rows))

  abbrev whole : Rows → List (Block BoundQuery) → Rows
  whole found others = last (append_results found (concat_map (block_rows tables) (map (map_block (meaning_over tables)) others)))

  abbrev answer : Rows → Rows
  answer o = o >>= project_rows q.first.outputs >>= (λ rows. Some (distinct_if false rows))

  after : (o : Rows) → whole (answer o) [] ≡ (o >>= (λ rows. Some (columns_first q order rows)))
  after None = refl
  after (Some rows) =
      ap (λ (p : Rows). last (append_results (p >>= (λ found. Some (distinct_if false found))) (Some []))) (project_columns q.first.outputs order.columns.items rows h.columns)
      ∙ ap (λ (l : List Row). Some (limit_rows q.limit (sorted q.order l))) (append-nil (map (columns_at order.columns.items) rows))
      ∙ ap (λ (l : List Row). Some l) (columns_in_order order.columns.items q.order order.keys.items q.limit rows h.keys)

  ungrouped : (o : Rows) → whole (output o None false) [] ≡ whole (answer o) []
  ungrouped None = refl
  ungrouped (Some rows) = refl

  query_in_order : query_rows tables (map_layer (meaning_over tables) q) ≡ (rows_where tables q.first >>= (λ rows. Some (columns_first q order rows)))
  query_in_order =
      ap (whole (output (rows_where tables q.first) q.first.grouping q.first.is_distinct)) h.takes.others
      ∙ ap (λ (k : Option Grouping). whole (output (rows_where tables q.first) k q.first.is_distinct) []) h.takes.grouping
      ∙ ap (λ (d : Bool). whole (output (rows_where tables q.first) None d) []) h.takes.distinct
      ∙ ungrouped (rows_where tables q.first)
      ∙ after (rows_where tables q.first)

-- by the rows of its FROM at which its condition is TRUE
pub ordered_meaning : (tables : ℕ → Rows) (q : BoundQuery) (order : ColumnOrder) → IsColumnOrder (out-BoundQuery q) order
    → meaning_over tables q ≡ (rows_where tables (out-BoundQuery q).first >>= (λ rows. Some (columns_first (out-BoundQuery q) order rows)))
ordered_meaning tables q order h = meaning_is tables q ∙ query_in_order tables (out-BoundQuery q) order h

all_rows : (o : Rows) → (o >>= filter_where None) ≡ o
all_rows None = refl
all_rows (Some rows) = refl

-- of one table, these are the rows of the table
pub rows_of_table : (tables : ℕ → Rows) (b : Block BoundQuery) (n : ℕ) → IsTable b n → rows_where tables b ≡ tables n
rows_of_table tables b n h =
    ap (λ (i : Item BoundQuery). from tables (map_item (meaning_over tables) i) (map (map_join (meaning_over tables)) b.joins) >>= filter_where b.filter) h.from
    ∙ ap (λ (js : List (Join BoundQuery)). from tables (item.Table n) (map (map_join (meaning_over tables)) js) >>= filter_where b.filter) h.joins
    ∙ ap (λ (w : Option Expr). tables n >>= filter_where w) h.filter
    ∙ all_rows (tables n)

-- rows of which the first that LIMIT needs are those of the FROM once sorted, put in order
pub sorts_columns : (q : BoundQuery-F BoundQuery) (order : ColumnOrder) (count : Option ℕ) (rows : List Row) (o : Rows)
    → IfSome count (IsNeededBy q.limit) → SortsAs order.keys.items count rows o
    → (o >>= (λ found. Some (columns_first q order found))) ≡ Some (columns_first q order rows)
sorts_columns q order count rows None needed h = absurd h
sorts_columns q order count rows (Some all) needed h =
    ap (λ (l : List Row). Some (map (columns_at order.columns.items) l))
    (sym (limit_of_first q.limit count (sorted order.keys.items all) needed)
    ∙ ap (limit_rows q.limit) (sym h)
    ∙ limit_of_first q.limit count (sorted order.keys.items rows) needed)

-- where the FROM fails, the query does
pub ordered_fails : (why : Failure) (tables : ℕ → Rows) (q : BoundQuery) (order : ColumnOrder) → IsColumnOrder (out-BoundQuery q) order
    → GivesRows (Err why) (rows_from tables (out-BoundQuery q).first) → Gives {A = List Row} (Err why) (meaning_over tables q)
ordered_fails Fault tables q order h gives =
    ordered_meaning tables q order h
    ∙ ap (λ (o : Rows). o >>= filter_where (out-BoundQuery q).first.filter >>= (λ rows. Some (columns_first (out-BoundQuery q) order rows))) gives
ordered_fails OutOfMemory tables q order h gives = tt {0}

-- where the condition fails at a row of the FROM, the query does
pub condition_fails : (why : Failure) (tables : ℕ → Rows) (q : BoundQuery) (order : ColumnOrder) (rows : List Row) → IsColumnOrder (out-BoundQuery q) order
    → rows_from tables (out-BoundQuery q).first ≡ Some rows → Gives {A = List Row} (Err why) (filter_where (out-BoundQuery q).first.filter rows)
    → Gives {A = List Row} (Err why) (meaning_over tables q)
condition_fails Fault tables q order rows h made gives =
    ordered_meaning tables q order h
    ∙ ap (λ (o : Rows). o >>= filter_where (out-BoundQuery q).first.filter >>= (λ some. Some (columns_first (out-BoundQuery q) order some))) made
    ∙ ap (λ (o : Rows). o >>= (λ some. Some (columns_first (out-BoundQuery q) order some))) gives
condition_fails OutOfMemory tables q order rows h made gives = tt {0}

-- the columns, in order, of the rows at which the condition is TRUE
pub ordered_where : (tables : ℕ → Rows) (q : BoundQuery) (order : ColumnOrder) (rows kept : List Row) → IsColumnOrder (out-BoundQuery q) order
    → rows_from tables (out-BoundQuery q).first ≡ Some rows → filter_where (out-BoundQuery q).first.filter rows ≡ Some kept
    → meaning_over tables q ≡ Some (columns_first (out-BoundQuery q) order kept)
ordered_where tables q order rows kept h made keeps =
    ordered_meaning tables q order h
    ∙ ap (λ (o : Rows). o >>= filter_where (out-BoundQuery q).first.filter >>= (λ some. Some (columns_first (out-BoundQuery q) order some))) made
    ∙ ap (λ (o : Rows). o >>= (λ some. Some (columns_first (out-BoundQuery q) order some))) keeps

pub first_fails : (why : Failure) (tables : ℕ → Rows) (b : Block BoundQuery)
    → GivesRows (Err why) (item_rows tables (map_item (meaning_over tables) b.from)) → GivesRows (Err why) (rows_from tables b)
first_fails Fault tables b gives = joins-fail Fault tables (item_rows tables (map_item (meaning_over tables) b.from)) (map (map_join (meaning_over tables)) b.joins) gives
first_fails OutOfMemory tables b gives = tt {0}
