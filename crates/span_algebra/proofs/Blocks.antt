-- A block is its output from the rows of its FROM, in the order in which the code goes.
use Rattle.std.proofs.Common.{◌≡◌, ◌∙◌, ℕ, Bool, true, List, Option, Some, None, map, refl, sym, ap}
use Rattle.span_expr.specs.declared.expr.Expr.{Expr}
use Rattle.span_query.specs.declared.query.Block.{Block}
use Rattle.span_query.specs.declared.query.BoundQuery.{BoundQuery}
use Rattle.span_query.specs.declared.query.Grouping.{Grouping}
use Rattle.span_query.specs.declared.query.Item.{Item}
use Rattle.span_query.specs.declared.query.Item.TheVariants as item
use Rattle.span_query.specs.declared.query.Join.{Join}
use Rattle.span_query.specs.Layers.{map_block, map_item, map_join}
use Rattle.span_query.specs.Meaning.{block_rows, distinct_if, from}
use Rattle.span_rows.specs.Columns.{distinct_at}
use Rattle.span_sorting.specs.Columns.{AreColumns}
use Rattle.span_sorting.proofs.TakenColumns.{project_columns}
use Rattle.span_query.specs.Rows.{Row, Rows, OrFault, ◌>>=◌, filter_where, project_rows}
use Rattle.span_query.specs.Groups.{groups, group_rows}
use Rattle.span_query.proofs.Results.{bind-Some}
use Rattle.span_algebra.specs.BlockMeaning.{GroupsTable, TakesDistinct, project_groups}
use Rattle.span_algebra.specs.Sources.{HasSameValues}

then_then : {A B C : Type 0} (o : OrFault A) (f : A → OrFault B) (g : B → OrFault C) → (o >>= (λ x. f x >>= g)) ≡ (o >>= f >>= g)
then_then (Some x) f g = refl
then_then None f g = refl

pub without_groups : (filter : Option Expr) (outputs : List Expr) (rows : List Row) → (filter_where filter rows >>= group_rows None >>= project_rows outputs) ≡ (filter_where filter rows >>= project_rows outputs)
without_groups filter outputs rows = ap (λ (o : Rows). o >>= project_rows outputs) (bind-Some (filter_where filter rows))

pub with_groups : (filter : Option Expr) (g : Grouping) (outputs : List Expr) (rows : List Row) → (filter_where filter rows >>= group_rows (Some g) >>= project_rows outputs) ≡ (filter_where filter rows >>= groups g >>= filter_where g.having >>= project_rows outputs)
with_groups filter g outputs rows = ap (λ (o : Rows). o >>= project_rows outputs) (then_then (filter_where filter rows) (groups g) (filter_where g.having))

-- a block that groups all rows of one table, by what the groups of the table's rows are
pub table_grouped : (f : BoundQuery → Rows) (tables : ℕ → Rows) (b : Block BoundQuery) (n : ℕ) (g : Grouping) (o : Rows) → GroupsTable b n g → (tables n >>= groups g) ≡ o
    → block_rows tables (map_block f b) ≡ (o >>= project_groups b g)
table_grouped f tables b n g o h made =
    let last : Rows → Rows = λ p. p >>= project_rows b.outputs >>= (λ rows. Some (distinct_if b.is_distinct rows)) in
    let out : Rows → Option Expr → Option Grouping → Rows = λ p w k. last (p >>= filter_where w >>= group_rows k) in
    ap (λ (i : Item BoundQuery). out (from tables (map_item f i) (map (map_join f) b.joins)) b.filter b.grouping) h.from
    ∙ ap (λ (js : List (Join BoundQuery)). out (from tables (item.Table n) (map (map_join f) js)) b.filter b.grouping) h.joins
    ∙ ap (λ (w : Option Expr). out (tables n) w b.grouping) h.filter
    ∙ ap (λ (k : Option Grouping). out (tables n) None k) h.grouping
    ∙ ap (λ (p : Rows). last (p >>= group_rows (Some g))) (bind-Some (tables n))
    ∙ ap last (then_then (tables n) (groups g) (filter_where g.having) ∙ ap (λ (p : Rows). p >>= filter_where g.having) made)
    ∙ after o
  where
    after : (p : Rows) → (p >>= filter_where g.having >>= project_rows b.outputs >>= (λ rows. Some (distinct_if b.is_distinct rows))) ≡ (p >>= project_groups b g)
    after (Some rows) = refl
    after None = refl

-- a block that takes its select list, columns alone, at all rows of one table, each row of it once
pub table_distinct : (f : BoundQuery → Rows) (tables : ℕ → Rows) (b : Block BoundQuery) (n : ℕ) (columns : List ℕ) → TakesDistinct b n → AreColumns b.outputs columns
    → block_rows tables (map_block f b) ≡ (tables n >>= (λ rows. Some (distinct_at columns rows)))
table_distinct f tables b n columns h are =
    let out : Rows → Option Expr → Option Grouping → Bool → Rows = λ p w k d. p >>= filter_where w >>= group_rows k >>= project_rows b.outputs >>= (λ rows. Some (distinct_if d rows)) in
    ap (λ (i : Item BoundQuery). out (from tables (map_item f i) (map (map_join f) b.joins)) b.filter b.grouping b.is_distinct) h.from
    ∙ ap (λ (js : List (Join BoundQuery)). out (from tables (item.Table n) (map (map_join f) js)) b.filter b.grouping b.is_distinct) h.joins
    ∙ ap (λ (w : Option Expr). out (tables n) w b.grouping b.is_distinct) h.filter
    ∙ ap (λ (k : Option Grouping). out (tables n) None k b.is_distinct) h.grouping
    ∙ ap (λ (d : Bool). out (tables n) None None d) h.distinct
    ∙ each_once (tables n)
  where
    each_once : (o : Rows) → (o >>= filter_where None >>= group_rows None >>= project_rows b.outputs >>= (λ rows. Some (distinct_if true rows))) ≡ (o >>= (λ rows. Some (distinct_at columns rows)))
    each_once None = refl
    each_once (Some rows) = ap (λ (p : Rows). p >>= (λ found. Some (distinct_if true found))) (project_columns b.outputs columns rows are)

-- rows with the same values at the columns, as those of the table
pub same_values : (columns : List ℕ) (rows : List Row) (o : Rows) → HasSameValues columns rows o → (o >>= (λ all. Some (distinct_at columns all))) ≡ Some (distinct_at columns rows)
same_values columns rows None h = absurd h
same_values columns rows (Some all) h = ap (λ (l : List Row). Some l) (sym h)

pub ruleset block_laws = (without_groups, with_groups)
