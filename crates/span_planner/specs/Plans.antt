-- The plan of a query: its leaves, and the query above them.
use Rattle.std.specs.Prelude.{ℕ, ◌+◌, Bool, List, [], ◌∷◌, ◌++◌, length, take, drop, Option, flat_map}
use Rattle.span_schema.specs.declared.table.Table.{Table}
use Rattle.span_expr.specs.declared.expr.Expr.{Expr}
use Rattle.span_query.specs.declared.query.BoundQuery.{BoundQuery}
use Rattle.span_query.specs.declared.query.BoundQuery.TheOpen.{BoundQuery-F}
use Rattle.span_query.specs.declared.query.BoundQuery.TheFolds.{fold-BoundQuery}
use Rattle.span_query.specs.declared.query.BoundQuery.TheViews.{roll-BoundQuery}
use Rattle.span_query.specs.declared.query.Block.{Block}
use Rattle.span_query.specs.declared.query.Item.{Item}
use Rattle.span_query.specs.declared.query.Item.TheVariants as item
use Rattle.span_query.specs.declared.query.Join.{Join}
use Rattle.span_columns.specs.declared.leaf.Leaf.{Leaf}
use Rattle.span_columns.specs.declared.leaf.Plan.{Plan}
use Rattle.span_leaves.specs.Conditions.{pushable}
use Rattle.span_leaves.specs.Leaves.{table_of, width_of, leaf_len, widths, reads_of, first_leaf, table_leaf, unless_left}
use Rattle.span_columns.specs.Narrow.{narrowed}
use Rattle.span_columns.specs.Reads.{filter_above, masks_of}

-- ---- the leaves

-- a query with its derived tables planned: the number of its columns, its leaves, and the query above them, after the given number of leaves
pub record Planned : Type 0 where
  pub width : ℕ
  pub leaves : List Leaf
  pub top : ℕ → BoundQuery

abbrev pub join_leaves : List Table → List ℕ → List Bool → ℕ → List Expr → Bool → ℕ → Item Planned → List Leaf
join_leaves schema tables rs at es is_left width (item.Table n) =
    table_leaf schema (table_of tables n) rs at width (unless_left is_left es) ∷ []
join_leaves schema tables rs at es is_left width (item.Derived p) = p.leaves

-- the leaves of items after a first leaf or a derived table, where their columns begin at a place
abbrev pub rest_leaves : List Table → List ℕ → List Bool → List Expr → ℕ → List (Join Planned) → List Leaf
rest_leaves schema tables rs es at [] = []
rest_leaves schema tables rs es at (j ∷ joins) =
    join_leaves schema tables rs at es j.is_left j.width j.item ++ rest_leaves schema tables rs es (at + j.width) joins

abbrev pub leaves_from : List Table → List ℕ → Block Planned → Item Planned → List Leaf
leaves_from schema tables b (item.Table n) =
    let table = table_of tables n in
    let len = leaf_len schema tables table (width_of schema table) b.joins in
    first_leaf schema tables b table len ∷ rest_leaves schema tables (reads_of (width_of schema table) b) (pushable b)
    (width_of schema table + widths (take len b.joins)) (drop len b.joins)
leaves_from schema tables b (item.Derived p) =
    p.leaves ++ rest_leaves schema tables (reads_of p.width b) (pushable b) p.width b.joins

abbrev pub block_leaves : List Table → List ℕ → Block Planned → List Leaf
block_leaves schema tables b = leaves_from schema tables b b.from

-- ---- the query above the leaves

-- an item, after the given number of leaves
abbrev pub top_item : ℕ → Item Planned → Item BoundQuery
top_item before (item.Table n) = item.Table (before + 1)
top_item before (item.Derived p) = item.Derived (p.top before)

abbrev pub count_leaves : Item Planned → ℕ
count_leaves (item.Table n) = 1
count_leaves (item.Derived p) = length p.leaves

abbrev pub top_join : ℕ → Join Planned → Join BoundQuery
top_join before j = record { is_left = j.is_left; item = top_item before j.item; width = j.width; on = j.on }

abbrev pub top_joins : ℕ → List (Join Planned) → List (Join BoundQuery)
top_joins before [] = []
top_joins before (j ∷ joins) = top_join before j ∷ top_joins (before + count_leaves j.item) joins

-- the block with these items and this WHERE
abbrev pub with_from : {Q : Type 0} → Block Q → Item BoundQuery → List (Join BoundQuery) → Option Expr
    → Block BoundQuery
with_from b from joins filter = record {
  from = from;
  joins = joins;
  filter = filter;
  grouping = b.grouping;
  outputs = b.outputs;
  is_distinct = b.is_distinct;
}

abbrev pub top_from : List Table → List ℕ → ℕ → Block Planned → Item Planned → Block BoundQuery
top_from schema tables before b (item.Table n) =
    let table = table_of tables n in
    let len = leaf_len schema tables table (width_of schema table) b.joins in
    with_from b (item.Table (before + 1)) (top_joins (before + 1) (drop len b.joins)) (filter_above b len)
top_from schema tables before b (item.Derived p) =
    with_from b (item.Derived (p.top before)) (top_joins (before + length p.leaves) b.joins) b.filter

abbrev pub top_block : List Table → List ℕ → ℕ → Block Planned → Block BoundQuery
top_block schema tables before b = top_from schema tables before b b.from

abbrev pub top_blocks : List Table → List ℕ → ℕ → List (Block Planned) → List (Block BoundQuery)
top_blocks schema tables before [] = []
top_blocks schema tables before (b ∷ blocks) =
    top_block schema tables before b ∷ top_blocks schema tables (before + length (block_leaves schema tables b)) blocks

abbrev pub top_query : List Table → List ℕ → BoundQuery-F Planned → ℕ → BoundQuery
top_query schema tables q before = roll-BoundQuery (record {
  first = top_block schema tables before q.first;
  others = top_blocks schema tables (before + length (block_leaves schema tables q.first)) q.others;
  order = q.order;
  limit = q.limit;
})

-- ---- queries

abbrev pub planned_query : List Table → List ℕ → BoundQuery-F Planned → Planned
planned_query schema tables q = record {
  width = length q.first.outputs;
  leaves = flat_map (block_leaves schema tables) (q.first ∷ q.others);
  top = top_query schema tables q;
}

-- a query on these tables of the schema, planned
abbrev pub planned : List Table → List ℕ → BoundQuery → Planned
planned schema tables = fold-BoundQuery Planned (planned_query schema tables)

-- the leaves of a query, in the order of their first tables in the query text
abbrev pub leaves_of : List Table → List ℕ → BoundQuery → List Leaf
leaves_of schema tables q = (planned schema tables q).leaves

-- the query above them, where they give all columns of their tables
abbrev pub top_of : List Table → List ℕ → BoundQuery → BoundQuery
top_of schema tables q = (planned schema tables q).top 0

-- the leaves give the columns alone that the query above them reads
abbrev pub plan_of : List Table → List ℕ → BoundQuery → Plan
plan_of schema tables q = record {
  leaves = leaves_of schema tables q;
  top = narrowed (masks_of (leaves_of schema tables q)) (top_of schema tables q);
}
