-- A query over tables whose rows have the columns alone that masks have.
use Rattle.std.specs.Prelude.{ℕ, Bool, true, List, [], ◌∷◌, ◌++◌, length, take, drop, map, flat_map, replicate, Option, Some, None}
use Rattle.std.specs.Option.{option_map}
use Rattle.span_expr.specs.declared.expr.Expr.{Expr}
use Rattle.span_expr.specs.Places.{moved, rank}
use Rattle.span_query.specs.declared.query.BoundQuery.{BoundQuery}
use Rattle.span_query.specs.declared.query.BoundQuery.TheOpen.{BoundQuery-F}
use Rattle.span_query.specs.declared.query.BoundQuery.TheViews.{roll-BoundQuery}
use Rattle.span_query.specs.declared.query.BoundQuery.TheFolds.{fold-BoundQuery}
use Rattle.span_query.specs.declared.query.Block.{Block}
use Rattle.span_query.specs.declared.query.Grouping.{Grouping}
use Rattle.span_query.specs.declared.query.Aggregate.{Aggregate}
use Rattle.span_query.specs.declared.query.Aggregate.TheVariants.{CountRows, Of}
use Rattle.span_query.specs.declared.query.Item.{Item}
use Rattle.span_query.specs.declared.query.Item.TheVariants as item
use Rattle.span_query.specs.declared.query.Join.{Join}
use Rattle.span_query.specs.Layers.{map_item}
use Rattle.span_query.specs.Rows.{Row}
use Rattle.span_columns.specs.declared.leaf.LeafJoin.{LeafJoin}
use Rattle.span_columns.specs.declared.leaf.Leaf.{Leaf}
use Rattle.span_columns.specs.Picks.{picked, picked_width}

-- ---- what a block reads, with its columns at other places

abbrev pub moved_aggregate : (ℕ → ℕ) → Aggregate → Aggregate
moved_aggregate f CountRows = CountRows
moved_aggregate f (Of function e) = Of function (moved f e)

-- HAVING is evaluated at rows of the groups, whose columns stay
abbrev pub moved_grouping : (ℕ → ℕ) → Grouping → Grouping
moved_grouping f g =
    record { keys = map f g.keys; aggregates = map (moved_aggregate f) g.aggregates; having = g.having }

-- the select list is evaluated at rows of the groups where there are groups
abbrev pub moved_outputs : (ℕ → ℕ) → Option Grouping → List Expr → List Expr
moved_outputs f None outputs = map (moved f) outputs
moved_outputs f (Some g) outputs = outputs

-- ---- queries

-- the number of columns of a query, and the query over rows of the columns that masks have
pub record NarrowQuery : Type 0 where
  pub width : ℕ
  pub query : BoundQuery

-- all columns of a derived table are read
abbrev pub item_columns : (ℕ → List Bool) → Item NarrowQuery → List Bool
item_columns masks (item.Table n) = masks n
item_columns masks (item.Derived q) = replicate q.width true

abbrev pub join_columns : (ℕ → List Bool) → Join NarrowQuery → List Bool
join_columns masks j = item_columns masks j.item

-- the mask of the rows of a FROM
abbrev pub from_columns : (ℕ → List Bool) → Block NarrowQuery → List Bool
from_columns masks b = item_columns masks b.from ++ flat_map (join_columns masks) b.joins

abbrev pub narrow_join : (ℕ → List Bool) → (ℕ → ℕ) → Join NarrowQuery → Join BoundQuery
narrow_join masks f j = record {
  is_left = j.is_left;
  item = map_item (λ (q : NarrowQuery). q.query) j.item;
  width = picked_width (join_columns masks j);
  on = moved f j.on;
}

-- a block with this FROM, whose other parts read columns at other places
abbrev pub moved_block : {Q : Type 0} → (ℕ → ℕ) → Block Q → Item BoundQuery → List (Join BoundQuery) → Block BoundQuery
moved_block f b from joins = record {
  from = from;
  joins = joins;
  filter = option_map (moved f) b.filter;
  grouping = option_map (moved_grouping f) b.grouping;
  outputs = moved_outputs f b.grouping b.outputs;
  is_distinct = b.is_distinct;
}

abbrev pub narrow_with : (ℕ → List Bool) → (ℕ → ℕ) → Block NarrowQuery → Block BoundQuery
narrow_with masks f b =
    moved_block f b (map_item (λ (q : NarrowQuery). q.query) b.from) (map (narrow_join masks f) b.joins)

abbrev pub narrow_block : (ℕ → List Bool) → Block NarrowQuery → Block BoundQuery
narrow_block masks b = narrow_with masks (rank (from_columns masks b)) b

abbrev pub narrow_layer : (ℕ → List Bool) → BoundQuery-F NarrowQuery → NarrowQuery
narrow_layer masks q = record {
  width = length q.first.outputs;
  query = roll-BoundQuery (record {
    first = narrow_block masks q.first;
    others = map (narrow_block masks) q.others;
    order = q.order;
    limit = q.limit;
  });
}

abbrev pub narrow : (ℕ → List Bool) → BoundQuery → NarrowQuery
narrow masks = fold-BoundQuery NarrowQuery (narrow_layer masks)

-- the query over tables whose rows have the columns alone that their masks have
abbrev pub narrowed : (ℕ → List Bool) → BoundQuery → BoundQuery
narrowed masks q = (narrow masks q).query

-- ---- leaves

-- the joins of a leaf over picked rows; the mask is that of its further tables
abbrev pub narrow_joins : (ℕ → ℕ) → List LeafJoin → List Bool → List LeafJoin
narrow_joins f [] ms = []
narrow_joins f (j ∷ joins) ms =
    record { is_left = j.is_left; width = picked_width (take j.width ms); on = moved f j.on }
    ∷ narrow_joins f joins (drop j.width ms)

-- the leaf over tables whose rows have the columns alone that its mask has; the first table has the given number of columns
abbrev pub narrow_leaf : ℕ → Leaf → Leaf
narrow_leaf width leaf = record {
  tables = leaf.tables;
  joins = narrow_joins (rank leaf.reads) leaf.joins (drop width leaf.reads);
  filter = option_map (moved (rank leaf.reads)) leaf.filter;
  range = leaf.range;
  reads = leaf.reads;
  kept = leaf.kept;
}

-- tables, each of whose rows has the columns alone that its mask has
abbrev pub pick_tables : List (List Bool) → List (List Row) → List (List Row)
pick_tables [] tables = tables
pick_tables (ms ∷ mss) [] = []
pick_tables (ms ∷ mss) (rows ∷ tables) = map (picked ms) rows ∷ pick_tables mss tables
