-- The leaves of a FROM.
use Rattle.std.specs.Prelude.{ℕ, zero, suc, ◌+◌, ◌-◌, ◌==◌, Bool, true, false, ◌&&◌, List, [], ◌∷◌, length, take, drop, map, Option, slice_get, if◌then◌else◌}
use Rattle.std.specs.List.{range_with_len}
use Rattle.std.specs.Option.{unwrap_or}
use Rattle.span_schema.specs.declared.table.Table.{Table}
use Rattle.span_schema.specs.Numbers.{root_of, columns_of, key_columns, key_places}
use Rattle.span_expr.specs.declared.expr.Expr.{Expr}
use Rattle.span_expr.specs.Conjuncts.{all_true}
use Rattle.span_expr.specs.Places.{moved}
use Rattle.span_query.specs.declared.query.Block.{Block}
use Rattle.span_query.specs.declared.query.Item.{Item}
use Rattle.span_query.specs.declared.query.Item.TheVariants as item
use Rattle.span_query.specs.declared.query.Join.{Join}
use Rattle.span_columns.specs.declared.leaf.LeafJoin.{LeafJoin}
use Rattle.span_columns.specs.declared.leaf.Leaf.{Leaf}
use Rattle.span_leaves.specs.Conditions.{equates_all, pushable, conjuncts_on}
use Rattle.span_leaves.specs.Ranges.{leaf_range}
use Rattle.span_columns.specs.Reads.{is_read, block_above}

-- ---- tables

-- the table of an item, by its number in the schema; items have the numbers of the statement's tables, the first of which is 1
abbrev pub table_of : List ℕ → ℕ → ℕ
table_of tables zero = 0
table_of tables (suc n) = unwrap_or (slice_get tables n) 0

abbrev pub width_of : List Table → ℕ → ℕ
width_of schema table = length (columns_of schema table)

-- the places of the root table's key columns among the columns of a table of the family
abbrev pub root_places : List Table → ℕ → List ℕ
root_places schema table = take (length (key_columns schema (root_of schema table))) (key_places schema table)

-- ---- the first leaf of a FROM that begins with a table

-- A table joins the leaf where it is of the same family as the leaf's first table, and its ON equates each column of the root table's key with the
-- same column of that table. Its own columns begin at a place.
abbrev pub is_joined_table : List Table → ℕ → ℕ → Expr → ℕ → Bool
is_joined_table schema first at on table = (root_of schema first == root_of schema table)
    && equates_all on (root_places schema first) at (root_places schema table)

abbrev pub is_joined : {Q : Type 0} → List Table → List ℕ → ℕ → ℕ → Expr → Item Q → Bool
is_joined schema tables first at on (item.Table n) = is_joined_table schema first at on (table_of tables n)
is_joined schema tables first at on (item.Derived q) = false

-- how many of the items after the first table belong to its leaf
abbrev pub leaf_len : {Q : Type 0} → List Table → List ℕ → ℕ → ℕ → List (Join Q) → ℕ
leaf_len schema tables first at [] = 0
leaf_len schema tables first at (j ∷ joins) =
    if is_joined schema tables first at j.on j.item then suc (leaf_len schema tables first (at + j.width) joins) else 0

abbrev pub leaf_join : {Q : Type 0} → Join Q → LeafJoin
leaf_join j = record { is_left = j.is_left; width = j.width; on = j.on }

abbrev pub item_table : {Q : Type 0} → List ℕ → Item Q → ℕ
item_table tables (item.Table n) = table_of tables n
item_table tables (item.Derived q) = 0

abbrev pub join_table : {Q : Type 0} → List ℕ → Join Q → ℕ
join_table tables j = item_table tables j.item

-- the number of columns of items
abbrev pub widths : {Q : Type 0} → List (Join Q) → ℕ
widths [] = 0
widths (j ∷ joins) = j.width + widths joins

-- the columns of the rows of a FROM, whose first item has the given number of columns: TRUE at those that the block reads
abbrev pub reads_of : {Q : Type 0} → ℕ → Block Q → List Bool
reads_of width b = map (is_read b) (range_with_len 0 (width + widths b.joins))

-- the first columns of a FROM, those of a leaf that takes the first joins: TRUE at those that are read by what is left of the block above it
abbrev pub kept_of : {Q : Type 0} → Block Q → ℕ → ℕ → List Bool
kept_of b len width = map (is_read (block_above b len)) (range_with_len 0 width)

-- Where these items are the whole FROM, the leaf evaluates the whole WHERE.
abbrev pub first_filter : {Q : Type 0} → Block Q → ℕ → ℕ → List Expr → Option Expr
first_filter b len width es = if len == length b.joins then b.filter else all_true (conjuncts_on 0 width es)

-- the first table and the given number of items after it
abbrev pub first_leaf : {Q : Type 0} → List Table → List ℕ → Block Q → ℕ → ℕ → Leaf
first_leaf schema tables b table len = record {
  tables = table ∷ map (join_table tables) (take len b.joins);
  joins = map leaf_join (take len b.joins);
  filter = first_filter b len (width_of schema table + widths (take len b.joins)) (pushable b);
  range = leaf_range schema table 0 (pushable b);
  reads = take (width_of schema table + widths (take len b.joins)) (reads_of (width_of schema table) b);
  kept = kept_of b len (width_of schema table + widths (take len b.joins));
}

-- ---- the other leaves

-- A table alone, whose columns begin at a place: its rows are left out by the conjuncts on its columns, which are evaluated at its own row. Which
-- columns of the FROM are read is handed in; those of the table leave the leaf, since the ON of its join and the WHERE are evaluated above it.
abbrev pub table_leaf : List Table → ℕ → List Bool → ℕ → ℕ → List Expr → Leaf
table_leaf schema table rs at width es = record {
  tables = table ∷ [];
  joins = [];
  filter = all_true (map (moved (λ place. place - at)) (conjuncts_on at (at + width) es));
  range = leaf_range schema table at es;
  reads = take width (drop at rs);
  kept = take width (drop at rs);
}

-- no conjunct leaves out rows of the right side of a LEFT JOIN
abbrev pub unless_left : Bool → List Expr → List Expr
unless_left true es = []
unless_left false es = es
