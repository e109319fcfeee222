-- Which columns of a row are read by the expressions of a query, and queries that read only what masks of their tables have.
use Rattle.std.specs.Prelude.{ℕ, zero, suc, ◌+◌, ◌==◌, Bool, true, false, not, ◌&&◌, List, [], ◌∷◌, ◌++◌, length, take, drop, map, flat_map, replicate, slice_get, Option, Some, None, if◌then◌else◌}
use Rattle.std.specs.List.{list_all}
use Rattle.std.specs.Option.{unwrap_or}
use Rattle.span_expr.specs.declared.expr.Expr.{Expr}
use Rattle.span_expr.specs.Places.{reads_only}
use Rattle.span_query.specs.declared.query.BoundQuery.{BoundQuery}
use Rattle.span_query.specs.declared.query.BoundQuery.TheOpen.{BoundQuery-F}
use Rattle.span_query.specs.declared.query.BoundQuery.TheFolds.{fold-BoundQuery}
use Rattle.span_query.specs.declared.query.Block.{Block}
use Rattle.span_query.specs.declared.query.Grouping.{Grouping}
use Rattle.span_query.specs.declared.query.Aggregate.{Aggregate}
use Rattle.span_query.specs.declared.query.Aggregate.TheVariants.{CountRows, Of}
use Rattle.span_query.specs.declared.query.Item.{Item}
use Rattle.span_query.specs.declared.query.Item.TheVariants as item
use Rattle.span_query.specs.declared.query.Join.{Join}
use Rattle.span_columns.specs.declared.leaf.LeafJoin.{LeafJoin}
use Rattle.span_columns.specs.declared.leaf.Leaf.{Leaf}

-- ---- masks

-- the mask has the place; after its end there is no column, and so nothing to have
abbrev pub has_place : List Bool → ℕ → Bool
has_place [] place = true
has_place (m ∷ ms) zero = m
has_place (m ∷ ms) (suc place) = has_place ms place

-- an expression reads only columns that the mask has
abbrev pub reads_within : List Bool → Expr → Bool
reads_within ms = reads_only (has_place ms)

-- ---- what a block reads of the rows of its FROM

abbrev pub condition_reads : (ℕ → Bool) → Option Expr → Bool
condition_reads test None = true
condition_reads test (Some e) = reads_only test e

abbrev pub on_reads : {Q : Type 0} → (ℕ → Bool) → Join Q → Bool
on_reads test j = reads_only test j.on

-- COUNT(*) reads no column
abbrev pub aggregate_reads : (ℕ → Bool) → Aggregate → Bool
aggregate_reads test CountRows = true
aggregate_reads test (Of f e) = reads_only test e

-- the select list, or the keys and the aggregates, at whose rows HAVING and the select list of a grouped block are evaluated
abbrev pub selection_reads : (ℕ → Bool) → Option Grouping → List Expr → Bool
selection_reads test None outputs = list_all (reads_only test) outputs
selection_reads test (Some g) outputs = list_all test g.keys && list_all (aggregate_reads test) g.aggregates

-- each column of the FROM that a block reads passes the test
abbrev pub block_reads : {Q : Type 0} → (ℕ → Bool) → Block Q → Bool
block_reads test b =
    list_all (on_reads test) b.joins && condition_reads test b.filter && selection_reads test b.grouping b.outputs

-- any place but this one
abbrev pub is_not : ℕ → ℕ → Bool
is_not place k = not (k == place)

-- a block reads the column at a place of its FROM
abbrev pub is_read : {Q : Type 0} → Block Q → ℕ → Bool
is_read b place = not (block_reads (is_not place) b)

-- ---- what is left of a block above its first leaf, which takes the first joins

-- no WHERE where the leaf takes all joins, since the leaf evaluates it
abbrev pub filter_above : {Q : Type 0} → Block Q → ℕ → Option Expr
filter_above b len = if len == length b.joins then None else b.filter

-- the block without these joins, whose ONs the leaf evaluates
abbrev pub block_above : {Q : Type 0} → Block Q → ℕ → Block Q
block_above b len = record {
  from = b.from;
  joins = drop len b.joins;
  filter = filter_above b len;
  grouping = b.grouping;
  outputs = b.outputs;
  is_distinct = b.is_distinct;
}

-- ---- leaves

-- the number of columns of further tables of a leaf
abbrev pub leaf_widths : List LeafJoin → ℕ
leaf_widths [] = 0
leaf_widths (j ∷ joins) = j.width + leaf_widths joins

abbrev pub leaf_on_reads : (ℕ → Bool) → LeafJoin → Bool
leaf_on_reads test j = reads_only test j.on

-- each column that the leaf's ONs and its condition read passes the test
abbrev pub leaf_reads : (ℕ → Bool) → List LeafJoin → Option Expr → Bool
leaf_reads test joins filter = list_all (leaf_on_reads test) joins && condition_reads test filter

-- the leaf's ONs and its condition read only columns that its mask has
abbrev pub reads_own : Leaf → Bool
reads_own leaf = leaf_reads (has_place leaf.reads) leaf.joins leaf.filter

-- two masks of the same columns, of which the first has none that the other does not have
abbrev pub is_part : List Bool → List Bool → Bool
is_part [] [] = true
is_part [] (r ∷ rs) = false
is_part (k ∷ ks) [] = false
is_part (true ∷ ks) (r ∷ rs) = r && is_part ks rs
is_part (false ∷ ks) (r ∷ rs) = is_part ks rs

-- the columns that leave leaves, by the numbers that the query above them has for them
abbrev pub masks_of : List Leaf → ℕ → List Bool
masks_of leaves zero = []
masks_of leaves (suc n) = unwrap_or (slice_get (map (λ (l : Leaf). l.kept) leaves) n) []

-- the masks of the further tables of a leaf: the parts of a mask
abbrev pub join_masks : List LeafJoin → List Bool → List (List Bool)
join_masks [] ms = []
join_masks (j ∷ joins) ms = take j.width ms ∷ join_masks joins (drop j.width ms)

-- the masks of a leaf's tables, the first of which has the given number of columns
abbrev pub leaf_masks : ℕ → List LeafJoin → List Bool → List (List Bool)
leaf_masks width joins ms = take width ms ∷ join_masks joins (drop width ms)

-- ---- queries whose tables have masks, by their numbers

-- the number of columns of a query, and whether the sizes in it are those of the masks and its blocks read only what these have
pub record Reading : Type 0 where
  pub width : ℕ
  pub is_within : Bool

-- all columns of a derived table are read
abbrev pub item_mask : (ℕ → List Bool) → Item Reading → List Bool
item_mask masks (item.Table n) = masks n
item_mask masks (item.Derived r) = replicate r.width true

abbrev pub join_mask : (ℕ → List Bool) → Join Reading → List Bool
join_mask masks j = item_mask masks j.item

-- the mask of the rows of a FROM
abbrev pub from_mask : (ℕ → List Bool) → Block Reading → List Bool
from_mask masks b = item_mask masks b.from ++ flat_map (join_mask masks) b.joins

abbrev pub item_within : Item Reading → Bool
item_within (item.Table n) = true
item_within (item.Derived r) = r.is_within

abbrev pub join_within : (ℕ → List Bool) → Join Reading → Bool
join_within masks j = (j.width == length (join_mask masks j)) && item_within j.item

abbrev pub block_within : (ℕ → List Bool) → Block Reading → Bool
block_within masks b =
    item_within b.from && list_all (join_within masks) b.joins && block_reads (has_place (from_mask masks b)) b

abbrev pub query_reading : (ℕ → List Bool) → BoundQuery-F Reading → Reading
query_reading masks q = record {
  width = length q.first.outputs;
  is_within = list_all (block_within masks) (q.first ∷ q.others)
      && list_all (λ (b : Block Reading). length b.outputs == length q.first.outputs) q.others;
}

abbrev pub reading : (ℕ → List Bool) → BoundQuery → Reading
reading masks = fold-BoundQuery Reading (query_reading masks)

-- a query reads only columns that the masks of its tables have
abbrev pub is_within : (ℕ → List Bool) → BoundQuery → Bool
is_within masks q = (reading masks q).is_within
