-- Queries whose tables are those of the statement, whose joins state how many columns their items have, and whose blocks have as many columns as one another.
use Rattle.std.specs.Prelude.{ℕ, ◌==◌, Bool, ◌&&◌, List, ◌∷◌, length}
use Rattle.std.specs.List.{list_all}
use Rattle.span_schema.specs.declared.table.Table.{Table}
use Rattle.span_query.specs.declared.query.BoundQuery.{BoundQuery}
use Rattle.span_query.specs.declared.query.BoundQuery.TheOpen.{BoundQuery-F}
use Rattle.span_query.specs.declared.query.BoundQuery.TheFolds.{fold-BoundQuery}
use Rattle.span_query.specs.declared.query.Block.{Block}
use Rattle.span_query.specs.declared.query.Item.{Item}
use Rattle.span_query.specs.declared.query.Item.TheVariants as item
use Rattle.span_query.specs.declared.query.Join.{Join}
use Rattle.span_leaves.specs.Leaves.{table_of, width_of}
use Rattle.span_leaves.specs.Numbered.{is_number}

-- the number of columns of a query, and whether the sizes in it are right
pub record Shape : Type 0 where
  pub width : ℕ
  pub is_sized : Bool

abbrev pub item_shape : List Table → List ℕ → Item Shape → Shape
item_shape schema tables (item.Table n) =
    record { width = width_of schema (table_of tables n); is_sized = is_number tables n }
item_shape schema tables (item.Derived s) = s

abbrev pub is_sized_join : List Table → List ℕ → Join Shape → Bool
is_sized_join schema tables j =
    (j.width == (item_shape schema tables j.item).width) && (item_shape schema tables j.item).is_sized

abbrev pub is_sized_block : List Table → List ℕ → Block Shape → Bool
is_sized_block schema tables b =
    (item_shape schema tables b.from).is_sized && list_all (is_sized_join schema tables) b.joins

abbrev pub query_shape : List Table → List ℕ → BoundQuery-F Shape → Shape
query_shape schema tables q = record {
  width = length q.first.outputs;
  is_sized = list_all (is_sized_block schema tables) (q.first ∷ q.others)
      && list_all (λ (b : Block Shape). length b.outputs == length q.first.outputs) q.others;
}

abbrev pub shape : List Table → List ℕ → BoundQuery → Shape
shape schema tables = fold-BoundQuery Shape (query_shape schema tables)

abbrev pub is_sized : List Table → List ℕ → BoundQuery → Bool
is_sized schema tables q = (shape schema tables q).is_sized
