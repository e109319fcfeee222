-- Where the sizes in a query are right, its tables have numbers of the statement's tables.
use Rattle.std.proofs.Common.{◌≡◌, ◌∙◌, ℕ, Bool, true, ◌==◌, List, [], ◌∷◌, map, length, refl, ap, sym, subst}
use Rattle.std.specs.List.{list_all}
use Rattle.std.proofs.lemmas.Bool.{and_from, and_parts}
use Rattle.span_schema.specs.declared.table.Table.{Table}
use Rattle.span_query.specs.declared.query.BoundQuery.{BoundQuery}
use Rattle.span_query.specs.declared.query.BoundQuery.TheFolds.{map-BoundQuery, ind-BoundQuery, fold-roll-BoundQuery}
use Rattle.span_query.specs.declared.query.BoundQuery.TheOpen.{BoundQuery-F}
use Rattle.span_query.specs.declared.query.BoundQuery.TheViews.{roll-BoundQuery}
use Rattle.span_query.specs.declared.query.Block.{Block}
use Rattle.span_query.specs.declared.query.Item.{Item}
use Rattle.span_query.specs.declared.query.Item.TheVariants as item
use Rattle.span_query.specs.declared.query.Join.{Join}
use Rattle.span_query.proofs.Layers.{map_item, map_join, map_block, map_layer}
use Rattle.span_leaves.specs.Numbered.{numbered_item, numbered_join, numbered_block, numbered_query, is_numbered}
use Rattle.span_planner.specs.Sizes.{Shape, item_shape, is_sized_join, is_sized_block, query_shape, shape, is_sized}
use Rattle.span_planner.proofs.Queries.{layer_twice}

module _ (schema : List Table) (tables : List ℕ) where
  abbrev pub IsNumberedToo : BoundQuery → Type 0
  IsNumberedToo q = is_sized schema tables q ≡ true → is_numbered tables q ≡ true

  abbrev Witness : Type 0
  Witness = (q : BoundQuery) × IsNumberedToo q

  abbrev bare_query : Witness → BoundQuery
  bare_query t = t.0

  abbrev bare_shape : Witness → Shape
  bare_shape t = shape schema tables t.0

  abbrev bare_test : Witness → Bool
  bare_test t = is_numbered tables t.0

  item_too : (i : Item Witness) → (item_shape schema tables (map_item bare_shape i)).is_sized ≡ true → numbered_item tables (map_item bare_test i) ≡ true
  item_too (item.Table n) is = is
  item_too (item.Derived t) is = t.1 is

  joins_too : (js : List (Join Witness)) → list_all (is_sized_join schema tables) (map (map_join bare_shape) js) ≡ true → list_all (numbered_join tables) (map (map_join bare_test) js) ≡ true
  joins_too [] is = refl
  joins_too (j ∷ js) is =
      let parts = and_parts (is_sized_join schema tables (map_join bare_shape j)) (list_all (is_sized_join schema tables) (map (map_join bare_shape) js)) is in
      let here = and_parts (j.width == (item_shape schema tables (map_item bare_shape j.item)).width) ((item_shape schema tables (map_item bare_shape j.item)).is_sized) parts.0 in
      and_from (numbered_join tables (map_join bare_test j)) (list_all (numbered_join tables) (map (map_join bare_test) js)) (item_too j.item here.1) (joins_too js parts.1)

  block_too : (b : Block Witness) → is_sized_block schema tables (map_block bare_shape b) ≡ true → numbered_block tables (map_block bare_test b) ≡ true
  block_too b is =
      let parts = and_parts ((item_shape schema tables (map_item bare_shape b.from)).is_sized) (list_all (is_sized_join schema tables) (map (map_join bare_shape) b.joins)) is in
      and_from (numbered_item tables (map_item bare_test b.from)) (list_all (numbered_join tables) (map (map_join bare_test) b.joins)) (item_too b.from parts.0) (joins_too b.joins parts.1)

  blocks_too : (bs : List (Block Witness)) → list_all (is_sized_block schema tables) (map (map_block bare_shape) bs) ≡ true → list_all (numbered_block tables) (map (map_block bare_test) bs) ≡ true
  blocks_too [] is = refl
  blocks_too (b ∷ bs) is =
      let parts = and_parts (is_sized_block schema tables (map_block bare_shape b)) (list_all (is_sized_block schema tables) (map (map_block bare_shape) bs)) is in
      and_from (numbered_block tables (map_block bare_test b)) (list_all (numbered_block tables) (map (map_block bare_test) bs)) (block_too b parts.0) (blocks_too bs parts.1)

  layer_too : (y : BoundQuery-F Witness) → IsNumberedToo (roll-BoundQuery (map-BoundQuery Witness BoundQuery bare_query y))
  layer_too y sized =
      let d : BoundQuery-F BoundQuery = map-BoundQuery Witness BoundQuery bare_query y in
      let shape_is : shape schema tables (roll-BoundQuery d) ≡ query_shape schema tables (map_layer bare_shape y) =
      fold-roll-BoundQuery Shape (query_shape schema tables) d ∙ ap (query_shape schema tables) (layer_twice bare_query (shape schema tables) y) in
      let test_is : is_numbered tables (roll-BoundQuery d) ≡ numbered_query tables (map_layer bare_test y) =
      fold-roll-BoundQuery Bool (numbered_query tables) d ∙ ap (numbered_query tables) (layer_twice bare_query (is_numbered tables) y) in
      let parts = and_parts (list_all (is_sized_block schema tables) (map (map_block bare_shape) (y.first ∷ y.others)))
      (list_all (λ (b : Block Shape). length b.outputs == length y.first.outputs) (map (map_block bare_shape) y.others)) (ap (λ (s : Shape). s.is_sized) (sym shape_is) ∙ sized) in
      test_is ∙ blocks_too (y.first ∷ y.others) parts.0

  pub sized_numbered : (q : BoundQuery) → IsNumberedToo q
  sized_numbered = ind-BoundQuery IsNumberedToo (λ x y is. subst (λ (z : BoundQuery-F BoundQuery). IsNumberedToo (roll-BoundQuery z)) is (layer_too y))
