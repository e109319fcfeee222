-- Every leaf of a plan is known, where the sizes in the query are right.
use Rattle.std.proofs.Common.{◌≡◌, ◌∙◌, ℕ, ◌<◌, true, List, [], ◌∷◌, map, length, ap, sym, subst}
use Rattle.std.specs.Prelude.{◌==◌}
use Rattle.std.specs.List.{AllByRecursion, list_all}
use Rattle.std.proofs.lemmas.Bool.{and_parts}
use Rattle.span_schema.specs.declared.table.Table.{Table}
use Rattle.span_schema.specs.Numbers.{key_places}
use Rattle.span_query.specs.declared.query.BoundQuery.{BoundQuery}
use Rattle.span_query.specs.declared.query.BoundQuery.TheOpen.{BoundQuery-F}
use Rattle.span_query.specs.declared.query.BoundQuery.TheViews.{roll-BoundQuery}
use Rattle.span_query.specs.declared.query.BoundQuery.TheFolds.{map-BoundQuery, ind-BoundQuery, fold-roll-BoundQuery}
use Rattle.span_query.specs.declared.query.Block.{Block}
use Rattle.span_query.specs.declared.query.Item.{Item}
use Rattle.span_query.specs.declared.query.Item.TheVariants as item
use Rattle.span_query.specs.declared.query.Join.{Join}
use Rattle.span_query.proofs.Layers.{map_block, map_layer}
use Rattle.span_leaves.specs.Leaves.{width_of}
use Rattle.span_planner.specs.Plans.{Planned, planned_query, planned}
use Rattle.span_planner.specs.Sizes.{Shape, is_sized_block, query_shape, shape, is_sized}
use Rattle.span_planner.proofs.Queries.{layer_twice}
use Rattle.span_planner.proofs.Planned.{IsPlanned, KnowsItem, KnowsJoin, KnowsBlock, blocks_planned}

module _ (schema : List Table) (tables : List ℕ) (keyed : (t : ℕ) → AllByRecursion (λ (p : ℕ). p < width_of schema t) (key_places schema t)) where
  abbrev pub AreLeavesKnown : BoundQuery → Type 0
  AreLeavesKnown q = is_sized schema tables q ≡ true → AllByRecursion (IsPlanned schema) (planned schema tables q).leaves

  abbrev Witness : Type 0
  Witness = (q : BoundQuery) × AreLeavesKnown q

  abbrev bare_query : Witness → BoundQuery
  bare_query t = t.0

  knows_item : (i : Item Witness) → KnowsItem schema tables keyed bare_query i
  knows_item (item.Table n) = tt {0}
  knows_item (item.Derived t) = t.1

  knows_joins : (js : List (Join Witness)) → AllByRecursion (KnowsJoin schema tables keyed bare_query) js
  knows_joins [] = tt {0}
  knows_joins (j ∷ js) = (knows_item j.item, knows_joins js)

  knows_blocks : (bs : List (Block Witness)) → AllByRecursion (KnowsBlock schema tables keyed bare_query) bs
  knows_blocks [] = tt {0}
  knows_blocks (b ∷ bs) = (record { first = knows_item b.from; rest = knows_joins b.joins }, knows_blocks bs)

  layer_known : (y : BoundQuery-F Witness) → AreLeavesKnown (roll-BoundQuery (map-BoundQuery Witness BoundQuery bare_query y))
  layer_known y sized =
      let d : BoundQuery-F BoundQuery = map-BoundQuery Witness BoundQuery bare_query y in
      let planned_is : planned schema tables (roll-BoundQuery d) ≡ planned_query schema tables (map_layer (λ t. planned schema tables (bare_query t)) y) =
      fold-roll-BoundQuery Planned (planned_query schema tables) d ∙ ap (planned_query schema tables) (layer_twice bare_query (planned schema tables) y) in
      let shape_is : shape schema tables (roll-BoundQuery d) ≡ query_shape schema tables (map_layer (λ t. shape schema tables (bare_query t)) y) =
      fold-roll-BoundQuery Shape (query_shape schema tables) d ∙ ap (query_shape schema tables) (layer_twice bare_query (shape schema tables) y) in
      let parts = and_parts (list_all (is_sized_block schema tables) (map (map_block (λ t. shape schema tables (bare_query t))) (y.first ∷ y.others)))
      (list_all (λ (b : Block Shape). length b.outputs == length y.first.outputs) (map (map_block (λ t. shape schema tables (bare_query t))) y.others)) (ap (λ (s : Shape). s.is_sized) (sym shape_is) ∙ sized) in
      subst (λ (p : Planned). AllByRecursion (IsPlanned schema) p.leaves) (sym planned_is) (blocks_planned schema tables keyed bare_query (y.first ∷ y.others) (knows_blocks (y.first ∷ y.others)) parts.0)

  pub leaves_known : (q : BoundQuery) → AreLeavesKnown q
  leaves_known = ind-BoundQuery AreLeavesKnown (λ x y is. subst (λ (z : BoundQuery-F BoundQuery). AreLeavesKnown (roll-BoundQuery z)) is (layer_known y))
