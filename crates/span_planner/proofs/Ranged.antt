-- The range of each leaf of a plan is that of a table's family, narrowed by conditions.
use Rattle.std.proofs.Common.{◌≡◌, ℕ, Bool, ◌+◌, List, [], ◌∷◌, map, take, drop, refl, ap, sym, ◌∙◌, subst}
use Rattle.std.specs.Prelude.{flat_map}
use Rattle.std.specs.List.{AllByRecursion}
use Rattle.span_value.proofs.Lists.{all_append, all_drop}
use Rattle.span_schema.specs.declared.table.Table.{Table}
use Rattle.span_expr.specs.declared.expr.Expr.{Expr}
use Rattle.span_query.specs.declared.query.BoundQuery.{BoundQuery}
use Rattle.span_query.specs.declared.query.BoundQuery.TheOpen.{BoundQuery-F}
use Rattle.span_query.specs.declared.query.BoundQuery.TheViews.{roll-BoundQuery}
use Rattle.span_query.specs.declared.query.BoundQuery.TheFolds.{map-BoundQuery, ind-BoundQuery, fold-roll-BoundQuery}
use Rattle.span_query.specs.declared.query.Block.{Block}
use Rattle.span_query.specs.declared.query.Item.{Item}
use Rattle.span_query.specs.declared.query.Item.TheVariants as item
use Rattle.span_query.specs.declared.query.Join.{Join}
use Rattle.span_query.proofs.Layers.{map_item, map_join, map_block, map_layer}
use Rattle.span_columns.specs.declared.leaf.Leaf.{Leaf}
use Rattle.span_leaves.specs.Conditions.{pushable}
use Rattle.span_leaves.specs.Ranges.{leaf_range}
use Rattle.span_leaves.specs.Leaves.{table_of, width_of, widths, reads_of, leaf_len, unless_left}
use Rattle.span_planner.specs.Plans.{Planned, join_leaves, rest_leaves, leaves_from, block_leaves, planned_query, planned}
use Rattle.span_planner.proofs.Queries.{layer_twice}

-- the range is that of a table, whose columns begin at a place, by conditions
pub record IsRanged (schema : List Table) (leaf : Leaf) : Type 0 where
  pub table : ℕ
  pub at : ℕ
  pub conditions : List Expr
  pub is : leaf.range ≡ leaf_range schema table at conditions

module _ (schema : List Table) (tables : List ℕ) where
  -- those of a query planned
  abbrev AreRanged : Planned → Type 0
  AreRanged p = AllByRecursion (IsRanged schema) p.leaves

  abbrev IsRangedItem : Item Planned → Type 0
  IsRangedItem (item.Table n) = Unit {0}
  IsRangedItem (item.Derived p) = AreRanged p

  abbrev IsRangedJoin : Join Planned → Type 0
  IsRangedJoin j = IsRangedItem j.item

  join_ranged : (rs : List Bool) (at : ℕ) (es : List Expr) (is_left : Bool) (width : ℕ) (i : Item Planned) → IsRangedItem i → AllByRecursion (IsRanged schema) (join_leaves schema tables rs at es is_left width i)
  join_ranged rs at es is_left width (item.Table n) is = (record { table = table_of tables n; at = at; conditions = unless_left is_left es; is = refl }, tt {0})
  join_ranged rs at es is_left width (item.Derived p) is = is

  rest_ranged : (rs : List Bool) (es : List Expr) (at : ℕ) (js : List (Join Planned)) → AllByRecursion IsRangedJoin js → AllByRecursion (IsRanged schema) (rest_leaves schema tables rs es at js)
  rest_ranged rs es at [] are = tt {0}
  rest_ranged rs es at (j ∷ js) are =
      all_append (IsRanged schema) (join_leaves schema tables rs at es j.is_left j.width j.item) (rest_leaves schema tables rs es (at + j.width) js)
      (join_ranged rs at es j.is_left j.width j.item are.0) (rest_ranged rs es (at + j.width) js are.1)

  from_ranged : (b : Block Planned) (i : Item Planned) → IsRangedItem i → AllByRecursion IsRangedJoin b.joins → AllByRecursion (IsRanged schema) (leaves_from schema tables b i)
  from_ranged b (item.Table n) is are =
      let table : ℕ = table_of tables n in
      let len : ℕ = leaf_len schema tables table (width_of schema table) b.joins in (
        record { table = table; at = 0; conditions = pushable b; is = refl },
        rest_ranged (reads_of (width_of schema table) b) (pushable b) (width_of schema table + widths (take len b.joins)) (drop len b.joins) (all_drop IsRangedJoin len b.joins are),
      )
  from_ranged b (item.Derived p) is are =
      all_append (IsRanged schema) p.leaves (rest_leaves schema tables (reads_of p.width b) (pushable b) p.width b.joins) is (rest_ranged (reads_of p.width b) (pushable b) p.width b.joins are)

  pub record IsRangedBlock (b : Block Planned) : Type 0 where
    pub first : IsRangedItem b.from
    pub rest : AllByRecursion IsRangedJoin b.joins

  blocks_ranged : (bs : List (Block Planned)) → AllByRecursion IsRangedBlock bs → AllByRecursion (IsRanged schema) (flat_map (block_leaves schema tables) bs)
  blocks_ranged [] are = tt {0}
  blocks_ranged (b ∷ bs) are =
      all_append (IsRanged schema) (block_leaves schema tables b) (flat_map (block_leaves schema tables) bs) (from_ranged b b.from are.0.first are.0.rest) (blocks_ranged bs are.1)

  -- ---- by the layers of a query

  abbrev AreLeavesRanged : BoundQuery → Type 0
  AreLeavesRanged q = AreRanged (planned schema tables q)

  abbrev Witness : Type 0
  Witness = (q : BoundQuery) × AreLeavesRanged q

  abbrev bare_query : Witness → BoundQuery
  bare_query t = t.0

  abbrev bare_plan : Witness → Planned
  bare_plan t = planned schema tables t.0

  bare_item : (i : Item Witness) → IsRangedItem (map_item bare_plan i)
  bare_item (item.Table n) = tt {0}
  bare_item (item.Derived t) = t.1

  bare_joins : (js : List (Join Witness)) → AllByRecursion IsRangedJoin (map (map_join bare_plan) js)
  bare_joins [] = tt {0}
  bare_joins (j ∷ js) = (bare_item j.item, bare_joins js)

  bare_blocks : (bs : List (Block Witness)) → AllByRecursion IsRangedBlock (map (map_block bare_plan) bs)
  bare_blocks [] = tt {0}
  bare_blocks (b ∷ bs) = (record { first = bare_item b.from; rest = bare_joins b.joins }, bare_blocks bs)

  layer_ranged : (y : BoundQuery-F Witness) → AreLeavesRanged (roll-BoundQuery (map-BoundQuery Witness BoundQuery bare_query y))
  layer_ranged y =
      let d : BoundQuery-F BoundQuery = map-BoundQuery Witness BoundQuery bare_query y in
      let planned_is : planned schema tables (roll-BoundQuery d) ≡ planned_query schema tables (map_layer bare_plan y) =
      fold-roll-BoundQuery Planned (planned_query schema tables) d ∙ ap (planned_query schema tables) (layer_twice bare_query (planned schema tables) y) in
      subst AreRanged (sym planned_is) (blocks_ranged (map (map_block bare_plan) (y.first ∷ y.others)) (bare_blocks (y.first ∷ y.others)))

  pub leaves_ranged : (q : BoundQuery) → AreLeavesRanged q
  leaves_ranged = ind-BoundQuery AreLeavesRanged (λ x y is. subst (λ (z : BoundQuery-F BoundQuery). AreLeavesRanged (roll-BoundQuery z)) is (layer_ranged y))
