-- The tables of the leaves of a plan are tables of the schema.
use Rattle.std.proofs.Common.{◌≡◌, ◌∙◌, ℕ, ◌+◌, ◌==◌, suc, zero, Bool, true, false, List, [], ◌∷◌, map, take, drop, length, ap, sym, subst}
use Rattle.std.specs.Prelude.{flat_map, if◌then◌else◌}
use Rattle.std.specs.List.{AllByRecursion, list_all}
use Rattle.std.proofs.lemmas.Bool.{and_parts}
use Rattle.std.proofs.lemmas.List.{drop-map}
use Rattle.span_value.proofs.Lists.{all_append}
use Rattle.span_schema.specs.declared.table.Table.{Table}
use Rattle.span_schema.specs.Numbers.{IsTable}
use Rattle.span_expr.specs.declared.expr.Expr.{Expr}
use Rattle.span_query.specs.declared.query.BoundQuery.{BoundQuery}
use Rattle.span_query.specs.declared.query.BoundQuery.TheFolds.{map-BoundQuery, ind-BoundQuery, fold-roll-BoundQuery}
use Rattle.span_query.specs.declared.query.BoundQuery.TheOpen.{BoundQuery-F}
use Rattle.span_query.specs.declared.query.BoundQuery.TheViews.{roll-BoundQuery}
use Rattle.span_query.specs.declared.query.Block.{Block}
use Rattle.span_query.specs.declared.query.Item.{Item}
use Rattle.span_query.specs.declared.query.Item.TheVariants as item
use Rattle.span_query.specs.declared.query.Join.{Join}
use Rattle.span_query.proofs.Layers.{map_item, map_join, map_block, map_layer}
use Rattle.span_columns.specs.declared.leaf.Leaf.{Leaf}
use Rattle.span_leaves.specs.Conditions.{pushable}
use Rattle.span_leaves.specs.Leaves.{table_of, width_of, widths, reads_of, is_joined_table, leaf_len, join_table}
use Rattle.span_planner.specs.Plans.{Planned, join_leaves, rest_leaves, leaves_from, block_leaves, planned_query, planned}
use Rattle.span_planner.specs.Sizes.{Shape, item_shape, is_sized_join, is_sized_block, query_shape, shape, is_sized}
use Rattle.span_planner.proofs.Numbering.{table_is}
use Rattle.span_planner.proofs.Queries.{layer_twice}

module _ (schema : List Table) (tables : List ℕ) (are : AllByRecursion (IsTable schema) tables) where
  abbrev pub HasTables : Leaf → Type 0
  HasTables l = AllByRecursion (IsTable schema) l.tables

  abbrev pub AreTabled : BoundQuery → Type 0
  AreTabled q = is_sized schema tables q ≡ true → AllByRecursion HasTables (planned schema tables q).leaves

  abbrev Witness : Type 0
  Witness = (q : BoundQuery) × AreTabled q

  abbrev bare_query : Witness → BoundQuery
  bare_query t = t.0

  abbrev bare_shape : Witness → Shape
  bare_shape t = shape schema tables t.0

  abbrev bare_plan : Witness → Planned
  bare_plan t = planned schema tables t.0

  abbrev planned_joins : List (Join Witness) → List (Join Planned)
  planned_joins js = map (map_join bare_plan) js

  abbrev are_sized : List (Join Witness) → Bool
  are_sized js = list_all (is_sized_join schema tables) (map (map_join bare_shape) js)

  join_sized : (j : Join Witness) (js : List (Join Witness)) → are_sized (j ∷ js) ≡ true → ((item_shape schema tables (map_item bare_shape j.item)).is_sized ≡ true) × (are_sized js ≡ true)
  join_sized j js is =
      let parts = and_parts (is_sized_join schema tables (map_join bare_shape j)) (are_sized js) is in
      ((and_parts (j.width == (item_shape schema tables (map_item bare_shape j.item)).width) ((item_shape schema tables (map_item bare_shape j.item)).is_sized) parts.0).1, parts.1)

  item_tabled : (rs : List Bool) (at : ℕ) (es : List Expr) (is_left : Bool) (width : ℕ) (i : Item Witness) → (item_shape schema tables (map_item bare_shape i)).is_sized ≡ true → AllByRecursion HasTables (join_leaves schema tables rs at es is_left width (map_item bare_plan i))
  item_tabled rs at es is_left width (item.Table n) is = ((table_is schema tables n are is, tt {0}), tt {0})
  item_tabled rs at es is_left width (item.Derived t) is = t.1 is

  rest_tabled : (rs : List Bool) (es : List Expr) (at : ℕ) (js : List (Join Witness)) → are_sized js ≡ true → AllByRecursion HasTables (rest_leaves schema tables rs es at (planned_joins js))
  rest_tabled rs es at [] is = tt {0}
  rest_tabled rs es at (j ∷ js) is =
      let parts = join_sized j js is in
      all_append HasTables (join_leaves schema tables rs at es j.is_left j.width (map_item bare_plan j.item)) (rest_leaves schema tables rs es (at + j.width) (planned_joins js))
      (item_tabled rs at es j.is_left j.width j.item parts.0) (rest_tabled rs es (at + j.width) js parts.1)

  sized_drop : (n : ℕ) (js : List (Join Witness)) → are_sized js ≡ true → are_sized (drop n js) ≡ true
  sized_drop zero js is = is
  sized_drop (suc n) [] is = is
  sized_drop (suc n) (j ∷ js) is = sized_drop n js (join_sized j js is).1

  -- the tables of the first joins, up to a given number
  abbrev AreFirst : ℕ → List (Join Witness) → Type 0
  AreFirst n js = AllByRecursion (IsTable schema) (map (join_table tables) (take n (planned_joins js)))

  one_first : (is_left : Bool) (n width : ℕ) (on : Expr) (js : List (Join Witness)) (k : ℕ) → IsTable schema (table_of tables n) → AreFirst k js
      → (b : Bool) → AreFirst (if b then suc k else 0) (record { is_left = is_left; item = item.Table n; width = width; on = on } ∷ js)
  one_first is_left n width on js k is rest false = tt {0}
  one_first is_left n width on js k is rest true = (is, rest)

  item_first : (first at : ℕ) (is_left : Bool) (i : Item Witness) (width : ℕ) (on : Expr) (js : List (Join Witness)) → (item_shape schema tables (map_item bare_shape i)).is_sized ≡ true
      → AreFirst (leaf_len schema tables first (at + width) (planned_joins js)) js
      → let all : List (Join Witness) = record { is_left = is_left; item = i; width = width; on = on } ∷ js in AreFirst (leaf_len schema tables first at (planned_joins all)) all
  item_first first at is_left (item.Table n) width on js is rest =
      one_first is_left n width on js (leaf_len schema tables first (at + width) (planned_joins js)) (table_is schema tables n are is) rest (is_joined_table schema first at on (table_of tables n))
  item_first first at is_left (item.Derived t) width on js is rest = tt {0}

  joined_tabled : (first at : ℕ) (js : List (Join Witness)) → are_sized js ≡ true → AreFirst (leaf_len schema tables first at (planned_joins js)) js
  joined_tabled first at [] is = tt {0}
  joined_tabled first at (j ∷ js) is =
      let parts = join_sized j js is in
      item_first first at j.is_left j.item j.width j.on js parts.0 (joined_tabled first (at + j.width) js parts.1)

  from_tabled : (b : Block Witness) (i : Item Witness) → (item_shape schema tables (map_item bare_shape i)).is_sized ≡ true → are_sized b.joins ≡ true → AllByRecursion HasTables (leaves_from schema tables (map_block bare_plan b) (map_item bare_plan i))
  from_tabled b (item.Table n) first_sized sized =
      let t : ℕ = table_of tables n in
      let len : ℕ = leaf_len schema tables t (width_of schema t) (planned_joins b.joins) in (
        (table_is schema tables n are first_sized, joined_tabled t (width_of schema t) b.joins sized),
        subst (λ (js : List (Join Planned)). AllByRecursion HasTables (rest_leaves schema tables (reads_of (width_of schema t) (map_block bare_plan b)) (pushable (map_block bare_plan b)) (width_of schema t + widths (take len (planned_joins b.joins))) js)) (sym (drop-map (map_join bare_plan) len b.joins))
            (rest_tabled (reads_of (width_of schema t) (map_block bare_plan b)) (pushable (map_block bare_plan b)) (width_of schema t + widths (take len (planned_joins b.joins))) (drop len b.joins) (sized_drop len b.joins sized)),
      )
  from_tabled b (item.Derived t) first_sized sized =
      all_append HasTables (bare_plan t).leaves (rest_leaves schema tables (reads_of (bare_plan t).width (map_block bare_plan b)) (pushable (map_block bare_plan b)) (bare_plan t).width (planned_joins b.joins)) (t.1 first_sized) (rest_tabled (reads_of (bare_plan t).width (map_block bare_plan b)) (pushable (map_block bare_plan b)) (bare_plan t).width b.joins sized)

  blocks_tabled : (bs : List (Block Witness)) → list_all (is_sized_block schema tables) (map (map_block bare_shape) bs) ≡ true → AllByRecursion HasTables (flat_map (block_leaves schema tables) (map (map_block bare_plan) bs))
  blocks_tabled [] is = tt {0}
  blocks_tabled (b ∷ bs) is =
      let parts = and_parts (is_sized_block schema tables (map_block bare_shape b)) (list_all (is_sized_block schema tables) (map (map_block bare_shape) bs)) is in
      let here = and_parts ((item_shape schema tables (map_item bare_shape b.from)).is_sized) (are_sized b.joins) parts.0 in
      all_append HasTables (block_leaves schema tables (map_block bare_plan b)) (flat_map (block_leaves schema tables) (map (map_block bare_plan) bs)) (from_tabled b b.from here.0 here.1) (blocks_tabled bs parts.1)

  layer_tabled : (y : BoundQuery-F Witness) → AreTabled (roll-BoundQuery (map-BoundQuery Witness BoundQuery bare_query y))
  layer_tabled y sized =
      let d : BoundQuery-F BoundQuery = map-BoundQuery Witness BoundQuery bare_query y in
      let planned_is : planned schema tables (roll-BoundQuery d) ≡ planned_query schema tables (map_layer bare_plan y) =
      fold-roll-BoundQuery Planned (planned_query schema tables) d ∙ ap (planned_query schema tables) (layer_twice bare_query (planned schema tables) y) in
      let shape_is : shape schema tables (roll-BoundQuery d) ≡ query_shape schema tables (map_layer bare_shape y) =
      fold-roll-BoundQuery Shape (query_shape schema tables) d ∙ ap (query_shape schema tables) (layer_twice bare_query (shape schema tables) y) in
      let parts = and_parts (list_all (is_sized_block schema tables) (map (map_block bare_shape) (y.first ∷ y.others)))
      (list_all (λ (b : Block Shape). length b.outputs == length y.first.outputs) (map (map_block bare_shape) y.others)) (ap (λ (s : Shape). s.is_sized) (sym shape_is) ∙ sized) in
      subst (λ (p : Planned). AllByRecursion HasTables p.leaves) (sym planned_is) (blocks_tabled (y.first ∷ y.others) parts.0)

  pub leaves_tabled : (q : BoundQuery) → AreTabled q
  leaves_tabled = ind-BoundQuery AreTabled (λ x y is. subst (λ (z : BoundQuery-F BoundQuery). AreTabled (roll-BoundQuery z)) is (layer_tabled y))
