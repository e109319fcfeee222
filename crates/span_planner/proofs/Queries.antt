-- A query above its leaves means what it means on whole tables.
use Rattle.std.proofs.Common.{◌≡◌, ◌∙◌, ℕ, ◌+◌, ◌==◌, true, List, [], ◌∷◌, map, length, Some, refl, ap, sym, subst, arith}
use Rattle.std.specs.Prelude.{flat_map}
use Rattle.std.specs.List.{AllByRecursion, list_all}
use Rattle.std.proofs.lemmas.Bool.Decides.{nat_tests}
use Rattle.std.proofs.lemmas.Bool.{and_parts}
use Rattle.span_schema.specs.declared.table.Table.{Table}
use Rattle.span_query.specs.declared.query.BoundQuery.{BoundQuery}
use Rattle.span_query.specs.declared.query.BoundQuery.TheOpen.{BoundQuery-F}
use Rattle.span_query.specs.declared.query.BoundQuery.TheViews.{roll-BoundQuery}
use Rattle.span_query.specs.declared.query.BoundQuery.TheFolds.{map-BoundQuery, ind-BoundQuery, fold-roll-BoundQuery}
use Rattle.span_query.specs.declared.query.Block.{Block}
use Rattle.span_query.specs.declared.query.Item.{Item}
use Rattle.span_query.specs.declared.query.Item.TheVariants as item
use Rattle.span_query.specs.declared.query.Join.{Join}
use Rattle.span_query.specs.Rows.{Row, Rows, ◌>>=◌, append_results, concat_map}
use Rattle.span_query.specs.Meaning.{item_rows, block_rows, limit_rows, query_rows, meaning_over}
use Rattle.span_query.specs.Sorting.{sorted}
use Rattle.span_query.proofs.Layers.{map_item, map_join, map_block, map_layer, layer_mapped}
use Rattle.span_columns.specs.declared.leaf.Leaf.{Leaf}
use Rattle.span_leaves.specs.Leaves.{table_of, width_of}
use Rattle.span_planner.specs.Plans.{Planned, block_leaves, top_block, top_blocks, planned_query, planned}
use Rattle.span_planner.specs.Sizes.{Shape, item_shape, is_sized_join, is_sized_block, query_shape, shape, is_sized}
use Rattle.span_leaves.proofs.Pushing.{AreOfWidth}
use Rattle.span_leaves.proofs.Narrowing.{IsWide, AreWide}
use Rattle.span_planner.proofs.Blocks.{AgreesAt, agrees_front, agrees_rest, KeepsItem, KeepsJoin, further, IsSizedFirst, block_above}
use Rattle.span_planner.proofs.Widths.{wide_query}

-- ---- a layer of queries with what is known of them

module _ {T A : Type 0} (query : T → BoundQuery) (g : BoundQuery → A) where
  item_twice : (i : Item T) → map_item g (map_item query i) ≡ map_item (λ t. g (query t)) i
  item_twice (item.Table n) = refl
  item_twice (item.Derived t) = refl

  joins_twice : (js : List (Join T)) → map (map_join g) (map (map_join query) js) ≡ map (map_join (λ t. g (query t))) js
  joins_twice [] = refl
  joins_twice (j ∷ js) =
      ap (λ (i : Item A). record { is_left = j.is_left; item = i; width = j.width; on = j.on } ∷ map (map_join g) (map (map_join query) js)) (item_twice j.item)
      ∙ ap (λ (l : List (Join A)). map_join (λ t. g (query t)) j ∷ l) (joins_twice js)

  block_twice : (b : Block T) → map_block g (map_block query b) ≡ map_block (λ t. g (query t)) b
  block_twice b =
      ap (λ (i : Item A). record { from = i; joins = map (map_join g) (map (map_join query) b.joins); filter = b.filter; grouping = b.grouping; outputs = b.outputs; is_distinct = b.is_distinct }) (item_twice b.from)
      ∙ ap (λ (js : List (Join A)). record { from = map_item (λ t. g (query t)) b.from; joins = js; filter = b.filter; grouping = b.grouping; outputs = b.outputs; is_distinct = b.is_distinct }) (joins_twice b.joins)

  blocks_twice : (bs : List (Block T)) → map (map_block g) (map (map_block query) bs) ≡ map (map_block (λ t. g (query t))) bs
  blocks_twice [] = refl
  blocks_twice (b ∷ bs) = ap (λ (x : Block A). x ∷ map (map_block g) (map (map_block query) bs)) (block_twice b) ∙ ap (λ (l : List (Block A)). map_block (λ t. g (query t)) b ∷ l) (blocks_twice bs)

  -- what a fold makes of the queries of a layer
  pub layer_twice : (y : BoundQuery-F T) → map-BoundQuery BoundQuery A g (map-BoundQuery T BoundQuery query y) ≡ map_layer (λ t. g (query t)) y
  layer_twice y =
      ap (map-BoundQuery BoundQuery A g) (layer_mapped query y)
      ∙ layer_mapped g (map_layer query y)
      ∙ ap (λ (b : Block A). record { first = b; others = map (map_block g) (map (map_block query) y.others); order = y.order; limit = y.limit }) (block_twice y.first)
      ∙ ap (λ (bs : List (Block A)). record { first = map_block (λ t. g (query t)) y.first; others = bs; order = y.order; limit = y.limit }) (blocks_twice y.others)

module _ (schema : List Table) (tables : List ℕ) (w : ℕ → List Row) (f0 f : ℕ → Rows) (table_given : (n : ℕ) → f0 n ≡ Some (w (table_of tables n))) (wide_tables : (t : ℕ) → AreOfWidth (width_of schema t) (w t)) where
  abbrev plan_q : BoundQuery → Planned
  plan_q = planned schema tables

  abbrev mean : BoundQuery → Rows
  mean = meaning_over f0

  abbrev shape_q : BoundQuery → Shape
  shape_q = shape schema tables

  -- ---- what the folds make of a layer

  module _ {T : Type 0} (query : T → BoundQuery) where
    abbrev query_with : BoundQuery-F T → BoundQuery
    query_with y = roll-BoundQuery (map-BoundQuery T BoundQuery query y)

    abbrev plan_t : T → Planned
    plan_t t = plan_q (query t)

    abbrev mean_t : T → Rows
    mean_t t = mean (query t)

    abbrev shape_t : T → Shape
    shape_t t = shape_q (query t)

    planned_roll : (y : BoundQuery-F T) → plan_q (query_with y) ≡ planned_query schema tables (map_layer plan_t y)
    planned_roll y = fold-roll-BoundQuery Planned (planned_query schema tables) (map-BoundQuery T BoundQuery query y) ∙ ap (planned_query schema tables) (layer_twice query plan_q y)

    mean_roll : (tables' : ℕ → Rows) (y : BoundQuery-F T) → meaning_over tables' (query_with y) ≡ query_rows tables' (map_layer (λ t. meaning_over tables' (query t)) y)
    mean_roll tables' y = fold-roll-BoundQuery Rows (query_rows tables') (map-BoundQuery T BoundQuery query y) ∙ ap (query_rows tables') (layer_twice query (meaning_over tables') y)

    shape_roll : (y : BoundQuery-F T) → shape_q (query_with y) ≡ query_shape schema tables (map_layer shape_t y)
    shape_roll y = fold-roll-BoundQuery Shape (query_shape schema tables) (map-BoundQuery T BoundQuery query y) ∙ ap (query_shape schema tables) (layer_twice query shape_q y)

    -- ---- widths

    outputs_are : (n : ℕ) (bs : List (Block T)) → list_all (λ (b : Block Shape). length b.outputs == n) (map (map_block shape_t) bs) ≡ true
        → AllByRecursion (λ (b : Block Rows). length b.outputs ≡ n) (map (map_block mean_t) bs)
    outputs_are n [] is = tt {0}
    outputs_are n (b ∷ bs) is =
        let parts = and_parts (length b.outputs == n) (list_all (λ (b : Block Shape). length b.outputs == n) (map (map_block shape_t) bs)) is in
        ((let e : (length b.outputs == n) ≡ true = parts.0 in grind (arith, nat_tests)), outputs_are n bs parts.1)

    layer_sized : (y : BoundQuery-F T) → (query_shape schema tables (map_layer shape_t y)).is_sized ≡ true
        → (list_all (is_sized_block schema tables) (map (map_block shape_t) (y.first ∷ y.others)) ≡ true) × (list_all (λ (b : Block Shape). length b.outputs == length y.first.outputs) (map (map_block shape_t) y.others) ≡ true)
    layer_sized y is = and_parts (list_all (is_sized_block schema tables) (map (map_block shape_t) (y.first ∷ y.others))) (list_all (λ (b : Block Shape). length b.outputs == length y.first.outputs) (map (map_block shape_t) y.others)) is

    layer_wide : (y : BoundQuery-F T) → is_sized schema tables (query_with y) ≡ true → IsWide (plan_q (query_with y)).width (mean (query_with y))
    layer_wide y sized =
        let parts = layer_sized y (ap (λ (x : Shape). x.is_sized) (sym (shape_roll y)) ∙ sized) in
        let rows : IsWide (length y.first.outputs) (query_rows f0 (map_layer mean_t y)) = wide_query f0 (length y.first.outputs) (map_layer mean_t y) (refl, outputs_are (length y.first.outputs) y.others parts.1) in
        subst (λ (n : ℕ). IsWide n (mean (query_with y))) (sym (ap (λ (p : Planned). p.width) (planned_roll y))) (subst (IsWide (length y.first.outputs)) (sym (mean_roll f0 y)) rows)

    layer_width : (y : BoundQuery-F T) → (plan_q (query_with y)).width ≡ (shape_q (query_with y)).width
    layer_width y = ap (λ (p : Planned). p.width) (planned_roll y) ∙ sym (ap (λ (x : Shape). x.width) (shape_roll y))

  abbrev pub IsWideQuery : BoundQuery → Type 0
  IsWideQuery q = ((plan_q q).width ≡ (shape_q q).width) × (is_sized schema tables q ≡ true → IsWide (plan_q q).width (mean q))

  -- a query that is sized gives rows of its columns
  pub wide_meaning : (q : BoundQuery) → IsWideQuery q
  wide_meaning = ind-BoundQuery IsWideQuery (λ x y is. subst (λ (z : BoundQuery-F BoundQuery). IsWideQuery (roll-BoundQuery z)) is
      (layer_width {T = (q : BoundQuery) × IsWideQuery q} (λ t. t.0) y, layer_wide {T = (q : BoundQuery) × IsWideQuery q} (λ t. t.0) y))

  -- ---- the law

  abbrev pub IsAbove : BoundQuery → Type 0
  IsAbove q = is_sized schema tables q ≡ true → (before : ℕ) → AgreesAt w before (plan_q q).leaves f → meaning_over f ((plan_q q).top before) ≡ mean q

  -- a query of which the law is known
  abbrev Witness : Type 0
  Witness = (q : BoundQuery) × IsAbove q

  abbrev bare_query : Witness → BoundQuery
  bare_query t = t.0

  abbrev bare_plan : Witness → Planned
  bare_plan t = plan_q t.0

  abbrev bare_mean : Witness → Rows
  bare_mean t = mean t.0

  abbrev bare_shape : Witness → Shape
  bare_shape t = shape_q t.0

  keeps_item : (i : Item Witness) → (item_shape schema tables (map_item bare_shape i)).is_sized ≡ true → KeepsItem schema tables w f0 f Witness bare_plan bare_mean i
  keeps_item (item.Table n) sized = tt {0}
  keeps_item (item.Derived t) sized = t.1 sized

  equal_width : (n k : ℕ) (o : Rows) → (n == k) ≡ true → IsWide k o → IsWide n o
  equal_width n k o same wide = let e : k ≡ n = grind (arith, nat_tests) in subst (λ (m : ℕ). IsWide m o) e wide

  wide_item : (i : Item Witness) (width : ℕ) → (width == (item_shape schema tables (map_item bare_shape i)).width) ≡ true → (item_shape schema tables (map_item bare_shape i)).is_sized ≡ true
      → IsWide width (item_rows f0 (map_item bare_mean i))
  wide_item (item.Table n) width same sized = subst (IsWide width) (sym (table_given n)) (equal_width width (width_of schema (table_of tables n)) (Some (w (table_of tables n))) same (wide_tables (table_of tables n)))
  wide_item (item.Derived t) width same sized =
      let known = wide_meaning t.0 in
      equal_width width (shape_q t.0).width (mean t.0) same (subst (λ (m : ℕ). IsWide m (mean t.0)) known.0 (known.1 sized))

  first_sized : (i : Item Witness) → (item_shape schema tables (map_item bare_shape i)).is_sized ≡ true → IsSizedFirst schema tables w f0 f Witness bare_plan bare_mean i
  first_sized (item.Table n) sized = wide_tables (table_of tables n)
  first_sized (item.Derived t) sized = (wide_meaning t.0).1 sized

  joins_known : (js : List (Join Witness)) → list_all (is_sized_join schema tables) (map (map_join bare_shape) js) ≡ true
      → AllByRecursion (KeepsJoin schema tables w f0 f Witness bare_plan bare_mean) js × AreWide (map (further schema tables w f0 f Witness bare_plan bare_mean) js)
  joins_known [] sized = (tt {0}, tt {0})
  joins_known (j ∷ js) sized =
      let parts = and_parts (is_sized_join schema tables (map_join bare_shape j)) (list_all (is_sized_join schema tables) (map (map_join bare_shape) js)) sized in
      let here = and_parts (j.width == (item_shape schema tables (map_item bare_shape j.item)).width) ((item_shape schema tables (map_item bare_shape j.item)).is_sized) parts.0 in
      let rest = joins_known js parts.1 in
      ((keeps_item j.item here.1, rest.0), (wide_item j.item j.width here.0 here.1, rest.1))

  one_block : (b : Block Witness) → is_sized_block schema tables (map_block bare_shape b) ≡ true → (before : ℕ) → AgreesAt w before (block_leaves schema tables (map_block bare_plan b)) f
      → block_rows f (map_block (meaning_over f) (top_block schema tables before (map_block bare_plan b))) ≡ block_rows f0 (map_block bare_mean b)
  one_block b sized before agrees =
      let parts = and_parts ((item_shape schema tables (map_item bare_shape b.from)).is_sized) (list_all (is_sized_join schema tables) (map (map_join bare_shape) b.joins)) sized in
      let joins = joins_known b.joins parts.1 in
      block_above schema tables w f0 f Witness bare_plan bare_mean table_given b (record { first = keeps_item b.from parts.0; rest = joins.0 }) (record { first = first_sized b.from parts.0; rest = joins.1 }) before agrees

  all_blocks : (bs : List (Block Witness)) → list_all (is_sized_block schema tables) (map (map_block bare_shape) bs) ≡ true → (before : ℕ)
      → AgreesAt w before (flat_map (block_leaves schema tables) (map (map_block bare_plan) bs)) f
      → concat_map (block_rows f) (map (map_block (meaning_over f)) (top_blocks schema tables before (map (map_block bare_plan) bs))) ≡ concat_map (block_rows f0) (map (map_block bare_mean) bs)
  all_blocks [] sized before agrees = refl
  all_blocks (b ∷ bs) sized before agrees =
      let parts = and_parts (is_sized_block schema tables (map_block bare_shape b)) (list_all (is_sized_block schema tables) (map (map_block bare_shape) bs)) sized in
      let own : List Leaf = block_leaves schema tables (map_block bare_plan b) in
      let rest : List Leaf = flat_map (block_leaves schema tables) (map (map_block bare_plan) bs) in
      let later : List (Block BoundQuery) = top_blocks schema tables (before + length own) (map (map_block bare_plan) bs) in
      ap (λ (o : Rows). append_results o (concat_map (block_rows f) (map (map_block (meaning_over f)) later))) (one_block b parts.0 before (agrees_front w before own rest f agrees))
      ∙ ap (append_results (block_rows f0 (map_block bare_mean b))) (all_blocks bs parts.1 (before + length own) (agrees_rest w before own rest f agrees))

  -- what comes after the blocks
  abbrev finished : BoundQuery-F Witness → Rows → Rows
  finished y o = o >>= (λ (rows : List Row). Some (limit_rows y.limit (sorted y.order rows)))

  layer_above : (y : BoundQuery-F Witness) → IsAbove (query_with bare_query y)
  layer_above y sized before agrees =
      let q : BoundQuery = query_with bare_query y in
      let layer : BoundQuery-F Planned = map_layer bare_plan y in
      let parts = layer_sized bare_query y (ap (λ (x : Shape). x.is_sized) (sym (shape_roll bare_query y)) ∙ sized) in
      let leaves_are : (plan_q q).leaves ≡ (planned_query schema tables layer).leaves = ap (λ (p : Planned). p.leaves) (planned_roll bare_query y) in
      let known = subst (λ (ls : List Leaf). AgreesAt w before ls f) leaves_are agrees in
      let top : BoundQuery-F BoundQuery = record {
        first = top_block schema tables before layer.first;
        others = top_blocks schema tables (before + length (block_leaves schema tables layer.first)) layer.others;
        order = y.order;
        limit = y.limit;
      } in
      ap (λ (p : Planned). meaning_over f (p.top before)) (planned_roll bare_query y)
      ∙ fold-roll-BoundQuery Rows (query_rows f) top
      ∙ ap (query_rows f) (layer_mapped (meaning_over f) top)
      ∙ ap (finished y) (all_blocks (y.first ∷ y.others) parts.0 before known)
      ∙ sym (mean_roll bare_query f0 y)

  -- THE LAW OF A PLAN: above its leaves, which give what they give on whole tables, a query means what it means on whole tables.
  pub query_above : (q : BoundQuery) → IsAbove q
  query_above = ind-BoundQuery IsAbove (λ x y is. subst (λ (z : BoundQuery-F BoundQuery). IsAbove (roll-BoundQuery z)) is (layer_above y))
