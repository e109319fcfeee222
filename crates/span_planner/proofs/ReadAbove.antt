-- The query above the leaves of a plan reads within their masks.
use Rattle.std.proofs.Common.{◌≡◌, ◌∙◌, ℕ, zero, suc, ◌+◌, ◌==◌, ◌≤◌, Bool, true, ◌&&◌, List, [], ◌∷◌, ◌++◌, map, take, drop, length, replicate, refl, ap, sym, subst, arith}
use Rattle.std.specs.Prelude.{flat_map}
use Rattle.std.specs.List.{list_all}
use Rattle.std.proofs.lemmas.Bool.Decides.{nat_tests}
use Rattle.std.proofs.lemmas.Bool.{and_from, and_parts, eq-eqb}
use Rattle.std.proofs.lemmas.List.{length-replicate, drop-drop, drop-map}
use Rattle.span_schema.specs.declared.table.Table.{Table}
use Rattle.span_expr.specs.declared.expr.Expr.{Expr}
use Rattle.span_expr.specs.Places.{reads_only}
use Rattle.span_query.specs.declared.query.BoundQuery.{BoundQuery}
use Rattle.span_query.specs.declared.query.BoundQuery.TheOpen.{BoundQuery-F}
use Rattle.span_query.specs.declared.query.BoundQuery.TheViews.{roll-BoundQuery}
use Rattle.span_query.specs.declared.query.BoundQuery.TheFolds.{map-BoundQuery, ind-BoundQuery, fold-roll-BoundQuery}
use Rattle.span_query.specs.declared.query.Block.{Block}
use Rattle.span_query.specs.declared.query.Item.{Item}
use Rattle.span_query.specs.declared.query.Item.TheVariants as item
use Rattle.span_query.specs.declared.query.Join.{Join}
use Rattle.span_query.proofs.Layers.{map_item, map_join, map_block, map_layer, layer_mapped}
use Rattle.span_columns.specs.declared.leaf.Leaf.{Leaf}
use Rattle.span_leaves.specs.Conditions.{pushable}
use Rattle.span_leaves.specs.Leaves.{table_of, width_of, leaf_len, widths, reads_of}
use Rattle.span_planner.specs.Plans.{Planned, join_leaves, rest_leaves, leaves_from, block_leaves, top_item, count_leaves, top_joins, top_from, top_block, top_blocks, planned_query, planned}
use Rattle.span_columns.specs.Reads.{has_place, condition_reads, on_reads, selection_reads, block_reads, filter_above, block_above, Reading, item_mask, join_mask, from_mask, item_within, join_within, block_within, query_reading, reading, is_within}
use Rattle.span_planner.specs.Sizes.{Shape, item_shape, is_sized_join, is_sized_block, query_shape, shape, is_sized}
use Rattle.span_planner.proofs.Planned.{part_len, widths_split, reads_of_len}
use Rattle.span_planner.proofs.Queries.{layer_twice}
use Rattle.span_leaves.proofs.Reading.{Covers, covers_part, covers_all, covered}
use Rattle.span_leaves.proofs.Parts.{kept_covered}

-- ---- the masks of leaves, by the numbers of the tables above them

module _ (masks : ℕ → List Bool) where
  -- the leaves have these masks, after the given number of others
  abbrev pub MasksAt : ℕ → List Leaf → Type 0
  MasksAt before [] = Unit {0}
  MasksAt before (l ∷ leaves) = (masks (before + 1) ≡ l.kept) × MasksAt (before + 1) leaves

  masks_front : (before : ℕ) (xs ys : List Leaf) → MasksAt before (xs ++ ys) → MasksAt before xs
  masks_front before [] ys at = tt {0}
  masks_front before (l ∷ xs) ys at = (at.0, masks_front (before + 1) xs ys at.1)

  masks_rest : (before : ℕ) (xs ys : List Leaf) → MasksAt before (xs ++ ys) → MasksAt (before + length xs) ys
  masks_rest before [] ys at = let e : before ≡ before + 0 = omega arith in subst (λ (n : ℕ). MasksAt n ys) e at
  masks_rest before (l ∷ xs) ys at =
      let e : (before + 1) + length xs ≡ before + suc (length xs) = omega arith in
      subst (λ (n : ℕ). MasksAt n ys) e (masks_rest (before + 1) xs ys at.1)

  -- ---- what a block above its leaves reads

  module _ (test : ℕ → Bool) where
    ons_above : (before : ℕ) (js : List (Join Planned)) → list_all (on_reads test) (map (map_join (reading masks)) (top_joins before js)) ≡ list_all (on_reads test) js
    ons_above before [] = refl
    ons_above before (j ∷ js) = ap (λ (b : Bool). reads_only test j.on && b) (ons_above (before + count_leaves j.item) js)

    -- above a first leaf, what is left of the block reads
    reads_left : (schema : List Table) (tables : List ℕ) (before n : ℕ) (b : Block Planned)
        → let len : ℕ = leaf_len schema tables (table_of tables n) (width_of schema (table_of tables n)) b.joins in
        block_reads test (block_above b len) ≡ true → block_reads test (map_block (reading masks) (top_from schema tables before b (item.Table n))) ≡ true
    reads_left schema tables before n b is =
        let len : ℕ = leaf_len schema tables (table_of tables n) (width_of schema (table_of tables n)) b.joins in
        ap (λ (t : Bool). t && condition_reads test (filter_above b len) && selection_reads test b.grouping b.outputs) (ons_above (before + 1) (drop len b.joins)) ∙ is

    -- above the leaves of a derived table, the block reads
    reads_above : (schema : List Table) (tables : List ℕ) (before : ℕ) (b : Block Planned) (p : Planned) → block_reads test b ≡ true → block_reads test (map_block (reading masks) (top_from schema tables before b (item.Derived p))) ≡ true
    reads_above schema tables before b p is = ap (λ (t : Bool). t && condition_reads test b.filter && selection_reads test b.grouping b.outputs) (ons_above (before + length p.leaves) b.joins) ∙ is

  module _ (schema : List Table) (tables : List ℕ) where
    abbrev pub IsReadAbove : BoundQuery → Type 0
    IsReadAbove q =
        ((planned schema tables q).width ≡ (shape schema tables q).width)
        × (is_sized schema tables q ≡ true → (before : ℕ) → MasksAt before (planned schema tables q).leaves
        → (is_within masks ((planned schema tables q).top before) ≡ true) × ((reading masks ((planned schema tables q).top before)).width ≡ (planned schema tables q).width))

    abbrev Witness : Type 0
    Witness = (q : BoundQuery) × IsReadAbove q

    abbrev bare_query : Witness → BoundQuery
    bare_query t = t.0

    abbrev bare_plan : Witness → Planned
    bare_plan t = planned schema tables t.0

    abbrev bare_shape : Witness → Shape
    bare_shape t = shape schema tables t.0

    abbrev read : BoundQuery → Reading
    read = reading masks

    -- ---- items

    counted : (rs : List Bool) (es : List Expr) (at : ℕ) (is_left : Bool) (width : ℕ) (i : Item Planned) → length (join_leaves schema tables rs at es is_left width i) ≡ count_leaves i
    counted rs es at is_left width (item.Table n) = refl
    counted rs es at is_left width (item.Derived p) = refl

    -- above the leaves, after the given number of them
    abbrev item_above : ℕ → Item Witness → Item Reading
    item_above before i = map_item read (top_item before (map_item bare_plan i))

    abbrev joins_above : ℕ → List (Join Planned) → List (Join Reading)
    joins_above before js = map (map_join read) (top_joins before js)

    item_read : (rs : List Bool) (es : List Expr) (at before : ℕ) (is_left : Bool) (width : ℕ) (i : Item Witness)
        → (width == (item_shape schema tables (map_item bare_shape i)).width) ≡ true → (item_shape schema tables (map_item bare_shape i)).is_sized ≡ true → at + width ≤ length rs
        → MasksAt before (join_leaves schema tables rs at es is_left width (map_item bare_plan i))
        → (item_within (item_above before i) ≡ true) × (width ≡ length (item_mask masks (item_above before i)))
        × ((ms : List Bool) → Covers (drop (at + width) rs) ms → Covers (drop at rs) (item_mask masks (item_above before i) ++ ms))
    item_read rs es at before is_left width (item.Table n) same sized fits masks_at = (
      refl,
      sym (ap length masks_at.0 ∙ part_len rs at width fits),
      λ ms covers.
          subst (λ (l : List Bool). Covers (drop at rs) (l ++ ms)) (sym masks_at.0)
          (covers_part width (drop at rs) ms (subst (λ (l : List Bool). Covers l ms) (sym (drop-drop width at rs)) covers)),
    )
    item_read rs es at before is_left width (item.Derived t) same sized fits masks_at =
        let known = t.1.1 sized before masks_at in
        let is : width ≡ (read ((bare_plan t).top before)).width =
        (let e : width ≡ (bare_shape t).width = grind (arith, nat_tests) in e) ∙ sym t.1.0 ∙ sym known.1 in (
          known.0,
          is ∙ sym (length-replicate (read ((bare_plan t).top before)).width true),
          λ ms covers.
              subst (λ (n : ℕ). Covers (drop at rs) (replicate n true ++ ms)) is
              (covers_all width (drop at rs) ms (subst (λ (l : List Bool). Covers l ms) (sym (drop-drop width at rs)) covers)),
        )

    abbrev planned_joins : List (Join Witness) → List (Join Planned)
    planned_joins js = map (map_join bare_plan) js

    abbrev are_sized : List (Join Witness) → Bool
    are_sized js = list_all (is_sized_join schema tables) (map (map_join bare_shape) js)

    joins_read : (rs : List Bool) (es : List Expr) (at before : ℕ) (js : List (Join Witness)) → are_sized js ≡ true → at + widths (planned_joins js) ≤ length rs
        → MasksAt before (rest_leaves schema tables rs es at (planned_joins js))
        → (list_all (join_within masks) (joins_above before (planned_joins js)) ≡ true) × Covers (drop at rs) (flat_map (join_mask masks) (joins_above before (planned_joins js)))
    joins_read rs es at before [] sized fits masks_at = (refl, λ k has. refl)
    joins_read rs es at before (j ∷ js) sized fits masks_at =
        let parts = and_parts (is_sized_join schema tables (map_join bare_shape j)) (are_sized js) sized in
        let here = and_parts (j.width == (item_shape schema tables (map_item bare_shape j.item)).width) ((item_shape schema tables (map_item bare_shape j.item)).is_sized) parts.0 in
        let own : List Leaf = join_leaves schema tables rs at es j.is_left j.width (map_item bare_plan j.item) in
        let later : List Leaf = rest_leaves schema tables rs es (at + j.width) (planned_joins js) in
        let count : ℕ = count_leaves (map_item bare_plan j.item) in
        let one = item_read rs es at before j.is_left j.width j.item here.0 here.1 (omega arith) (masks_front before own later masks_at) in
        let rest = joins_read rs es (at + j.width) (before + count) js parts.1 (omega arith)
        (subst (λ (n : ℕ). MasksAt (before + n) later) (counted rs es at j.is_left j.width (map_item bare_plan j.item)) (masks_rest before own later masks_at)) in
        let mask : List Bool = item_mask masks (item_above before j.item) in (
          and_from (join_within masks (record { is_left = j.is_left; item = item_above before j.item; width = j.width; on = j.on })) (list_all (join_within masks) (joins_above (before + count) (planned_joins js)))
              (and_from (j.width == length mask) (item_within (item_above before j.item)) (eq-eqb j.width (length mask) one.1) one.0) rest.0,
          one.2 (flat_map (join_mask masks) (joins_above (before + count) (planned_joins js))) rest.1,
        )

    -- ---- blocks

    abbrev block_read : ℕ → Block Witness → Block Reading
    block_read before b = map_block read (top_block schema tables before (map_block bare_plan b))

    from_read : (b : Block Witness) (i : Item Witness) (before : ℕ) → (item_shape schema tables (map_item bare_shape i)).is_sized ≡ true → are_sized b.joins ≡ true
        → MasksAt before (leaves_from schema tables (map_block bare_plan b) (map_item bare_plan i)) → block_within masks (map_block read (top_from schema tables before (map_block bare_plan b) (map_item bare_plan i))) ≡ true
    from_read b (item.Table n) before first_sized sized masks_at =
        let p : Block Planned = map_block bare_plan b in
        let width : ℕ = width_of schema (table_of tables n) in
        let len : ℕ = leaf_len schema tables (table_of tables n) width p.joins in
        let at : ℕ = width + widths (take len p.joins) in
        let rs : List Bool = reads_of width p in
        let same : drop len p.joins ≡ planned_joins (drop len b.joins) = drop-map (map_join bare_plan) len b.joins in
        let all : length rs ≡ width + widths p.joins = reads_of_len width p in
        let split : widths (take len p.joins) + widths (drop len p.joins) ≡ widths p.joins = widths_split len p.joins in
        let split_too : widths (drop len p.joins) ≡ widths (planned_joins (drop len b.joins)) = ap widths same in
        let later : List (Join Reading) = joins_above (before + 1) (drop len p.joins) in
        let rest = subst (λ (js : List (Join Planned)). (list_all (join_within masks) (joins_above (before + 1) js) ≡ true) × Covers (drop at rs) (flat_map (join_mask masks) (joins_above (before + 1) js))) (sym same)
        (joins_read rs (pushable p) at (before + 1) (drop len b.joins) (sized_drop len b.joins sized) (omega arith)
        (subst (λ (js : List (Join Planned)). MasksAt (before + 1) (rest_leaves schema tables rs (pushable p) at js)) same masks_at.1)) in
        let left : block_reads (has_place (masks (before + 1) ++ flat_map (join_mask masks) later)) (block_above p len) ≡ true =
        subst (λ (l : List Bool). block_reads (has_place (l ++ flat_map (join_mask masks) later)) (block_above p len) ≡ true) (sym masks_at.0)
        (kept_covered width len at p (flat_map (join_mask masks) later) rest.1) in
        let top : Block Reading = map_block read (top_from schema tables before p (item.Table n)) in
        and_from (true && list_all (join_within masks) later) (block_reads (has_place (from_mask masks top)) top) rest.0
        (reads_left (has_place (from_mask masks top)) schema tables before n p left)
      where
        sized_drop : (n : ℕ) (js : List (Join Witness)) → are_sized js ≡ true → are_sized (drop n js) ≡ true
        sized_drop zero js is = is
        sized_drop (suc n) [] is = is
        sized_drop (suc n) (j ∷ js) is = sized_drop n js (and_parts (is_sized_join schema tables (map_join bare_shape j)) (are_sized js) is).1
    from_read b (item.Derived t) before first_sized sized masks_at =
        let p : Block Planned = map_block bare_plan b in
        let width : ℕ = (bare_plan t).width in
        let rs : List Bool = reads_of width p in
        let own : List Leaf = (bare_plan t).leaves in
        let later : List Leaf = rest_leaves schema tables rs (pushable p) width p.joins in
        let known = t.1.1 first_sized before (masks_front before own later masks_at) in
        let all : length rs ≡ width + widths p.joins = reads_of_len width p in
        let above : List (Join Reading) = joins_above (before + length own) p.joins in
        let rest = joins_read rs (pushable p) width (before + length own) b.joins sized (omega arith) (masks_rest before own later masks_at) in
        let covers : Covers rs (replicate (read ((bare_plan t).top before)).width true ++ flat_map (join_mask masks) above) =
        subst (λ (n : ℕ). Covers rs (replicate n true ++ flat_map (join_mask masks) above)) (sym known.1) (covers_all width rs (flat_map (join_mask masks) above) rest.1) in
        let top : Block Reading = map_block read (top_from schema tables before p (item.Derived (bare_plan t))) in
        and_from ((read ((bare_plan t).top before)).is_within && list_all (join_within masks) above) (block_reads (has_place (from_mask masks top)) top)
        (and_from ((read ((bare_plan t).top before)).is_within) (list_all (join_within masks) above) known.0 rest.0)
        (reads_above (has_place (from_mask masks top)) schema tables before p (bare_plan t) (covered width p (from_mask masks top) covers))

    blocks_read : (bs : List (Block Witness)) (before : ℕ) → list_all (is_sized_block schema tables) (map (map_block bare_shape) bs) ≡ true
        → MasksAt before (flat_map (block_leaves schema tables) (map (map_block bare_plan) bs)) → list_all (block_within masks) (map (map_block read) (top_blocks schema tables before (map (map_block bare_plan) bs))) ≡ true
    blocks_read [] before sized masks_at = refl
    blocks_read (b ∷ bs) before sized masks_at =
        let parts = and_parts (is_sized_block schema tables (map_block bare_shape b)) (list_all (is_sized_block schema tables) (map (map_block bare_shape) bs)) sized in
        let here = and_parts ((item_shape schema tables (map_item bare_shape b.from)).is_sized) (are_sized b.joins) parts.0 in
        let own : List Leaf = block_leaves schema tables (map_block bare_plan b) in
        let later : List Leaf = flat_map (block_leaves schema tables) (map (map_block bare_plan) bs) in
        and_from (block_within masks (block_read before b)) (list_all (block_within masks) (map (map_block read) (top_blocks schema tables (before + length own) (map (map_block bare_plan) bs))))
        (from_read b b.from before here.0 here.1 (masks_front before own later masks_at)) (blocks_read bs (before + length own) parts.1 (masks_rest before own later masks_at))

    -- ---- select lists stay as they are

    outputs_from : (i : Item Planned) (b : Block Planned) (before : ℕ) → (top_from schema tables before b i).outputs ≡ b.outputs
    outputs_from (item.Table n) b before = refl
    outputs_from (item.Derived p) b before = refl

    outputs_above : (n : ℕ) (bs : List (Block Planned)) (before : ℕ) → list_all (λ (b : Block Planned). length b.outputs == n) bs ≡ true
        → list_all (λ (b : Block Reading). length b.outputs == n) (map (map_block read) (top_blocks schema tables before bs)) ≡ true
    outputs_above n [] before is = refl
    outputs_above n (b ∷ bs) before is =
        let parts = and_parts (length b.outputs == n) (list_all (λ (b : Block Planned). length b.outputs == n) bs) is in
        let after : ℕ = before + length (block_leaves schema tables b) in
        and_from (length (top_block schema tables before b).outputs == n) (list_all (λ (b : Block Reading). length b.outputs == n) (map (map_block read) (top_blocks schema tables after bs)))
        (ap (λ (es : List Expr). length es == n) (outputs_from b.from b before) ∙ parts.0) (outputs_above n bs after parts.1)

    outputs_planned : (n : ℕ) (bs : List (Block Witness)) → list_all (λ (b : Block Shape). length b.outputs == n) (map (map_block bare_shape) bs) ≡ true
        → list_all (λ (b : Block Planned). length b.outputs == n) (map (map_block bare_plan) bs) ≡ true
    outputs_planned n [] is = refl
    outputs_planned n (b ∷ bs) is =
        let parts = and_parts (length b.outputs == n) (list_all (λ (b : Block Shape). length b.outputs == n) (map (map_block bare_shape) bs)) is in
        and_from (length b.outputs == n) (list_all (λ (b : Block Planned). length b.outputs == n) (map (map_block bare_plan) bs)) parts.0 (outputs_planned n bs parts.1)

    -- ---- queries

    layer_read : (y : BoundQuery-F Witness) → IsReadAbove (roll-BoundQuery (map-BoundQuery Witness BoundQuery bare_query y))
    layer_read y =
        let d : BoundQuery-F BoundQuery = map-BoundQuery Witness BoundQuery bare_query y in
        let q : BoundQuery = roll-BoundQuery d in
        let layer : BoundQuery-F Planned = map_layer bare_plan y in
        let planned_is : planned schema tables q ≡ planned_query schema tables layer =
        fold-roll-BoundQuery Planned (planned_query schema tables) d ∙ ap (planned_query schema tables) (layer_twice bare_query (planned schema tables) y) in
        let shape_is : shape schema tables q ≡ query_shape schema tables (map_layer bare_shape y) =
        fold-roll-BoundQuery Shape (query_shape schema tables) d ∙ ap (query_shape schema tables) (layer_twice bare_query (shape schema tables) y) in (
          ap (λ (p : Planned). p.width) planned_is ∙ sym (ap (λ (s : Shape). s.width) shape_is),
          λ sized before masks_at.
              (let parts = and_parts (list_all (is_sized_block schema tables) (map (map_block bare_shape) (y.first ∷ y.others)))
              (list_all (λ (b : Block Shape). length b.outputs == length y.first.outputs) (map (map_block bare_shape) y.others)) (ap (λ (s : Shape). s.is_sized) (sym shape_is) ∙ sized) in
              let top : BoundQuery-F BoundQuery = record {
                first = top_block schema tables before layer.first;
                others = top_blocks schema tables (before + length (block_leaves schema tables layer.first)) layer.others;
                order = y.order;
                limit = y.limit;
              } in
              let read_is : read ((planned schema tables q).top before) ≡ query_reading masks (map_layer read top) =
              ap (λ (p : Planned). read (p.top before)) planned_is ∙ fold-roll-BoundQuery Reading (query_reading masks) top ∙ ap (query_reading masks) (layer_mapped read top) in
              let leaves_are : (planned schema tables q).leaves ≡ (planned_query schema tables layer).leaves = ap (λ (p : Planned). p.leaves) planned_is in
              let first_is : top.first.outputs ≡ y.first.outputs = outputs_from (map_item bare_plan y.first.from) layer.first before in
              let outputs : list_all (λ (b : Block Reading). length b.outputs == length top.first.outputs) (map (map_block read) top.others) ≡ true =
              subst (λ (es : List Expr). list_all (λ (b : Block Reading). length b.outputs == length es) (map (map_block read) top.others) ≡ true) (sym first_is)
              (outputs_above (length y.first.outputs) layer.others (before + length (block_leaves schema tables layer.first)) (outputs_planned (length y.first.outputs) y.others parts.1)) in
              let within : (query_reading masks (map_layer read top)).is_within ≡ true =
              and_from (list_all (block_within masks) (map (map_block read) (top.first ∷ top.others))) (list_all (λ (b : Block Reading). length b.outputs == length top.first.outputs) (map (map_block read) top.others))
              (blocks_read (y.first ∷ y.others) before parts.0 (subst (λ (ls : List Leaf). MasksAt before ls) leaves_are masks_at)) outputs in (
                ap (λ (r : Reading). r.is_within) read_is ∙ within,
                ap (λ (r : Reading). r.width) read_is ∙ ap length first_is ∙ sym (ap (λ (p : Planned). p.width) planned_is),
              )),
        )

    read_above : (q : BoundQuery) → IsReadAbove q
    read_above = ind-BoundQuery IsReadAbove (λ x y is. subst (λ (z : BoundQuery-F BoundQuery). IsReadAbove (roll-BoundQuery z)) is (layer_read y))

    -- THE LAW OF WHAT IS READ: the query above the leaves reads within the masks of its leaves.
    pub top_within : (q : BoundQuery) → is_sized schema tables q ≡ true → (before : ℕ) → MasksAt before (planned schema tables q).leaves → is_within masks ((planned schema tables q).top before) ≡ true
    top_within q sized before masks_at = ((read_above q).1 sized before masks_at).0
