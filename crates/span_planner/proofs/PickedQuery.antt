-- A query over tables whose rows have the columns alone that masks have means what the query means on the tables, where it reads within the masks.
use Rattle.std.proofs.Common.{◌≡◌, ◌∙◌, ℕ, ◌+◌, ◌==◌, Bool, true, ◌&&◌, List, [], ◌∷◌, ◌++◌, map, length, replicate, Option, Some, None, refl, ap, sym, subst, append_assoc, length-append, arith}
use Rattle.std.specs.Prelude.{flat_map}
use Rattle.std.specs.List.{AllByRecursion, list_all, fold}
use Rattle.std.specs.Option.{option_map}
use Rattle.std.proofs.lemmas.Bool.{and_parts}
use Rattle.std.proofs.lemmas.Bool.Decides.{nat_tests}
use Rattle.std.proofs.lemmas.List.{length-replicate, append-nil}
use Rattle.span_expr.specs.declared.expr.Expr.{Expr}
use Rattle.span_expr.specs.Places.{moved, rank}
use Rattle.span_query.specs.declared.query.BoundQuery.{BoundQuery}
use Rattle.span_query.specs.declared.query.BoundQuery.TheOpen.{BoundQuery-F}
use Rattle.span_query.specs.declared.query.BoundQuery.TheViews.{roll-BoundQuery}
use Rattle.span_query.specs.declared.query.BoundQuery.TheFolds.{map-BoundQuery, ind-BoundQuery, fold-roll-BoundQuery}
use Rattle.span_query.specs.declared.query.Block.{Block}
use Rattle.span_query.specs.declared.query.Grouping.{Grouping}
use Rattle.span_query.specs.declared.query.Item.{Item}
use Rattle.span_query.specs.declared.query.Item.TheVariants as item
use Rattle.span_query.specs.declared.query.Join.{Join}
use Rattle.span_query.specs.Rows.{Row, Rows, ◌>>=◌, append_results, concat_map, filter_where, project_rows}
use Rattle.span_query.specs.Groups.{group_rows}
use Rattle.span_query.specs.Sorting.{sorted}
use Rattle.span_query.specs.Meaning.{item_rows, join_rows, join_next, from, distinct_if, block_rows, limit_rows, query_rows, meaning_over}
use Rattle.span_query.proofs.Layers.{map_item, map_join, map_block, map_layer, layer_mapped}
use Rattle.span_leaves.proofs.Pushing.{AreOfWidth}
use Rattle.span_leaves.proofs.Narrowing.{IsWide}
use Rattle.span_planner.proofs.Widths.{wide_query}
use Rattle.span_planner.proofs.Queries.{layer_twice}
use Rattle.span_columns.specs.Reads.{has_place, reads_within, condition_reads, on_reads, selection_reads, block_reads, Reading, item_mask, join_mask, from_mask, item_within, join_within, block_within, query_reading, reading, is_within}
use Rattle.span_planner.proofs.Masked.{wide_filter_where, wide_join_rows}
use Rattle.span_columns.specs.Picks.{picked, picked_width, pick_rows}
use Rattle.span_columns.specs.Narrow.{moved_grouping, moved_outputs, NarrowQuery, item_columns, join_columns, from_columns, narrow_join, narrow_with, narrow_block, narrow_layer, narrow, narrowed}
use Rattle.span_leaves.proofs.Picked.{Agrees, agrees, IsNarrowJoin, picked-all, filter_where-picked, join_rows-picked}
use Rattle.span_planner.proofs.PickedGroups.{selection-picked}

-- all columns are read
unpicked : (n : ℕ) (o : Rows) → IsWide n o → pick_rows (replicate n true) o ≡ o
unpicked n None wide = refl
unpicked n (Some rows) wide = ap (λ (l : List Row). Some l) (each_of rows wide) where
  each_of : (rows : List Row) → AreOfWidth n rows → map (picked (replicate n true)) rows ≡ rows
  each_of [] wide = refl
  each_of (row ∷ rows) wide = ap (λ (r : Row). r ∷ map (picked (replicate n true)) rows) (picked-all n row wide.0) ∙ ap (λ (l : List Row). row ∷ l) (each_of rows wide.1)

-- ---- what comes after the FROM

abbrev selected : Option Grouping → List Expr → Bool → Rows → Rows
selected grouping outputs is_distinct o = o >>= group_rows grouping >>= project_rows outputs >>= (λ rows. Some (distinct_if is_distinct rows))

module _ (all ms : List Bool) (agree : Agrees all ms) where
  selected-picked : (grouping : Option Grouping) (outputs : List Expr) (is_distinct : Bool) → selection_reads (has_place all) grouping outputs ≡ true → (o : Rows) → IsWide (length ms) o
      → selected (option_map (moved_grouping (rank all)) grouping) (moved_outputs (rank all) grouping outputs) is_distinct (pick_rows ms o) ≡ selected grouping outputs is_distinct o
  selected-picked grouping outputs is_distinct reads None wide = refl
  selected-picked grouping outputs is_distinct reads (Some rows) wide = ap (λ (o : Rows). o >>= (λ rows. Some (distinct_if is_distinct rows))) (selection-picked all ms agree grouping outputs reads rows wide)

  filtered-picked : (w : Option Expr) (grouping : Option Grouping) (outputs : List Expr) (is_distinct : Bool) → condition_reads (has_place all) w ≡ true → selection_reads (has_place all) grouping outputs ≡ true
      → (o : Rows) → IsWide (length ms) o
      → selected (option_map (moved_grouping (rank all)) grouping) (moved_outputs (rank all) grouping outputs) is_distinct (pick_rows ms o >>= filter_where (option_map (moved (rank all)) w))
      ≡ selected grouping outputs is_distinct (o >>= filter_where w)
  filtered-picked w grouping outputs is_distinct filter_reads reads None wide = refl
  filtered-picked w grouping outputs is_distinct filter_reads reads (Some rows) wide =
      ap (selected (option_map (moved_grouping (rank all)) grouping) (moved_outputs (rank all) grouping outputs) is_distinct) (filter_where-picked all ms agree w rows filter_reads wide)
      ∙ selected-picked grouping outputs is_distinct reads (filter_where w rows) (wide_filter_where (length ms) w rows wide)

-- ---- one join

module _ {A B : Type 0} (all ms ns : List Bool) (j : Join A) (k : Join B) (agree : Agrees all (ms ++ ns)) (is : IsNarrowJoin all ns j k) where
  joined-picked : (left : List Row) → AreOfWidth (length ms) left → (o : Rows) → IsWide (length ns) o → (pick_rows ns o >>= join_rows k (map (picked ms) left)) ≡ pick_rows (ms ++ ns) (o >>= join_rows j left)
  joined-picked left wide None wide_right = refl
  joined-picked left wide (Some right) wide_right = join_rows-picked all ms ns j k agree is left right wide wide_right

  wide_joined : (left : List Row) → AreOfWidth (length ms) left → (o : Rows) → IsWide (length ns) o → IsWide (length (ms ++ ns)) (o >>= join_rows j left)
  wide_joined left wide None wide_right = tt {0}
  wide_joined left wide (Some right) wide_right =
      let sum : length ms + j.width ≡ length (ms ++ ns) = ap (λ (n : ℕ). length ms + n) is.wide ∙ sym (length-append ms ns) in
      subst (λ (n : ℕ). IsWide n (join_rows j left right)) sum (wide_join_rows j (length ms) left right wide (subst (λ (n : ℕ). AreOfWidth n right) (sym is.wide) wide_right))

-- ---- the number of columns

module _ (masks : ℕ → List Bool) where
  width_roll : (y : BoundQuery-F BoundQuery) → (narrow masks (roll-BoundQuery y)).width ≡ (reading masks (roll-BoundQuery y)).width
  width_roll y =
      ap (λ (q : NarrowQuery). q.width) (fold-roll-BoundQuery NarrowQuery (narrow_layer masks) y ∙ ap (narrow_layer masks) (layer_mapped (narrow masks) y))
      ∙ sym (ap (λ (r : Reading). r.width) (fold-roll-BoundQuery Reading (query_reading masks) y ∙ ap (query_reading masks) (layer_mapped (reading masks) y)))

  same_width : (q : BoundQuery) → (narrow masks q).width ≡ (reading masks q).width
  same_width =
      let P : BoundQuery → Type 0 = λ q. (narrow masks q).width ≡ (reading masks q).width in
      ind-BoundQuery P (λ x y is. subst (λ (z : BoundQuery-F BoundQuery). P (roll-BoundQuery z)) is (width_roll (map-BoundQuery ((q : BoundQuery) × P q) BoundQuery (λ t. t.0) y)))

module _ (masks : ℕ → List Bool) (f g : ℕ → Rows) (picked_so : (n : ℕ) → g n ≡ pick_rows (masks n) (f n)) (wide_so : (n : ℕ) → IsWide (length (masks n)) (f n)) where
  abbrev pub IsPickedToo : BoundQuery → Type 0
  IsPickedToo q = is_within masks q ≡ true → (meaning_over g (narrowed masks q) ≡ meaning_over f q) × IsWide (reading masks q).width (meaning_over f q)

  abbrev Witness : Type 0
  Witness = (q : BoundQuery) × IsPickedToo q

  abbrev bare_query : Witness → BoundQuery
  bare_query t = t.0

  abbrev bare_f : Witness → Rows
  bare_f t = meaning_over f t.0

  abbrev bare_narrow : Witness → NarrowQuery
  bare_narrow t = narrow masks t.0

  abbrev bare_read : Witness → Reading
  bare_read t = reading masks t.0

  abbrev mean_g : BoundQuery → Rows
  mean_g = meaning_over g

  abbrev query_of : NarrowQuery → BoundQuery
  query_of q = q.query

  -- ---- masks

  abbrev mask_of : Item Witness → List Bool
  mask_of i = item_mask masks (map_item bare_read i)

  same_columns : (i : Item Witness) → item_columns masks (map_item bare_narrow i) ≡ mask_of i
  same_columns (item.Table n) = refl
  same_columns (item.Derived t) = ap (λ (n : ℕ). replicate n true) (same_width masks t.0)

  abbrev rest_mask : List (Join Witness) → List Bool
  rest_mask js = flat_map (join_mask masks) (map (map_join bare_read) js)

  same_rest : (js : List (Join Witness)) → flat_map (join_columns masks) (map (map_join bare_narrow) js) ≡ rest_mask js
  same_rest [] = refl
  same_rest (j ∷ js) =
      ap (λ (l : List Bool). l ++ flat_map (join_columns masks) (map (map_join bare_narrow) js)) (same_columns j.item) ∙ ap (λ (l : List Bool). mask_of j.item ++ l) (same_rest js)

  same_mask : (b : Block Witness) → from_columns masks (map_block bare_narrow b) ≡ from_mask masks (map_block bare_read b)
  same_mask b =
      ap (λ (l : List Bool). l ++ flat_map (join_columns masks) (map (map_join bare_narrow) b.joins)) (same_columns b.from) ∙ ap (λ (l : List Bool). mask_of b.from ++ l) (same_rest b.joins)

  -- ---- items

  abbrev narrow_item : Item Witness → Item Rows
  narrow_item i = map_item mean_g (map_item query_of (map_item bare_narrow i))

  item_picked : (i : Item Witness) → item_within (map_item bare_read i) ≡ true
      → (item_rows g (narrow_item i) ≡ pick_rows (mask_of i) (item_rows f (map_item bare_f i))) × IsWide (length (mask_of i)) (item_rows f (map_item bare_f i))
  item_picked (item.Table n) within = (picked_so n, wide_so n)
  item_picked (item.Derived t) within =
      let known : (meaning_over g (narrowed masks t.0) ≡ meaning_over f t.0) × IsWide (reading masks t.0).width (meaning_over f t.0) = t.1 within in
      let width : ℕ = (bare_read t).width in
      (known.0 ∙ sym (unpicked width (bare_f t) known.1), subst (λ (n : ℕ). IsWide n (bare_f t)) (sym (length-replicate width true)) known.1)

  -- ---- joins

  -- a join over picked rows, with what its derived table means
  abbrev join_over : List Bool → Join Witness → Join Rows
  join_over all j = map_join mean_g (narrow_join masks (rank all) (map_join bare_narrow j))

  module _ (all ms : List Bool) (j : Join Witness) (agree : Agrees all (ms ++ mask_of j.item)) (within : join_within masks (map_join bare_read j) ≡ true) (reads : reads_within all j.on ≡ true) where
    within_parts : ((j.width == length (mask_of j.item)) ≡ true) × (item_within (map_item bare_read j.item) ≡ true)
    within_parts = and_parts (j.width == length (mask_of j.item)) (item_within (map_item bare_read j.item)) within

    width_is : j.width ≡ length (mask_of j.item)
    width_is = let e : (j.width == length (mask_of j.item)) ≡ true = within_parts.0 in grind (arith, nat_tests)

    item_is : (item_rows g (narrow_item j.item) ≡ pick_rows (mask_of j.item) (item_rows f (map_item bare_f j.item))) × IsWide (length (mask_of j.item)) (item_rows f (map_item bare_f j.item))
    item_is = item_picked j.item within_parts.1

    join_is : IsNarrowJoin all (mask_of j.item) (map_join bare_f j) (join_over all j)
    join_is = record { same_left = refl; width = ap picked_width (same_columns j.item); on = refl; wide = width_is; reads = reads }

    next-picked : (o : Rows) → IsWide (length ms) o → join_next g (pick_rows ms o) (join_over all j) ≡ pick_rows (ms ++ mask_of j.item) (join_next f o (map_join bare_f j))
    next-picked None wide = refl
    next-picked (Some left) wide =
        ap (λ (o : Rows). o >>= join_rows (join_over all j) (map (picked ms) left)) item_is.0
        ∙ joined-picked all ms (mask_of j.item) (map_join bare_f j) (join_over all j) agree join_is left wide (item_rows f (map_item bare_f j.item)) item_is.1

    wide_next : (o : Rows) → IsWide (length ms) o → IsWide (length (ms ++ mask_of j.item)) (join_next f o (map_join bare_f j))
    wide_next None wide = tt {0}
    wide_next (Some left) wide = wide_joined all ms (mask_of j.item) (map_join bare_f j) (join_over all j) agree join_is left wide (item_rows f (map_item bare_f j.item)) item_is.1

  abbrev joins_over : List Bool → List (Join Witness) → List (Join Rows)
  joins_over all js = map (map_join mean_g) (map (narrow_join masks (rank all)) (map (map_join bare_narrow) js))

  joins_picked : (all : List Bool) (js : List (Join Witness)) (ms : List Bool) → all ≡ ms ++ rest_mask js → (o : Rows) → IsWide (length ms) o
      → list_all (join_within masks) (map (map_join bare_read) js) ≡ true → list_all (on_reads (has_place all)) (map (map_join bare_read) js) ≡ true
      → (fold (join_next g) (pick_rows ms o) (joins_over all js) ≡ pick_rows all (fold (join_next f) o (map (map_join bare_f) js))) × IsWide (length all) (fold (join_next f) o (map (map_join bare_f) js))
  joins_picked all [] ms is o wide within ons =
      let e : ms ≡ all = sym (append-nil ms) ∙ sym is in
      (ap (λ (l : List Bool). pick_rows l o) e, subst (λ (l : List Bool). IsWide (length l) o) e wide)
  joins_picked all (j ∷ js) ms is o wide within ons =
      let parts : (join_within masks (map_join bare_read j) ≡ true) × (list_all (join_within masks) (map (map_join bare_read) js) ≡ true) =
      and_parts (join_within masks (map_join bare_read j)) (list_all (join_within masks) (map (map_join bare_read) js)) within in
      let read : (reads_within all j.on ≡ true) × (list_all (on_reads (has_place all)) (map (map_join bare_read) js) ≡ true) =
      and_parts (reads_within all j.on) (list_all (on_reads (has_place all)) (map (map_join bare_read) js)) ons in
      let ns : List Bool = mask_of j.item in
      let longer : all ≡ (ms ++ ns) ++ rest_mask js = is ∙ sym (append_assoc ms ns (rest_mask js)) in
      let agree : Agrees all (ms ++ ns) = subst (λ (l : List Bool). Agrees l (ms ++ ns)) (sym longer) (agrees (ms ++ ns) (rest_mask js)) in
      let rest : (fold (join_next g) (pick_rows (ms ++ ns) (join_next f o (map_join bare_f j))) (joins_over all js) ≡ pick_rows all (fold (join_next f) (join_next f o (map_join bare_f j)) (map (map_join bare_f) js)))
      × IsWide (length all) (fold (join_next f) (join_next f o (map_join bare_f j)) (map (map_join bare_f) js)) =
      joins_picked all js (ms ++ ns) longer (join_next f o (map_join bare_f j)) (wide_next all ms j agree parts.0 read.0 o wide) parts.1 read.1 in
      (ap (λ (x : Rows). fold (join_next g) x (joins_over all js)) (next-picked all ms j agree parts.0 read.0 o wide) ∙ rest.0, rest.1)

  -- ---- blocks

  abbrev block_over : List Bool → Block Witness → Block Rows
  block_over all b = map_block mean_g (narrow_with masks (rank all) (map_block bare_narrow b))

  block_picked : (b : Block Witness) → block_within masks (map_block bare_read b) ≡ true → block_rows g (map_block mean_g (narrow_block masks (map_block bare_narrow b))) ≡ block_rows f (map_block bare_f b)
  block_picked b within =
      let read : Block Reading = map_block bare_read b in
      let all : List Bool = from_mask masks read in
      let outer : ((item_within read.from && list_all (join_within masks) read.joins) ≡ true) × (block_reads (has_place all) read ≡ true) =
      and_parts (item_within read.from && list_all (join_within masks) read.joins) (block_reads (has_place all) read) within in
      let inner : (item_within read.from ≡ true) × (list_all (join_within masks) read.joins ≡ true) = and_parts (item_within read.from) (list_all (join_within masks) read.joins) outer.0 in
      let reads : ((list_all (on_reads (has_place all)) read.joins && condition_reads (has_place all) b.filter) ≡ true) × (selection_reads (has_place all) b.grouping b.outputs ≡ true) =
      and_parts (list_all (on_reads (has_place all)) read.joins && condition_reads (has_place all) b.filter) (selection_reads (has_place all) b.grouping b.outputs) outer.1 in
      let before : (list_all (on_reads (has_place all)) read.joins ≡ true) × (condition_reads (has_place all) b.filter ≡ true) =
      and_parts (list_all (on_reads (has_place all)) read.joins) (condition_reads (has_place all) b.filter) reads.0 in
      let first : (item_rows g (narrow_item b.from) ≡ pick_rows (mask_of b.from) (item_rows f (map_item bare_f b.from))) × IsWide (length (mask_of b.from)) (item_rows f (map_item bare_f b.from)) =
      item_picked b.from inner.0 in
      let rows : (fold (join_next g) (pick_rows (mask_of b.from) (item_rows f (map_item bare_f b.from))) (joins_over all b.joins) ≡ pick_rows all (from f (map_item bare_f b.from) (map (map_join bare_f) b.joins)))
      × IsWide (length all) (from f (map_item bare_f b.from) (map (map_join bare_f) b.joins)) =
      joins_picked all b.joins (mask_of b.from) refl (item_rows f (map_item bare_f b.from)) first.1 inner.1 before.0 in
      let whole : Agrees all all = subst (λ (l : List Bool). Agrees l all) (append-nil all) (agrees all []) in
      let after : Rows → Rows = λ o. selected (option_map (moved_grouping (rank all)) b.grouping) (moved_outputs (rank all) b.grouping b.outputs) b.is_distinct (o >>= filter_where (option_map (moved (rank all)) b.filter)) in
      ap (λ (l : List Bool). block_rows g (block_over l b)) (same_mask b)
      ∙ ap (λ (o : Rows). after (fold (join_next g) o (joins_over all b.joins))) first.0
      ∙ ap after rows.0
      ∙ filtered-picked all all whole b.filter b.grouping b.outputs b.is_distinct before.1 reads.1 (from f (map_item bare_f b.from) (map (map_join bare_f) b.joins)) rows.1

  blocks_picked : (bs : List (Block Witness)) → list_all (block_within masks) (map (map_block bare_read) bs) ≡ true
      → concat_map (block_rows g) (map (map_block mean_g) (map (narrow_block masks) (map (map_block bare_narrow) bs))) ≡ concat_map (block_rows f) (map (map_block bare_f) bs)
  blocks_picked [] within = refl
  blocks_picked (b ∷ bs) within =
      let parts : (block_within masks (map_block bare_read b) ≡ true) × (list_all (block_within masks) (map (map_block bare_read) bs) ≡ true) =
      and_parts (block_within masks (map_block bare_read b)) (list_all (block_within masks) (map (map_block bare_read) bs)) within in
      ap (λ (o : Rows). append_results o (concat_map (block_rows g) (map (map_block mean_g) (map (narrow_block masks) (map (map_block bare_narrow) bs))))) (block_picked b parts.0)
      ∙ ap (append_results (block_rows f (map_block bare_f b))) (blocks_picked bs parts.1)

  outputs_are : (n : ℕ) (bs : List (Block Witness)) → list_all (λ (b : Block Reading). length b.outputs == n) (map (map_block bare_read) bs) ≡ true → AllByRecursion (λ (b : Block Rows). length b.outputs ≡ n) (map (map_block bare_f) bs)
  outputs_are n [] is = tt {0}
  outputs_are n (b ∷ bs) is =
      let parts : ((length b.outputs == n) ≡ true) × (list_all (λ (b : Block Reading). length b.outputs == n) (map (map_block bare_read) bs) ≡ true) =
      and_parts (length b.outputs == n) (list_all (λ (b : Block Reading). length b.outputs == n) (map (map_block bare_read) bs)) is in
      ((let e : (length b.outputs == n) ≡ true = parts.0 in grind (arith, nat_tests)), outputs_are n bs parts.1)

  -- ---- queries

  abbrev query_with : BoundQuery-F Witness → BoundQuery
  query_with y = roll-BoundQuery (map-BoundQuery Witness BoundQuery bare_query y)

  -- what comes after the blocks
  abbrev finished : BoundQuery-F Witness → Rows → Rows
  finished y o = o >>= (λ (rows : List Row). Some (limit_rows y.limit (sorted y.order rows)))

  mean_roll : (h : ℕ → Rows) (y : BoundQuery-F Witness) → meaning_over h (query_with y) ≡ query_rows h (map_layer (λ t. meaning_over h (bare_query t)) y)
  mean_roll h y = fold-roll-BoundQuery Rows (query_rows h) (map-BoundQuery Witness BoundQuery bare_query y) ∙ ap (query_rows h) (layer_twice bare_query (meaning_over h) y)

  read_roll : (y : BoundQuery-F Witness) → reading masks (query_with y) ≡ query_reading masks (map_layer bare_read y)
  read_roll y = fold-roll-BoundQuery Reading (query_reading masks) (map-BoundQuery Witness BoundQuery bare_query y) ∙ ap (query_reading masks) (layer_twice bare_query (reading masks) y)

  -- the layer of the query over picked rows
  abbrev layer_over : BoundQuery-F Witness → BoundQuery-F BoundQuery
  layer_over y = record {
    first = narrow_block masks (map_block bare_narrow y.first);
    others = map (narrow_block masks) (map (map_block bare_narrow) y.others);
    order = y.order;
    limit = y.limit;
  }

  narrow_roll : (y : BoundQuery-F Witness) → narrowed masks (query_with y) ≡ roll-BoundQuery (layer_over y)
  narrow_roll y =
      ap query_of (fold-roll-BoundQuery NarrowQuery (narrow_layer masks) (map-BoundQuery Witness BoundQuery bare_query y) ∙ ap (narrow_layer masks) (layer_twice bare_query (narrow masks) y))

  narrow_mean : (y : BoundQuery-F Witness) → meaning_over g (narrowed masks (query_with y))
      ≡ finished y (concat_map (block_rows g) (map (map_block mean_g) (map (narrow_block masks) (map (map_block bare_narrow) (y.first ∷ y.others)))))
  narrow_mean y = ap mean_g (narrow_roll y) ∙ fold-roll-BoundQuery Rows (query_rows g) (layer_over y) ∙ ap (query_rows g) (layer_mapped mean_g (layer_over y))

  layer_picked : (y : BoundQuery-F Witness) → IsPickedToo (query_with y)
  layer_picked y within =
      let parts : (list_all (block_within masks) (map (map_block bare_read) (y.first ∷ y.others)) ≡ true) × (list_all (λ (b : Block Reading). length b.outputs == length y.first.outputs) (map (map_block bare_read) y.others) ≡ true) =
      and_parts (list_all (block_within masks) (map (map_block bare_read) (y.first ∷ y.others))) (list_all (λ (b : Block Reading). length b.outputs == length y.first.outputs) (map (map_block bare_read) y.others))
      (ap (λ (r : Reading). r.is_within) (sym (read_roll y)) ∙ within) in
      let rows : IsWide (length y.first.outputs) (query_rows f (map_layer bare_f y)) = wide_query f (length y.first.outputs) (map_layer bare_f y) (refl, outputs_are (length y.first.outputs) y.others parts.1) in (
        narrow_mean y ∙ ap (finished y) (blocks_picked (y.first ∷ y.others) parts.0) ∙ sym (mean_roll f y),
        subst (λ (n : ℕ). IsWide n (meaning_over f (query_with y))) (sym (ap (λ (r : Reading). r.width) (read_roll y))) (subst (IsWide (length y.first.outputs)) (sym (mean_roll f y)) rows),
      )

  picked_too : (q : BoundQuery) → IsPickedToo q
  picked_too = ind-BoundQuery IsPickedToo (λ x y is. subst (λ (z : BoundQuery-F BoundQuery). IsPickedToo (roll-BoundQuery z)) is (layer_picked y))

  -- THE LAW OF PICKED ROWS ABOVE LEAVES: over tables whose rows have the columns alone that the masks have, a query that reads within the masks
  -- means what it means on the tables.
  pub meaning-picked : (q : BoundQuery) → is_within masks q ≡ true → meaning_over g (narrowed masks q) ≡ meaning_over f q
  meaning-picked q within = (picked_too q within).0
