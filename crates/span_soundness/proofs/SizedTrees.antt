-- What the binder makes of a whole tree can be planned: its items are the tables that it names, and its widths are right.
use Rattle.std.proofs.Common.{◌≡◌, ◌∙◌, sym, ap, refl, ℕ, suc, ◌+◌, ◌==◌, true, false, Bool, if◌then◌else◌, List, [], ◌∷◌, ◌++◌, length, map, Option, Ok, Err, arith}
use Rattle.std.specs.Prelude.{slice_get, nat_le}
use Rattle.std.specs.Option.{unwrap_or, option_map}
use Rattle.std.specs.List.{AllByRecursion, list_all, zip}
use Rattle.std.proofs.lemmas.Bool.{eqb-true, eq-eqb, le-leb, and_from, and_parts}
use Rattle.std.proofs.lemmas.List.{length-map, length-append}
use Rattle.span_value.specs.Results.{and_then}
use Rattle.span_value.specs.declared.refusal.Refusal.TheVariants.{DuplicateAlias, ColumnsDiffer}
use Rattle.span_schema.specs.declared.table.Table.{Table}
use Rattle.span_schema.specs.Numbers.{IsTable, columns_of}
use Rattle.span_trees.specs.declared.tree.Expr.{Expr as Tree}
use Rattle.span_parser.specs.declared.tree.SortKey.{SortKey}
use Rattle.span_parser.specs.declared.tree.Limit.{Limit}
use Rattle.span_parser.specs.declared.tree.Query.{Query}
use Rattle.span_expr.specs.declared.expr.Expr.{Expr}
use Rattle.span_query.specs.declared.query.BoundQuery.{BoundQuery}
use Rattle.span_query.specs.declared.query.BoundQuery.TheOpen.{BoundQuery-F}
use Rattle.span_query.specs.declared.query.BoundQuery.TheViews.{roll-BoundQuery}
use Rattle.span_query.specs.declared.query.BoundQuery.TheFolds.{fold-roll-BoundQuery}
use Rattle.span_query.specs.declared.query.Block.{Block}
use Rattle.span_query.specs.declared.query.Item.{Item}
use Rattle.span_query.specs.declared.query.Join.{Join}
use Rattle.span_query.specs.declared.query.OutputColumn.{OutputColumn}
use Rattle.span_query.specs.declared.query.SortKey.{SortKey as BoundKey}
use Rattle.span_query.specs.Layers.{map_item, map_join, map_block, map_layer}
use Rattle.span_query.proofs.Layers.{layer_mapped}
use Rattle.span_leaves.specs.Leaves.{table_of, width_of}
use Rattle.span_leaves.specs.Numbered.{is_number}
use Rattle.span_planner.specs.Sizes.{Shape, item_shape, is_sized_join, is_sized_block, query_shape, shape, is_sized}
use Rattle.span_params.specs.declared.params.Parameter.{Parameter}
use Rattle.span_blocks.specs.declared.bound.Source.{Source}
use Rattle.span_blocks.specs.declared.bound.FromItems.{FromItems}
use Rattle.span_blocks.specs.declared.bound.SelectItem.{SelectItem}
use Rattle.span_blocks.specs.declared.bound.Parts.{Parts}
use Rattle.span_blocks.specs.declared.bound.TypedQuery.{TypedQuery}
use Rattle.span_blocks.specs.declared.bound.BoundBlock.{BoundBlock}
use Rattle.span_blocks.specs.declared.bound.BoundBlocks.{BoundBlocks}
use Rattle.span_blocks.specs.Sources.{table_column, table_source, with_names, has_item, condition, join_of, with_join, add_item}
use Rattle.span_blocks.specs.Blocks.{with_keys, group_places, BlockTail, bind_parts, block_of, block_in, bind_block}
use Rattle.span_blocks.specs.Aggregating.{mode_of}
use Rattle.span_binder.specs.Queries.{have_same_kind, have_same_kinds, are_union_compatible, sort_keys, blocks_of, limit_of, query_of, bind_query, query_step}
use Rattle.span_soundness.proofs.Agreeing.{Made, then_made}
use Rattle.span_soundness.proofs.Nesting.{IsFront, bound_is}
use Rattle.span_soundness.proofs.Places.{any_made}

table_after : (xs : List ℕ) (n : ℕ) (later : List ℕ) → unwrap_or (slice_get ((xs ++ n ∷ []) ++ later) (length xs)) 0 ≡ n
table_after [] n later = refl
table_after (x ∷ xs) n later = table_after xs n later

number_after : (xs : List ℕ) (n : ℕ) (later : List ℕ) → is_number ((xs ++ n ∷ []) ++ later) (length xs + 1) ≡ true
number_after xs n later = and_from (nat_le 1 (length xs + 1)) (nat_le (length xs + 1) (length ((xs ++ n ∷ []) ++ later))) (le-leb 1 (length xs + 1) (omega arith))
    (le-leb (length xs + 1) (length ((xs ++ n ∷ []) ++ later)) (rw (length-append (xs ++ n ∷ []) later, length-append xs (n ∷ [])) (omega arith)))

module _ (schema : List Table) (all : List ℕ) where
  abbrev shape_q : BoundQuery → Shape
  shape_q = shape schema all

  abbrev shape_of : Item BoundQuery → Shape
  shape_of i = item_shape schema all (map_item shape_q i)

  abbrev are_sized : List (Join BoundQuery) → Bool
  are_sized joins = list_all (is_sized_join schema all) (map (map_join shape_q) joins)

  abbrev IsSource : Source → Type 0
  IsSource s = ((shape_of s.item).is_sized ≡ true) × (length s.columns ≡ (shape_of s.item).width)

  abbrev IsFrom : FromItems → Type 0
  IsFrom f = ((shape_of f.first).is_sized ≡ true) × (are_sized f.joins ≡ true)

  abbrev IsBlock : BoundBlock → Type 0
  IsBlock x = (is_sized_block schema all (map_block shape_q x.block) ≡ true) × (length x.block.outputs ≡ length x.columns)

  abbrev IsBound : TypedQuery → Type 0
  IsBound q = (is_sized schema all q.query ≡ true) × (length q.columns ≡ (shape_q q.query).width)

  -- ---- items

  table_there : (found : List ℕ) (n : ℕ) → IsFront schema all (found ++ n ∷ []) → table_of all (length found + 1) ≡ n
  table_there found n front =
      ap (λ (l : List ℕ). table_of l (length found + 1)) front.1
      ∙ ap (λ (i : ℕ). table_of ((found ++ (n ∷ [])) ++ front.0) i) {x = length found + 1} {y = suc (length found)} (omega arith)
      ∙ table_after found n front.0

  table_sized : (name found : List ℕ) (n : ℕ) → IsFront schema all (found ++ n ∷ []) → IsSource (table_source schema name (length found + 1) n)
  table_sized name found n front = (
    ap (λ (l : List ℕ). is_number l (length found + 1)) front.1 ∙ number_after found n front.0,
    length-map (columns_of schema n) table_column ∙ ap (width_of schema) (sym (table_there found n front)),
  )

  -- ---- joins

  one_more : (joins : List (Join BoundQuery)) (j : Join BoundQuery) → are_sized joins ≡ true → is_sized_join schema all (map_join shape_q j) ≡ true → are_sized (joins ++ j ∷ []) ≡ true
  one_more [] j are is = and_from (is_sized_join schema all (map_join shape_q j)) true is refl
  one_more (i ∷ joins) j are is =
      let parts = and_parts (is_sized_join schema all (map_join shape_q i)) (are_sized joins) are in
      and_from (is_sized_join schema all (map_join shape_q i)) (are_sized (joins ++ j ∷ [])) parts.0 (one_more joins j parts.1 is)

  join_sized : (is_left : Bool) (s : Source) (on : Expr) → IsSource s → is_sized_join schema all (map_join shape_q (join_of is_left s on)) ≡ true
  join_sized is_left s on is = and_from (length s.columns == (shape_of s.item).width) (shape_of s.item).is_sized (eq-eqb (length s.columns) (shape_of s.item).width is.1) is.0

  extended_sized : (params : List Parameter) (f : FromItems) (is_left : Bool) (s : Source) (on : Tree) → IsFrom f → IsSource s → Made IsFrom (add_item params f is_left s on)
  extended_sized params f is_left s on f_is s_is = go (has_item f.scope s.name) where
    go : (b : Bool) → Made IsFrom (if b then Err DuplicateAlias else and_then (condition (with_names f.scope s) params on) (λ e. Ok (with_join f is_left s e)))
    go true = tt {0}
    go false = then_made (λ (e : Expr). Unit {0}) IsFrom (condition (with_names f.scope s) params on) (λ e. Ok (with_join f is_left s e)) (any_made (condition (with_names f.scope s) params on))
        (λ e any. (f_is.0, one_more f.joins (join_of is_left s e) f_is.1 (join_sized is_left s e s_is)))

  -- ---- blocks

  parted_sized : (f : FromItems) (is_distinct is_grouped : Bool) (keys : List ℕ) (parts : Parts) → IsFrom f → IsBlock (block_of f.first f.joins is_distinct is_grouped keys parts)
  parted_sized f is_distinct is_grouped keys parts is = (
    and_from (shape_of f.first).is_sized (are_sized f.joins) is.0 is.1,
    length-map parts.projection (λ (s : SelectItem). s.expr) ∙ sym (length-map parts.projection (λ (s : SelectItem). s.column)),
  )

  block_sized : (params : List Parameter) (b : BlockTail) (f : FromItems) → IsFrom f → Made IsBlock (bind_block params b f)
  unfolding bind_block block_in
  block_sized params b f is =
      then_made (λ (parts : Parts). Unit {0}) IsBlock (bind_parts (with_keys f.scope (group_places f.scope b.groups)) params (mode_of b.is_grouped) b)
      (λ parts. Ok (block_of f.first f.joins b.is_distinct b.is_grouped (group_places f.scope b.groups) parts)) (any_made (bind_parts (with_keys f.scope (group_places f.scope b.groups)) params (mode_of b.is_grouped) b))
      (λ parts any. parted_sized f b.is_distinct b.is_grouped (group_places f.scope b.groups) parts is)

  -- ---- unions

  abbrev shapes : List BoundBlock → List (Block Shape)
  shapes others = map (map_block shape_q) (blocks_of others)

  blocks_sized : (others : List BoundBlock) → AllByRecursion IsBlock others → list_all (is_sized_block schema all) (shapes others) ≡ true
  blocks_sized [] are = refl
  blocks_sized (b ∷ others) are = and_from (is_sized_block schema all (map_block shape_q b.block)) (list_all (is_sized_block schema all) (shapes others)) are.0.0 (blocks_sized others are.1)

  outputs_equal : (n : ℕ) (columns : List OutputColumn) (others : List BoundBlock) → n ≡ length columns → AllByRecursion IsBlock others → list_all (λ (other : BoundBlock). have_same_kinds columns other.columns) others ≡ true
      → list_all (λ (b : Block Shape). length b.outputs == n) (shapes others) ≡ true
  outputs_equal n columns [] first are same = refl
  outputs_equal n columns (b ∷ others) first are same =
      let parts = and_parts (have_same_kinds columns b.columns) (list_all (λ (other : BoundBlock). have_same_kinds columns other.columns) others) same in
      let kinds = and_parts (length columns == length b.columns) (list_all have_same_kind (zip columns b.columns)) parts.0 in
      and_from (length b.block.outputs == n) (list_all (λ (b : Block Shape). length b.outputs == n) (shapes others))
      (eq-eqb (length b.block.outputs) n (are.0.1 ∙ sym (eqb-true (length columns) (length b.columns) kinds.0) ∙ sym first))
      (outputs_equal n columns others first are.1 parts.1)

  abbrev layer_of : BoundBlocks → List BoundKey → Option Limit → BoundQuery-F BoundQuery
  layer_of b order limit = record { first = b.first.block; others = blocks_of b.others; order = order; limit = option_map limit_of limit }

  layer_shape : (d : BoundQuery-F BoundQuery) → shape_q (roll-BoundQuery d) ≡ query_shape schema all (map_layer shape_q d)
  layer_shape d = fold-roll-BoundQuery Shape (query_shape schema all) d ∙ ap (query_shape schema all) (layer_mapped shape_q d)

  layer_sized : (b : BoundBlocks) (keys : List BoundKey) (limit : Option Limit) → IsBlock b.first → AllByRecursion IsBlock b.others → list_all (λ (other : BoundBlock). have_same_kinds b.first.columns other.columns) b.others ≡ true
      → IsBound (query_of b keys limit)
  layer_sized b keys limit first others same = (
    ap (λ (x : Shape). x.is_sized) (layer_shape (layer_of b keys limit))
        ∙ and_from (list_all (is_sized_block schema all) (shapes (b.first ∷ b.others))) (list_all (λ (x : Block Shape). length x.outputs == length b.first.block.outputs) (shapes b.others))
        (blocks_sized (b.first ∷ b.others) (first, others)) (outputs_equal (length b.first.block.outputs) b.first.columns b.others first.1 others same),
    sym first.1 ∙ sym (ap (λ (x : Shape). x.width) (layer_shape (layer_of b keys limit))),
  )

  union_sized : (b : BoundBlocks) (order : List SortKey) (limit : Option Limit) → IsBlock b.first → AllByRecursion IsBlock b.others → Made IsBound (bind_query b order limit)
  unfolding bind_query are_union_compatible
  union_sized b order limit first others = go (list_all (λ (other : BoundBlock). have_same_kinds b.first.columns other.columns) b.others) (λ same keys. layer_sized b keys limit first others same) where
    go : (same : Bool) → (same ≡ true → (keys : List BoundKey) → IsBound (query_of b keys limit)) → Made IsBound (if same then and_then (sort_keys b.first.columns order) (λ keys. Ok (query_of b keys limit)) else Err ColumnsDiffer)
    go false sized = tt {0}
    go true sized = then_made (λ (keys : List BoundKey). Unit {0}) IsBound (sort_keys b.first.columns order) (λ keys. Ok (query_of b keys limit)) (any_made (sort_keys b.first.columns order)) (λ keys any. sized refl keys)

  -- ---- trees

  pub tree_sized : (params : List Parameter) (q : Query) (b : TypedQuery) → query_step schema params q [] ≡ Ok (b, all) → AllByRecursion (IsTable schema) all × (is_sized schema all b.query ≡ true)
  tree_sized params q b is =
      let made : AllByRecursion (IsTable schema) all × IsBound b =
      bound_is schema all params IsSource IsFrom IsBlock IsBound
      table_sized
      (λ name q q_is. q_is)
      (λ s s_is. (s_is.0, refl))
      (extended_sized params)
      (block_sized params)
      union_sized
      q b is in
      (made.0, made.1.0)
