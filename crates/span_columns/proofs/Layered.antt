-- A query over picked rows, a layer at a time.
use Rattle.std.proofs.Common.{◌≡◌, ◌∙◌, ℕ, ◌+◌, ◌<◌, Bool, List, [], ◌∷◌, ◌++◌, drop, get_or, length, replicate, map, ap, refl, sym, suc, zero, true, arith}
use Rattle.std.proofs.Math.Seq.{drop-cons}
use Rattle.std.proofs.lemmas.List.{append_assoc}
use Rattle.span_expr.specs.declared.expr.Expr.{Expr}
use Rattle.span_expr.specs.Places.{moved, rank}
use Rattle.span_query.specs.declared.query.Block.{Block}
use Rattle.span_query.specs.declared.query.Item.{Item}
use Rattle.span_query.specs.declared.query.Item.TheVariants as item
use Rattle.span_query.specs.declared.query.Join.{Join}
use Rattle.span_query.specs.declared.query.SortKey.{SortKey}
use Rattle.span_query.specs.declared.query.BoundQuery.TheOpen.{BoundQuery-F}
use Rattle.span_query.specs.declared.query.BoundQuery.TheViews.{roll-BoundQuery}
use Rattle.span_query.specs.Layers.{map_item, map_join, map_block}
use Rattle.span_query.specs.declared.query.BoundQuery.{BoundQuery}
use Rattle.span_query.specs.declared.query.BoundQuery.TheFolds.{fold_out-BoundQuery}
use Rattle.span_query.specs.declared.query.BoundQuery.TheViews.{out-BoundQuery}
use Rattle.span_query.specs.Layers.{map_layer}
use Rattle.span_query.proofs.Layers.{layer_mapped}
use Rattle.span_columns.specs.Narrow.{NarrowQuery, item_columns, from_columns, narrow_join, moved_block, narrow_block, narrow_layer, narrow, narrowed}
use Rattle.span_columns.specs.Picks.{picked_width}

pub narrow_is : (masks : ℕ → List Bool) (q : BoundQuery) → narrow masks q ≡ narrow_layer masks (map_layer (narrow masks) (out-BoundQuery q))
narrow_is masks q = fold_out-BoundQuery NarrowQuery (narrow_layer masks) q ∙ ap (narrow_layer masks) (layer_mapped (narrow masks) (out-BoundQuery q))

pub narrow_width : (masks : ℕ → List Bool) (q : BoundQuery) → (narrow masks q).width ≡ length (out-BoundQuery q).first.outputs
narrow_width masks q = ap (λ (n : NarrowQuery). n.width) (narrow_is masks q)

pub picked_width-all : (n : ℕ) → picked_width (replicate n true) ≡ n
picked_width-all zero = refl
picked_width-all (suc n) = ap suc (picked_width-all n)

-- all columns of a derived table
pub derived_width : (masks : ℕ → List Bool) (i : Item BoundQuery) (q : BoundQuery) → i ≡ item.Derived q → length (out-BoundQuery q).first.outputs ≡ picked_width (item_columns masks (map_item (narrow masks) i))
derived_width masks i q is =
    sym (narrow_width masks q) ∙ sym (picked_width-all (narrow masks q).width) ∙ sym (ap (λ (i : Item BoundQuery). picked_width (item_columns masks (map_item (narrow masks) i))) is)

-- one more item of a list, where the rest is to come
pub one_more : {A B C : Type 0} (f : B → C) (g : A → B) (xs : List A) (i : ℕ) (x : A) (done new all : List C) (made : C) → i < length xs → x ≡ get_or xs i x
    → all ≡ done ++ map f (map g (drop i xs)) → new ≡ done ++ made ∷ [] → made ≡ f (g x) → all ≡ new ++ map f (map g (drop (i + 1) xs))
one_more {A} {B} {C} f g xs i x done new all made below is so_far pushed same =
    let more : suc i ≡ i + 1 = omega arith in
    let rest : List C = map f (map g (drop (i + 1) xs)) in
    so_far
    ∙ ap (λ (l : List A). done ++ map f (map g l)) (drop-cons xs i x below ∙ ap (λ (k : ℕ). get_or xs i x ∷ drop k xs) more ∙ ap (λ (y : A). y ∷ drop (i + 1) xs) (sym is))
    ∙ ap (λ (y : C). done ++ y ∷ rest) (sym same)
    ∙ sym (append_assoc done (made ∷ []) rest)
    ∙ ap (λ (l : List C). l ++ rest) (sym pushed)

module _ (masks : ℕ → List Bool) where
  -- a further item of a FROM, from its parts
  pub join_is : (f : ℕ → ℕ) (j : Join BoundQuery) (i : Item BoundQuery) (width : ℕ) (on : Expr) → i ≡ map_item (λ (q : NarrowQuery). q.query) (map_item (narrow masks) j.item)
      → width ≡ picked_width (item_columns masks (map_item (narrow masks) j.item)) → on ≡ moved f j.on
      → record { is_left = j.is_left; item = i; width = width; on = on } ≡ narrow_join masks f (map_join (narrow masks) j)
  join_is f j i width on is_item is_width is_on =
      let first : Item BoundQuery = map_item (λ (q : NarrowQuery). q.query) (map_item (narrow masks) j.item) in
      let columns : ℕ = picked_width (item_columns masks (map_item (narrow masks) j.item)) in
      let with_item : Item BoundQuery → Join BoundQuery = λ x. record { is_left = j.is_left; item = x; width = width; on = on } in
      let with_width : ℕ → Join BoundQuery = λ x. record { is_left = j.is_left; item = first; width = x; on = on } in
      let with_on : Expr → Join BoundQuery = λ x. record { is_left = j.is_left; item = first; width = columns; on = x } in
      ap with_item is_item ∙ ap with_width is_width ∙ ap with_on is_on

  -- a block, from its parts
  pub block_is : (b : Block BoundQuery) (mask : List Bool) (from : Item BoundQuery) (joins : List (Join BoundQuery)) → mask ≡ from_columns masks (map_block (narrow masks) b)
      → from ≡ map_item (λ (q : NarrowQuery). q.query) (map_item (narrow masks) b.from) → joins ≡ map (narrow_join masks (rank mask)) (map (map_join (narrow masks)) b.joins)
      → moved_block (rank mask) b from joins ≡ narrow_block masks (map_block (narrow masks) b)
  block_is b mask from joins is_mask is_from is_joins =
      let first : Item BoundQuery = map_item (λ (q : NarrowQuery). q.query) (map_item (narrow masks) b.from) in
      ap (λ (i : Item BoundQuery). moved_block (rank mask) b i joins) is_from
      ∙ ap (λ (js : List (Join BoundQuery)). moved_block (rank mask) b first js) is_joins
      ∙ ap (λ (m : List Bool). moved_block (rank m) b first (map (narrow_join masks (rank m)) (map (map_join (narrow masks)) b.joins))) is_mask

  -- a query, from its parts
  pub query_is : (q : BoundQuery) (first : Block BoundQuery) (others : List (Block BoundQuery)) (order : List SortKey) → first ≡ narrow_block masks (map_block (narrow masks) (out-BoundQuery q).first)
      → others ≡ map (narrow_block masks) (map (map_block (narrow masks)) (out-BoundQuery q).others) → order ≡ (out-BoundQuery q).order
      → roll-BoundQuery (record { first = first; others = others; order = order; limit = (out-BoundQuery q).limit }) ≡ narrowed masks q
  query_is q first others order is_first are_others is_order =
      let d : BoundQuery-F BoundQuery = out-BoundQuery q in
      let top : Block BoundQuery = narrow_block masks (map_block (narrow masks) d.first) in
      let rest : List (Block BoundQuery) = map (narrow_block masks) (map (map_block (narrow masks)) d.others) in
      ap (λ (b : Block BoundQuery). roll-BoundQuery (record { first = b; others = others; order = order; limit = d.limit })) is_first
      ∙ ap (λ (bs : List (Block BoundQuery)). roll-BoundQuery (record { first = top; others = bs; order = order; limit = d.limit })) are_others
      ∙ ap (λ (keys : List SortKey). roll-BoundQuery (record { first = top; others = rest; order = keys; limit = d.limit })) is_order
      ∙ sym (ap (λ (n : NarrowQuery). n.query) (narrow_is masks q))
