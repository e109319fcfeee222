-- A layer of a query, where the queries of its derived tables are replaced by something else.
use Rattle.std.proofs.Common.{◌≡◌, ◌∙◌, ap, refl, ℕ, Bool, List, [], ◌∷◌, map}
use Rattle.span_expr.specs.declared.expr.Expr.{Expr}
use Rattle.span_query.specs.declared.query.BoundQuery.TheOpen.{BoundQuery-F}
use Rattle.span_query.specs.declared.query.BoundQuery.TheFolds.{map-BoundQuery}
use Rattle.span_query.specs.declared.query.Block.{Block}
use Rattle.span_query.specs.declared.query.Item.{Item}
use Rattle.span_query.specs.declared.query.Item.TheVariants as item
use Rattle.span_query.specs.declared.query.Join.{Join}
pub use Rattle.span_query.specs.Layers.{map_item, map_join, map_block, map_layer}

-- it is what the fold makes of a layer
module _ {X Y : Type 0} (f : X → Y) where
  abbrev mapped : BoundQuery-F X → BoundQuery-F Y
  mapped d = map-BoundQuery X Y f d

  abbrev with_first : BoundQuery-F X → Block X → BoundQuery-F X
  with_first d b = record { first = b; others = d.others; order = d.order; limit = d.limit }

  abbrev with_others : BoundQuery-F X → List (Block X) → BoundQuery-F X
  with_others d bs = record { first = d.first; others = bs; order = d.order; limit = d.limit }

  abbrev with_parts : {P Q : Type 0} → Block P → Item Q → List (Join Q) → Block Q
  with_parts b i js = record { from = i; joins = js; filter = b.filter; grouping = b.grouping; outputs = b.outputs; is_distinct = b.is_distinct }

  item_mapped : (d : BoundQuery-F X) (b : Block X) (i : Item X) → (mapped (with_first d (with_parts b i b.joins))).first.from ≡ map_item f i
  item_mapped d b (item.Table n) = refl
  item_mapped d b (item.Derived q) = refl

  join_mapped : (d : BoundQuery-F X) (b : Block X) (js : List (Join X)) (l : Bool) (i : Item X) (w : ℕ) (on : Expr) → (mapped (with_first d (with_parts b b.from (record { is_left = l; item = i; width = w; on = on } ∷ js)))).first.joins ≡ map_join f (record { is_left = l; item = i; width = w; on = on }) ∷ (mapped (with_first d (with_parts b b.from js))).first.joins
  join_mapped d b js l (item.Table n) w on = refl
  join_mapped d b js l (item.Derived q) w on = refl

  joins_mapped : (d : BoundQuery-F X) (b : Block X) (js : List (Join X)) → (mapped (with_first d (with_parts b b.from js))).first.joins ≡ map (map_join f) js
  joins_mapped d b [] = refl
  joins_mapped d b (j ∷ js) = join_mapped d b js j.is_left j.item j.width j.on ∙ ap (λ (l : List (Join Y)). map_join f j ∷ l) (joins_mapped d b js)

  first_mapped : (d : BoundQuery-F X) → (mapped d).first ≡ map_block f d.first
  first_mapped d =
      ap (λ (i : Item Y). with_parts d.first i (mapped d).first.joins) (item_mapped d d.first d.first.from)
      ∙ ap (λ (js : List (Join Y)). with_parts d.first (map_item f d.first.from) js) (joins_mapped d d.first d.first.joins)

  others_mapped : (d : BoundQuery-F X) (bs : List (Block X)) → (mapped (with_others d bs)).others ≡ map (map_block f) bs
  others_mapped d [] = refl
  others_mapped d (b ∷ bs) =
      ap (λ (m : Block Y). m ∷ (mapped (with_others d bs)).others) (first_mapped (with_first d b))
      ∙ ap (λ (ms : List (Block Y)). map_block f b ∷ ms) (others_mapped d bs)

  pub layer_mapped : (d : BoundQuery-F X) → map-BoundQuery X Y f d ≡ map_layer f d
  layer_mapped d =
      ap (λ (b : Block Y). record { first = b; others = (mapped d).others; order = d.order; limit = d.limit }) (first_mapped d)
      ∙ ap (λ (bs : List (Block Y)). record { first = map_block f d.first; others = bs; order = d.order; limit = d.limit }) (others_mapped d d.others)
