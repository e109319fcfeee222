-- A layer of a query, where the queries of its derived tables are replaced by something else.
use Rattle.std.proofs.Common.{◌≡◌, ◌∙◌, sym, ap, refl, subst, ℕ, Bool, true, List, [], ◌∷◌, ◌++◌, length, map}
use Rattle.span_value.specs.declared.value.Kind.{Kind}
use Rattle.span_value.specs.declared.value.Kind.TheVariants as kind
use Rattle.span_expr.specs.declared.expr.Expr.{Expr}
use Rattle.span_query.specs.declared.query.BoundQuery.{BoundQuery}
use Rattle.span_query.specs.declared.query.BoundQuery.TheOpen.{BoundQuery-F}
use Rattle.span_query.specs.declared.query.BoundQuery.TheViews.{roll-BoundQuery}
use Rattle.span_query.specs.declared.query.BoundQuery.TheFolds.{map-BoundQuery, ind-BoundQuery, fold-roll-BoundQuery, rec-roll-BoundQuery}
use Rattle.span_query.specs.declared.query.Block.{Block}
use Rattle.span_query.specs.declared.query.Item.{Item}
use Rattle.span_query.specs.declared.query.Item.TheVariants as item
use Rattle.span_query.specs.declared.query.Join.{Join}
use Rattle.span_query.specs.Rows.{Row, Rows}
use Rattle.span_query.specs.Meaning.{query_rows, meaning}
use Rattle.span_soundness.specs.Types.{is_of}
use Rattle.span_soundness.specs.WellTyped.{IsItemOf, AreJoinsOf, IsFromOf, is_condition, IsGroupedOf, AreOutputsOf, IsBlockOf, AreBlocksOf, AreKeysOf, IsLayerOf, layer_of, IsQueryOf}
use Rattle.span_soundness.specs.Results.{AreResultsOf, AreTablesOf}
use Rattle.span_soundness.proofs.Selecting.{Gives, table_results, layer_is}

module _ {X Y : Type 0} (f : X → Y) where
  abbrev of_item : Item X → Item Y
  of_item (item.Table n) = item.Table n
  of_item (item.Derived q) = item.Derived (f q)

  abbrev of_join : Join X → Join Y
  of_join j = record { is_left = j.is_left; item = of_item j.item; width = j.width; on = j.on }

  abbrev of_block : Block X → Block Y
  of_block b =
      record { from = of_item b.from; joins = map of_join b.joins; filter = b.filter; grouping = b.grouping; outputs = b.outputs; is_distinct = b.is_distinct }

  abbrev of_layer : BoundQuery-F X → BoundQuery-F Y
  of_layer d = record { first = of_block d.first; others = map of_block d.others; order = d.order; limit = d.limit }

  -- ---- it is what the fold makes of a layer

  abbrev mapped : BoundQuery-F X → BoundQuery-F Y
  mapped d = map-BoundQuery X Y f d

  abbrev with_first : BoundQuery-F X → Block X → BoundQuery-F X
  with_first d b = record { first = b; others = d.others; order = d.order; limit = d.limit }

  abbrev with_others : BoundQuery-F X → List (Block X) → BoundQuery-F X
  with_others d bs = record { first = d.first; others = bs; order = d.order; limit = d.limit }

  abbrev with_parts : {P Q : Type 0} → Block P → Item Q → List (Join Q) → Block Q
  with_parts b i js = record { from = i; joins = js; filter = b.filter; grouping = b.grouping; outputs = b.outputs; is_distinct = b.is_distinct }

  item_mapped : (d : BoundQuery-F X) (b : Block X) (i : Item X) → (mapped (with_first d (with_parts b i b.joins))).first.from ≡ of_item i
  item_mapped d b (item.Table n) = refl
  item_mapped d b (item.Derived q) = refl

  join_mapped : (d : BoundQuery-F X) (b : Block X) (js : List (Join X)) (l : Bool) (i : Item X) (w : ℕ) (on : Expr) → (mapped (with_first d (with_parts b b.from (record { is_left = l; item = i; width = w; on = on } ∷ js)))).first.joins ≡ of_join (record { is_left = l; item = i; width = w; on = on }) ∷ (mapped (with_first d (with_parts b b.from js))).first.joins
  join_mapped d b js l (item.Table n) w on = refl
  join_mapped d b js l (item.Derived q) w on = refl

  joins_mapped : (d : BoundQuery-F X) (b : Block X) (js : List (Join X)) → (mapped (with_first d (with_parts b b.from js))).first.joins ≡ map of_join js
  joins_mapped d b [] = refl
  joins_mapped d b (j ∷ js) = join_mapped d b js j.is_left j.item j.width j.on ∙ ap (λ (l : List (Join Y)). of_join j ∷ l) (joins_mapped d b js)

  first_mapped : (d : BoundQuery-F X) → (mapped d).first ≡ of_block d.first
  first_mapped d =
      ap (λ (i : Item Y). with_parts d.first i (mapped d).first.joins) (item_mapped d d.first d.first.from)
      ∙ ap (λ (js : List (Join Y)). with_parts d.first (of_item d.first.from) js) (joins_mapped d d.first d.first.joins)

  others_mapped : (d : BoundQuery-F X) (bs : List (Block X)) → (mapped (with_others d bs)).others ≡ map of_block bs
  others_mapped d [] = refl
  others_mapped d (b ∷ bs) =
      ap (λ (m : Block Y). m ∷ (mapped (with_others d bs)).others) (first_mapped (with_first d b))
      ∙ ap (λ (ms : List (Block Y)). of_block b ∷ ms) (others_mapped d bs)

  layer_mapped : (d : BoundQuery-F X) → mapped d ≡ of_layer d
  layer_mapped d =
      ap (λ (b : Block Y). record { first = b; others = (mapped d).others; order = d.order; limit = d.limit }) (first_mapped d)
      ∙ ap (λ (bs : List (Block Y)). record { first = of_block d.first; others = bs; order = d.order; limit = d.limit }) (others_mapped d d.others)

  -- ---- what is in the place of the queries gives at least the same types

  module _ (gives : X → List Kind → Type 0) (gives_too : Y → List Kind → Type 0) (follows : (x : X) (types : List Kind) → gives x types → gives_too (f x) types) (leaves : List (List Kind)) where
    item_moved : (i : Item X) (types : List Kind) → IsItemOf gives leaves i types → IsItemOf gives_too leaves (of_item i) types
    item_moved (item.Table n) types is = is
    item_moved (item.Derived q) types is = follows q types is

    joins_moved : (left : List Kind) (js : List (Join X)) (types : List Kind) → AreJoinsOf gives leaves left js types → AreJoinsOf gives_too leaves left (map of_join js) types
    joins_moved left [] types are = are
    joins_moved left (j ∷ js) types are = (are.0, item_moved j.item are.0 are.1, are.2, are.3, joins_moved (left ++ are.0) js types are.4)

    block_moved : (b : Block X) (types : List Kind) → IsBlockOf gives leaves b types → IsBlockOf gives_too leaves (of_block b) types
    block_moved b types is = (is.0, is.1, (is.2.0, item_moved b.from is.2.0 is.2.1, joins_moved is.2.0 b.joins is.0 is.2.2), is.3, is.4, is.5)

    blocks_moved : (bs : List (Block X)) (types : List Kind) → AreBlocksOf gives leaves bs types → AreBlocksOf gives_too leaves (map of_block bs) types
    blocks_moved [] types are = tt {0}
    blocks_moved (b ∷ bs) types are = (block_moved b types are.0, blocks_moved bs types are.1)

    pub layer_moved : (d : BoundQuery-F X) (types : List Kind) → IsLayerOf gives leaves d types → IsLayerOf gives_too leaves (mapped d) types
    layer_moved d types is = subst (λ (l : BoundQuery-F Y). IsLayerOf gives_too leaves l types) (sym (layer_mapped d)) (blocks_moved (d.first ∷ d.others) types is.0, is.1)

  -- ---- the same types exactly

  module _ (gives : Y → List Kind → Type 0) (leaves : List (List Kind)) where
    abbrev through : X → List Kind → Type 0
    through x types = gives (f x) types

    item_path : (i : Item X) (types : List Kind) → ◌≡◌ {A = Type 0} (IsItemOf through leaves i types) (IsItemOf gives leaves (of_item i) types)
    item_path (item.Table n) types = refl
    item_path (item.Derived q) types = refl

    joins_path : (left : List Kind) (js : List (Join X)) (types : List Kind) → ◌≡◌ {A = Type 0} (AreJoinsOf through leaves left js types) (AreJoinsOf gives leaves left (map of_join js) types)
    joins_path left [] types = refl
    joins_path left (j ∷ js) types = λ i. (right : List Kind) × item_path j.item right i × (length right ≡ j.width) × (is_of (left ++ right) j.on kind.Bool ≡ true) × joins_path (left ++ right) js types i

    from_path : (first : Item X) (js : List (Join X)) (types : List Kind) → ◌≡◌ {A = Type 0} (IsFromOf through leaves first js types) (IsFromOf gives leaves (of_item first) (map of_join js) types)
    from_path first js types = λ i. (left : List Kind) × item_path first left i × joins_path left js types i

    block_path : (b : Block X) (types : List Kind) → ◌≡◌ {A = Type 0} (IsBlockOf through leaves b types) (IsBlockOf gives leaves (of_block b) types)
    block_path b types = λ i. (from : List Kind) × (shown : List Kind) × from_path b.from b.joins from i × (is_condition from b.filter ≡ true) × IsGroupedOf from b.grouping shown × AreOutputsOf shown b.outputs types

    blocks_path : (bs : List (Block X)) (types : List Kind) → ◌≡◌ {A = Type 0} (AreBlocksOf through leaves bs types) (AreBlocksOf gives leaves (map of_block bs) types)
    blocks_path [] types = refl
    blocks_path (b ∷ bs) types = λ i. block_path b types i × blocks_path bs types i

    layer_path : (d : BoundQuery-F X) → ◌≡◌ {A = List Kind → Type 0} (λ types. IsLayerOf through leaves d types) (λ types. IsLayerOf gives leaves (mapped d) types)
    layer_path d = (λ i types. blocks_path (d.first ∷ d.others) types i × AreKeysOf types d.order) ∙ ap {B = List Kind → Type 0} (λ (l : BoundQuery-F Y). λ (types : List Kind). IsLayerOf gives leaves l types) (sym (layer_mapped d))

-- ---- queries

query_path : (leaves : List (List Kind)) (d : BoundQuery-F BoundQuery) → ◌≡◌ {A = List Kind → Type 0} (IsQueryOf leaves (roll-BoundQuery d)) (λ types. IsLayerOf (IsQueryOf leaves) leaves d types)
query_path leaves d = rec-roll-BoundQuery (List Kind → Type 0) (layer_of leaves) (λ X v k x. layer_path v k leaves x) d

pub layer_made : (leaves : List (List Kind)) (d : BoundQuery-F BoundQuery) (types : List Kind) → IsLayerOf (IsQueryOf leaves) leaves d types → IsQueryOf leaves (roll-BoundQuery d) types
layer_made leaves d types is = subst (λ (claim : List Kind → Type 0). claim types) (sym (query_path leaves d)) is

pub layer_read : (leaves : List (List Kind)) (d : BoundQuery-F BoundQuery) (types : List Kind) → IsQueryOf leaves (roll-BoundQuery d) types → IsLayerOf (IsQueryOf leaves) leaves d types
layer_read leaves d types is = subst (λ (claim : List Kind → Type 0). claim types) (query_path leaves d) is

-- ---- what a query means

module _ (leaves : List (List Kind)) (tables : List (List Row)) (are : AreTablesOf leaves tables) where
  abbrev KeepsTypes : BoundQuery → Type 0
  KeepsTypes q = (types : List Kind) → IsQueryOf leaves q types → AreResultsOf types (meaning tables q)

  -- a query, with what is known of it
  abbrev Witness : Type 0
  Witness = (q : BoundQuery) × KeepsTypes q

  abbrev query_of : Witness → BoundQuery
  query_of q = q.0

  -- of which types a query in its place is
  abbrev IsWitnessOf : Witness → List Kind → Type 0
  IsWitnessOf q types = IsQueryOf leaves q.0 types

  -- what it means is of these types
  abbrev MeansOf : BoundQuery → List Kind → Type 0
  MeansOf q types = AreResultsOf types (meaning tables q)

  layer_keeps : (y : BoundQuery-F Witness) (types : List Kind) → IsQueryOf leaves (roll-BoundQuery (map-BoundQuery Witness BoundQuery query_of y)) types
      → AreResultsOf types (query_rows (table_results tables) (map-BoundQuery BoundQuery Rows (meaning tables) (map-BoundQuery Witness BoundQuery query_of y)))
  layer_keeps y types is =
      let of_witnesses : IsLayerOf IsWitnessOf leaves y types = subst (λ (claim : List Kind → Type 0). claim types) (sym (layer_path query_of (IsQueryOf leaves) leaves y)) (layer_read leaves (map-BoundQuery Witness BoundQuery query_of y) types is) in
      let means : IsLayerOf MeansOf leaves (map-BoundQuery Witness BoundQuery query_of y) types = layer_moved query_of IsWitnessOf MeansOf (λ q ts q_is. q.1 ts q_is) leaves y types of_witnesses in
      layer_is leaves tables (map-BoundQuery BoundQuery Rows (meaning tables) (map-BoundQuery Witness BoundQuery query_of y)) types are (layer_moved (meaning tables) MeansOf Gives (λ q ts q_is. q_is) leaves (map-BoundQuery Witness BoundQuery query_of y) types means)

  pub keeps_types : (q : BoundQuery) → KeepsTypes q
  keeps_types = ind-BoundQuery KeepsTypes (λ x y is. subst (λ (z : BoundQuery-F BoundQuery). KeepsTypes (roll-BoundQuery z)) is (λ types q_is.
      subst (AreResultsOf types) (sym (fold-roll-BoundQuery Rows (query_rows (table_results tables)) (map-BoundQuery Witness BoundQuery query_of y))) (layer_keeps y types q_is)))
