-- Which queries give rows of which types. What a derived table gives is handed in, so that a query is typed layer by
-- layer.
use Rattle.std.specs.Prelude.{◌≡◌, ◌<◌, ℕ, zero, suc, Bool, true, List, [], ◌∷◌, ◌++◌, length, Option, Some, None, slice_get}
use Rattle.std.specs.Option.{unwrap_or}
use Rattle.span_value.specs.declared.value.Kind.{Kind}
use Rattle.span_value.specs.declared.value.Kind.TheVariants as kind
use Rattle.span_expr.specs.declared.expr.Expr.{Expr}
use Rattle.span_query.specs.declared.query.BoundQuery.{BoundQuery}
use Rattle.span_query.specs.declared.query.BoundQuery.TheOpen.{BoundQuery-F}
use Rattle.span_query.specs.declared.query.BoundQuery.TheFolds.{rec-BoundQuery}
use Rattle.span_query.specs.declared.query.Block.{Block}
use Rattle.span_query.specs.declared.query.Item.{Item}
use Rattle.span_query.specs.declared.query.Item.TheVariants as item
use Rattle.span_query.specs.declared.query.Join.{Join}
use Rattle.span_query.specs.declared.query.Grouping.{Grouping}
use Rattle.span_query.specs.declared.query.SortKey.{SortKey}
use Rattle.span_soundness.specs.Types.{is_some, is_of}
use Rattle.span_soundness.specs.Bindings.{AreAggregatesOf}

-- ---- FROM

-- the types of the columns of a leaf, by its number, the first of which is 1
abbrev pub leaf_types : List (List Kind) → ℕ → List Kind
leaf_types leaves zero = []
leaf_types leaves (suc n) = unwrap_or (slice_get leaves n) []

abbrev pub IsItemOf : {Q : Type 0} → (Q → List Kind → Type 0) → List (List Kind) → Item Q → List Kind → Type 0
IsItemOf gives leaves (item.Table n) types = leaf_types leaves n ≡ types
IsItemOf gives leaves (item.Derived q) types = gives q types

-- each ON is a condition at rows of the items up to its own
abbrev pub AreJoinsOf : {Q : Type 0} → (Q → List Kind → Type 0) → List (List Kind) → List Kind → List (Join Q)
    → List Kind → Type 0
AreJoinsOf gives leaves left [] types = left ≡ types
AreJoinsOf gives leaves left (j ∷ joins) types =
    (right : List Kind) × IsItemOf gives leaves j.item right × (length right ≡ j.width)
    × (is_of (left ++ right) j.on kind.Bool ≡ true) × AreJoinsOf gives leaves (left ++ right) joins types

abbrev pub IsFromOf : {Q : Type 0} → (Q → List Kind → Type 0) → List (List Kind) → Item Q → List (Join Q) → List Kind
    → Type 0
IsFromOf gives leaves first joins types =
    (left : List Kind) × IsItemOf gives leaves first left × AreJoinsOf gives leaves left joins types

-- ---- conditions and groups

-- a WHERE or a HAVING, if there is one
abbrev pub is_condition : List Kind → Option Expr → Bool
is_condition types None = true
is_condition types (Some e) = is_of types e kind.Bool

-- as many places as types, each that of a column of its type
abbrev pub AreColumnsOf : List Kind → List ℕ → List Kind → Type 0
AreColumnsOf types [] [] = Unit {0}
AreColumnsOf types (place ∷ places) (k ∷ ks) = (is_some (slice_get types place) k ≡ true) × AreColumnsOf types places ks
AreColumnsOf types places ks = ⊥

-- the rows of the groups: the keys, and then the aggregates of rows of the FROM
abbrev pub IsGroupedOf : List Kind → Option Grouping → List Kind → Type 0
IsGroupedOf from None types = from ≡ types
IsGroupedOf from (Some g) types =
    (keys : List Kind) × (aggregates : List Kind) × AreColumnsOf from g.keys keys
    × AreAggregatesOf from g.aggregates aggregates × (keys ++ aggregates ≡ types) × (is_condition types g.having ≡ true)

-- ---- blocks and queries

-- as many expressions as types, each of its type
abbrev pub AreOutputsOf : List Kind → List Expr → List Kind → Type 0
AreOutputsOf types [] [] = Unit {0}
AreOutputsOf types (e ∷ es) (k ∷ ks) = (is_of types e k ≡ true) × AreOutputsOf types es ks
AreOutputsOf types es ks = ⊥

abbrev pub IsBlockOf : {Q : Type 0} → (Q → List Kind → Type 0) → List (List Kind) → Block Q → List Kind → Type 0
IsBlockOf gives leaves b types =
    (from : List Kind) × (shown : List Kind) × IsFromOf gives leaves b.from b.joins from
    × (is_condition from b.filter ≡ true) × IsGroupedOf from b.grouping shown × AreOutputsOf shown b.outputs types

abbrev pub AreBlocksOf : {Q : Type 0} → (Q → List Kind → Type 0) → List (List Kind) → List (Block Q) → List Kind
    → Type 0
AreBlocksOf gives leaves [] types = Unit {0}
AreBlocksOf gives leaves (b ∷ blocks) types = IsBlockOf gives leaves b types × AreBlocksOf gives leaves blocks types

-- ORDER BY speaks of columns of the result
abbrev pub AreKeysOf : List Kind → List SortKey → Type 0
AreKeysOf types [] = Unit {0}
AreKeysOf types (key ∷ keys) = (key.column < length types) × AreKeysOf types keys

-- all blocks of a union give rows of the same types
abbrev pub IsLayerOf : {Q : Type 0} → (Q → List Kind → Type 0) → List (List Kind) → BoundQuery-F Q → List Kind → Type 0
IsLayerOf gives leaves q types = AreBlocksOf gives leaves (q.first ∷ q.others) types × AreKeysOf types q.order

-- What a derived table gives is what its query gives.
abbrev pub layer_of : List (List Kind) → (Q : Type 0) → (Q → BoundQuery) → (Q → List Kind → Type 0) → BoundQuery-F Q
    → List Kind → Type 0
layer_of leaves Q query gives layer types = IsLayerOf gives leaves layer types

-- a query gives rows of these types, where its leaves have columns of those
abbrev pub IsQueryOf : List (List Kind) → BoundQuery → List Kind → Type 0
IsQueryOf leaves = rec-BoundQuery (List Kind → Type 0) (layer_of leaves)
