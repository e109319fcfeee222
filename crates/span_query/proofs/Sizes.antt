-- How large a query is, with the queries of its derived tables: what falls as a function goes down the query.
use Rattle.std.proofs.Common.{◌≡◌, ℕ, zero, suc, ◌+◌, ◌<◌, List, [], ◌∷◌, length, map, get_or, ap, ◌∙◌, arith}
use Rattle.span_query.specs.declared.query.BoundQuery.{BoundQuery}
use Rattle.span_query.specs.declared.query.BoundQuery.TheFolds.{fold-BoundQuery, fold_out-BoundQuery}
use Rattle.span_query.specs.declared.query.BoundQuery.TheOpen.{BoundQuery-F}
use Rattle.span_query.specs.declared.query.BoundQuery.TheViews.{out-BoundQuery}
use Rattle.span_query.specs.declared.query.Block.{Block}
use Rattle.span_query.specs.declared.query.Item.{Item}
use Rattle.span_query.specs.declared.query.Item.TheVariants as item
use Rattle.span_query.specs.declared.query.Join.{Join}
use Rattle.span_query.proofs.Layers.{map_layer, layer_mapped}

-- more than each item is
abbrev pub all_sizes : {A : Type 0} → (A → ℕ) → List A → ℕ
all_sizes size [] = 0
all_sizes size (x ∷ xs) = (size x + 1) + all_sizes size xs

abbrev pub item_size : Item ℕ → ℕ
item_size (item.Table n) = 1
item_size (item.Derived n) = n + 1

abbrev pub join_size : Join ℕ → ℕ
join_size j = item_size j.item

abbrev pub block_size : Block ℕ → ℕ
block_size b = (item_size b.from + all_sizes join_size b.joins) + 1

abbrev pub layer_size : BoundQuery-F ℕ → ℕ
layer_size q = (block_size q.first + all_sizes block_size q.others) + 1

abbrev pub query_size : BoundQuery → ℕ
query_size = fold-BoundQuery ℕ layer_size

pub query_size_is : (q : BoundQuery) → query_size q ≡ layer_size (map_layer query_size (out-BoundQuery q))
query_size_is q = fold_out-BoundQuery ℕ layer_size q ∙ ap layer_size (layer_mapped query_size (out-BoundQuery q))

-- an item is smaller than the list
pub smaller_at : {A B : Type 0} (size : B → ℕ) (f : A → B) (xs : List A) (k : ℕ) (x : A) → k < length xs → x ≡ get_or xs k x → size (f x) < all_sizes size (map f xs)
smaller_at size f [] k x below is = absurd (omega arith)
smaller_at size f (y ∷ xs) zero x below is =
    let same : size (f x) ≡ size (f y) = ap (λ (z : _). size (f z)) is in omega arith
smaller_at size f (y ∷ xs) (suc k) x below is =
    let rest : size (f x) < all_sizes size (map f xs) = smaller_at size f xs k x (omega arith) is in omega arith
