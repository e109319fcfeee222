-- What holds of the typed form of a tree of queries, where it follows from what holds of those of its parts. Of a join holds what holds of
-- its item.
use Rattle.std.proofs.Common.{sym, subst, List, [], ◌∷◌, map, Option}
use Rattle.std.specs.List.{AllByRecursion}
use Rattle.span_schema.specs.declared.table.Table.{Table}
use Rattle.span_trees.specs.declared.tree.Spelling.{Spelling}
use Rattle.span_parser.specs.declared.tree.Query.{Query}
use Rattle.span_parser.specs.declared.tree.Block.{Block}
use Rattle.span_parser.specs.declared.tree.Item.{Item}
use Rattle.span_parser.specs.declared.tree.Join.{Join}
use Rattle.span_parser.specs.declared.tree.Item.TheOpen.{Query-F, Block-F, Item-F, Join-F}
use Rattle.span_parser.specs.declared.tree.Item.TheViews.{roll-Item, roll-Block, roll-Join, roll-Query}
use Rattle.span_parser.specs.declared.tree.Item.TheFolds.{ind-Query, fold-Item, fold-Block, fold-Join, fold-Query, fold-roll-Item, fold-roll-Block, fold-roll-Join, fold-roll-Query, map-Item, map-Block, map-Join, map-Query}
use Rattle.span_params.specs.declared.params.Parameter.{Parameter}
use Rattle.span_binder.specs.Queries.{ItemStep, JoinStep, BlockStep, QueryStep, item_at, join_at, block_at, query_at, query_step}

module _
    (schema : List Table) (params : List Parameter) (ItemHolds : ItemStep → Type 0) (BlockHolds : BlockStep → Type 0) (QueryHolds : QueryStep → Type 0)
    (of_table : (name : Spelling) (alias : Option Spelling) → ItemHolds (item_at schema (Item-F.Table name alias)))
    (of_derived : (q : QueryStep) (name : Spelling) → QueryHolds q → ItemHolds (item_at schema (Item-F.Derived q name)))
    (of_block : (b : Block-F ItemStep BlockStep JoinStep QueryStep) → ItemHolds b.from → AllByRecursion (λ (j : JoinStep). ItemHolds j.item) b.joins → BlockHolds (block_at params b))
    (of_query : (q : Query-F ItemStep BlockStep JoinStep QueryStep) → BlockHolds q.first → AllByRecursion BlockHolds q.others → QueryHolds (query_at q))
  where
    abbrev JoinHolds : JoinStep → Type 0
    JoinHolds j = ItemHolds j.item

    abbrev items : Item → ItemStep
    items = fold-Item ItemStep BlockStep JoinStep QueryStep (item_at schema) (block_at params) join_at query_at

    abbrev block_steps : Block → BlockStep
    block_steps = fold-Block ItemStep BlockStep JoinStep QueryStep (item_at schema) (block_at params) join_at query_at

    abbrev joins : Join → JoinStep
    joins = fold-Join ItemStep BlockStep JoinStep QueryStep (item_at schema) (block_at params) join_at query_at

    abbrev queries : Query → QueryStep
    queries = fold-Query ItemStep BlockStep JoinStep QueryStep (item_at schema) (block_at params) join_at query_at

    -- a part of a tree, with what holds of it
    abbrev KnownItem : Type 0
    KnownItem = (i : Item) × ItemHolds (items i)

    abbrev KnownBlock : Type 0
    KnownBlock = (b : Block) × BlockHolds (block_steps b)

    abbrev KnownJoin : Type 0
    KnownJoin = (j : Join) × JoinHolds (joins j)

    abbrev KnownQuery : Type 0
    KnownQuery = (q : Query) × QueryHolds (queries q)

    abbrev item_of : KnownItem → Item
    item_of x = x.0

    abbrev block_of : KnownBlock → Block
    block_of x = x.0

    abbrev join_of : KnownJoin → Join
    join_of x = x.0

    abbrev query_of : KnownQuery → Query
    query_of x = x.0

    joins_known : (js : List KnownJoin) → AllByRecursion JoinHolds (map joins (map join_of js))
    joins_known [] = tt {0}
    joins_known (j ∷ js) = (j.1, joins_known js)

    blocks_known : (bs : List KnownBlock) → AllByRecursion BlockHolds (map block_steps (map block_of bs))
    blocks_known [] = tt {0}
    blocks_known (b ∷ bs) = (b.1, blocks_known bs)

    item_layer : (y : Item-F KnownItem KnownBlock KnownJoin KnownQuery) → ItemHolds (item_at schema (map-Item Item Block Join Query ItemStep BlockStep JoinStep QueryStep items block_steps joins queries (map-Item KnownItem KnownBlock KnownJoin KnownQuery Item Block Join Query item_of block_of join_of query_of y)))
    item_layer (Item-F.Table name alias) = of_table name alias
    item_layer (Item-F.Derived q name) = of_derived (queries q.0) name q.1

    block_layer : (y : Block-F KnownItem KnownBlock KnownJoin KnownQuery) → BlockHolds (block_at params (map-Block Item Block Join Query ItemStep BlockStep JoinStep QueryStep items block_steps joins queries (map-Block KnownItem KnownBlock KnownJoin KnownQuery Item Block Join Query item_of block_of join_of query_of y)))
    block_layer y = of_block (map-Block Item Block Join Query ItemStep BlockStep JoinStep QueryStep items block_steps joins queries (map-Block KnownItem KnownBlock KnownJoin KnownQuery Item Block Join Query item_of block_of join_of query_of y)) y.from.1 (joins_known y.joins)

    query_layer : (y : Query-F KnownItem KnownBlock KnownJoin KnownQuery) → QueryHolds (query_at (map-Query Item Block Join Query ItemStep BlockStep JoinStep QueryStep items block_steps joins queries (map-Query KnownItem KnownBlock KnownJoin KnownQuery Item Block Join Query item_of block_of join_of query_of y)))
    query_layer y = of_query (map-Query Item Block Join Query ItemStep BlockStep JoinStep QueryStep items block_steps joins queries (map-Query KnownItem KnownBlock KnownJoin KnownQuery Item Block Join Query item_of block_of join_of query_of y)) y.first.1 (blocks_known y.others)

    tree_holds : (q : Query) → QueryHolds (queries q)
    tree_holds = ind-Query (λ (i : Item). ItemHolds (items i)) (λ (b : Block). BlockHolds (block_steps b)) (λ (j : Join). JoinHolds (joins j)) (λ (q : Query). QueryHolds (queries q))
        (λ x y is. subst (λ (z : Item-F Item Block Join Query). ItemHolds (items (roll-Item z))) is
        (subst ItemHolds (sym (fold-roll-Item ItemStep BlockStep JoinStep QueryStep (item_at schema) (block_at params) join_at query_at (map-Item KnownItem KnownBlock KnownJoin KnownQuery Item Block Join Query item_of block_of join_of query_of y))) (item_layer y)))
        (λ x y is. subst (λ (z : Block-F Item Block Join Query). BlockHolds (block_steps (roll-Block z))) is
        (subst BlockHolds (sym (fold-roll-Block ItemStep BlockStep JoinStep QueryStep (item_at schema) (block_at params) join_at query_at (map-Block KnownItem KnownBlock KnownJoin KnownQuery Item Block Join Query item_of block_of join_of query_of y))) (block_layer y)))
        (λ x y is. subst (λ (z : Join-F Item Block Join Query). JoinHolds (joins (roll-Join z))) is
        (subst JoinHolds (sym (fold-roll-Join ItemStep BlockStep JoinStep QueryStep (item_at schema) (block_at params) join_at query_at (map-Join KnownItem KnownBlock KnownJoin KnownQuery Item Block Join Query item_of block_of join_of query_of y))) y.item.1))
        (λ x y is. subst (λ (z : Query-F Item Block Join Query). QueryHolds (queries (roll-Query z))) is
        (subst QueryHolds (sym (fold-roll-Query ItemStep BlockStep JoinStep QueryStep (item_at schema) (block_at params) join_at query_at (map-Query KnownItem KnownBlock KnownJoin KnownQuery Item Block Join Query item_of block_of join_of query_of y))) (query_layer y)))

    pub query_holds : (q : Query) → QueryHolds (query_step schema params q)
    unfolding query_step
    query_holds q = tree_holds q
