-- The typed query of a syntax tree, or the first fault in it. In a block faults are looked for in the items of the FROM
-- with their ONs, the select list, WHERE, GROUP BY and HAVING; after all blocks in the columns of the union; then in
-- ORDER BY.
use Rattle.std.specs.List.{list_all, zip}
use Rattle.std.specs.Option.{option_map}
use Rattle.std.specs.Prelude.{ℕ, ◌-◌, ◌==◌, nat_lt, Bool, ◌||◌, ◌&&◌, List, [], ◌∷◌, ◌++◌, length, map, Option, Result, Ok, Err, if◌then◌else◌}
use denote.Enum.Bare.{sameb}
use Rattle.span_value.specs.contracts.value.Kind.{the_type as kind_type}
use Rattle.span_value.specs.declared.refusal.Refusal.{Refusal}
use Rattle.span_value.specs.declared.refusal.Refusal.TheVariants.{ColumnsDiffer, BadOrdinal}
use Rattle.span_schema.specs.declared.table.Table.{Table}
use Rattle.span_trees.specs.declared.tree.Expr.{Expr}
use Rattle.span_parser.specs.declared.tree.SortKey.{SortKey}
use Rattle.span_parser.specs.declared.tree.SortColumn.{SortColumn}
use Rattle.span_parser.specs.declared.tree.SortColumn.TheVariants as sort
use Rattle.span_parser.specs.declared.tree.Limit.{Limit}
use Rattle.span_parser.specs.declared.tree.Query.{Query}
use Rattle.span_parser.specs.declared.tree.Block.{Block}
use Rattle.span_parser.specs.declared.tree.Item.{Item}
use Rattle.span_parser.specs.declared.tree.Join.{Join}
use Rattle.span_parser.specs.declared.tree.Item.TheOpen.{Query-F, Block-F, Item-F, Join-F}
use Rattle.span_parser.specs.declared.tree.Item.TheFolds.{fold-Item, fold-Block, fold-Query}
use Rattle.span_query.specs.declared.query.SortKey.{SortKey as BoundKey}
use Rattle.span_query.specs.declared.query.Limit.{Limit as BoundLimit}
use Rattle.span_query.specs.declared.query.BoundQuery.{BoundQuery}
use Rattle.span_query.specs.declared.query.Block.{Block as TypedBlock}
use Rattle.span_query.specs.declared.query.BoundQuery.TheViews.{roll-BoundQuery}
use Rattle.span_query.specs.declared.query.Statement.{Statement}
use Rattle.span_params.specs.declared.params.Parameter.{Parameter}
use Rattle.span_typing.specs.Scopes.{one_place, is_named}
use Rattle.span_value.specs.Results.{and_then}
use Rattle.span_query.specs.declared.query.OutputColumn.{OutputColumn}
use Rattle.span_blocks.specs.declared.bound.Source.{Source}
use Rattle.span_blocks.specs.declared.bound.FromItems.{FromItems}
use Rattle.span_blocks.specs.declared.bound.TypedQuery.{TypedQuery}
use Rattle.span_blocks.specs.declared.bound.BoundBlock.{BoundBlock}
use Rattle.span_blocks.specs.declared.bound.BoundBlocks.{BoundBlocks}
use Rattle.span_blocks.specs.Onward.{fold_results, each_of}
use Rattle.span_blocks.specs.Sources.{Naming, named_source, derived_source, start_from, add_item}
use Rattle.span_blocks.specs.Blocks.{block_tail_of, bind_block}

-- ---- unions

abbrev pub have_same_kind : OutputColumn × OutputColumn → Bool
have_same_kind p = sameb kind_type p.0.kind p.1.kind

-- as many columns, each of the type of the other at its place
abbrev pub have_same_kinds : List OutputColumn → List OutputColumn → Bool
have_same_kinds cs ds = (length cs == length ds) && list_all have_same_kind (zip cs ds)

-- all blocks give as many columns as the first, of the same types
unfoldable pub are_union_compatible : BoundBlocks → Bool
are_union_compatible b = list_all (λ (other : BoundBlock). have_same_kinds b.first.columns other.columns) b.others

-- ---- ORDER BY

-- it is counted from 1
abbrev pub ordinal : List OutputColumn → ℕ → Result ℕ Refusal
ordinal columns n = if (n == 0) || nat_lt (length columns) n then Err BadOrdinal else Ok (n - 1)

abbrev pub is_column_named : List ℕ → OutputColumn → Bool
is_column_named name c = is_named name c.name

-- only output columns are seen there
unfoldable pub sort_place : List OutputColumn → SortColumn → Result ℕ Refusal
sort_place columns (sort.Name name) = one_place (is_column_named name.text) columns
sort_place columns (sort.Place n) = ordinal columns n.value

abbrev pub sort_key : List OutputColumn → SortKey → Result BoundKey Refusal
sort_key columns k =
    and_then (sort_place columns k.column) (λ p. Ok (record { column = p; is_descending = k.is_descending }))

unfoldable pub sort_keys : List OutputColumn → List SortKey → Result (List BoundKey) Refusal
sort_keys columns ks = each_of (sort_key columns) ks

-- ---- queries from their blocks

abbrev pub limit_of : Limit → BoundLimit
limit_of l = record { rows = l.rows; skip = l.skip }

abbrev pub blocks_of : List BoundBlock → List (TypedBlock BoundQuery)
blocks_of bound = map (λ (b : BoundBlock). b.block) bound

abbrev pub query_of : BoundBlocks → List BoundKey → Option Limit → TypedQuery
query_of b order limit = record {
  query =
      roll-BoundQuery (record {
        first = b.first.block;
        others = blocks_of b.others;
        order = order;
        limit = option_map limit_of limit;
      });
  columns = b.first.columns;
}

-- ORDER BY, where the blocks give the same columns
abbrev pub union_keys : BoundBlocks → List SortKey → Result (List BoundKey) Refusal
union_keys b order = if are_union_compatible b then sort_keys b.first.columns order else Err ColumnsDiffer

unfoldable pub bind_query : BoundBlocks → List SortKey → Option Limit → Result TypedQuery Refusal
bind_query b order limit =
    if are_union_compatible b then and_then (sort_keys b.first.columns order) (λ keys. Ok (query_of b keys limit))
    else Err ColumnsDiffer

-- ---- blocks of a query

abbrev pub only_block : BoundBlock → BoundBlocks
only_block b = record { first = b; others = [] }

abbrev pub with_block : BoundBlocks → BoundBlock → BoundBlocks
with_block blocks b = record { first = blocks.first; others = blocks.others ++ (b ∷ []) }

-- ---- trees

-- the typed forms of the parts of a tree
abbrev pub ItemStep : Type 0
ItemStep = Naming Source

pub record JoinStep : Type 0 where
  pub is_left : Bool
  pub item : ItemStep
  pub on : Expr

abbrev pub BlockStep : Type 0
BlockStep = Naming BoundBlock

abbrev pub QueryStep : Type 0
QueryStep = Naming TypedQuery

abbrev pub item_at : List Table → Item-F ItemStep BlockStep JoinStep QueryStep → ItemStep
item_at schema (Item-F.Table name alias) leaves = named_source schema name alias leaves
item_at schema (Item-F.Derived q name) leaves = and_then (q leaves) (λ p. Ok (derived_source name p.0, p.1))

abbrev pub join_at : Join-F ItemStep BlockStep JoinStep QueryStep → JoinStep
join_at j = record { is_left = j.is_left; item = j.item; on = j.on }

-- the item and then its ON
abbrev pub next_join : List Parameter → FromItems × List ℕ → JoinStep → Result (FromItems × List ℕ) Refusal
next_join params so_far j =
    and_then (j.item so_far.1) (λ p. and_then (add_item params so_far.0 j.is_left p.0 j.on) (λ f. Ok (f, p.1)))

abbrev pub from : List Parameter → ItemStep → List JoinStep → Naming FromItems
from params first joins leaves =
    and_then (and_then (first leaves) (λ p. Ok (start_from p.0, p.1))) (fold_results (next_join params) joins)

abbrev pub block_at : List Parameter → Block-F ItemStep BlockStep JoinStep QueryStep → BlockStep
block_at params b leaves =
    and_then (from params b.from b.joins leaves)
    (λ p. and_then (bind_block params (block_tail_of (λ (j : JoinStep). j.on) b) p.0) (λ x. Ok (x, p.1)))

-- one more block of the query
abbrev pub next_block : BoundBlocks × List ℕ → BlockStep → Result (BoundBlocks × List ℕ) Refusal
next_block so_far b = and_then (b so_far.1) (λ p. Ok (with_block so_far.0 p.0, p.1))

abbrev pub blocks : BlockStep → List BlockStep → Naming BoundBlocks
blocks first others leaves =
    and_then (and_then (first leaves) (λ p. Ok (only_block p.0, p.1))) (fold_results next_block others)

abbrev pub query_at : Query-F ItemStep BlockStep JoinStep QueryStep → QueryStep
query_at q leaves =
    and_then (blocks q.first q.others leaves) (λ p. and_then (bind_query p.0 q.order q.limit) (λ b. Ok (b, p.1)))

-- the typed forms of the trees on these tables and with these parameters
unfoldable pub item_step : List Table → List Parameter → Item → ItemStep
item_step schema params =
    fold-Item ItemStep BlockStep JoinStep QueryStep (item_at schema) (block_at params) join_at query_at

unfoldable pub block_step : List Table → List Parameter → Block → BlockStep
block_step schema params =
    fold-Block ItemStep BlockStep JoinStep QueryStep (item_at schema) (block_at params) join_at query_at

unfoldable pub query_step : List Table → List Parameter → Query → QueryStep
query_step schema params =
    fold-Query ItemStep BlockStep JoinStep QueryStep (item_at schema) (block_at params) join_at query_at

abbrev pub join_step : List Table → List Parameter → Join → JoinStep
join_step schema params j = record { is_left = j.is_left; item = item_step schema params j.item; on = j.on }

abbrev pub statement_of : TypedQuery × List ℕ → Statement
statement_of p = record { query = p.0.query; leaves = p.1; columns = p.0.columns }

-- the statement, or the first fault
abbrev pub bound : List Table → List Parameter → Query → Result Statement Refusal
bound schema params q = and_then (query_step schema params q []) (λ p. Ok (statement_of p))
