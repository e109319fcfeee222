-- The typed forms of trees of queries, by those of their parts.
use Rattle.std.proofs.Common.{◌≡◌, List, [], ◌∷◌, map, refl, sym, ap, ◌∙◌, ℕ, Option, Result, Ok}
use Rattle.span_value.specs.declared.refusal.Refusal.{Refusal}
use Rattle.span_schema.specs.declared.table.Table.{Table}
use Rattle.span_params.specs.declared.params.Parameter.{Parameter}
use Rattle.span_trees.specs.declared.tree.Spelling.{Spelling}
use Rattle.span_trees.specs.declared.tree.Expr.{Expr}
use Rattle.span_parser.specs.declared.tree.Query.{Query}
use Rattle.span_parser.specs.declared.tree.Block.{Block}
use Rattle.span_parser.specs.declared.tree.Item.{Item}
use Rattle.span_parser.specs.declared.tree.Item.TheVariants as item
use Rattle.span_parser.specs.declared.tree.Item.TheVariants.{rolls-Table, rolls-Derived}
use Rattle.span_parser.specs.declared.tree.Join.{Join}
use Rattle.span_parser.specs.declared.tree.SortKey.{SortKey}
use Rattle.span_parser.specs.declared.tree.Item.TheOpen.{Query-F, Block-F, Item-F}
use Rattle.span_parser.specs.declared.tree.Item.TheViews.{out-Query, out-Block}
use Rattle.span_parser.specs.declared.tree.Item.TheFolds.{fold-Item, fold-Block, fold-Join, fold-Query, fold_out-Query, fold_out-Block, fold_out-Join, fold-roll-Item, map-Block, map-Query}
use Rattle.span_value.specs.Results.{and_then}
use Rattle.span_blocks.specs.declared.bound.TypedQuery.{TypedQuery}
use Rattle.span_blocks.specs.declared.bound.BoundBlock.{BoundBlock}
use Rattle.span_blocks.specs.declared.bound.BoundBlocks.{BoundBlocks}
use Rattle.span_blocks.specs.declared.bound.FromItems.{FromItems}
use Rattle.span_blocks.specs.declared.bound.Source.{Source}
use Rattle.span_blocks.specs.Onward.{fold_results}
use Rattle.span_blocks.specs.Sources.{named_source, derived_source, start_from}
use Rattle.span_blocks.specs.Aggregating.{is_grouped}
use Rattle.span_blocks.specs.Blocks.{BlockTail, block_tail, block_tail_of, bind_block}
use Rattle.span_binder.specs.Queries.{ItemStep, JoinStep, BlockStep, QueryStep, item_at, block_at, join_at, query_at, item_step, block_step, query_step, join_step, next_join, next_block, bind_query, only_block}

module _ (schema : List Table) (params : List Parameter) where
  -- ---- a layer of a tree, where its parts are replaced by their typed forms

  pub table_is : (name : Spelling) (alias : Option Spelling) → item_step schema params (item.Table name alias) ≡ item_at schema (Item-F.Table name alias)
  unfolding item_step
  table_is name alias =
      ap (item_step schema params) (sym (rolls-Table name alias))
      ∙ fold-roll-Item ItemStep BlockStep JoinStep QueryStep (item_at schema) (block_at params) join_at query_at (Item-F.Table name alias)

  pub derived_is : (q : Query) (name : Spelling) → item_step schema params (item.Derived q name) ≡ item_at schema (Item-F.Derived (query_step schema params q) name)
  unfolding item_step query_step
  derived_is q name =
      ap (item_step schema params) (sym (rolls-Derived q name))
      ∙ fold-roll-Item ItemStep BlockStep JoinStep QueryStep (item_at schema) (block_at params) join_at query_at (Item-F.Derived q name)

  abbrev items : Item → ItemStep
  items = fold-Item ItemStep BlockStep JoinStep QueryStep (item_at schema) (block_at params) join_at query_at

  abbrev blocks : Block → BlockStep
  blocks = fold-Block ItemStep BlockStep JoinStep QueryStep (item_at schema) (block_at params) join_at query_at

  abbrev joins : Join → JoinStep
  joins = fold-Join ItemStep BlockStep JoinStep QueryStep (item_at schema) (block_at params) join_at query_at

  abbrev queries : Query → QueryStep
  queries = fold-Query ItemStep BlockStep JoinStep QueryStep (item_at schema) (block_at params) join_at query_at

  -- ---- blocks

  abbrev block_layer : Block-F Item Block Join Query → Block-F ItemStep BlockStep JoinStep QueryStep
  block_layer d =
      record {
        is_distinct = d.is_distinct;
        outputs = d.outputs;
        from = item_step schema params d.from;
        joins = map (join_step schema params) d.joins;
        filter = d.filter;
        groups = d.groups;
        having = d.having;
      }

  abbrev with_joins : Block-F Item Block Join Query → List Join → Block-F Item Block Join Query
  with_joins d js =
      record { is_distinct = d.is_distinct; outputs = d.outputs; from = d.from; joins = js; filter = d.filter; groups = d.groups; having = d.having }

  abbrev block_mapped : Block-F Item Block Join Query → Block-F ItemStep BlockStep JoinStep QueryStep
  block_mapped d = map-Block Item Block Join Query ItemStep BlockStep JoinStep QueryStep items blocks joins queries d

  join_is : (j : Join) → joins j ≡ join_step schema params j
  unfolding item_step
  join_is j = fold_out-Join ItemStep BlockStep JoinStep QueryStep (item_at schema) (block_at params) join_at query_at j

  joins_mapped : (d : Block-F Item Block Join Query) (js : List Join) → (block_mapped (with_joins d js)).joins ≡ map (join_step schema params) js
  joins_mapped d [] = refl
  joins_mapped d (j ∷ js) =
      ap (λ (x : JoinStep). x ∷ (block_mapped (with_joins d js)).joins) (join_is j)
      ∙ ap (λ (l : List JoinStep). join_step schema params j ∷ l) (joins_mapped d js)

  block_layer_is : (d : Block-F Item Block Join Query) → block_mapped d ≡ block_layer d
  unfolding item_step
  block_layer_is d =
      ap (λ (js : List JoinStep). record { is_distinct = d.is_distinct; outputs = d.outputs; from = items d.from; joins = js; filter = d.filter; groups = d.groups; having = d.having })
      (joins_mapped d d.joins)

  pub block_is : (b : Block) → block_step schema params b ≡ block_at params (block_layer (out-Block b))
  unfolding block_step
  block_is b =
      fold_out-Block ItemStep BlockStep JoinStep QueryStep (item_at schema) (block_at params) join_at query_at b
      ∙ ap (block_at params) (block_layer_is (out-Block b))

  -- ---- queries

  abbrev query_layer : Query-F Item Block Join Query → Query-F ItemStep BlockStep JoinStep QueryStep
  query_layer d =
      record {
        first = block_step schema params d.first;
        others = map (block_step schema params) d.others;
        order = d.order;
        limit = d.limit;
      }

  abbrev with_others : Query-F Item Block Join Query → List Block → Query-F Item Block Join Query
  with_others d bs = record { first = d.first; others = bs; order = d.order; limit = d.limit }

  abbrev query_mapped : Query-F Item Block Join Query → Query-F ItemStep BlockStep JoinStep QueryStep
  query_mapped d = map-Query Item Block Join Query ItemStep BlockStep JoinStep QueryStep items blocks joins queries d

  others_mapped : (d : Query-F Item Block Join Query) (bs : List Block) → (query_mapped (with_others d bs)).others ≡ map (block_step schema params) bs
  unfolding block_step
  others_mapped d [] = refl
  others_mapped d (b ∷ bs) = ap (λ (l : List BlockStep). block_step schema params b ∷ l) (others_mapped d bs)

  query_layer_is : (d : Query-F Item Block Join Query) → query_mapped d ≡ query_layer d
  unfolding block_step
  query_layer_is d =
      ap (λ (bs : List BlockStep). record { first = blocks d.first; others = bs; order = d.order; limit = d.limit }) (others_mapped d d.others)

  pub query_is : (q : Query) → query_step schema params q ≡ query_at (query_layer (out-Query q))
  unfolding query_step
  query_is q =
      fold_out-Query ItemStep BlockStep JoinStep QueryStep (item_at schema) (block_at params) join_at query_at q
      ∙ ap query_at (query_layer_is (out-Query q))

  -- ---- one step of each, in terms of the steps of its parts

  pub table_step : (tree : Item) (name : Spelling) (alias : Option Spelling) (leaves : List ℕ) → tree ≡ item.Table name alias
      → item_step schema params tree leaves ≡ named_source schema name alias leaves
  table_step tree name alias leaves is =
      ap (λ (i : Item). item_step schema params i leaves) is ∙ ap (λ (s : ItemStep). s leaves) (table_is name alias)

  pub derived_step : (tree : Item) (q : Query) (name : Spelling) (leaves : List ℕ) → tree ≡ item.Derived q name
      → item_step schema params tree leaves ≡ and_then (query_step schema params q leaves) (λ p. Ok (derived_source name p.0, p.1))
  derived_step tree q name leaves is =
      ap (λ (i : Item). item_step schema params i leaves) is ∙ ap (λ (s : ItemStep). s leaves) (derived_is q name)

  ons_kept : (js : List Join) → map (λ (j : JoinStep). j.on) (map (join_step schema params) js) ≡ map (λ (j : Join). j.on) js
  ons_kept [] = refl
  ons_kept (j ∷ js) = ap (λ (l : List Expr). j.on ∷ l) (ons_kept js)

  tail_kept : (d : Block-F Item Block Join Query) → block_tail_of (λ (j : JoinStep). j.on) (block_layer d) ≡ block_tail_of (λ (j : Join). j.on) d
  tail_kept d =
      ap (λ (ons : List Expr). record { is_grouped = is_grouped d.groups d.having d.filter d.outputs ons; is_distinct = d.is_distinct; outputs = d.outputs; filter = d.filter; groups = d.groups; having = d.having })
      (ons_kept d.joins)

  abbrev block_after : Block → List ℕ → BlockTail → Result (BoundBlock × List ℕ) Refusal
  block_after b leaves x =
      and_then (and_then (and_then (item_step schema params (out-Block b).from leaves) (λ p. Ok (start_from p.0, p.1))) (fold_results (next_join params) (map (join_step schema params) (out-Block b).joins)))
      (λ p. and_then (bind_block params x p.0) (λ y. Ok (y, p.1)))

  pub block_steps : (b : Block) (leaves : List ℕ) → block_step schema params b leaves ≡ block_after b leaves (block_tail b)
  block_steps b leaves = ap (λ (s : BlockStep). s leaves) (block_is b) ∙ ap (block_after b leaves) (tail_kept (out-Block b))

  -- where the first item is found, and the FROM begins with it
  pub block_from : (b : Block) (leaves : List ℕ) (js : List Join) (first : Source) (from : FromItems) (after : List ℕ) → js ≡ (out-Block b).joins → from ≡ start_from first
      → item_step schema params (out-Block b).from leaves ≡ Ok (first, after)
      → block_step schema params b leaves ≡ and_then (fold_results (next_join params) (map (join_step schema params) js) (from, after)) (λ p. and_then (bind_block params (block_tail b) p.0) (λ y. Ok (y, p.1)))
  block_from b leaves js first from after same begins found =
      let rest : FromItems × List ℕ → Result (BoundBlock × List ℕ) Refusal = λ p. and_then (bind_block params (block_tail b) p.0) (λ y. Ok (y, p.1)) in
      block_steps b leaves
      ∙ ap (λ (o : Result (Source × List ℕ) Refusal). and_then (and_then (and_then o (λ p. Ok (start_from p.0, p.1))) (fold_results (next_join params) (map (join_step schema params) (out-Block b).joins))) rest) found
      ∙ ap (λ (l : List Join). and_then (fold_results (next_join params) (map (join_step schema params) l) (start_from first, after)) rest) (sym same)
      ∙ ap (λ (f : FromItems). and_then (fold_results (next_join params) (map (join_step schema params) js) (f, after)) rest) (sym begins)

  abbrev query_after : Query → List ℕ → Result (TypedQuery × List ℕ) Refusal
  query_after q leaves =
      and_then (and_then (and_then (block_step schema params (out-Query q).first leaves) (λ p. Ok (only_block p.0, p.1))) (fold_results next_block (map (block_step schema params) (out-Query q).others)))
      (λ p. and_then (bind_query p.0 (out-Query q).order (out-Query q).limit) (λ y. Ok (y, p.1)))

  pub query_steps : (q : Query) (leaves : List ℕ) → query_step schema params q leaves ≡ query_after q leaves
  query_steps q leaves = ap (λ (s : QueryStep). s leaves) (query_is q)

  -- where the first block is found
  pub query_from : (q : Query) (leaves : List ℕ) (bs : List Block) (order : List SortKey) (first : BoundBlock) (blocks : BoundBlocks) (after : List ℕ) → bs ≡ (out-Query q).others → order ≡ (out-Query q).order → blocks ≡ only_block first
      → block_step schema params (out-Query q).first leaves ≡ Ok (first, after)
      → query_step schema params q leaves ≡ and_then (fold_results next_block (map (block_step schema params) bs) (blocks, after)) (λ p. and_then (bind_query p.0 order (out-Query q).limit) (λ y. Ok (y, p.1)))
  query_from q leaves bs order first blocks after same by begins found =
      let rest : List SortKey → BoundBlocks × List ℕ → Result (TypedQuery × List ℕ) Refusal = λ keys p. and_then (bind_query p.0 keys (out-Query q).limit) (λ y. Ok (y, p.1)) in
      query_steps q leaves
      ∙ ap (λ (o : Result (BoundBlock × List ℕ) Refusal). and_then (and_then (and_then o (λ p. Ok (only_block p.0, p.1))) (fold_results next_block (map (block_step schema params) (out-Query q).others))) (rest (out-Query q).order)) found
      ∙ ap (λ (l : List Block). and_then (fold_results next_block (map (block_step schema params) l) (only_block first, after)) (rest (out-Query q).order)) (sym same)
      ∙ ap (λ (x : BoundBlocks). and_then (fold_results next_block (map (block_step schema params) bs) (x, after)) (rest (out-Query q).order)) (sym begins)
      ∙ ap (λ (keys : List SortKey). and_then (fold_results next_block (map (block_step schema params) bs) (blocks, after)) (rest keys)) (sym by)
