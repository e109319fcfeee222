use Rattle.std.proofs.Common.{rules, ap, sym, ◌∙◌, ℕ, List, Ok, Err, Result}
use Rattle.span_value.specs.declared.refusal.Refusal.{Refusal}
use Rattle.span_value.specs.Results.{and_then}
use Rattle.span_parser.specs.declared.tree.Item.TheViews.{out-Query}
use Rattle.span_operators.specs.Steps.{Gives}
use Rattle.span_blocks.specs.declared.bound.BoundBlock.{BoundBlock}
use Rattle.span_blocks.specs.declared.bound.BoundBlocks.{BoundBlocks}
use Rattle.span_blocks.specs.declared.bound.FromItems.{FromItems}
use Rattle.span_blocks.specs.declared.bound.TypedQuery.{TypedQuery}
use Rattle.span_blocks.specs.Blocks.{block_tail, bind_block}
use Rattle.span_binder.specs.Queries.{bind_query}
use Rattle.span_binder.specs.Queries as spec
use Rattle.span_binder.proofs.Adding.{found_tables, join_made, join_refused, block_made}
use Rattle.span_binder.proofs.Giving.{goes_on, stops}
use Rattle.span_binder.proofs.Trees.{table_step, derived_step, block_steps, query_steps, block_from, query_from}
use Rattle.span_binder.proofs.binding.Binder.+binding.Goals as goal

pub item-returns-in-Table-clause-meant : goal.item-returns-in-Table-clause-meant
item-returns-in-Table-clause-meant t c = let s = table_step c.args.self.schema.now c.args.self.params.now c.args.tree.now c.in-Table.name c.in-Table.alias c.args.leaves c.in-Table.is in search (rules, s)

pub item-returns-in_ok-derived_source-in-Derived-clause-meant : goal.item-returns-in_ok-derived_source-in-Derived-clause-meant
item-returns-in_ok-derived_source-in-Derived-clause-meant t c = let s = derived_step c.args.self.schema.now c.args.self.params.now c.args.tree.now c.in-Derived.query c.in-Derived.name c.args.leaves c.in-Derived.is in search (rules, s)

pub item-returns-in_err-bound-in-Derived-clause-meant : goal.item-returns-in_err-bound-in-Derived-clause-meant
item-returns-in_err-bound-in-Derived-clause-meant t c = let s = derived_step c.args.self.schema.now c.args.self.params.now c.args.tree.now c.in-Derived.query c.in-Derived.name c.args.leaves c.in-Derived.is in search (rules, s)

pub join_items-loop-join-preserved : goal.join_items-loop-join-preserved
join_items-loop-join-preserved t c =
    let schema = c.args.self.schema.now in
    let params = c.args.self.params.now in
    let step = spec.join_step schema params in
    let next = join_made params c.loop-join.so_far (step c.join-item.result) c.item.result c.in_ok-from.from (c.in_ok-from.item, c.in_ok-from.leaves) c.in_ok-from-2.from c.item.ensures.meant (sym c.in_ok-from.ensures) c.in_ok-from-2.ensures in
    record {
      meant = goes_on step (spec.next_join params) c.args.joins.now c.loop-join.join-index c.join-item.result c.loop-join.so_far _ c.loop-join.invariant.meant c.loop-join-test.true c.join-item.is (c.in_ok-from-2.from, c.in_ok-from.leaves) next;
      tables = λ h. found_tables schema c.loop-join.so_far.0 c.in_ok-from.from c.item.result (c.in_ok-from.item, c.in_ok-from.leaves) (sym c.in_ok-from.ensures) (c.item.ensures.tables (c.loop-join.invariant.tables h));
    }

pub join_items-returns-in_err-from-2-clause-meant : goal.join_items-returns-in_err-from-2-clause-meant
join_items-returns-in_err-from-2-clause-meant t c =
    let step = spec.join_step c.args.self.schema.now c.args.self.params.now in
    let why = c.in_err-from-2.field-0.0 in
    let refused = join_refused c.args.self.params.now c.loop-join.so_far (step c.join-item.result) c.item.result c.in_ok-from.from (c.in_ok-from.item, c.in_ok-from.leaves) why c.item.ensures.meant (sym c.in_ok-from.ensures) c.in_err-from-2.ensures in
    let answer = stops step (spec.next_join c.args.self.params.now) c.args.joins.now c.loop-join.join-index c.join-item.result c.loop-join.so_far _ c.loop-join.invariant.meant c.loop-join-test.true c.join-item.is why refused in
    search (rules, answer)

pub block-returns-in_err-first-clause-meant : goal.block-returns-in_err-first-clause-meant
block-returns-in_err-first-clause-meant t c = let s = block_steps c.args.self.schema.now c.args.self.params.now c.args.tree.now c.args.leaves in search (rules, s)

pub block-returns-in_err-from-clause-meant : goal.block-returns-in_err-from-clause-meant
block-returns-in_err-from-clause-meant t c =
    let on = block_from c.args.self.schema.now c.args.self.params.now c.args.tree.now c.args.leaves c.as_slice.result.now c.in_ok-first.first c.in_ok-first-2.first c.in_ok-first.leaves c.as_slice.ensures c.in_ok-first-2.ensures c.in_ok-first.ensures.meant in
    let why = c.in_err-from.field-0.0 in
    let answer : Gives {A = BoundBlock × List ℕ} (Err why) (spec.block_step c.args.self.schema.now c.args.self.params.now c.args.tree.now c.args.leaves) =
    λ n. on ∙ ap (λ (o : Result (FromItems × List ℕ) Refusal). and_then o (λ p. and_then (bind_block c.args.self.params.now (block_tail c.args.tree.now) p.0) (λ y. let r : Result (BoundBlock × List ℕ) Refusal = Ok (y, p.1) in r))) (c.in_err-from.ensures.meant n) in
    search (rules, answer)

pub block-returns-in_err-bind_block-clause-meant : goal.block-returns-in_err-bind_block-clause-meant
block-returns-in_err-bind_block-clause-meant t c =
    let on = block_from c.args.self.schema.now c.args.self.params.now c.args.tree.now c.args.leaves c.as_slice.result.now c.in_ok-first.first c.in_ok-first-2.first c.in_ok-first.leaves c.as_slice.ensures c.in_ok-first-2.ensures c.in_ok-first.ensures.meant in
    let why = c.in_err-bind_block.field-0.0 in
    let answer : Gives {A = BoundBlock × List ℕ} (Err why) (spec.block_step c.args.self.schema.now c.args.self.params.now c.args.tree.now c.args.leaves) =
    λ n. on ∙ ap (λ (o : Result (FromItems × List ℕ) Refusal). and_then o (λ p. and_then (bind_block c.args.self.params.now (block_tail c.args.tree.now) p.0) (λ y. let r : Result (BoundBlock × List ℕ) Refusal = Ok (y, p.1) in r))) c.in_ok-from.ensures.meant
    ∙ ap (λ (o : Result BoundBlock Refusal). and_then o (λ y. let r : Result (BoundBlock × List ℕ) Refusal = Ok (y, c.in_ok-from.leaves) in r)) (c.in_err-bind_block.ensures n) in
    search (rules, answer)

pub block-returns-clause-meant : goal.block-returns-clause-meant
block-returns-clause-meant t c = let s = block_steps c.args.self.schema.now c.args.self.params.now c.args.tree.now c.args.leaves in search (rules, s)

pub others-loop-other-preserved : goal.others-loop-other-preserved
others-loop-other-preserved t c =
    let schema = c.args.self.schema.now in
    let step = spec.block_step schema c.args.self.params.now in
    let made = block_made c.loop-other.so_far (step c.other-item.result) c.block.result c.in_ok-blocks.blocks (c.in_ok-blocks.block, c.in_ok-blocks.leaves) c.block.ensures.meant (sym c.in_ok-blocks.ensures) in
    let next = made ∙ ap (λ (b : _). let r : Result _ Refusal = Ok (b, c.in_ok-blocks.leaves) in r) (sym c.in_ok-with_block.ensures) in
    record {
      meant = goes_on step spec.next_block c.args.others.now c.loop-other.other-index c.other-item.result c.loop-other.so_far _ c.loop-other.invariant.meant c.loop-other-test.true c.other-item.is (c.in_ok-with_block.field-0, c.in_ok-blocks.leaves) next;
      tables = λ h. found_tables schema c.loop-other.so_far.0 c.in_ok-blocks.blocks c.block.result (c.in_ok-blocks.block, c.in_ok-blocks.leaves) (sym c.in_ok-blocks.ensures) (c.block.ensures.tables (c.loop-other.invariant.tables h));
    }

pub query-returns-in_err-first-clause-meant : goal.query-returns-in_err-first-clause-meant
query-returns-in_err-first-clause-meant t c = let s = query_steps c.args.self.schema.now c.args.self.params.now c.args.tree.now c.args.leaves in search (rules, s)

pub query-returns-in_err-blocks-clause-meant : goal.query-returns-in_err-blocks-clause-meant
query-returns-in_err-blocks-clause-meant t c = let s = query_steps c.args.self.schema.now c.args.self.params.now c.args.tree.now c.args.leaves in search (rules, s)

pub query-returns-in_err-query-clause-meant : goal.query-returns-in_err-query-clause-meant
query-returns-in_err-query-clause-meant t c =
    let on = query_from c.args.self.schema.now c.args.self.params.now c.args.tree.now c.args.leaves c.as_slice.result.now c.as_slice-2.result.now c.in_ok-first.first c.only_block-first.result c.in_ok-first.leaves c.as_slice.ensures c.as_slice-2.ensures c.only_block-first.ensures c.in_ok-first.ensures.meant in
    let why = c.in_err-query.field-0.0 in
    let rest : BoundBlocks × List ℕ → Result (TypedQuery × List ℕ) Refusal = λ p. and_then (bind_query p.0 c.as_slice-2.result.now (out-Query c.args.tree.now).limit) (λ y. Ok (y, p.1)) in
    let answer : Gives {A = TypedQuery × List ℕ} (Err why) (spec.query_step c.args.self.schema.now c.args.self.params.now c.args.tree.now c.args.leaves) =
    λ n. on ∙ ap (λ (o : Result (BoundBlocks × List ℕ) Refusal). and_then o rest) c.in_ok-blocks.ensures.meant
    ∙ ap (λ (o : Result TypedQuery Refusal). and_then o (λ y. let r : Result (TypedQuery × List ℕ) Refusal = Ok (y, c.in_ok-blocks.leaves) in r)) (c.in_err-query.ensures n) in
    search (rules, answer)

pub query-returns-clause-meant : goal.query-returns-clause-meant
query-returns-clause-meant t c = let s = query_steps c.args.self.schema.now c.args.self.params.now c.args.tree.now c.args.leaves in search (rules, s)
