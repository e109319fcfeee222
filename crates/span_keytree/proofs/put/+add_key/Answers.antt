use Rattle.std.proofs.Common.{ap, arith, rules}
use Rattle.span_arena.specs.Content.{Content}
use Rattle.std.specs.Prelude.{Bool, Result}
use Rattle.span_value.specs.declared.refusal.Refusal.{Refusal}
use Rattle.span_keytree.specs.Puts.{tree_at, put_of, put_result}
use Rattle.std.proofs.lemmas.Result.{err_from_is_err_and}
use Rattle.span_keytree.proofs.Exits.{left_chains_some, right_chains_some, new_free, left_relinked, right_relinked, range_some, left_some, right_some, left_ready, right_ready, left_added, right_added, left_found, right_found, left_next, right_next}
use Rattle.span_keytree.proofs.Spent.{some_levels, left_spent, right_spent, left_found_cost, right_found_cost, left_refused, right_refused}
use Rattle.span_keytree.proofs.put.+add_key.Goals as goal

pub compare-requires : goal.compare-requires
compare-requires g t c = range_some c.args.arena.now.cells c.args.levels c.args.at c.in-Some.at c.in-Some.is c.requires.tree

pub links-left-requires : goal.links-left-requires
links-left-requires g t c = range_some c.args.arena.now.cells c.args.levels c.args.at c.in-Some.at c.in-Some.is c.requires.tree

pub links-right-requires : goal.links-right-requires
links-right-requires g t c = range_some c.args.arena.now.cells c.args.levels c.args.at c.in-Some.at c.in-Some.is c.requires.tree

pub join_left-requires-clause-at : goal.join_left-requires-clause-at
join_left-requires-clause-at g t c = (left_ready c.args.arena.now.cells c.add_key.new.arena.cells c.args.levels c.args.at c.in-Some.at c.links-left.result c.args.key.now (put_of c.in_ok-put_left-in-Less.put_left c.add_key.new.part) c.add_key.new.part c.in-Some.is c.links-left.ensures c.requires.tree c.in_ok-put_left-in-Less.ensures.ok (ap (λ (b : Bool). put_of b c.add_key.new.part) c.if-not-put_left.false)).1

pub join_left-requires-clause-root : goal.join_left-requires-clause-root
join_left-requires-clause-root g t c = (left_ready c.args.arena.now.cells c.add_key.new.arena.cells c.args.levels c.args.at c.in-Some.at c.links-left.result c.args.key.now (put_of c.in_ok-put_left-in-Less.put_left c.add_key.new.part) c.add_key.new.part c.in-Some.is c.links-left.ensures c.requires.tree c.in_ok-put_left-in-Less.ensures.ok (ap (λ (b : Bool). put_of b c.add_key.new.part) c.if-not-put_left.false)).0.here

pub join_left-requires-clause-inner : goal.join_left-requires-clause-inner
join_left-requires-clause-inner g t c = (left_ready c.args.arena.now.cells c.add_key.new.arena.cells c.args.levels c.args.at c.in-Some.at c.links-left.result c.args.key.now (put_of c.in_ok-put_left-in-Less.put_left c.add_key.new.part) c.add_key.new.part c.in-Some.is c.links-left.ensures c.requires.tree c.in_ok-put_left-in-Less.ensures.ok (ap (λ (b : Bool). put_of b c.add_key.new.part) c.if-not-put_left.false)).0.right

pub returns-else-not-put_left-clause-ok : goal.returns-else-not-put_left-clause-ok
returns-else-not-put_left-clause-ok g t c = left_added c.args.arena.now.cells c.add_key.new.arena.cells c.join_left.new.arena.cells c.args.levels c.args.at c.in-Some.at c.links-left.result c.args.key.now (put_of c.in_ok-put_left-in-Less.put_left c.add_key.new.part) c.add_key.new.part c.join_left.new.part c.in-Some.is c.links-left.ensures c.requires.tree (rw c.as_slice.ensures at c.in-Less.ensures.order) (new_free c.args.arena.now c.add_key.new.arena (tree_at c.args.arena.now.cells c.args.levels c.args.at) (put_of c.in_ok-put_left-in-Less.put_left c.add_key.new.part) c.add_key.new.part c.requires.chains c.in_ok-put_left-in-Less.ensures.arena (ap (λ (b : Bool). put_of b c.add_key.new.part) c.if-not-put_left.false)) c.in_ok-put_left-in-Less.ensures.ok (ap (λ (b : Bool). put_of b c.add_key.new.part) c.if-not-put_left.false) (ap (λ (a : Content). a.cells) c.join_left.ensures.arena) c.join_left.ensures.part

pub add_key-requires : goal.add_key-requires
add_key-requires g t c κs within = (let some = some_levels c.args.arena.now.cells c.args.levels c.args.at c.in-Some.at c.in-Some.is c.requires.tree in omega (arith, c.decreases), (search rules, (search rules, (left_some c.args.arena.now.cells c.args.levels c.args.at c.in-Some.at c.links-left.result c.in-Some.is c.links-left.ensures c.requires.tree, (left_chains_some c.args.arena.now c.args.levels c.args.at c.in-Some.at c.links-left.result c.in-Some.is c.links-left.ensures c.requires.tree c.requires.chains, (c.requires.links, c.requires.before))))))

pub returns-else-not-put_left-clause-steps : goal.returns-else-not-put_left-clause-steps
returns-else-not-put_left-clause-steps g t c = left_spent c.args.arena.now.cells c.add_key.new.arena.cells c.args.levels c.args.at c.in-Some.at c.links-left.result (put_of c.in_ok-put_left-in-Less.put_left c.add_key.new.part) c.add_key.new.part c.join_left.new.part c.args.steps.now c.compare.new.steps c.add_key.new.steps c.join_left.new.steps c.in-Some.is c.links-left.ensures c.requires.tree c.in-Less.ensures.steps c.in_ok-put_left-in-Less.ensures.steps (ap (λ (b : Bool). put_of b c.add_key.new.part) c.if-not-put_left.false) c.join_left.ensures.steps c.join_left.ensures.part

pub join_right-requires-clause-at : goal.join_right-requires-clause-at
join_right-requires-clause-at g t c = (right_ready c.args.arena.now.cells c.add_key-in-Greater.new.arena.cells c.args.levels c.args.at c.in-Some.at c.links-right.result c.args.key.now (put_of c.in_ok-put_right-in-Greater.put_right c.add_key-in-Greater.new.part) c.add_key-in-Greater.new.part c.in-Some.is c.links-right.ensures c.requires.tree c.in_ok-put_right-in-Greater.ensures.ok (ap (λ (b : Bool). put_of b c.add_key-in-Greater.new.part) c.if-not-put_right.false)).1

pub join_right-requires-clause-root : goal.join_right-requires-clause-root
join_right-requires-clause-root g t c = (right_ready c.args.arena.now.cells c.add_key-in-Greater.new.arena.cells c.args.levels c.args.at c.in-Some.at c.links-right.result c.args.key.now (put_of c.in_ok-put_right-in-Greater.put_right c.add_key-in-Greater.new.part) c.add_key-in-Greater.new.part c.in-Some.is c.links-right.ensures c.requires.tree c.in_ok-put_right-in-Greater.ensures.ok (ap (λ (b : Bool). put_of b c.add_key-in-Greater.new.part) c.if-not-put_right.false)).0.here

pub join_right-requires-clause-inner : goal.join_right-requires-clause-inner
join_right-requires-clause-inner g t c = (right_ready c.args.arena.now.cells c.add_key-in-Greater.new.arena.cells c.args.levels c.args.at c.in-Some.at c.links-right.result c.args.key.now (put_of c.in_ok-put_right-in-Greater.put_right c.add_key-in-Greater.new.part) c.add_key-in-Greater.new.part c.in-Some.is c.links-right.ensures c.requires.tree c.in_ok-put_right-in-Greater.ensures.ok (ap (λ (b : Bool). put_of b c.add_key-in-Greater.new.part) c.if-not-put_right.false)).0.left

pub returns-else-not-put_right-clause-ok : goal.returns-else-not-put_right-clause-ok
returns-else-not-put_right-clause-ok g t c = right_added c.args.arena.now.cells c.add_key-in-Greater.new.arena.cells c.join_right.new.arena.cells c.args.levels c.args.at c.in-Some.at c.links-right.result c.args.key.now (put_of c.in_ok-put_right-in-Greater.put_right c.add_key-in-Greater.new.part) c.add_key-in-Greater.new.part c.join_right.new.part c.in-Some.is c.links-right.ensures c.requires.tree (rw c.as_slice.ensures at c.in-Greater.ensures.order) (new_free c.args.arena.now c.add_key-in-Greater.new.arena (tree_at c.args.arena.now.cells c.args.levels c.args.at) (put_of c.in_ok-put_right-in-Greater.put_right c.add_key-in-Greater.new.part) c.add_key-in-Greater.new.part c.requires.chains c.in_ok-put_right-in-Greater.ensures.arena (ap (λ (b : Bool). put_of b c.add_key-in-Greater.new.part) c.if-not-put_right.false)) c.in_ok-put_right-in-Greater.ensures.ok (ap (λ (b : Bool). put_of b c.add_key-in-Greater.new.part) c.if-not-put_right.false) (ap (λ (a : Content). a.cells) c.join_right.ensures.arena) c.join_right.ensures.part

pub add_key-requires-in-Greater : goal.add_key-requires-in-Greater
add_key-requires-in-Greater g t c κs within = (let some = some_levels c.args.arena.now.cells c.args.levels c.args.at c.in-Some.at c.in-Some.is c.requires.tree in omega (arith, c.decreases), (search rules, (search rules, (right_some c.args.arena.now.cells c.args.levels c.args.at c.in-Some.at c.links-right.result c.in-Some.is c.links-right.ensures c.requires.tree, (right_chains_some c.args.arena.now c.args.levels c.args.at c.in-Some.at c.links-right.result c.in-Some.is c.links-right.ensures c.requires.tree c.requires.chains, (c.requires.links, range_some c.args.arena.now.cells c.args.levels c.args.at c.in-Some.at c.in-Some.is c.requires.tree))))))

pub returns-else-not-put_right-clause-steps : goal.returns-else-not-put_right-clause-steps
returns-else-not-put_right-clause-steps g t c = right_spent c.args.arena.now.cells c.add_key-in-Greater.new.arena.cells c.args.levels c.args.at c.in-Some.at c.links-right.result (put_of c.in_ok-put_right-in-Greater.put_right c.add_key-in-Greater.new.part) c.add_key-in-Greater.new.part c.join_right.new.part c.args.steps.now c.compare.new.steps c.add_key-in-Greater.new.steps c.join_right.new.steps c.in-Some.is c.links-right.ensures c.requires.tree c.in-Greater.ensures.steps c.in_ok-put_right-in-Greater.ensures.steps (ap (λ (b : Bool). put_of b c.add_key-in-Greater.new.part) c.if-not-put_right.false) c.join_right.ensures.steps c.join_right.ensures.part

pub returns-then-not-put_left-clause-ok : goal.returns-then-not-put_left-clause-ok
returns-then-not-put_left-clause-ok g t c =
    left_found c.args.arena.now.cells c.add_key.new.arena.cells c.args.levels c.args.at c.in-Some.at c.links-left.result c.args.key.now (put_of c.in_ok-put_left-in-Less.put_left c.add_key.new.part) c.add_key.new.part.cell c.in-Some.is c.links-left.ensures c.requires.tree (rw c.as_slice.ensures at c.in-Less.ensures.order) c.in_ok-put_left-in-Less.ensures.ok (ap (λ (b : Bool). put_of b c.add_key.new.part) c.if-not-put_left.true)

pub returns-then-not-put_left-clause-steps : goal.returns-then-not-put_left-clause-steps
returns-then-not-put_left-clause-steps g t c =
    left_found_cost c.args.arena.now.cells c.args.levels c.args.at c.in-Some.at c.links-left.result (put_of c.in_ok-put_left-in-Less.put_left c.add_key.new.part) c.add_key.new.part.cell c.args.steps.now c.compare.new.steps c.add_key.new.steps c.in-Some.is c.links-left.ensures c.requires.tree c.in-Less.ensures.steps c.in_ok-put_left-in-Less.ensures.steps (ap (λ (b : Bool). put_of b c.add_key.new.part) c.if-not-put_left.true)

pub returns-else-not-put_left-clause-nexts : goal.returns-else-not-put_left-clause-nexts
returns-else-not-put_left-clause-nexts g t c =
    left_next c.args.arena.now.cells c.add_key.new.arena.cells c.args.levels c.args.at c.in-Some.at c.links-left.result c.args.key.now c.args.before (put_of c.in_ok-put_left-in-Less.put_left c.add_key.new.part) c.add_key.new.part c.join_left.new.part c.args.nexts.now c.add_key.new.nexts c.in-Some.is c.links-left.ensures c.requires.tree (rw c.as_slice.ensures at c.in-Less.ensures.order) c.in_ok-put_left-in-Less.ensures.nexts (ap (λ (b : Bool). put_of b c.add_key.new.part) c.if-not-put_left.false) c.join_left.ensures.part

pub returns-then-not-put_right-clause-ok : goal.returns-then-not-put_right-clause-ok
returns-then-not-put_right-clause-ok g t c =
    right_found c.args.arena.now.cells c.add_key-in-Greater.new.arena.cells c.args.levels c.args.at c.in-Some.at c.links-right.result c.args.key.now (put_of c.in_ok-put_right-in-Greater.put_right c.add_key-in-Greater.new.part) c.add_key-in-Greater.new.part.cell c.in-Some.is c.links-right.ensures c.requires.tree (rw c.as_slice.ensures at c.in-Greater.ensures.order) c.in_ok-put_right-in-Greater.ensures.ok (ap (λ (b : Bool). put_of b c.add_key-in-Greater.new.part) c.if-not-put_right.true)

pub returns-then-not-put_right-clause-steps : goal.returns-then-not-put_right-clause-steps
returns-then-not-put_right-clause-steps g t c =
    right_found_cost c.args.arena.now.cells c.args.levels c.args.at c.in-Some.at c.links-right.result (put_of c.in_ok-put_right-in-Greater.put_right c.add_key-in-Greater.new.part) c.add_key-in-Greater.new.part.cell c.args.steps.now c.compare.new.steps c.add_key-in-Greater.new.steps c.in-Some.is c.links-right.ensures c.requires.tree c.in-Greater.ensures.steps c.in_ok-put_right-in-Greater.ensures.steps (ap (λ (b : Bool). put_of b c.add_key-in-Greater.new.part) c.if-not-put_right.true)

pub returns-else-not-put_right-clause-nexts : goal.returns-else-not-put_right-clause-nexts
returns-else-not-put_right-clause-nexts g t c =
    right_next c.args.arena.now.cells c.add_key-in-Greater.new.arena.cells c.args.levels c.args.at c.in-Some.at c.links-right.result c.args.key.now c.args.before (put_of c.in_ok-put_right-in-Greater.put_right c.add_key-in-Greater.new.part) c.add_key-in-Greater.new.part c.join_right.new.part c.args.nexts.now c.add_key-in-Greater.new.nexts c.in-Some.is c.links-right.ensures c.requires.tree (rw c.as_slice.ensures at c.in-Greater.ensures.order) c.in_ok-put_right-in-Greater.ensures.nexts (ap (λ (b : Bool). put_of b c.add_key-in-Greater.new.part) c.if-not-put_right.false) c.join_right.ensures.part

pub returns-in_err-put_left-in-Less-clause-steps : goal.returns-in_err-put_left-in-Less-clause-steps
returns-in_err-put_left-in-Less-clause-steps g t c =
    let p = err_from_is_err_and c.from_residual-in_err-put_left-in-Less.result c.from_residual-in_err-put_left-in-Less.ensures.1 in
    left_refused c.args.arena.now.cells c.args.levels c.args.at c.in-Some.at c.links-left.result _ p.0 (put_result c.from_residual-in_err-put_left-in-Less.result c.add_key.new.part) c.args.steps.now c.compare.new.steps c.add_key.new.steps c.in-Some.is c.links-left.ensures c.requires.tree c.in-Less.ensures.steps c.in_err-put_left-in-Less.ensures.steps (ap (λ (r : Result Bool Refusal). put_result r c.add_key.new.part) p.1)

pub returns-in_err-put_right-in-Greater-clause-steps : goal.returns-in_err-put_right-in-Greater-clause-steps
returns-in_err-put_right-in-Greater-clause-steps g t c =
    let p = err_from_is_err_and c.from_residual-in_err-put_right-in-Greater.result c.from_residual-in_err-put_right-in-Greater.ensures.1 in
    right_refused c.args.arena.now.cells c.args.levels c.args.at c.in-Some.at c.links-right.result _ p.0 (put_result c.from_residual-in_err-put_right-in-Greater.result c.add_key-in-Greater.new.part) c.args.steps.now c.compare.new.steps c.add_key-in-Greater.new.steps c.in-Some.is c.links-right.ensures c.requires.tree c.in-Greater.ensures.steps c.in_err-put_right-in-Greater.ensures.steps (ap (λ (r : Result Bool Refusal). put_result r c.add_key-in-Greater.new.part) p.1)

pub returns-else-not-put_left-clause-arena : goal.returns-else-not-put_left-clause-arena
returns-else-not-put_left-clause-arena g t c =
    left_relinked c.args.arena.now c.add_key.new.arena c.join_left.new.arena _ c.in-Some.at (put_of c.in_ok-put_left-in-Less.put_left c.add_key.new.part) c.add_key.new.part c.join_left.new.part c.in_ok-put_left-in-Less.ensures.arena (ap (λ (b : Bool). put_of b c.add_key.new.part) c.if-not-put_left.false) c.join_left.ensures.arena c.join_left.ensures.part

pub returns-else-not-put_right-clause-arena : goal.returns-else-not-put_right-clause-arena
returns-else-not-put_right-clause-arena g t c =
    right_relinked c.args.arena.now c.add_key-in-Greater.new.arena c.join_right.new.arena _ c.in-Some.at (put_of c.in_ok-put_right-in-Greater.put_right c.add_key-in-Greater.new.part) c.add_key-in-Greater.new.part c.join_right.new.part c.in_ok-put_right-in-Greater.ensures.arena (ap (λ (b : Bool). put_of b c.add_key-in-Greater.new.part) c.if-not-put_right.false) c.join_right.ensures.arena c.join_right.ensures.part
