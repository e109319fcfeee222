use Rattle.span_keytree.specs.Roots.{tree_of}
use Rattle.span_keytree.specs.Puts.{tree_at}
use Rattle.std.proofs.Common.{Some}
use Rattle.span_keytree.proofs.Into.{into_tree, into_chains, into_low, into_absent, into_put, into_cost}
use Rattle.span_keytree.proofs.Searching.{search_absent}
use Rattle.span_keytree.proofs.Whole.{on_err, tree_cost}
use Rattle.span_keytree.proofs.tree.put_into.Goals as goal

pub add_key-requires-clause-tree : goal.add_key-requires-clause-tree
add_key-requires-clause-tree g c = into_tree c.args.arena.now c.args.index.now c.args.key.now c.args.cell c.requires.own.search c.requires.part.there

pub add_key-requires-clause-chains : goal.add_key-requires-clause-chains
add_key-requires-clause-chains g c = into_chains c.args.arena.now c.args.index.now c.args.key.now c.args.cell c.requires.own.search c.requires.part.there c.requires.chains

pub returns-in_err-_is_added-clause-absent : goal.returns-in_err-_is_added-clause-absent
returns-in_err-_is_added-clause-absent g c =
    on_err c.from_residual.result _ (search_absent c.args.key.now (tree_of c.args.arena.now.cells c.args.index.now) c.requires.own.search.rising (into_absent c.args.arena.now c.args.index.now c.args.key.now c.args.cell c.requires.own.search c.requires.part.there c.requires.part.own c.in_err-_is_added.ensures.absent))

pub returns-in_err-_is_added-clause-cost : goal.returns-in_err-_is_added-clause-cost
returns-in_err-_is_added-clause-cost g c =
    into_cost (tree_of c.args.arena.now.cells c.args.index.now) (tree_at c.args.arena.now.cells c.args.index.now.levels (Some c.args.cell)) c.args.steps.now c.add_key.new.steps (into_low c.args.arena.now c.args.index.now c.args.key.now c.args.cell c.requires.own.search c.requires.part.there) (tree_cost (tree_at c.args.arena.now.cells c.args.index.now.levels (Some c.args.cell)) _ c.args.steps.now c.add_key.new.steps c.in_err-_is_added.ensures.steps)

pub returns-clause-ok : goal.returns-clause-ok
returns-clause-ok g c =
    (into_put c.args.arena.now c.add_key.new.arena c.args.nexts.now c.add_key.new.nexts c.args.index.now c.args.key.now c.args.cell c.add_key.new.part c.requires.own c.requires.chains c.requires.among c.requires.part c.in_ok-_is_added._is_added c.in_ok-_is_added.ensures.ok c.in_ok-_is_added.ensures.arena c.in_ok-_is_added.ensures.nexts).slot

pub returns-clause-own : goal.returns-clause-own
returns-clause-own g c =
    (into_put c.args.arena.now c.add_key.new.arena c.args.nexts.now c.add_key.new.nexts c.args.index.now c.args.key.now c.args.cell c.add_key.new.part c.requires.own c.requires.chains c.requires.among c.requires.part c.in_ok-_is_added._is_added c.in_ok-_is_added.ensures.ok c.in_ok-_is_added.ensures.arena c.in_ok-_is_added.ensures.nexts).own

pub returns-clause-cost : goal.returns-clause-cost
returns-clause-cost g c =
    into_cost (tree_of c.args.arena.now.cells c.args.index.now) (tree_at c.args.arena.now.cells c.args.index.now.levels (Some c.args.cell)) c.args.steps.now c.add_key.new.steps (into_low c.args.arena.now c.args.index.now c.args.key.now c.args.cell c.requires.own.search c.requires.part.there) (tree_cost (tree_at c.args.arena.now.cells c.args.index.now.levels (Some c.args.cell)) _ c.args.steps.now c.add_key.new.steps c.in_ok-_is_added.ensures.steps)
