use Rattle.std.proofs.Common.{ℕ, refl, sym, arith, inr, Some, subst}
use Rattle.std.specs.Prelude.{IfSome}
use Rattle.span_keytree.specs.Roots.{tree_of}
use Rattle.span_keytree.specs.Lasts.{IsStop}
use Rattle.span_keytree.specs.Trees.{Tree}
use Rattle.span_keytree.proofs.Hanging.{absent_after, last_inside, first_alone, is_added, beside_same, beside_tree, beside_part, beside_free, beside_above, last_added, last_cost}
use Rattle.span_keytree.proofs.Held.{tree_chains}
use Rattle.span_keytree.proofs.Whole.{on_err, levels_fit}
use Rattle.span_keytree.proofs.last.put_last.Goals as goal

pub add_key-requires-clause-before : goal.add_key-requires-clause-before
add_key-requires-clause-before g c = last_inside c.args.arena.now.cells c.args.nexts.now c.args.index.now c.requires.own

pub returns-in_err-_is_added-clause-absent : goal.returns-in_err-_is_added-clause-absent
returns-in_err-_is_added-clause-absent g c = on_err c.from_residual.result _ (absent_after c.args.arena.now.cells c.args.nexts.now c.args.index.now c.args.key.now c.requires.own c.requires.after)

pub hang_last-requires-clause-tree : goal.hang_last-requires-clause-tree
hang_last-requires-clause-tree g c =
    let alone = first_alone c.args.arena.now c.add_key.new.arena c.args.nexts.now c.add_key.new.nexts c.args.key.now c.args.index.now.last c.add_key.new.part c.in_ok-_is_added._is_added c.in_ok-_is_added.ensures.ok c.in_ok-_is_added.ensures.arena c.in_ok-_is_added.ensures.nexts in
    beside_tree c.args.arena.now c.add_key.new.arena c.args.nexts.now c.add_key.new.nexts c.args.index.now c.args.key.now c.add_key.new.part c.requires.own (tree_chains c.args.arena.now c.args.index.now c.requires.chains) alone

pub hang_last-requires-clause-stop : goal.hang_last-requires-clause-stop
hang_last-requires-clause-stop g c =
    let alone = first_alone c.args.arena.now c.add_key.new.arena c.args.nexts.now c.add_key.new.nexts c.args.key.now c.args.index.now.last c.add_key.new.part c.in_ok-_is_added._is_added c.in_ok-_is_added.ensures.ok c.in_ok-_is_added.ensures.arena c.in_ok-_is_added.ensures.nexts in
    let same = beside_same c.args.arena.now c.add_key.new.arena c.args.nexts.now c.add_key.new.nexts c.args.index.now c.args.key.now c.add_key.new.part c.requires.own (tree_chains c.args.arena.now c.args.index.now c.requires.chains) alone in
    subst (λ (t : Tree). IfSome c.last_stop-stop.result (λ (p : ℕ). IsStop p t)) {x = tree_of c.args.arena.now.cells c.args.index.now} {y = tree_of c.add_key.new.arena.cells c.args.index.now} (sym same) c.last_stop-stop.ensures

pub hang_last-requires-clause-part : goal.hang_last-requires-clause-part
hang_last-requires-clause-part g c =
    let alone = first_alone c.args.arena.now c.add_key.new.arena c.args.nexts.now c.add_key.new.nexts c.args.key.now c.args.index.now.last c.add_key.new.part c.in_ok-_is_added._is_added c.in_ok-_is_added.ensures.ok c.in_ok-_is_added.ensures.arena c.in_ok-_is_added.ensures.nexts in
    beside_part c.args.arena.now c.add_key.new.arena c.args.nexts.now c.add_key.new.nexts c.args.index.now c.args.key.now c.add_key.new.part c.requires.own (tree_chains c.args.arena.now c.args.index.now c.requires.chains) alone

pub hang_last-requires-clause-free : goal.hang_last-requires-clause-free
hang_last-requires-clause-free g c =
    let alone = first_alone c.args.arena.now c.add_key.new.arena c.args.nexts.now c.add_key.new.nexts c.args.key.now c.args.index.now.last c.add_key.new.part c.in_ok-_is_added._is_added c.in_ok-_is_added.ensures.ok c.in_ok-_is_added.ensures.arena c.in_ok-_is_added.ensures.nexts in
    beside_free c.args.arena.now c.add_key.new.arena c.args.nexts.now c.add_key.new.nexts c.args.index.now c.args.key.now c.add_key.new.part c.requires.own (tree_chains c.args.arena.now c.args.index.now c.requires.chains) alone

pub hang_last-requires-clause-above : goal.hang_last-requires-clause-above
hang_last-requires-clause-above g c =
    let alone = first_alone c.args.arena.now c.add_key.new.arena c.args.nexts.now c.add_key.new.nexts c.args.key.now c.args.index.now.last c.add_key.new.part c.in_ok-_is_added._is_added c.in_ok-_is_added.ensures.ok c.in_ok-_is_added.ensures.arena c.in_ok-_is_added.ensures.nexts in
    beside_above c.args.arena.now c.add_key.new.arena c.args.nexts.now c.add_key.new.nexts c.args.index.now c.args.key.now c.add_key.new.part c.requires.own (tree_chains c.args.arena.now c.args.index.now c.requires.chains) alone c.requires.after

pub height_after-requires : goal.height_after-requires
height_after-requires g c = omega (arith, levels_fit c.args.arena.now.cells c.args.index.now c.requires.own.search c.numbers_fit.ensures)

pub returns-clause-ok : goal.returns-clause-ok
returns-clause-ok g c =
    let alone = first_alone c.args.arena.now c.add_key.new.arena c.args.nexts.now c.add_key.new.nexts c.args.key.now c.args.index.now.last c.add_key.new.part c.in_ok-_is_added._is_added c.in_ok-_is_added.ensures.ok c.in_ok-_is_added.ensures.arena c.in_ok-_is_added.ensures.nexts in
    inr (last_added c.args.arena.now c.add_key.new.arena c.args.nexts.now c.add_key.new.nexts c.args.index.now c.args.key.now c.add_key.new.part c.requires.own (tree_chains c.args.arena.now c.args.index.now c.requires.chains) alone c.hang_last.new.arena (record { root = Some c.hang_last.new.part.root; levels = c.height_after.result; last = Some c.hang_last.new.part.cell }) c.hang_last.new.part c.requires.after c.hang_last.ensures.arena c.hang_last.ensures.cell c.hang_last.ensures.added refl c.height_after.ensures refl).more

pub returns-clause-own : goal.returns-clause-own
returns-clause-own g c =
    let alone = first_alone c.args.arena.now c.add_key.new.arena c.args.nexts.now c.add_key.new.nexts c.args.key.now c.args.index.now.last c.add_key.new.part c.in_ok-_is_added._is_added c.in_ok-_is_added.ensures.ok c.in_ok-_is_added.ensures.arena c.in_ok-_is_added.ensures.nexts in
    (last_added c.args.arena.now c.add_key.new.arena c.args.nexts.now c.add_key.new.nexts c.args.index.now c.args.key.now c.add_key.new.part c.requires.own (tree_chains c.args.arena.now c.args.index.now c.requires.chains) alone c.hang_last.new.arena (record { root = Some c.hang_last.new.part.root; levels = c.height_after.result; last = Some c.hang_last.new.part.cell }) c.hang_last.new.part c.requires.after c.hang_last.ensures.arena c.hang_last.ensures.cell c.hang_last.ensures.added refl c.height_after.ensures refl).own

pub returns-clause-cost : goal.returns-clause-cost
returns-clause-cost g c =
    let alone = first_alone c.args.arena.now c.add_key.new.arena c.args.nexts.now c.add_key.new.nexts c.args.key.now c.args.index.now.last c.add_key.new.part c.in_ok-_is_added._is_added c.in_ok-_is_added.ensures.ok c.in_ok-_is_added.ensures.arena c.in_ok-_is_added.ensures.nexts in
    last_cost c.args.arena.now c.add_key.new.arena c.args.nexts.now c.add_key.new.nexts c.args.index.now c.args.key.now c.add_key.new.part c.requires.own (tree_chains c.args.arena.now c.args.index.now c.requires.chains) alone c.in_ok-_is_added._is_added c.hang_last.new.part c.args.steps.now c.add_key.new.steps c.hang_last.new.steps c.in_ok-_is_added.ensures.steps (is_added c.args.arena.now.cells c.add_key.new.arena.cells c.args.key.now c.add_key.new.part c.in_ok-_is_added._is_added c.in_ok-_is_added.ensures.ok) c.hang_last.ensures.steps
