use Rattle.std.specs.Prelude.{Bool}
use Rattle.std.proofs.Common.{◌+◌, ap, refl, arith, inl, inr, Some, None}
use Rattle.span_keytree.specs.Roots.{tree_of}
use Rattle.span_keytree.specs.Nexts.{before_in}
use Rattle.span_keytree.specs.Puts.{put_of}
use Rattle.span_keytree.proofs.Searching.{search_absent}
use Rattle.span_keytree.proofs.Whole.{on_err, tree_cost, slot_found, slot_added, grown_yes, grown_not, levels_fit}
use Rattle.span_keytree.proofs.tree.put_among.Goals as goal

pub returns-in_err-is_added-clause-absent : goal.returns-in_err-is_added-clause-absent
returns-in_err-is_added-clause-absent g c = on_err c.from_residual.result _ (search_absent c.args.key.now (tree_of c.args.arena.now.cells c.args.index.now) c.requires.own.search.rising c.in_err-is_added.ensures.absent)

pub returns-in_err-is_added-clause-cost : goal.returns-in_err-is_added-clause-cost
returns-in_err-is_added-clause-cost g c = tree_cost (tree_of c.args.arena.now.cells c.args.index.now) _ c.args.steps.now c.add_key.new.steps c.in_err-is_added.ensures.steps

pub overflow_add-index : goal.overflow_add-index
overflow_add-index g c = omega (arith, levels_fit c.args.arena.now.cells c.args.index.now c.requires.own.search c.numbers_fit.ensures)

pub returns-then-not-is_added-clause-ok : goal.returns-then-not-is_added-clause-ok
returns-then-not-is_added-clause-ok g c =
    inl (slot_found c.args.arena.now c.add_key.new.arena c.args.nexts.now c.add_key.new.nexts c.args.index.now c.args.key.now (before_in c.args.key.now None (tree_of c.args.arena.now.cells c.args.index.now)) (put_of c.in_ok-is_added.is_added c.add_key.new.part) c.add_key.new.part.cell c.in_ok-is_added.ensures.ok c.in_ok-is_added.ensures.arena c.in_ok-is_added.ensures.nexts (ap (λ (b : Bool). put_of b c.add_key.new.part) c.if-not-is_added.true))

pub returns-then-not-is_added-clause-cost : goal.returns-then-not-is_added-clause-cost
returns-then-not-is_added-clause-cost g c = tree_cost (tree_of c.args.arena.now.cells c.args.index.now) _ c.args.steps.now c.add_key.new.steps c.in_ok-is_added.ensures.steps

pub returns-then-part-clause-ok : goal.returns-then-part-clause-ok
returns-then-part-clause-ok g c =
    inr (slot_added c.args.arena.now c.add_key.new.arena c.args.nexts.now c.add_key.new.nexts c.args.index.now (record { root = Some c.add_key.new.part.root; levels = c.args.index.now.levels + 1; last = c.args.index.now.last }) c.args.key.now (put_of c.in_ok-is_added.is_added c.add_key.new.part) c.add_key.new.part c.requires.own c.in_ok-is_added.ensures.ok c.in_ok-is_added.ensures.arena c.in_ok-is_added.ensures.nexts (ap (λ (b : Bool). put_of b c.add_key.new.part) c.if-not-is_added.false) refl (grown_yes c.add_key.new.part.grew c.args.index.now.levels c.if-part.true) refl c.requires.among).more

pub returns-then-part-clause-own : goal.returns-then-part-clause-own
returns-then-part-clause-own g c =
    (slot_added c.args.arena.now c.add_key.new.arena c.args.nexts.now c.add_key.new.nexts c.args.index.now (record { root = Some c.add_key.new.part.root; levels = c.args.index.now.levels + 1; last = c.args.index.now.last }) c.args.key.now (put_of c.in_ok-is_added.is_added c.add_key.new.part) c.add_key.new.part c.requires.own c.in_ok-is_added.ensures.ok c.in_ok-is_added.ensures.arena c.in_ok-is_added.ensures.nexts (ap (λ (b : Bool). put_of b c.add_key.new.part) c.if-not-is_added.false) refl (grown_yes c.add_key.new.part.grew c.args.index.now.levels c.if-part.true) refl c.requires.among).own

pub returns-then-part-clause-cost : goal.returns-then-part-clause-cost
returns-then-part-clause-cost g c = tree_cost (tree_of c.args.arena.now.cells c.args.index.now) _ c.args.steps.now c.add_key.new.steps c.in_ok-is_added.ensures.steps

pub returns-else-part-clause-ok : goal.returns-else-part-clause-ok
returns-else-part-clause-ok g c =
    inr (slot_added c.args.arena.now c.add_key.new.arena c.args.nexts.now c.add_key.new.nexts c.args.index.now (record { root = Some c.add_key.new.part.root; levels = c.args.index.now.levels; last = c.args.index.now.last }) c.args.key.now (put_of c.in_ok-is_added.is_added c.add_key.new.part) c.add_key.new.part c.requires.own c.in_ok-is_added.ensures.ok c.in_ok-is_added.ensures.arena c.in_ok-is_added.ensures.nexts (ap (λ (b : Bool). put_of b c.add_key.new.part) c.if-not-is_added.false) refl (grown_not c.add_key.new.part.grew c.args.index.now.levels c.if-part.false) refl c.requires.among).more

pub returns-else-part-clause-own : goal.returns-else-part-clause-own
returns-else-part-clause-own g c =
    (slot_added c.args.arena.now c.add_key.new.arena c.args.nexts.now c.add_key.new.nexts c.args.index.now (record { root = Some c.add_key.new.part.root; levels = c.args.index.now.levels; last = c.args.index.now.last }) c.args.key.now (put_of c.in_ok-is_added.is_added c.add_key.new.part) c.add_key.new.part c.requires.own c.in_ok-is_added.ensures.ok c.in_ok-is_added.ensures.arena c.in_ok-is_added.ensures.nexts (ap (λ (b : Bool). put_of b c.add_key.new.part) c.if-not-is_added.false) refl (grown_not c.add_key.new.part.grew c.args.index.now.levels c.if-part.false) refl c.requires.among).own

pub returns-else-part-clause-cost : goal.returns-else-part-clause-cost
returns-else-part-clause-cost g c = tree_cost (tree_of c.args.arena.now.cells c.args.index.now) _ c.args.steps.now c.add_key.new.steps c.in_ok-is_added.ensures.steps
