use Rattle.std.proofs.Common.{◌+◌, ℕ, length, arith, sym, Option, subst}
use Rattle.span_arena.specs.Content.{Content, is_unused}
use Rattle.span_keyindex.specs.declared.remove.Kept.{Kept}
use Rattle.span_keytree.specs.Nexts.{Nexts, next_of, without_first}
use Rattle.span_keyindex.specs.Removals.{all_of, passed, passed_arena, passed_links}
use Rattle.span_keyindex.proofs.Unlinking.{IsPassing, passing_first, passed_none, passed_by, cell_linked, before_linked, chain_next, unused_same}
use Rattle.span_keyindex.proofs.remove.unlink.Goals as goal

pub loop-step-init : goal.loop-step-init
loop-step-init c =
    subst (λ (n : Nexts). IsPassing (all_of c.args.arena.now.cells c.args.nexts.now) c.args.arena.now c.args.arena.now c.args.nexts.now n (length c.args.arena.now.cells) 0 c.first-at.result _) {x = without_first c.args.nexts.now} {y = c.forget_first.new.self} (sym c.forget_first.ensures)
    (subst (λ (x : Option ℕ). IsPassing (all_of c.args.arena.now.cells c.args.nexts.now) c.args.arena.now c.args.arena.now c.args.nexts.now (without_first c.args.nexts.now) (length c.args.arena.now.cells) 0 x _) {x = c.args.nexts.now.first} {y = c.first-at.result} (sym c.first-at.ensures)
    (passing_first c.args.arena.now c.args.nexts.now c.requires.own))

pub loop-step-preserved-in_default : goal.loop-step-preserved-in_default
loop-step-preserved-in_default c =
    passed_none (all_of c.args.arena.now.cells c.args.nexts.now) c.args.arena.now c.loop-step.arena c.args.nexts.now c.loop-step.nexts (length c.args.arena.now.cells) c.loop-step._step c.loop-step.at c.loop-step.kept c.loop-step.invariant c.in_default.is (omega (arith, c.loop-step-test.true, c.numbers-step-end.ensures.len))

pub after-at-requires : goal.after-at-requires
after-at-requires c = cell_linked (all_of c.args.arena.now.cells c.args.nexts.now) c.args.arena.now c.loop-step.arena c.args.nexts.now c.loop-step.nexts (length c.args.arena.now.cells) c.loop-step._step c.loop-step.at c.loop-step.kept c.in-Some.number c.requires.chains c.requires.own.once (λ i s. (let lt = c.requires.own.within i s in omega (arith, c.requires.own.places))) c.loop-step.invariant c.in-Some.is

pub pass-kept-requires-clause-chain : goal.pass-kept-requires-clause-chain
pass-kept-requires-clause-chain c = chain_next (all_of c.args.arena.now.cells c.args.nexts.now) c.args.arena.now c.loop-step.arena c.args.nexts.now c.loop-step.nexts (length c.args.arena.now.cells) c.loop-step._step c.loop-step.at c.loop-step.kept c.in-Some.number c.requires.chains c.requires.own.once (λ i s. (let lt = c.requires.own.within i s in omega (arith, c.requires.own.places))) c.loop-step.invariant c.in-Some.is

pub pass-kept-requires-clause-place : goal.pass-kept-requires-clause-place
pass-kept-requires-clause-place c = cell_linked (all_of c.args.arena.now.cells c.args.nexts.now) c.args.arena.now c.loop-step.arena c.args.nexts.now c.loop-step.nexts (length c.args.arena.now.cells) c.loop-step._step c.loop-step.at c.loop-step.kept c.in-Some.number c.requires.chains c.requires.own.once (λ i s. (let lt = c.requires.own.within i s in omega (arith, c.requires.own.places))) c.loop-step.invariant c.in-Some.is

pub pass-kept-requires-clause-before : goal.pass-kept-requires-clause-before
pass-kept-requires-clause-before c = before_linked (all_of c.args.arena.now.cells c.args.nexts.now) c.args.arena.now c.loop-step.arena c.args.nexts.now c.loop-step.nexts (length c.args.arena.now.cells) c.loop-step._step c.loop-step.at c.loop-step.kept c.in-Some.number c.requires.chains c.requires.own.once (λ i s. (let lt = c.requires.own.within i s in omega (arith, c.requires.own.places))) c.loop-step.invariant c.in-Some.is

pub loop-step-preserved : goal.loop-step-preserved
loop-step-preserved c =
    let u = is_unused c.loop-step.arena c.in-Some.number in
    let next = passed_by (all_of c.args.arena.now.cells c.args.nexts.now) c.args.arena.now c.loop-step.arena c.args.nexts.now c.loop-step.nexts (length c.args.arena.now.cells) c.loop-step._step c.loop-step.at c.loop-step.kept c.in-Some.number c.requires.chains c.requires.own.once (λ i s. (let lt = c.requires.own.within i s in omega (arith, c.requires.own.places))) c.loop-step.invariant c.in-Some.is u (sym (unused_same (all_of c.args.arena.now.cells c.args.nexts.now) c.args.arena.now c.loop-step.arena c.args.nexts.now c.loop-step.nexts (length c.args.arena.now.cells) c.loop-step._step c.loop-step.at c.loop-step.kept c.in-Some.number c.requires.chains c.requires.own.once (λ i s. (let lt = c.requires.own.within i s in omega (arith, c.requires.own.places))) c.loop-step.invariant c.in-Some.is)) in
    subst (λ (b : Content). IsPassing (all_of c.args.arena.now.cells c.args.nexts.now) c.args.arena.now b c.args.nexts.now c.pass-kept.new.nexts (length c.args.arena.now.cells) (c.loop-step._step + 1) c.after-at.result c.pass-kept.result)
    {x = passed_arena u c.loop-step.arena c.in-Some.number} {y = c.pass-kept.new.arena} (sym c.pass-kept.ensures.arena)
    (subst (λ (n : Nexts). IsPassing (all_of c.args.arena.now.cells c.args.nexts.now) c.args.arena.now (passed_arena u c.loop-step.arena c.in-Some.number) c.args.nexts.now n (length c.args.arena.now.cells) (c.loop-step._step + 1) c.after-at.result c.pass-kept.result)
    {x = passed_links u c.loop-step.nexts c.loop-step.kept.before c.in-Some.number} {y = c.pass-kept.new.nexts} (sym c.pass-kept.ensures.links)
    (subst (λ (x : Option ℕ). IsPassing (all_of c.args.arena.now.cells c.args.nexts.now) c.args.arena.now (passed_arena u c.loop-step.arena c.in-Some.number) c.args.nexts.now (passed_links u c.loop-step.nexts c.loop-step.kept.before c.in-Some.number) (length c.args.arena.now.cells) (c.loop-step._step + 1) x c.pass-kept.result)
    {x = next_of c.loop-step.nexts c.in-Some.number} {y = c.after-at.result} (sym c.after-at.ensures)
    (subst (λ (k : Kept). IsPassing (all_of c.args.arena.now.cells c.args.nexts.now) c.args.arena.now (passed_arena u c.loop-step.arena c.in-Some.number) c.args.nexts.now (passed_links u c.loop-step.nexts c.loop-step.kept.before c.in-Some.number) (length c.args.arena.now.cells) (c.loop-step._step + 1) (next_of c.loop-step.nexts c.in-Some.number) k)
    {x = passed u c.loop-step.kept c.in-Some.number} {y = c.pass-kept.result} (sym c.pass-kept.ensures.kept) next)))
