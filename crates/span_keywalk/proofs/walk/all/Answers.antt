use Rattle.std.proofs.Common.{arith, None, subst, sym}
use Rattle.span_keytree.specs.Roots.{entries_at}
use Rattle.span_keywalk.proofs.Walking.{IsWalked, all_walked}
use Rattle.span_keywalk.proofs.walk.all.Goals as goal

pub invariant_of-result : goal.invariant_of-result
invariant_of-result c =
    let w = subst (λ x. IsWalked c.args.arena.now.cells c.args.nexts.now c.numbers.result x None (entries_at c.args.arena.now.cells c.args.index.now)) {x = c.args.nexts.now.first} {y = c.first.result} (sym c.first.ensures) (all_walked c.args.arena.now.cells c.args.nexts.now c.args.index.now c.requires c.numbers.result (omega (arith, c.numbers.ensures.len))) in
    (w.within, c.requires.places)

pub returns : goal.returns
returns c =
    let w = subst (λ x. IsWalked c.args.arena.now.cells c.args.nexts.now c.numbers.result x None (entries_at c.args.arena.now.cells c.args.index.now)) {x = c.args.nexts.now.first} {y = c.first.result} (sym c.first.ensures) (all_walked c.args.arena.now.cells c.args.nexts.now c.args.index.now c.requires c.numbers.result (omega (arith, c.numbers.ensures.len))) in
    w.now
