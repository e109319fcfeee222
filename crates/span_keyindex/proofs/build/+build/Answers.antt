use Rattle.std.proofs.Common.{◌≡◌, ℕ, suc, ◌+◌, ◌-◌, ◌/◌, arith, ap, sym, Option, subst}
use Rattle.span_arena.specs.Content.{Content}
use Rattle.span_keyindex.specs.Builds.{IsRun, IsBuilt}
use Rattle.span_keytree.specs.Nexts.{next_of}
use Rattle.span_keyindex.proofs.Building.{run_at, built_at, run_left, rest_some, cell_in, cell_linked, run_right, built_more}
use Rattle.span_keyindex.proofs.build.+build.Goals as goal

pub build-left-requires : goal.build-left-requires
build-left-requires t c =
    let is : c.args.count ≡ (c.args.count - 1) / 2 + suc (c.args.count - 1 - (c.args.count - 1) / 2) = omega (arith, c.if-count-eq0.false) in
    (omega (arith, c.decreases), run_left c.args.arena.now.cells c.args.nexts.now ((c.args.count - 1) / 2) (c.args.count - 1 - (c.args.count - 1) / 2) c.args.at (run_at c.args.arena.now.cells c.args.nexts.now c.args.count ((c.args.count - 1) / 2) (c.args.count - 1 - (c.args.count - 1) / 2) c.args.at is c.requires))

pub unreachable-requires : goal.unreachable-requires
unreachable-requires t c =
    let is : c.args.count ≡ (c.args.count - 1) / 2 + suc (c.args.count - 1 - (c.args.count - 1) / 2) = omega (arith, c.if-count-eq0.false) in
    rest_some c.args.arena.now.cells c.args.nexts.now ((c.args.count - 1) / 2) (c.args.count - 1 - (c.args.count - 1) / 2) c.args.at
    (run_at c.args.arena.now.cells c.args.nexts.now c.args.count ((c.args.count - 1) / 2) (c.args.count - 1 - (c.args.count - 1) / 2) c.args.at is c.requires) c.build-left.result.rest c.build-left.ensures.tree.after c.in_default.is

pub after-requires : goal.after-requires
after-requires t c =
    let is : c.args.count ≡ (c.args.count - 1) / 2 + suc (c.args.count - 1 - (c.args.count - 1) / 2) = omega (arith, c.if-count-eq0.false) in
    cell_linked c.args.arena.now.cells c.build-left.new.arena.cells c.args.nexts.now ((c.args.count - 1) / 2) (c.args.count - 1 - (c.args.count - 1) / 2) c.args.at c.build-left.result c.in-Some.cell
    (run_at c.args.arena.now.cells c.args.nexts.now c.args.count ((c.args.count - 1) / 2) (c.args.count - 1 - (c.args.count - 1) / 2) c.args.at is c.requires) c.build-left.ensures.tree c.in-Some.is

pub build-right-requires : goal.build-right-requires
build-right-requires t c =
    let is : c.args.count ≡ (c.args.count - 1) / 2 + suc (c.args.count - 1 - (c.args.count - 1) / 2) = omega (arith, c.if-count-eq0.false) in (
      omega (arith, c.decreases),
      subst (λ (x : Option ℕ). IsRun c.build-left.new.arena.cells c.args.nexts.now (c.args.count - 1 - (c.args.count - 1) / 2) x) {x = next_of c.args.nexts.now c.in-Some.cell} {y = c.after.result} (sym c.after.ensures)
          (run_right c.args.arena.now.cells c.build-left.new.arena.cells c.args.nexts.now ((c.args.count - 1) / 2) (c.args.count - 1 - (c.args.count - 1) / 2) c.args.at c.build-left.result c.in-Some.cell
          (run_at c.args.arena.now.cells c.args.nexts.now c.args.count ((c.args.count - 1) / 2) (c.args.count - 1 - (c.args.count - 1) / 2) c.args.at is c.requires) c.build-left.ensures.tree c.in-Some.is),
    )

pub relink-requires : goal.relink-requires
relink-requires t c =
    let is : c.args.count ≡ (c.args.count - 1) / 2 + suc (c.args.count - 1 - (c.args.count - 1) / 2) = omega (arith, c.if-count-eq0.false) in
    let lt = cell_in c.args.arena.now.cells c.build-left.new.arena.cells c.args.nexts.now ((c.args.count - 1) / 2) (c.args.count - 1 - (c.args.count - 1) / 2) c.args.at c.build-left.result c.in-Some.cell
    (run_at c.args.arena.now.cells c.args.nexts.now c.args.count ((c.args.count - 1) / 2) (c.args.count - 1 - (c.args.count - 1) / 2) c.args.at is c.requires) c.build-left.ensures.tree c.in-Some.is in
    omega (arith, c.build-right.ensures.tree.same_length)

pub returns-clause-tree : goal.returns-clause-tree
returns-clause-tree t c =
    let is : c.args.count ≡ (c.args.count - 1) / 2 + suc (c.args.count - 1 - (c.args.count - 1) / 2) = omega (arith, c.if-count-eq0.false) in
    let right : IsBuilt c.build-left.new.arena.cells c.build-right.new.arena.cells c.args.nexts.now (c.args.count - 1 - (c.args.count - 1) / 2) (next_of c.args.nexts.now c.in-Some.cell) c.build-right.result =
    subst (λ (x : Option ℕ). IsBuilt c.build-left.new.arena.cells c.build-right.new.arena.cells c.args.nexts.now (c.args.count - 1 - (c.args.count - 1) / 2) x c.build-right.result) {x = c.after.result} {y = next_of c.args.nexts.now c.in-Some.cell} c.after.ensures c.build-right.ensures.tree in
    built_at c.args.arena.now.cells c.relink.new.self.cells c.args.nexts.now c.args.count ((c.args.count - 1) / 2) (c.args.count - 1 - (c.args.count - 1) / 2) c.args.at _ is
    (built_more c.args.arena.now.cells c.build-left.new.arena.cells c.build-right.new.arena.cells c.args.nexts.now ((c.args.count - 1) / 2) (c.args.count - 1 - (c.args.count - 1) / 2) c.args.at c.build-left.result c.build-right.result c.in-Some.cell
    (run_at c.args.arena.now.cells c.args.nexts.now c.args.count ((c.args.count - 1) / 2) (c.args.count - 1 - (c.args.count - 1) / 2) c.args.at is c.requires) c.build-left.ensures.tree c.in-Some.is right (omega arith) (omega arith) c.relink.new.self.cells
    (rw c.balance.ensures at (ap (λ (a : Content). a.cells) c.relink.ensures)))
