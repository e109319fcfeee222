use Rattle.std.proofs.Common.{◌≡◌, ◌<◌, ℕ, arith, length, subst}
use Rattle.span_celltests.specs.CellTests.{IsPlaceOf}
use Rattle.span_celltests.proofs.CellTests.{place_is, rest_more}
use Rattle.span_celltests.proofs.column_cell.cell_place.Goals as goal

pub loop-i-preserved : goal.loop-i-preserved
loop-i-preserved c =
    let i = c.loop-i.i in
    let less : i < length c.args.kinds.now = omega (arith, c.requires.cell, c.loop-i-test.true) in
    record {
      most = omega (arith, c.loop-i-test.true);
      place = c.cell_end-at.ensures.at;
      left = rest_more c.args.kinds.now c.args.bytes.now i c.loop-i.at c.cell_end-at.result less c.cell_end-at.ensures.end c.loop-i.invariant.left;
    }

pub returns-clause-place : goal.returns-clause-place
returns-clause-place c =
    let ks = c.args.kinds.now in
    let bs = c.args.bytes.now in
    let all : c.loop-i.i ≡ c.args.cell = omega (arith, c.loop-i-test.false, c.loop-i.auto.i-end) in
    subst (λ (k : ℕ). IsPlaceOf ks k bs c.loop-i.at) all (place_is ks bs c.loop-i.i c.loop-i.at c.loop-i.invariant.left)
