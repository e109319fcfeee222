use Rattle.std.proofs.Common.{◌≡◌, ◌<◌, ℕ, List, true, arith, sym, subst, length, length-drop, drop, get_or}
use Rattle.std.proofs.lemmas.Option.{MatchOption-at_some, MatchOption-at_none}
use Rattle.span_value.specs.declared.value.Kind.TheVariants as kind
use Rattle.span_query.specs.Rows.{Row}
use Rattle.span_rowreader.specs.Added.{IsCellPutInLast}
use Rattle.span_rowreader.specs.Placed.{wants_none}
use Rattle.span_rowreader.proofs.AddedCells.{no_cell_put, next_cell_put, all_cells_put, long_cells_put}
use Rattle.span_rowreader.proofs.added.put_last_cells.Goals as goal

pub returns-then-bytes-gt-LONGEST_ROW : goal.returns-then-bytes-gt-LONGEST_ROW
returns-then-bytes-gt-LONGEST_ROW c = long_cells_put c.args.wanted.now c.args.kinds.now c.args.places.now c.args.bytes.now c.args.rows.now c.if-bytes-gt-LONGEST_ROW.true

pub loop-i-init : goal.loop-i-init
loop-i-init c = record { most = omega arith; within = omega arith; put = no_cell_put c.args.wanted.now c.args.kinds.now c.args.places.now c.args.bytes.now c.args.rows.now }

pub loop-i-preserved-in-Some : goal.loop-i-preserved-in-Some
loop-i-preserved-in-Some c =
    let ms = c.args.wanted.now in
    let ks = c.args.kinds.now in
    let ps = c.args.places.now in
    let bs = c.args.bytes.now in
    let i = c.loop-i.i in
    let at = c.loop-i.at in
    let mid = c.loop-i.rows in
    let new = c.put_last_number.new.rows in
    let w = c.in-Some.width in
    let P : List ℕ → Type 0 = λ xs. IsCellPutInLast ms (get_or ks i kind.Int) (get_or ps i 0) xs mid new w in
    let one = subst P c.after-cell.ensures (MatchOption-at_some _ _ _ c.in-Some.is c.put_last_number.ensures) in
    let less : i < length ks = omega (arith, c.requires.kinds, c.loop-i-test.true) in
    let has : i < length ps = omega (arith, c.requires.places, c.loop-i-test.true) in
    record {
      most = omega (arith, c.loop-i-test.true);
      within = omega (arith, one.within, c.loop-i.invariant.within, length-drop at bs);
      put = next_cell_put ms ks ps bs c.args.rows.now mid new i at w kind.Int less has one c.loop-i.invariant.put;
    }

pub loop-i-preserved : goal.loop-i-preserved
loop-i-preserved c =
    let ms = c.args.wanted.now in
    let ks = c.args.kinds.now in
    let ps = c.args.places.now in
    let bs = c.args.bytes.now in
    let i = c.loop-i.i in
    let at = c.loop-i.at in
    let mid = c.loop-i.rows in
    let new = c.put_last_cell.new.rows in
    let w = c.in-Some-2.width in
    let kept = MatchOption-at_none _ _ c.in_default.is c.put_last_number.ensures in
    let P : List ℕ → Type 0 = λ xs. IsCellPutInLast ms (get_or ks i kind.Int) (get_or ps i 0) xs c.put_last_number.new.rows new w in
    let Q : List Row → Type 0 = λ rows. IsCellPutInLast ms (get_or ks i kind.Int) (get_or ps i 0) (drop at bs) rows new w in
    let one = subst Q kept.0 (subst P c.after-cell.ensures (MatchOption-at_some _ _ _ c.in-Some-2.is c.in_ok-put_last_cell.ensures)) in
    let less : i < length ks = omega (arith, c.requires.kinds, c.loop-i-test.true) in
    let has : i < length ps = omega (arith, c.requires.places, c.loop-i-test.true) in
    record {
      most = omega (arith, c.loop-i-test.true);
      within = omega (arith, one.within, c.loop-i.invariant.within, length-drop at bs);
      put = next_cell_put ms ks ps bs c.args.rows.now mid new i at w kind.Int less has one c.loop-i.invariant.put;
    }

pub returns : goal.returns
returns c =
    let stop = c.loop-i-test.false in
    let all : c.loop-i.i ≡ c.args.count = omega (arith, c.loop-i.invariant.most) in
    let none = subst (λ (j : ℕ). wants_none c.args.wanted.now (drop j c.args.places.now) ≡ true) (sym all) c.requires.rest in
    all_cells_put c.args.wanted.now c.args.kinds.now c.args.places.now c.args.bytes.now c.args.rows.now c.loop-i.rows c.loop-i.i c.loop-i.at none c.loop-i.invariant.put
