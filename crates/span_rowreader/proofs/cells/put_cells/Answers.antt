use Rattle.std.proofs.Common.{◌≡◌, ◌<◌, ◌^◌, ℕ, List, true, arith, sym, ap, subst, length, length-drop, drop, get_or}
use Rattle.std.proofs.lemmas.Option.{MatchOption-at_some, MatchOption-at_none}
use Rattle.span_value.specs.declared.value.Kind.TheVariants as kind
use Rattle.span_rowreader.specs.Placed.{IsCellPut, wants_none}
use Rattle.span_rowreader.proofs.Placing.{all_cells_left, any_cell_put, cell_at, cells_stop, too_long}
use Rattle.span_rowreader.proofs.cells.put_cells.Goals as goal

pub returns-then-bytes-gt-LONGEST_ROW : goal.returns-then-bytes-gt-LONGEST_ROW
returns-then-bytes-gt-LONGEST_ROW c = too_long c.args.wanted.now c.args.kinds.now c.args.places.now c.args.bytes.now c.args.row.now.items c.if-bytes-gt-LONGEST_ROW.true

pub loop-i-init : goal.loop-i-init
loop-i-init c = record { most = omega arith; within = omega arith; left = all_cells_left c.args.wanted.now c.args.kinds.now c.args.places.now c.args.bytes.now c.args.row.now.items }

pub returns : goal.returns
returns c =
    let stop = c.loop-i-test.false in
    let all : c.loop-i.i ≡ c.args.count = omega (arith, c.loop-i.invariant.most) in
    let none = subst (λ (j : ℕ). wants_none c.args.wanted.now (drop j c.args.places.now) ≡ true) (sym all) c.requires.rest in
    cells_stop c.args.wanted.now c.args.kinds.now c.args.places.now c.args.bytes.now c.args.row.now.items c.loop-i.row.items c.loop-i.i c.loop-i.at none c.loop-i.invariant.left

pub loop-i-preserved-in-Some : goal.loop-i-preserved-in-Some
loop-i-preserved-in-Some c =
    let ms = c.args.wanted.now in
    let ks = c.args.kinds.now in
    let ps = c.args.places.now in
    let bs = c.args.bytes.now in
    let i = c.loop-i.i in
    let at = c.loop-i.at in
    let row = c.loop-i.row.items in
    let new = c.put_number_cell.new.row.items in
    let w = c.in-Some.width in
    let P : List ℕ → Type 0 = λ xs. IsCellPut ms (get_or ks i kind.Int) (get_or ps i 0) xs row new w in
    let one = subst P c.after-cell.ensures (MatchOption-at_some _ _ _ c.in-Some.is c.put_number_cell.ensures) in
    let less : i < length ks = omega (arith, c.requires.kinds, c.loop-i-test.true) in
    let has : i < length ps = omega (arith, c.requires.places, c.loop-i-test.true) in
    record {
      most = omega (arith, c.loop-i-test.true);
      within = omega (arith, one.within, c.loop-i.invariant.within, length-drop at bs);
      left = cell_at ms ks ps bs c.args.row.now.items row new i at w kind.Int less has one c.loop-i.invariant.left;
    }

pub loop-i-preserved : goal.loop-i-preserved
loop-i-preserved c =
    let ms = c.args.wanted.now in
    let ks = c.args.kinds.now in
    let ps = c.args.places.now in
    let bs = c.args.bytes.now in
    let i = c.loop-i.i in
    let at = c.loop-i.at in
    let row = c.loop-i.row.items in
    let new = c.put_any_cell.new.row.items in
    let w = c.in-Some-2.width in
    let kept = MatchOption-at_none _ _ c.in_default.is c.put_number_cell.ensures in
    let read = MatchOption-at_some _ _ _ c.in-Some-2.is c.in_ok-put_any_cell.ensures in
    let small : length c.after-cell.result.now < 2 ^ 32 = omega (arith, ap (length {A = ℕ}) c.after-cell.ensures, length-drop at bs, c.if-bytes-gt-LONGEST_ROW.false) in
    let one = any_cell_put ms (get_or ks i kind.Int) (get_or ps i 0) c.after-cell.result.now row c.put_number_cell.new.row.items new w small kept.1 kept.0 read in
    let P : List ℕ → Type 0 = λ xs. IsCellPut ms (get_or ks i kind.Int) (get_or ps i 0) xs row new w in
    let here = subst P c.after-cell.ensures one in
    let less : i < length ks = omega (arith, c.requires.kinds, c.loop-i-test.true) in
    let has : i < length ps = omega (arith, c.requires.places, c.loop-i-test.true) in
    record {
      most = omega (arith, c.loop-i-test.true);
      within = omega (arith, here.within, c.loop-i.invariant.within, length-drop at bs);
      left = cell_at ms ks ps bs c.args.row.now.items row new i at w kind.Int less has here c.loop-i.invariant.left;
    }
