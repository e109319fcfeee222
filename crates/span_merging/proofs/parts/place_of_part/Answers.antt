use Rattle.std.proofs.Common.{arith, ◌≡◌, ◌∙◌, ◌+◌, ◌-◌, ◌/◌, ◌<◌, ℕ, suc, true, false, IfSome, List, sym, subst, get_or, length, take}
use Rattle.std.specs.Prelude.{slice_get}
use Rattle.std.specs.List.{AllByRecursion}
use Rattle.span_merging.specs.declared.parts.PartRest.{PartRest}
use Rattle.span_merging.specs.PartRests.{front_at, part_before, row_before, rows_of_rests}
use Rattle.span_merging.proofs.ItemOrders.{front_before, if_there, put_at}
use Rattle.span_merging.proofs.PartRests.{fronts_ranked}
use Rattle.span_merging.proofs.parts.place_of_part.Goals as goal

pub loop-low-preserved-then-is_part_before : goal.loop-low-preserved-then-is_part_before
loop-low-preserved-then-is_part_before c =
    let keys = c.args.keys.now in
    let rests : List PartRest = c.args.rests.now in
    let order : List ℕ = c.args.order.now in
    let low : ℕ = c.loop-low.low in
    let high : ℕ = c.loop-low.high in
    let middle : ℕ = low + (high - low) / 2 in
    let inside : middle < high = omega (arith, c.loop-low-test.true) in
    let within : middle < length order = omega (arith, inside, c.loop-low.invariant.within) in
    let is : part_before keys rests (get_or order middle 0) c.args.part ≡ true = sym c.is_part_before.ensures ∙ c.if-is_part_before.true in
    let more : suc middle ≡ middle + 1 = omega arith in
    record {
      ends = omega (arith, inside);
      within = c.loop-low.invariant.within;
      passed = subst (λ (n : ℕ). AllByRecursion (λ j. part_before keys rests j c.args.part ≡ true) (take n order)) more
          (front_before (row_before keys) (front_at (rows_of_rests rests)) (fronts_ranked keys) order middle c.args.part 0 within c.requires.sorted is);
      next = c.loop-low.invariant.next;
    }

pub loop-low-preserved : goal.loop-low-preserved
loop-low-preserved c =
    let keys = c.args.keys.now in
    let rests : List PartRest = c.args.rests.now in
    let order : List ℕ = c.args.order.now in
    let low : ℕ = c.loop-low.low in
    let high : ℕ = c.loop-low.high in
    let middle : ℕ = low + (high - low) / 2 in
    let inside : middle < high = omega (arith, c.loop-low-test.true) in
    let within : middle < length order = omega (arith, inside, c.loop-low.invariant.within) in
    let is : part_before keys rests (get_or order middle 0) c.args.part ≡ false = sym c.is_part_before.ensures ∙ c.if-is_part_before.false in
    record {
      ends = omega arith;
      within = omega (arith, within);
      passed = c.loop-low.invariant.passed;
      next = if_there (λ j. part_before keys rests j c.args.part ≡ false) order middle 0 within is;
    }

pub returns-clause-place : goal.returns-clause-place
returns-clause-place c =
    let keys = c.args.keys.now in
    let rests : List PartRest = c.args.rests.now in
    let order : List ℕ = c.args.order.now in
    let met : c.loop-low.high ≡ c.loop-low.low = omega (arith, c.loop-low-test.false, c.loop-low.invariant.ends) in
    put_at (part_before keys rests) c.args.part order c.loop-low.low c.loop-low.invariant.passed
    (subst (λ (n : ℕ). IfSome (slice_get order n) (λ j. part_before keys rests j c.args.part ≡ false)) met c.loop-low.invariant.next)
