use Rattle.std.proofs.Common.{arith, ◌≡◌, ◌∙◌, ◌+◌, ◌-◌, ◌/◌, ◌<◌, [], ℕ, suc, true, false, IfSome, List, ap, sym, subst, get_or, length, take}
use Rattle.std.specs.Prelude.{slice_get}
use Rattle.std.specs.List.{AllByRecursion}
use Rattle.span_query.specs.Rows.{Row}
use Rattle.span_query.specs.Sorting.{comes_before}
use Rattle.span_merging.specs.declared.parts.PartRest.{PartRest}
use Rattle.span_merging.specs.PartRanges.{is_before_boundary}
use Rattle.span_merging.specs.PartRests.{rest_rows}
use Rattle.span_merging.proofs.Cutting.{all_below, front_is_below, rest_is_not_below}
use Rattle.span_merging.proofs.ItemOrders.{if_there}
use Rattle.span_merging.proofs.PartRanges.{row_left, rows_left}
use Rattle.span_sorting.proofs.RowOrder.{rows_ranked}
use Rattle.span_merging.proofs.part_ranges.count_before.Goals as goal

pub loop-low-preserved-then-is_place_before : goal.loop-low-preserved-then-is_place_before
loop-low-preserved-then-is_place_before c =
    let keys = c.args.keys.now in
    let rest : PartRest = c.args.rest.now in
    let rows : List Row = rest_rows rest in
    let boundary : Row = get_or c.args.rows.now c.args.boundary.now.place [] in
    let low : ℕ = c.loop-low.low in
    let high : ℕ = c.loop-low.high in
    let middle : ℕ = low + (high - low) / 2 in
    let inside : middle < high = omega (arith, c.loop-low-test.true) in
    let within : middle < length rest.places.now = omega (arith, inside, c.loop-low.invariant.within) in
    let there : middle < length rows = subst (λ (n : ℕ). middle < n) (sym (rows_left rest)) within in
    let is : is_before_boundary keys boundary (get_or rows middle []) ≡ true =
    ap (is_before_boundary keys boundary) (row_left rest middle _ within) ∙ sym c.is_place_before.ensures ∙ c.if-is_place_before.true in
    let more : suc middle ≡ middle + 1 = omega arith in
    record {
      ends = omega (arith, inside);
      within = c.loop-low.invariant.within;
      passed = subst (λ (n : ℕ). AllByRecursion (λ (row : Row). is_before_boundary keys boundary row ≡ true) (take n rows)) more
          (all_below (comes_before keys) (rows_ranked keys) boundary rows middle [] there c.requires.rest.order is);
      next = c.loop-low.invariant.next;
    }

pub loop-low-preserved : goal.loop-low-preserved
loop-low-preserved c =
    let keys = c.args.keys.now in
    let rest : PartRest = c.args.rest.now in
    let rows : List Row = rest_rows rest in
    let boundary : Row = get_or c.args.rows.now c.args.boundary.now.place [] in
    let low : ℕ = c.loop-low.low in
    let high : ℕ = c.loop-low.high in
    let middle : ℕ = low + (high - low) / 2 in
    let inside : middle < high = omega (arith, c.loop-low-test.true) in
    let within : middle < length rest.places.now = omega (arith, inside, c.loop-low.invariant.within) in
    let there : middle < length rows = subst (λ (n : ℕ). middle < n) (sym (rows_left rest)) within in
    let is : is_before_boundary keys boundary (get_or rows middle []) ≡ false =
    ap (is_before_boundary keys boundary) (row_left rest middle _ within) ∙ sym c.is_place_before.ensures ∙ c.if-is_place_before.false in
    record {
      ends = omega arith;
      within = omega (arith, within);
      passed = c.loop-low.invariant.passed;
      next = if_there (λ (row : Row). is_before_boundary keys boundary row ≡ false) rows middle [] there is;
    }

pub returns-clause-before : goal.returns-clause-before
returns-clause-before c =
    let keys = c.args.keys.now in
    let rows : List Row = rest_rows c.args.rest.now in
    let boundary : Row = get_or c.args.rows.now c.args.boundary.now.place [] in
    let met : c.loop-low.high ≡ c.loop-low.low = omega (arith, c.loop-low-test.false, c.loop-low.invariant.ends) in
    front_is_below (comes_before keys) (rows_ranked keys) boundary rows c.loop-low.low c.requires.rest.order c.loop-low.invariant.passed
    (subst (λ (n : ℕ). IfSome (slice_get rows n) (λ (row : Row). is_before_boundary keys boundary row ≡ false)) met c.loop-low.invariant.next)

pub returns-clause-from : goal.returns-clause-from
returns-clause-from c =
    let keys = c.args.keys.now in
    let rows : List Row = rest_rows c.args.rest.now in
    let boundary : Row = get_or c.args.rows.now c.args.boundary.now.place [] in
    let met : c.loop-low.high ≡ c.loop-low.low = omega (arith, c.loop-low-test.false, c.loop-low.invariant.ends) in
    rest_is_not_below (comes_before keys) (rows_ranked keys) boundary rows c.loop-low.low c.requires.rest.order c.loop-low.invariant.passed
    (subst (λ (n : ℕ). IfSome (slice_get rows n) (λ (row : Row). is_before_boundary keys boundary row ≡ false)) met c.loop-low.invariant.next)
