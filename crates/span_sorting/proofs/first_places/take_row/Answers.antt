use Rattle.std.proofs.Common.{rules, arith, ◌≡◌, ◌∙◌, ◌+◌, ◌∷◌, [], false, ap, sym, subst, List, ℕ, take, drop, length, min, get_or}
use Rattle.std.specs.List.{AllByRecursion}
use Rattle.std.proofs.lemmas.List.{get_or_default, length-take}
use Rattle.span_value.proofs.Lists.{all_take, drop_read}
use Rattle.span_query.specs.Rows.{Row}
use Rattle.span_query.specs.Sorting.{comes_before, insert_sorted, sorted}
use Rattle.span_sorting.specs.declared.placed.PlacedRow.{PlacedRow}
use Rattle.span_sorting.specs.Codes.{uncoded}
use Rattle.span_sorting.specs.Orders.{IsSorted}
use Rattle.span_sorting.specs.PlacesInOrder.{EndsBelow, IsPlaced, placed_before, without_places}
use Rattle.span_sorting.proofs.FirstRows.{first_of_inserted, first_sorted}
use Rattle.span_sorting.proofs.Placing.{beyond_first, placed_ranked, unplaced_first, unplaced_inserted}
use Rattle.span_sorting.proofs.Sorting.{all_placed, placed_in_order}
use Rattle.span_sorting.proofs.first_places.take_row.Goals as goal

pub returns-then-is_beyond : goal.returns-then-is_beyond
returns-then-is_beyond c =
    let rows : List Row = c.args.rows.now in
    let row : Row = c.row.result.now in
    let rest : drop c.args.place rows ≡ row ∷ drop (c.args.place + 1) rows = drop_read rows c.args.place row c.requires.within c.row.ensures in
    let is : c.as_slice.result.now ≡ c.args.first.now.items = search rules in
    beyond_first c.args.keys.now c.args.count rows c.args.place c.args.first.now.items row c.first_code-code.result rest
    c.first_code-code.ensures.code c.first_code-code.ensures.range (subst (EndsBelow c.args.count c.first_code-code.result) is (c.is_beyond.ensures c.if-is_beyond.true)) c.requires.first

pub returns : goal.returns
returns c =
    let keys = c.args.keys.now in
    let rows : List Row = c.args.rows.now in
    let count : ℕ = c.args.count in
    let at = c.args.place in
    let before = placed_before keys in
    let x : PlacedRow = c.place_row-row.result in
    let row : Row = x.coded.row.now in
    let xs : List PlacedRow = c.args.first.now.items in
    let put : List PlacedRow = insert_sorted before x xs in
    let placed : IsPlaced rows keys false x = c.place_row-row.ensures.row in
    let here : row ≡ get_or rows at row =
    placed.row ∙ ap (λ (n : ℕ). get_or rows n []) c.place_row-row.ensures.place ∙ sym (get_or_default rows at row [] c.requires.within) in
    let rest : drop at rows ≡ row ∷ drop (at + 1) rows = drop_read rows at row c.requires.within here in
    let is : c.put_in_order.new.rows.items ≡ take count put = search rules in
    let long : length c.put_in_order.new.rows.items ≡ min count (length put) = ap (λ (l : List PlacedRow). length l) is ∙ length-take count put in
    record {
      few = omega (arith, long);
      order = subst (IsSorted before) (sym is) (first_sorted before count put (placed_in_order before (placed_ranked keys) x xs c.requires.first.order));
      placed = subst (AllByRecursion (IsPlaced rows keys false)) (sym is)
          (all_take (IsPlaced rows keys false) count put (all_placed before (IsPlaced rows keys false) x xs placed c.requires.first.placed));
      first = ap (λ (l : List PlacedRow). uncoded (without_places l)) is
          ∙ unplaced_first count put
          ∙ ap (take count) (unplaced_inserted rows keys x xs placed c.requires.first.placed)
          ∙ ap (λ (l : List Row). take count (insert_sorted (comes_before keys) row l)) c.requires.first.first
          ∙ first_of_inserted (comes_before keys) count row (sorted keys (drop (at + 1) rows))
          ∙ ap (λ (l : List Row). take count (sorted keys l)) (sym rest);
    }
