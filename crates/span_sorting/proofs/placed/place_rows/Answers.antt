use Rattle.std.proofs.Common.{rules, ◌≡◌, ◌∙◌, ◌+◌, ◌<◌, ◌++◌, ◌∷◌, ◌&&◌, [], ap, sym, subst, append_assoc, drop, length, get_or, List}
use Rattle.std.specs.List.{AllByRecursion}
use Rattle.std.proofs.lemmas.List.{get_or_default}
use Rattle.span_value.proofs.Lists.{drop_read}
use Rattle.span_query.specs.Rows.{Row}
use Rattle.span_sorting.specs.declared.coded.CodedRow.{CodedRow}
use Rattle.span_sorting.specs.declared.placed.PlacedRow.{PlacedRow}
use Rattle.span_sorting.specs.Codes.{are_exact, uncoded}
use Rattle.span_sorting.specs.PlacesInOrder.{IsPlaced, without_places}
use Rattle.span_sorting.proofs.Placing.{placed_more, unplaced_more}
use Rattle.span_sorting.proofs.placed.place_rows.Goals as goal

pub loop-place-preserved : goal.loop-place-preserved
loop-place-preserved c =
    let keys = c.args.keys.now in
    let rows : List Row = c.args.rows.now in
    let i = c.loop-place.place in
    let row : Row = c.row-row.result.now in
    let coded : CodedRow = c.code_row-coded.result in
    let xs : List PlacedRow = c.loop-place.all.items in
    let x : PlacedRow = record { coded = coded; place = i } in
    let exact = c.exact_with-exact.result in
    let rest : List Row = drop (i + 1) rows in
    let within : i < length rows = search rules in
    let items : c.push.new.self.items ≡ xs ++ x ∷ [] = search rules in
    let here : row ≡ get_or rows i row = c.row-row.ensures in
    let is : coded.row.now ≡ row = c.code_row-coded.ensures.row in
    let both : exact ≡ (c.loop-place.exact && are_exact keys coded.row.now) =
    c.exact_with-exact.ensures ∙ ap (λ (r : Row). c.loop-place.exact && are_exact keys r) (sym is) in
    record {
      rows = c.loop-place.invariant.rows
          ∙ ap (λ (l : List Row). uncoded (without_places xs) ++ l) (drop_read rows i row within here)
          ∙ ap (λ (r : Row). uncoded (without_places xs) ++ r ∷ rest) (sym is)
          ∙ sym (append_assoc (uncoded (without_places xs)) (coded.row.now ∷ []) rest)
          ∙ ap (λ (l : List Row). l ++ rest) (sym (unplaced_more xs x))
          ∙ ap (λ (l : List PlacedRow). uncoded (without_places l) ++ rest) (sym items);
      placed = subst (AllByRecursion (IsPlaced rows keys exact)) (sym items)
          (placed_more rows keys c.loop-place.exact exact xs x c.loop-place.invariant.placed c.code_row-coded.ensures.coded (is ∙ here ∙ get_or_default rows i row [] within) within both);
    }
