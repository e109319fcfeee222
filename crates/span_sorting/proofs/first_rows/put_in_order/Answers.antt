use Rattle.std.proofs.Common.{rules, ◌≡◌, ◌∙◌, ◌++◌, ◌∷◌, ap, sym, take, drop, List}
use denote.Ref.{Bor}
use Rattle.span_query.specs.Rows.{Row}
use Rattle.span_query.specs.Sorting.{comes_before, insert_sorted}
use Rattle.span_rows.specs.LentRows.{lent_rows}
use Rattle.span_rows.proofs.LentRows.{lent_put, lent_part}
use Rattle.span_sorting.proofs.first_rows.put_in_order.Goals as goal

pub returns : goal.returns
returns c =
    let rows : List (Bor Row) = c.args.rows.now.items in
    let at = c.place_in_order-at.result in
    let row : Bor Row = c.args.row in
    let put : List (Bor Row) = take at rows ++ row ∷ drop at rows in
    let is : c.truncate.new.self.items ≡ take c.args.count put = search rules in
    let place : insert_sorted (comes_before c.args.keys.now) row.now (lent_rows rows) ≡ take at (lent_rows rows) ++ row.now ∷ drop at (lent_rows rows) = search rules in
    ap lent_rows is ∙ lent_part put 0 c.args.count ∙ ap (take c.args.count) (lent_put rows at row ∙ sym place)
