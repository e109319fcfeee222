use Rattle.std.proofs.Common.{◌≡◌, ◌∙◌, ◌-◌, sym, subst, length, rules, true, List, Some, ℕ}
use denote.Ref.{Bor}
use Rattle.std.specs.Prelude.{slice_get}
use Rattle.span_query.specs.Rows.{Row}
use Rattle.span_query.specs.Sorting.{comes_before}
use Rattle.span_rows.specs.LentRows.{lent_rows}
use Rattle.span_sorting.proofs.FirstRows.{put_beyond}
use Rattle.span_rows.proofs.LentRows.{lent_count, lent_found}
use Rattle.span_sorting.proofs.RowOrder.{rows_ranked}
use Rattle.span_sorting.proofs.first_rows.is_beyond.Goals as goal

pub returns-then-rows-count : goal.returns-then-rows-count
returns-then-rows-count c = λ before.
    let keys = c.args.keys.now in
    let rows : List (Bor Row) = c.args.rows.now in
    let last : Bor Row = c.in-Some.last.now in
    let long : length (lent_rows rows) ≡ length rows = lent_count rows in
    let count : c.args.count ≡ length rows = search rules in
    let found : slice_get rows (length rows - 1) ≡ Some last = sym c.in-Some.ensures.value in
    let is : slice_get (lent_rows rows) (length (lent_rows rows) - 1) ≡ Some last.now =
    subst (λ (n : ℕ). slice_get (lent_rows rows) (n - 1) ≡ Some last.now) (sym long) (lent_found rows (length rows - 1) last found) in
    let after : comes_before keys last.now c.args.row.now ≡ true = sym c.is_before.ensures ∙ before in
    put_beyond (comes_before keys) (rows_ranked keys) c.args.count (lent_rows rows) last.now c.args.row.now (count ∙ sym long) is c.requires.order after
