use Rattle.std.proofs.Common.{◌≡◌, sym, length, rules}
use Rattle.span_rows.specs.LentRows.{lent_rows}
use Rattle.span_sorting.proofs.RowOrder.{sorted_by_none}
use Rattle.span_sorting.proofs.sort.sort_rows.Goals as goal

pub returns-then-is_empty : goal.returns-then-is_empty
returns-then-is_empty c =
    let none : length c.args.keys.now ≡ 0 = search rules in
    sym (sorted_by_none c.args.keys.now (lent_rows c.args.rows.items) none)
