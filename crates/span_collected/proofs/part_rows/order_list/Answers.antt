use Rattle.std.proofs.Common.{◌∙◌, ap}
use Rattle.span_query.specs.Sorting.{comes_before, sorted}
use Rattle.span_sorting.proofs.RowOrder.{rows_ranked}
use Rattle.span_sorting.proofs.Sorting.{sorted_again}
use Rattle.span_collected.proofs.part_rows.order_list.Goals as goal

pub returns : goal.returns
returns c = ap (sorted c.args.keys.now) c.in_ok-ordered.ensures ∙ sorted_again (comes_before c.args.keys.now) (rows_ranked c.args.keys.now) c.args.rows
