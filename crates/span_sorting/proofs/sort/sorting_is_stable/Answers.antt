use Rattle.span_query.specs.Sorting.{comes_before}
use Rattle.span_sorting.proofs.Sorting.{is_in_order, keeps_ties, is_the_order}
use Rattle.span_sorting.proofs.RowOrder.{rows_ranked}
use Rattle.span_sorting.proofs.sort.sorting_is_stable.Goals as goal

pub returns : goal.returns
returns c = record {
  ranked = rows_ranked;
  sorted = λ keys rows. is_in_order (comes_before keys) (rows_ranked keys) rows;
  stable = λ keys rows. keeps_ties (comes_before keys) (rows_ranked keys) rows;
  only = λ keys rows others. is_the_order (comes_before keys) (rows_ranked keys) rows others;
}
