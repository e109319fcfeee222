use Rattle.span_query.specs.Sorting.{comes_before}
use Rattle.span_sorting.proofs.Sorting.{sorted_again, sorted_both}
use Rattle.span_sorting.proofs.FirstOfParts.{first_both}
use Rattle.span_sorting.proofs.RowOrder.{rows_ranked}
use Rattle.span_sorting.proofs.sort.sorting_in_parts.Goals as goal

pub returns : goal.returns
returns c = record {
  both = λ keys first others second more. sorted_both (comes_before keys) (rows_ranked keys) first others second more;
  first = λ count keys first others second more. first_both (comes_before keys) (rows_ranked keys) count first others second more;
  again = λ keys rows. sorted_again (comes_before keys) (rows_ranked keys) rows;
}
