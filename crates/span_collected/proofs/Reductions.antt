-- Rows that are enough in the place of others stay so.
use Rattle.std.proofs.Common.{◌∙◌, List, ◌++◌, Some, None, Result, Ok, Err, refl, ap}
use Rattle.span_expr.specs.declared.cell.Failure.{Failure}
use Rattle.span_expr.specs.declared.cell.Failure.TheVariants.{Fault, OutOfMemory}
use Rattle.span_query.specs.Rows.{Row, Rows}
use Rattle.span_query.specs.Sorting.{comes_before}
use Rattle.span_sorting.proofs.FirstOfParts.{first_of_parts}
use Rattle.span_sorting.proofs.RowOrder.{rows_ranked}
use Rattle.span_collected.specs.declared.reduction.Reduction.{Reduction}
use Rattle.span_collected.specs.declared.reduction.Reduction.TheVariants.{Everything, First, InOrder, Distinct}
use Rattle.span_conditions.specs.Answers.{Gives}
use Rattle.span_collected.specs.Reductions.{AreEnough, GivesEnough}
use Rattle.span_groups.proofs.MergedGroups.{distinct_at-both}

pub enough_same : (r : Reduction) (rows : List Row) → AreEnough r rows rows
enough_same Everything rows = refl
enough_same (First keys count) rows = refl
enough_same (InOrder keys) rows = refl
enough_same (Distinct columns) rows = refl

-- with further rows after both
pub enough_more : (r : Reduction) (rows all more : List Row) → AreEnough r rows all → AreEnough r (rows ++ more) (all ++ more)
enough_more Everything rows all more is = ap (λ (l : List Row). l ++ more) is
enough_more (First keys count) rows all more is = first_of_parts (comes_before keys.items) (rows_ranked keys.items) (Some count) rows all more more is refl
enough_more (InOrder keys) rows all more is = first_of_parts (comes_before keys.items) (rows_ranked keys.items) None rows all more more is refl
enough_more (Distinct columns) rows all more is = distinct_at-both columns.items rows all more more is refl

-- what is enough in the place of these is so in the place of those
pub enough_again : (r : Reduction) (new rows all : List Row) → AreEnough r new rows → AreEnough r rows all → AreEnough r new all
enough_again Everything new rows all first second = first ∙ second
enough_again (First keys count) new rows all first second = first ∙ second
enough_again (InOrder keys) new rows all first second = first ∙ second
enough_again (Distinct columns) new rows all first second = first ∙ second

pub gives_fault : (r : Reduction) (why : Failure) (meant : Rows) → Gives {A = List Row} (Err why) meant → GivesEnough r (Err why) meant
gives_fault r Fault meant gives = gives
gives_fault r OutOfMemory meant gives = tt

-- all of them are enough
pub gives_all : (r : Reduction) (found : Result (List Row) Failure) (meant : Rows) → Gives found meant → GivesEnough r found meant
gives_all r (Ok rows) meant gives = (rows, gives, enough_same r rows)
gives_all r (Err why) meant gives = gives_fault r why meant gives
