use Rattle.std.proofs.Common.{rules, ◌≡◌, ◌∙◌, ℕ, List, Some, ap, sym, subst, take}
use Rattle.span_query.specs.declared.query.SortKey.{SortKey}
use Rattle.span_query.specs.Rows.{Row}
use Rattle.span_query.specs.Sorting.{comes_before, sorted}
use Rattle.span_sorting.proofs.FirstOfParts.{first_again}
use Rattle.span_sorting.proofs.RowOrder.{rows_ranked}
use Rattle.span_collected.specs.declared.reduction.Reduction.{Reduction}
use Rattle.span_collected.specs.Reductions.{AreEnough}
use Rattle.span_collected.proofs.reduction.Reduction.keep.Goals as goal

pub returns-in_ok-keep_first-in-First : goal.returns-in_ok-keep_first-in-First
returns-in_ok-keep_first-in-First c =
    let keys : List SortKey = c.in-First.keys.items in
    let count : ℕ = c.in-First.count in
    let old : List Row = c.args.rows.now in
    let new : List Row = c.keep_first.new.rows in
    let is : new ≡ take count (sorted keys old) = search rules in
    subst (λ (r : Reduction). AreEnough r new old) (sym c.in-First.is)
    (ap (λ (l : List Row). take count (sorted keys l)) is ∙ first_again (comes_before keys) (rows_ranked keys) (Some count) old)
