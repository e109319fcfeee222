use Rattle.std.proofs.Common.{rules, ℕ, List}
use Rattle.span_query.specs.declared.query.BoundQuery.TheViews.{out-BoundQuery}
use Rattle.span_sorting.specs.Columns.{AreColumns}
use Rattle.span_algebra.proofs.Reduced.{distinct_enough}
use Rattle.span_algebra.proofs.distinct.distinct_of_table.Goals as goal

pub returns-in-Some : goal.returns-in-Some
returns-in-Some c = λ rows all enough.
    let query = c.args.query.now in
    let columns : List ℕ = c.in-Some.columns.items in
    let are : AreColumns (out-BoundQuery query).first.outputs columns = search rules in
    let takes = c.is_distinct_of.ensures in
    distinct_enough query c.args.place columns (takes.others c.if-not-is_distinct_of.false) (takes.takes c.if-not-is_distinct_of.false) are rows all enough
