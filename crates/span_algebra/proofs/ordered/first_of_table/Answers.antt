use Rattle.std.proofs.Common.{rules}
use Rattle.span_query.specs.declared.query.BoundQuery.TheViews.{out-BoundQuery}
use Rattle.span_algebra.specs.ColumnOrders.{IsColumnOrder}
use Rattle.span_algebra.proofs.Reduced.{first_enough}
use Rattle.span_algebra.proofs.ordered.first_of_table.Goals as goal

pub returns : goal.returns
returns c = λ rows all enough.
    let query = c.args.query.now in
    let is : IsColumnOrder (out-BoundQuery query) c.in-Some.order = search rules in
    first_enough query c.args.place c.few_rows.result c.in-Some.order is (c.is_table_at.ensures c.if-not-is_table_at.false) c.few_rows.ensures rows all (c.first_or_all.ensures rows all enough)
