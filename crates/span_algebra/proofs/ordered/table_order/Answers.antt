use Rattle.std.proofs.Common.{rules, ◌≡◌, ◌∙◌, ◌<◌, ℕ, List, None, Some, ap, get_or, length, subst, true}
use Rattle.span_query.specs.declared.query.BoundQuery.TheViews.{out-BoundQuery}
use Rattle.span_query.specs.declared.query.SortKey.{SortKey}
use Rattle.span_query.specs.Sorting.{sorted}
use Rattle.span_algebra.specs.declared.ordered.ColumnOrder.{ColumnOrder}
use Rattle.span_algebra.specs.ColumnOrders.{IsColumnOrder, IsTable, have_width}
use Rattle.span_algebra.proofs.TableOrders.{table_in_order}
use Rattle.span_algebra.proofs.ordered.table_order.Goals as goal

pub returns : goal.returns
returns c = λ tables rows given wide.
    let query = c.args.query.now in
    let columns = c.in-Some.columns in
    let order : ColumnOrder = record { columns = columns; keys = c.in-Some.keys } in
    let is : IsColumnOrder (out-BoundQuery query) order = search rules in
    let table : IsTable (out-BoundQuery query).first 1 = c.is_table_at.ensures c.if-not-is_table_at.false in
    let none : (out-BoundQuery query).limit ≡ None = search rules in
    let turn : (i : ℕ) → i < length columns.items → get_or columns.items i 0 ≡ i =
    let same : c.as_slice.result.now ≡ columns.items = search rules in
    subst (λ (l : List ℕ). (i : ℕ) → i < length l → get_or l i 0 ≡ i) same (c.are_in_order.ensures c.if-not-are_in_order.false) in
    let keys : c.in-Some.keys.items ≡ c.in-Some.field-0.keys.items = search rules in
    let width : c.len.result ≡ length columns.items = search rules in
    table_in_order query order is table none turn tables rows given (subst (λ (n : ℕ). have_width n rows ≡ true) width wide)
    ∙ ap (λ (ks : List SortKey). Some (sorted ks rows)) keys
