use Rattle.std.proofs.Common.{rules, arith, ◌≡◌, ◌∙◌, ◌+◌, ◌-◌, ◌<◌, ◌≤◌, ◌∷◌, ap, sym, subst, List, ℕ, take, drop, length}
use denote.Ref.{Bor}
use Rattle.span_value.proofs.Lists.{drop_read}
use Rattle.span_query.specs.Rows.{Row}
use Rattle.span_query.specs.Sorting.{comes_before, insert_sorted, sorted}
use Rattle.span_rows.specs.LentRows.{lent_rows}
use Rattle.span_sorting.specs.Orders.{IsSorted}
use Rattle.span_sorting.proofs.FirstRows.{first_in_order, first_of_inserted}
use Rattle.span_sorting.proofs.RowOrder.{rows_ranked}
use Rattle.span_sorting.proofs.first_rows.first_rows.Goals as goal

pub put_in_order-requires-clause-order : goal.put_in_order-requires-clause-order
put_in_order-requires-clause-order c =
    let keys = c.args.keys.now in
    subst (IsSorted (comes_before keys)) (sym c.loop-at.invariant.first)
    (first_in_order (comes_before keys) (rows_ranked keys) c.args.count (lent_rows (drop c.loop-at.at c.args.rows.now)))

pub loop-at-preserved : goal.loop-at-preserved
loop-at-preserved c =
    let keys = c.args.keys.now in
    let rows : List (Bor Row) = c.args.rows.now in
    let row : Bor Row = c.index-rows-at.result in
    let at = c.loop-at.at in
    let some : 0 < at = search rules in
    let inside : at ≤ length rows = c.loop-at.invariant.within in
    let next : at - 1 + 1 ≡ at = omega (arith, some) in
    let rest : drop (at - 1) rows ≡ row ∷ drop at rows = drop_read rows (at - 1) row (omega (arith, some, inside)) c.index-rows-at.is ∙ ap (λ (n : ℕ). row ∷ drop n rows) next in
    record {
      within = omega (arith, inside);
      first = c.in_ok-put_in_order.ensures
          ∙ ap (λ (l : List Row). take c.args.count (insert_sorted (comes_before keys) row.now l)) c.loop-at.invariant.first
          ∙ first_of_inserted (comes_before keys) c.args.count row.now (sorted keys (lent_rows (drop at rows)))
          ∙ ap (λ (l : List (Bor Row)). take c.args.count (sorted keys (lent_rows l))) (sym rest);
    }
