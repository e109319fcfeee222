use Rattle.std.proofs.Common.{Option}
use Rattle.std.specs.Prelude.{IfSome}
use Rattle.std.proofs.lemmas.Result.{IfOk-weaker}
use Rattle.span_celltests.specs.declared.cell_test.CellTest.{CellTest}
use Rattle.span_celltests.specs.CellTests.{IsTestOf, comparison_at}
use Rattle.span_celltests.proofs.CellTests.{exchanged_found}
use Rattle.span_celltests.proofs.cell_test.comparison_test.Goals as goal

pub returns-in-Literal : goal.returns-in-Literal
returns-in-Literal c =
    let schema = c.args.schema.now in
    let n = c.args.table in
    let left = c.args.left.now in
    let right = c.args.right.now in
    IfOk-weaker c.column_test.result (λ (found : Option CellTest). IfSome found (λ test. IsTestOf schema n (comparison_at schema right c.exchange_sides.result left) test))
    (λ (found : Option CellTest). IfSome found (λ test. IsTestOf schema n (comparison_at schema left c.args.comparison right) test))
    (λ found so. exchanged_found schema n left right c.args.comparison c.exchange_sides.result found c.exchange_sides.ensures so)
    c.column_test.ensures
