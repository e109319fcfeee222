use Rattle.std.proofs.Common.{◌≡◌, ◌∙◌, List, true, false, sym}
use Rattle.span_expr.specs.declared.expr.Expr.{Expr}
use Rattle.span_celltests.specs.declared.cell_test.CellTest.{CellTest}
use Rattle.span_celltests.proofs.CellTests.{one_more_added, one_more_needed}
use Rattle.span_celltests.proofs.cell_test.add_tests.Goals.{then-all, else-all}
use Rattle.span_celltests.proofs.cell_test.add_tests.Goals as goal

pub loop-condition-preserved : goal.loop-condition-preserved
loop-condition-preserved c =
    let schema = c.args.schema.now in
    let n = c.args.table in
    let es : List Expr = c.args.conditions.now in
    let i = c.loop-condition.condition-index in
    let old : List CellTest = c.args.tests.now.items in
    let now : List CellTest = c.loop-condition.tests.items in
    let new : List CellTest = c.add_test.new.tests.items in
    let some = one_more_needed schema n es i c.condition-item.result old now new c.loop-condition-test.true c.condition-item.is c.loop-condition.invariant.1 c.in_ok-is_test.ensures.some in
    elim c.if-all.branch [
      | then-all w ↦ rw w.all-is
          (λ all. one_more_added schema n es i c.condition-item.result old now new c.loop-condition-test.true c.condition-item.is (c.loop-condition.invariant.0 w.if-all.true) (c.in_ok-is_test.ensures.all all), some)
      | else-all w ↦ rw w.all-is (λ all. absurd (let bad : false ≡ true = sym w.if-all.false ∙ all in cc), some)
    ]
