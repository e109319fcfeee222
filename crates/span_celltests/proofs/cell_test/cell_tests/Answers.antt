use Rattle.std.proofs.Common.{◌≡◌, ◌∙◌, List, true, false, ap, sym, subst}
use Rattle.span_expr.specs.declared.expr.Expr.{Expr}
use Rattle.span_expr.specs.declared.expr.Expr.TheVariants.{And}
use Rattle.span_celltests.specs.declared.cell_test.CellTest.{CellTest}
use Rattle.span_celltests.specs.CellTests.{AreNeededFor, AreTestsOf}
use Rattle.span_celltests.proofs.CellTests.{needed_for_and, needed_for_one, tests_of_and, tests_of_one}
use Rattle.span_celltests.proofs.cell_test.cell_tests.Goals.{in-And+in_ok-is_first-in-And+in_ok-are_more-in-And+then-is_first, in-And+in_ok-is_first-in-And+in_ok-are_more-in-And+else-is_first, in_default+in_ok-are_all-in_default}
use Rattle.span_celltests.proofs.cell_test.cell_tests.Goals as goal

pub returns-clause-needed : goal.returns-clause-needed
returns-clause-needed c =
    let schema = c.args.schema.now in
    let n = c.args.table in
    let e : Expr = c.args.condition.now in
    let none = c.new-tests.ensures.items in
    let old : List CellTest = c.new-tests.result.items in
    let P : List CellTest → Type 0 = AreNeededFor schema n e in
    subst P (sym c.from_vec.ensures) (elim c.match-condition.branch [
      | in-And+in_ok-is_first-in-And+in_ok-are_more-in-And+then-is_first w ↦ rw w.tests-is
          (needed_for_and schema n e w.get.result.now w.as_slice.result.now old w.add_test.new.tests.items w.add_tests.new.tests.items
          (w.in-And.is ∙ ap (λ (x : Expr). And x w.in-And.more) (sym w.get.ensures) ∙ ap (And w.get.result.now) (sym w.as_slice.ensures)) none
          w.in_ok-is_first-in-And.ensures.some w.in_ok-are_more-in-And.ensures.some)
      | in-And+in_ok-is_first-in-And+in_ok-are_more-in-And+else-is_first w ↦ rw w.tests-is
          (needed_for_and schema n e w.get.result.now w.as_slice.result.now old w.add_test.new.tests.items w.add_tests.new.tests.items
          (w.in-And.is ∙ ap (λ (x : Expr). And x w.in-And.more) (sym w.get.ensures) ∙ ap (And w.get.result.now) (sym w.as_slice.ensures)) none
          w.in_ok-is_first-in-And.ensures.some w.in_ok-are_more-in-And.ensures.some)
      | in_default+in_ok-are_all-in_default w ↦ rw w.tests-is
          (needed_for_one schema n e old w.add_test-in_default.new.tests.items none w.in_ok-are_all-in_default.ensures.some)
    ])

pub returns-clause-all : goal.returns-clause-all
returns-clause-all c =
    let schema = c.args.schema.now in
    let n = c.args.table in
    let e : Expr = c.args.condition.now in
    let none = c.new-tests.ensures.items in
    let old : List CellTest = c.new-tests.result.items in
    let P : List CellTest → Type 0 = λ tests. c.match-condition.are_all ≡ true → AreTestsOf schema n e tests in
    subst P (sym c.from_vec.ensures) (elim c.match-condition.branch [
      | in-And+in_ok-is_first-in-And+in_ok-are_more-in-And+then-is_first w ↦ rw (w.tests-is, w.are_all-is)
          (λ all. tests_of_and schema n e w.get.result.now w.as_slice.result.now old w.add_test.new.tests.items w.add_tests.new.tests.items
          (w.in-And.is ∙ ap (λ (x : Expr). And x w.in-And.more) (sym w.get.ensures) ∙ ap (And w.get.result.now) (sym w.as_slice.ensures)) none
          w.in_ok-is_first-in-And.ensures.some (w.in_ok-is_first-in-And.ensures.all w.if-is_first.true) w.in_ok-are_more-in-And.ensures.some (w.in_ok-are_more-in-And.ensures.all all))
      | in-And+in_ok-is_first-in-And+in_ok-are_more-in-And+else-is_first w ↦ rw w.are_all-is (λ all. absurd (let bad : false ≡ true = sym w.if-is_first.false ∙ all in cc))
      | in_default+in_ok-are_all-in_default w ↦ rw (w.tests-is, w.are_all-is)
          (λ all. tests_of_one schema n e old w.add_test-in_default.new.tests.items none w.in_ok-are_all-in_default.ensures.some (w.in_ok-are_all-in_default.ensures.all all))
    ])
