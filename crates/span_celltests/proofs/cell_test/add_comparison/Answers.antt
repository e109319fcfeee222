use Rattle.std.proofs.Common.{Option, subst}
use Rattle.std.specs.Prelude.{IfSome}
use Rattle.span_celltests.specs.declared.cell_test.CellTest.{CellTest}
use Rattle.span_celltests.specs.CellTests.{IsTestOf, comparison_at}
use Rattle.span_celltests.proofs.CellTests.{one_test_added, one_test_needed}
use Rattle.span_celltests.proofs.cell_test.add_comparison.Goals as goal

pub returns-in_ok-push-in-Some-clause-all : goal.returns-in_ok-push-in-Some-clause-all
returns-in_ok-push-in-Some-clause-all c = λ all.
    let schema = c.args.schema.now in
    let of = comparison_at schema c.args.left.now c.args.comparison c.args.right.now in
    let P : Option CellTest → Type 0 = λ found. IfSome found (λ test. IsTestOf schema c.args.table of test) in
    one_test_added schema c.args.table of c.in-Some.test c.args.tests.now.items c.push.new.self.items c.in_ok-push-in-Some.ensures.items (subst P c.in-Some.is c.in_ok-comparison_test.ensures)

pub returns-in_ok-push-in-Some-clause-some : goal.returns-in_ok-push-in-Some-clause-some
returns-in_ok-push-in-Some-clause-some c =
    let schema = c.args.schema.now in
    let of = comparison_at schema c.args.left.now c.args.comparison c.args.right.now in
    let P : Option CellTest → Type 0 = λ found. IfSome found (λ test. IsTestOf schema c.args.table of test) in
    one_test_needed schema c.args.table of c.in-Some.test c.args.tests.now.items c.push.new.self.items c.in_ok-push-in-Some.ensures.items (subst P c.in-Some.is c.in_ok-comparison_test.ensures)
