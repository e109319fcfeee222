use Rattle.span_expr.specs.declared.expr.Comparison.TheVariants.{AtLeast, AtMost}
use Rattle.span_celltests.specs.CellTests.{comparison_at}
use Rattle.span_celltests.proofs.CellTests.{two_added, two_needed}
use Rattle.span_celltests.proofs.cell_test.add_between.Goals as goal

pub returns-then-is_low-clause-all : goal.returns-then-is_low-clause-all
returns-then-is_low-clause-all c = λ all.
    let a = c.args in
    let schema = a.schema.now in
    two_added schema a.table (comparison_at schema a.operand.now AtLeast a.low.now) (comparison_at schema a.operand.now AtMost a.high.now) a.tests.now.items c.add_comparison.new.tests.items
    c.add_comparison-2.new.tests.items (c.in_ok-is_low.ensures.all c.if-is_low.true) (c.in_ok-is_high.ensures.all all)

pub returns-then-is_low-clause-some : goal.returns-then-is_low-clause-some
returns-then-is_low-clause-some c =
    let a = c.args in
    let schema = a.schema.now in
    two_needed schema a.table (comparison_at schema a.operand.now AtLeast a.low.now) (comparison_at schema a.operand.now AtMost a.high.now) a.tests.now.items c.add_comparison.new.tests.items
    c.add_comparison-2.new.tests.items c.in_ok-is_low.ensures.some c.in_ok-is_high.ensures.some

pub returns-else-is_low-clause-some : goal.returns-else-is_low-clause-some
returns-else-is_low-clause-some c =
    let a = c.args in
    let schema = a.schema.now in
    two_needed schema a.table (comparison_at schema a.operand.now AtLeast a.low.now) (comparison_at schema a.operand.now AtMost a.high.now) a.tests.now.items c.add_comparison.new.tests.items
    c.add_comparison-2.new.tests.items c.in_ok-is_low.ensures.some c.in_ok-is_high.ensures.some
