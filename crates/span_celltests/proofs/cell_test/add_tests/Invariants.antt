use Rattle.std.proofs.Common.{◌≡◌, take, true}
use Rattle.span_celltests.specs.CellTests.{AreMoreTests, AreSomeTests}
use Rattle.span_celltests.proofs.cell_test.add_tests.Given as goal

-- the tests so far
abbrev pub invariant-loop-condition : goal.invariant-loop-condition
invariant-loop-condition l =
    (l.all ≡ true → AreMoreTests l.schema l.table (take l.condition-index l.conditions) l.fn.tests.items l.tests.items)
    × AreSomeTests l.schema l.table (take l.condition-index l.conditions) l.fn.tests.items l.tests.items
