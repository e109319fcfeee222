use Rattle.span_celltests.proofs.CellTests.{AreMetBefore}
use Rattle.span_celltests.proofs.cell_test.meets_all.Given as goal

-- those before are met
abbrev pub invariant-loop-test : goal.invariant-loop-test
invariant-loop-test l = AreMetBefore l.kinds l.bytes l.tests l.test-index
