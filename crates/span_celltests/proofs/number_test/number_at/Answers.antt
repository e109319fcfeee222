use Rattle.std.proofs.Common.{arith, drop, length-drop}
use Rattle.span_celltests.proofs.CellTests.{none_found}
use Rattle.span_celltests.proofs.number_test.number_at.Goals as goal

pub returns-then-at-bytes : goal.returns-then-at-bytes
returns-then-at-bytes c = none_found (drop c.args.at c.args.bytes.now) (omega (arith, c.if-at-bytes.true, length-drop c.args.at c.args.bytes.now))
