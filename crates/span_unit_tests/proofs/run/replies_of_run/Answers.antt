use Rattle.std.proofs.Common.{sym, subst}
use Rattle.span_machine.specs.Run.{AreChecked}
use Rattle.span_unit_tests.proofs.run.replies_of_run.Goals as goal

pub run-requires : goal.run-requires
run-requires c = subst (λ t. AreChecked t c.in_ok-committing.field-0.items) (sym c.schema.view_is) (c.in_ok-committing.ensures _ c.in_ok-transaction.ensures.typed)
