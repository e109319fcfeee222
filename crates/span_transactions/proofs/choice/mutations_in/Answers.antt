use Rattle.std.proofs.Common.{sym}
use Rattle.span_mutate.specs.declared.mutation.CheckedMutation.{CheckedMutation}
use Rattle.span_machine.specs.Machine.{holds, root_at}
use Rattle.span_transactions.proofs.Choosing.{all_kept}
use Rattle.span_transactions.proofs.choice.mutations_in.Goals as goal

pub returns-then-has_all : goal.returns-then-has_all
returns-then-has_all c =
    sym (all_kept (λ (m : CheckedMutation). holds c.args.schema.now c.args.slot_state.now (root_at c.args.schema.now m)) c.args.mutations.now (sym c.if-has_all.ensures))
