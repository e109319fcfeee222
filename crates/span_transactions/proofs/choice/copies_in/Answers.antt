use Rattle.std.proofs.Common.{◌∙◌, ◌++◌, ◌∷◌, [], List, ap, sym}
use Rattle.span_mutate.specs.declared.mutation.CheckedMutation.{CheckedMutation}
use Rattle.span_machine.specs.Machine.{holds, root_at, mutations_in}
use Rattle.span_transactions.proofs.Choosing.{one_more}
use Rattle.span_transactions.proofs.choice.copies_in.Goals as goal

pub loop-mutation-preserved : goal.loop-mutation-preserved
loop-mutation-preserved c =
    let x = c.mutation-item.result in
    c.in_ok-push_in.ensures
    ∙ ap (λ (ms : List CheckedMutation). ms ++ mutations_in c.args.schema.now c.args.slot_state.now (x ∷ [])) c.loop-mutation.invariant
    ∙ sym (one_more (λ (m : CheckedMutation). holds c.args.schema.now c.args.slot_state.now (root_at c.args.schema.now m)) c.args.mutations.now c.loop-mutation.mutation-index x c.loop-mutation-test.true c.mutation-item.is)
