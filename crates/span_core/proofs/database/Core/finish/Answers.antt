use Rattle.std.proofs.Common.{sym, subst, refl}
use Rattle.span_machine.specs.Pieces.{machine_of}
use Rattle.span_machine.specs.declared.step.Step.{Step}
use Rattle.span_machine.specs.declared.step.Step.TheVariants as step
use Rattle.span_machine.specs.declared.step.Reply.{Reply}
use Rattle.span_parts.specs.Replies.{as_reply, rows_reply}
use Rattle.span_core.specs.Whole.{State}
use Rattle.span_core.specs.Histories.{IsStep}
use Rattle.span_core.proofs.Wholes.{memory_steps}
use Rattle.span_core.proofs.database.Core.finish.Goals as goal

pub returns-clause-steps : goal.returns-clause-steps
returns-clause-steps c =
    let schema = c.self.inside.schema in
    let m = machine_of c.self.inside.journal in
    let n = machine_of c.self.inside.journal in
    let s : Step = step.Finish c.args.query in
    let all : IsStep schema m s (as_reply rows_reply c.finish.result) n = memory_steps schema m s (as_reply rows_reply c.finish.result) n tt refl (c.finish.ensures c.self.inside.shards.items c.self.invariant.whole) in
    subst (λ (st : State). IsStep st.schema st.machine s c.finish_reply.result st.machine) c.self.view_is (subst (λ (r : Reply). IsStep schema m s r n) (sym c.finish_reply.ensures) all)
