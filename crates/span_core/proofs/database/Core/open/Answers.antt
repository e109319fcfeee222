use Rattle.std.proofs.Common.{ℕ, List, subst}
use Rattle.span_machine.specs.Pieces.{machine_of}
use Rattle.span_machine.specs.declared.step.Step.TheVariants as step
use Rattle.span_machine.specs.declared.step.Reply.TheVariants as reply
use Rattle.span_core.specs.Whole.{State}
use Rattle.span_core.specs.Histories.{IsStep}
use Rattle.span_core.proofs.Wholes.{refused_steps}
use Rattle.span_core.proofs.database.Core.open.Goals as goal

pub returns-in-Err-clause-steps : goal.returns-in-Err-clause-steps
returns-in-Err-clause-steps c =
    let m = machine_of c.self.inside.journal in
    let schema = c.self.inside.schema in
    subst (λ (st : State). IsStep st.schema st.machine (step.Open c.args.text c.args.params c.args.bound c.args.interval) (reply.Refused c.in-Err.why) st.machine) c.self.view_is
    (subst (λ (t : List ℕ). IsStep schema m (step.Open t c.args.params c.args.bound c.args.interval) (reply.Refused c.in-Err.why) m) c.as_str.ensures
    (refused_steps schema m c.as_str.result.now c.args.params c.args.bound c.args.interval c.in-Err.why c.in-Err.ensures.refused))
