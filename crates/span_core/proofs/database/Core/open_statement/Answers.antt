use Rattle.std.proofs.Common.{ℕ, List, Ok, sym, subst, inl, refl}
use Rattle.span_machine.specs.Pieces.{machine_of}
use Rattle.span_machine.specs.declared.step.Step.TheVariants as step
use Rattle.span_machine.specs.declared.step.Reply.TheVariants as reply
use Rattle.span_value.specs.declared.refusal.Refusal.TheVariants.{OutOfMemory}
use Rattle.span_binder.specs.Understands.{Understands}
use Rattle.span_soundness.proofs.Soundness.{statements_can_be_planned}
use Rattle.span_params.specs.declared.params.Parameter.{Parameter}
use Rattle.span_openqueries.specs.Planned.{IsPlanned}
use Rattle.span_core.specs.Whole.{State}
use Rattle.span_core.specs.Histories.{IsStep}
use Rattle.span_core.proofs.Wholes.{refused_steps}
use Rattle.span_core.proofs.database.Core.open_statement.Goals as goal

pub planned_query-requires : goal.planned_query-requires
planned_query-requires c =
    statements_can_be_planned c.self.inside.schema c.args.text c.args.params c.args.statement
    (subst (λ (st : State). Understands st.schema c.args.text c.args.params (Ok c.args.statement)) (sym c.self.view_is) c.requires)

pub returns-in-Err-clause-steps : goal.returns-in-Err-clause-steps
returns-in-Err-clause-steps c =
    let m = machine_of c.self.inside.journal in
    let schema = c.self.inside.schema in
    subst (λ (st : State). IsStep st.schema st.machine (step.Open c.args.text c.args.params c.args.bound c.args.interval) (reply.Refused OutOfMemory) st.machine) c.self.view_is
    (refused_steps schema m c.args.text c.args.params c.args.bound c.args.interval OutOfMemory (inl refl))

pub open_planned-requires-clause-planned : goal.open_planned-requires-clause-planned
open_planned-requires-clause-planned c = subst (λ (st : State). IsPlanned st.schema c.in-Ok.query) c.self.view_is c.in-Ok.ensures.planned

pub returns-in-Ok-clause-steps : goal.returns-in-Ok-clause-steps
returns-in-Ok-clause-steps c =
    let st = c.args.self.now in
    let query = c.in-Ok.query in
    let r = c.open_planned.result in
    let n = c.open_planned.new.self.machine in
    subst (λ (t : List ℕ). IsStep st.schema st.machine (step.Open t c.args.params c.args.bound c.args.interval) r n) c.in-Ok.ensures.same.0
    (subst (λ (ps : List Parameter). IsStep st.schema st.machine (step.Open query.text ps c.args.bound c.args.interval) r n) c.in-Ok.ensures.same.1 c.open_planned.ensures.steps)
