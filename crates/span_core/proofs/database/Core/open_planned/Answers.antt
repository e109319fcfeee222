use Rattle.std.proofs.Common.{Ok, sym, subst}
use Rattle.span_machine.specs.Pieces.{machine_of}
use Rattle.span_machine.specs.declared.step.Step.{Step}
use Rattle.span_machine.specs.declared.step.Step.TheVariants as step
use Rattle.span_machine.specs.declared.step.Reply.{Reply}
use Rattle.span_parts.specs.Replies.{as_reply, opened_reply}
use Rattle.span_binder.specs.Understands.{Understands}
use Rattle.span_openqueries.specs.Planned.{IsPlanned}
use Rattle.span_core.specs.Whole.{State}
use Rattle.span_core.specs.Histories.{IsStep}
use Rattle.span_core.proofs.Wholes.{goes_on, opened_steps}
use Rattle.span_core.proofs.database.Core.open_planned.Goals as goal

pub open-requires : goal.open-requires
open-requires c = subst (λ (st : State). IsPlanned st.schema c.args.query) (sym c.self.view_is) c.requires.planned

pub invariant_of-self : goal.invariant_of-self
invariant_of-self c =
    let schema = c.self.inside.schema in
    let m = machine_of c.self.inside.journal in
    let n = machine_of c.open.new.journal in
    let s : Step = step.Open c.args.query.text c.args.query.params c.args.bound c.args.interval in
    let understood : Understands schema c.args.query.text c.args.query.params (Ok c.args.query.statement) = subst (λ (st : State). Understands st.schema c.args.query.text c.args.query.params (Ok c.args.query.statement)) (sym c.self.view_is) c.requires.understood in
    let all : IsStep schema m s (as_reply opened_reply c.open.result) n = opened_steps schema m c.args.query.text c.args.query.params c.args.bound c.args.interval c.args.query.statement (as_reply opened_reply c.open.result) n understood c.open.ensures.step in
    goes_on schema c.self.inside.journal c.open.new.journal c.self.inside.shards.items c.self.inside.shards.items s _ c.self.invariant tt all (c.open.ensures.whole c.self.inside.shards.items c.self.invariant.whole)

pub returns-clause-steps : goal.returns-clause-steps
returns-clause-steps c =
    let schema = c.self.inside.schema in
    let m = machine_of c.self.inside.journal in
    let n = machine_of c.open.new.journal in
    let s : Step = step.Open c.args.query.text c.args.query.params c.args.bound c.args.interval in
    let understood : Understands schema c.args.query.text c.args.query.params (Ok c.args.query.statement) = subst (λ (st : State). Understands st.schema c.args.query.text c.args.query.params (Ok c.args.query.statement)) (sym c.self.view_is) c.requires.understood in
    let all : IsStep schema m s (as_reply opened_reply c.open.result) n = opened_steps schema m c.args.query.text c.args.query.params c.args.bound c.args.interval c.args.query.statement (as_reply opened_reply c.open.result) n understood c.open.ensures.step in
    subst (λ (st : State). IsStep st.schema st.machine s c.open_reply.result n) c.self.view_is (subst (λ (r : Reply). IsStep schema m s r n) (sym c.open_reply.ensures) all)
