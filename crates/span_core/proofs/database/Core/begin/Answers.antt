use Rattle.std.proofs.Common.{sym, subst, refl}
use Rattle.span_machine.specs.Pieces.{machine_of}
use Rattle.span_machine.specs.declared.step.Step.{Step}
use Rattle.span_machine.specs.declared.step.Step.TheVariants as step
use Rattle.span_machine.specs.declared.step.Reply.{Reply}
use Rattle.span_machine.specs.declared.step.Reply.TheVariants as reply
use Rattle.span_parts.specs.Replies.{as_reply}
use Rattle.span_core.specs.Whole.{State}
use Rattle.span_core.specs.Histories.{IsStep}
use Rattle.span_core.proofs.Wholes.{goes_on, memory_steps}
use Rattle.span_mutate.specs.Typed.{AreTypedMutations}
use Rattle.span_core.proofs.database.Core.begin.Goals as goal

pub invariant_of-self : goal.invariant_of-self
invariant_of-self c =
    let schema = c.self.inside.schema in
    let m = machine_of c.self.inside.journal in
    let n = machine_of c.begin.new.journal in
    let s : Step = step.Begin c.args.owner c.args.transaction in
    let all : IsStep schema m s (as_reply reply.Began c.begin.result) n = memory_steps schema m s (as_reply reply.Began c.begin.result) n tt refl c.begin.ensures.step in
    goes_on schema c.self.inside.journal c.begin.new.journal c.self.inside.shards.items c.self.inside.shards.items s _ c.self.invariant (subst (λ (st : State). AreTypedMutations st.schema c.args.transaction) (sym c.self.view_is) c.requires) all (c.begin.ensures.whole c.self.inside.shards.items c.self.invariant.whole)

pub returns-clause-steps : goal.returns-clause-steps
returns-clause-steps c =
    let schema = c.self.inside.schema in
    let m = machine_of c.self.inside.journal in
    let n = machine_of c.begin.new.journal in
    let s : Step = step.Begin c.args.owner c.args.transaction in
    let all : IsStep schema m s (as_reply reply.Began c.begin.result) n = memory_steps schema m s (as_reply reply.Began c.begin.result) n tt refl c.begin.ensures.step in
    subst (λ (st : State). IsStep st.schema st.machine s c.begin_reply.result n) c.self.view_is (subst (λ (r : Reply). IsStep schema m s r n) (sym c.begin_reply.ensures) all)
