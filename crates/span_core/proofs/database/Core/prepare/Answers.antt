use Rattle.std.proofs.Common.{sym, subst, refl}
use Rattle.span_machine.specs.Pieces.{machine_of}
use Rattle.span_machine.specs.declared.step.Step.{Step}
use Rattle.span_machine.specs.declared.step.Step.TheVariants as step
use Rattle.span_machine.specs.declared.step.Reply.{Reply}
use Rattle.span_machine.specs.declared.step.Reply.TheVariants as reply
use Rattle.span_parts.specs.Replies.{as_reply}
use Rattle.span_core.specs.Whole.{State}
use Rattle.span_core.specs.Histories.{IsStep}
use Rattle.span_core.proofs.Wholes.{goes_on, memory_steps}
use Rattle.span_core.proofs.database.Core.prepare.Goals as goal

pub invariant_of-self : goal.invariant_of-self
invariant_of-self c =
    let schema = c.self.inside.schema in
    let m = machine_of c.self.inside.journal in
    let n = machine_of c.prepare.new.journal in
    let s : Step = step.Prepare c.args.owner c.args.txn c.args.slot in
    let all : IsStep schema m s (as_reply reply.Prepared c.prepare.result) n = memory_steps schema m s (as_reply reply.Prepared c.prepare.result) n tt refl c.prepare.ensures.step in
    goes_on schema c.self.inside.journal c.prepare.new.journal c.self.inside.shards.items c.prepare.new.shards.items s _ c.self.invariant tt all c.prepare.ensures.whole

pub returns-clause-steps : goal.returns-clause-steps
returns-clause-steps c =
    let schema = c.self.inside.schema in
    let m = machine_of c.self.inside.journal in
    let n = machine_of c.prepare.new.journal in
    let s : Step = step.Prepare c.args.owner c.args.txn c.args.slot in
    let all : IsStep schema m s (as_reply reply.Prepared c.prepare.result) n = memory_steps schema m s (as_reply reply.Prepared c.prepare.result) n tt refl c.prepare.ensures.step in
    subst (λ (st : State). IsStep st.schema st.machine s c.prepare_reply.result n) c.self.view_is (subst (λ (r : Reply). IsStep schema m s r n) (sym c.prepare_reply.ensures) all)
