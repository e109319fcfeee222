use Rattle.std.proofs.Common.{sym, subst}
use Rattle.span_machine.specs.Pieces.{machine_of}
use Rattle.span_machine.specs.declared.step.Step.{Step}
use Rattle.span_machine.specs.declared.step.Step.TheVariants as step
use Rattle.span_machine.specs.declared.step.Reply.{Reply}
use Rattle.span_machine.specs.declared.step.Reply.TheVariants as reply
use Rattle.span_parts.specs.Replies.{as_reply}
use Rattle.span_core.specs.Whole.{State}
use Rattle.span_core.specs.Histories.{IsStep}
use Rattle.span_core.proofs.Wholes.{goes_on, plain_steps}
use Rattle.span_core.proofs.database.Core.trim.Goals as goal

pub invariant_of-self : goal.invariant_of-self
invariant_of-self c =
    let schema = c.self.inside.schema in
    let m = machine_of c.self.inside.journal in
    let n = machine_of c.trim.new.journal in
    let s : Step = step.Trim c.args.slot c.args.h in
    let all : IsStep schema m s (as_reply reply.Trimmed c.trim.result) n = plain_steps schema m s (as_reply reply.Trimmed c.trim.result) n tt c.trim.ensures.step in
    goes_on schema c.self.inside.journal c.trim.new.journal c.self.inside.shards.items c.trim.new.shards.items s _ c.self.invariant tt all c.trim.ensures.whole

pub returns-clause-steps : goal.returns-clause-steps
returns-clause-steps c =
    let schema = c.self.inside.schema in
    let m = machine_of c.self.inside.journal in
    let n = machine_of c.trim.new.journal in
    let s : Step = step.Trim c.args.slot c.args.h in
    let all : IsStep schema m s (as_reply reply.Trimmed c.trim.result) n = plain_steps schema m s (as_reply reply.Trimmed c.trim.result) n tt c.trim.ensures.step in
    subst (λ (st : State). IsStep st.schema st.machine s c.trim_reply.result n) c.self.view_is (subst (λ (r : Reply). IsStep schema m s r n) (sym c.trim_reply.ensures) all)
