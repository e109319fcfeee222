use Rattle.std.proofs.Common.{ℕ, List, sym, subst, refl}
use Rattle.span_value.specs.declared.value.Value.{Value}
use Rattle.span_keycode.specs.Coding.{AreValues}
use Rattle.span_machine.specs.Pieces.{machine_of}
use Rattle.span_machine.specs.Machine.{Answers, split}
use Rattle.span_machine.specs.declared.step.Step.{Step}
use Rattle.span_machine.specs.declared.step.Step.TheVariants as step
use Rattle.span_machine.specs.declared.step.Reply.{Reply}
use Rattle.span_machine.specs.declared.step.Reply.TheVariants as reply
use Rattle.span_parts.specs.Replies.{as_reply}
use Rattle.span_core.specs.Whole.{State}
use Rattle.span_core.specs.Histories.{IsStep}
use Rattle.span_core.proofs.Wholes.{goes_on, memory_steps}
use Rattle.span_core.proofs.database.Core.split.Goals as goal

pub invariant_of-self : goal.invariant_of-self
invariant_of-self c =
    let schema = c.self.inside.schema in
    let m = machine_of c.self.inside.journal in
    let n = machine_of c.split.new.journal in
    let s : Step = step.Split c.args.table c.args.key in
    let r = as_reply reply.Split c.split.result in
    let by_table : Answers m (split schema m c.args.table c.as_slice-2.result.now) r n = subst (λ (t : List ℕ). Answers m (split schema m t c.as_slice-2.result.now) r n) c.as_str.ensures c.split.ensures.step in
    let by_key : Answers m (split schema m c.args.table c.args.key) r n = subst (λ (k : List Value). Answers m (split schema m c.args.table k) r n) c.as_slice-2.ensures by_table in
    let all : IsStep schema m s r n = memory_steps schema m s r n tt refl by_key in
    let values : AreValues c.args.key = subst AreValues c.as_slice.ensures c.are_values.ensures in
    goes_on schema c.self.inside.journal c.split.new.journal c.self.inside.shards.items c.split.new.shards.items s r c.self.invariant values all c.split.ensures.whole

pub returns-clause-steps : goal.returns-clause-steps
returns-clause-steps c =
    let schema = c.self.inside.schema in
    let m = machine_of c.self.inside.journal in
    let n = machine_of c.split.new.journal in
    let s : Step = step.Split c.args.table c.args.key in
    let r = as_reply reply.Split c.split.result in
    let by_table : Answers m (split schema m c.args.table c.as_slice-2.result.now) r n = subst (λ (t : List ℕ). Answers m (split schema m t c.as_slice-2.result.now) r n) c.as_str.ensures c.split.ensures.step in
    let by_key : Answers m (split schema m c.args.table c.args.key) r n = subst (λ (k : List Value). Answers m (split schema m c.args.table k) r n) c.as_slice-2.ensures by_table in
    let all : IsStep schema m s r n = memory_steps schema m s r n tt refl by_key in
    subst (λ (st : State). IsStep st.schema st.machine s c.split_reply.result n) c.self.view_is (subst (λ (x : Reply). IsStep schema m s x n) (sym c.split_reply.ensures) all)
