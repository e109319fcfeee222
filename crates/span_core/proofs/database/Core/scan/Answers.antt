use Rattle.std.proofs.Common.{List, sym, subst, refl}
use Rattle.span_shard.specs.KeyVersions.{KeyVersions}
use Rattle.span_machine.specs.Pieces.{machine_of}
use Rattle.span_machine.specs.declared.step.Step.{Step}
use Rattle.span_machine.specs.declared.step.Step.TheVariants as step
use Rattle.span_machine.specs.declared.step.Reply.{Reply}
use Rattle.span_parts.specs.Replies.{as_reply, scan_reply}
use Rattle.span_core.specs.Whole.{State, IsWhole}
use Rattle.span_core.specs.Histories.{IsStep}
use Rattle.span_core.proofs.Wholes.{goes_on, memory_steps}
use Rattle.span_core.proofs.database.Core.scan.Goals as goal

pub invariant_of-self : goal.invariant_of-self
invariant_of-self c =
    let schema = c.self.inside.schema in
    let m = machine_of c.self.inside.journal in
    let k = c.scan.new.journal in
    let n = machine_of k in
    let s : Step = step.Scan c.args.query c.args.leaf c.args.slot c.args.interval in
    let all : IsStep schema m s (as_reply scan_reply c.scan.result) n = memory_steps schema m s (as_reply scan_reply c.scan.result) n tt refl c.scan.ensures.step in
    let whole : IsWhole schema k c.self.inside.shards.items = subst (λ (shards : List (List KeyVersions)). IsWhole schema k shards) c.as_slice.ensures.value c.scan.ensures.whole in
    goes_on schema c.self.inside.journal k c.self.inside.shards.items c.self.inside.shards.items s _ c.self.invariant tt all whole

pub returns-clause-steps : goal.returns-clause-steps
returns-clause-steps c =
    let schema = c.self.inside.schema in
    let m = machine_of c.self.inside.journal in
    let n = machine_of c.scan.new.journal in
    let s : Step = step.Scan c.args.query c.args.leaf c.args.slot c.args.interval in
    let all : IsStep schema m s (as_reply scan_reply c.scan.result) n = memory_steps schema m s (as_reply scan_reply c.scan.result) n tt refl c.scan.ensures.step in
    subst (λ (st : State). IsStep st.schema st.machine s c.scan_reply.result n) c.self.view_is (subst (λ (r : Reply). IsStep schema m s r n) (sym c.scan_reply.ensures) all)
