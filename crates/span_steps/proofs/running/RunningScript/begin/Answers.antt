use Rattle.std.proofs.Common.{◌≡◌, List, [], subst}
use Rattle.span_mutate.specs.declared.mutation.Mutation.{Mutation}
use Rattle.span_mutate.specs.Batches.{batch_mutations}
use Rattle.span_machine.specs.declared.step.Reply.TheVariants.{Refused}
use Rattle.span_steps.specs.Steps.{IsBegun}
use Rattle.span_steps.proofs.Commands.{begun, begun_refused}
use Rattle.span_steps.proofs.Loads.{emptied, gathered_alone}
use Rattle.span_steps.proofs.running.RunningScript.begin.Goals as goal

pub returns-in-Ok-clause-begun : goal.returns-in-Ok-clause-begun
returns-in-Ok-clause-begun c =
    let self = c.args.self.now in
    let schema = c.args.core.now.schema in
    let m = c.args.core.now.machine in
    let gathered = batch_mutations self.gathered.items in
    let last = c.take_step.new.core.machine in
    subst (λ (ms : List Mutation). IsBegun schema m ms c.take_step.result last) (gathered_alone self.clock self.params gathered self.load c.requires)
    (begun schema m gathered c.in-Ok.transaction c.take_step.result last (rw (c.schema.ensures, c.replace-gathered.ensures.value) at c.in-Ok.ensures.ok) c.take_step.ensures.taken)

pub returns-in-Ok-clause-emptied : goal.returns-in-Ok-clause-emptied
returns-in-Ok-clause-emptied c =
    let self = c.args.self.now in
    let none : c.replace-gathered.new.dest.items ≡ [] = rw c.replace-gathered.ensures.after c.new.ensures.items in
    emptied self.clock self.params (batch_mutations self.gathered.items) c.replace-gathered.new.dest.items self.load c.requires none

pub returns-in-Err-clause-begun : goal.returns-in-Err-clause-begun
returns-in-Err-clause-begun c =
    let self = c.args.self.now in
    let schema = c.args.core.now.schema in
    let m = c.args.core.now.machine in
    let gathered = batch_mutations self.gathered.items in
    subst (λ (ms : List Mutation). IsBegun schema m ms (Refused c.in-Err.why) m) (gathered_alone self.clock self.params gathered self.load c.requires)
    (begun_refused schema m gathered c.in-Err.why (rw (c.schema.ensures, c.replace-gathered.ensures.value) at c.in-Err.ensures.refused))

pub returns-in-Err-clause-emptied : goal.returns-in-Err-clause-emptied
returns-in-Err-clause-emptied c =
    let self = c.args.self.now in
    let none : c.replace-gathered.new.dest.items ≡ [] = rw c.replace-gathered.ensures.after c.new.ensures.items in
    emptied self.clock self.params (batch_mutations self.gathered.items) c.replace-gathered.new.dest.items self.load c.requires none
