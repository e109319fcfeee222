use Rattle.std.proofs.Common.{◌∙◌, List, refl, subst, arith}
use Rattle.span_schema.specs.declared.table.Table.{Table}
use Rattle.span_machine.specs.declared.step.Step.TheVariants as step
use Rattle.span_machine.specs.declared.step.Reply.TheVariants.{Refused}
use Rattle.span_steps.specs.Steps.{Takes}
use Rattle.span_steps.proofs.Commands.{not_refused}
use Rattle.span_steps.proofs.Scans.{leaf_more, leaf_refused}
use Rattle.span_steps.proofs.steps.scan_leaf.Goals as goal

pub loop-slot-init : goal.loop-slot-init
loop-slot-init c = (refl, refl)

pub loop-slot-preserved : goal.loop-slot-preserved
loop-slot-preserved c =
    let a = c.args in
    let at = c.loop-slot in (
      leaf_more a.core.now.schema a.clock a.query a.leaf at.slot a.core.now.machine c.take_step.result at.core.machine c.take_step.new.core.machine
          at.invariant.0
          (subst (λ (s : List Table). Takes s at.core.machine (step.Scan a.query a.leaf at.slot a.clock) c.take_step.result c.take_step.new.core.machine) at.invariant.1 c.take_step.ensures.taken)
          (not_refused c.take_step.result (λ why is. c.in_default.not-Refused why is)),
      c.take_step.ensures.schema ∙ at.invariant.1,
    )

pub returns-in-Refused-clause-scanned : goal.returns-in-Refused-clause-scanned
returns-in-Refused-clause-scanned c =
    let a = c.args in
    let at = c.loop-slot in
    leaf_refused a.core.now.schema a.clock a.query a.leaf at.slot a.slots a.core.now.machine c.in-Refused.why at.core.machine c.take_step.new.core.machine (omega arith)
    at.invariant.0
    (subst (λ (s : List Table). Takes s at.core.machine (step.Scan a.query a.leaf at.slot a.clock) (Refused c.in-Refused.why) c.take_step.new.core.machine) at.invariant.1 c.in-Refused.ensures.taken)
