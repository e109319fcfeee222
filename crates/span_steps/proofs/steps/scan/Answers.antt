use Rattle.std.proofs.Common.{◌∙◌, ℕ, List, length, subst, arith}
use Rattle.span_schema.specs.declared.table.Table.{Table}
use Rattle.span_steps.specs.Steps.{AreTaken, AreRefused, scans_of_leaf}
use Rattle.span_steps.proofs.Scans.{leaves_more, leaves_refused}
use Rattle.span_steps.proofs.steps.scan.Goals as goal

pub loop-leaf-preserved : goal.loop-leaf-preserved
loop-leaf-preserved c =
    let a = c.args in
    let at = c.loop-leaf in
    let slots : ℕ = length a.core.now.machine.slots in (
      leaves_more a.core.now.schema a.clock a.query slots at.leaf a.core.now.machine at.core.machine c.scan_leaf.new.core.machine at.invariant.0
          (subst (λ (s : List Table). AreTaken s at.core.machine (scans_of_leaf a.clock a.query slots at.leaf) c.scan_leaf.new.core.machine) at.invariant.1
          (subst (λ (n : ℕ). AreTaken at.core.schema at.core.machine (scans_of_leaf a.clock a.query n at.leaf) c.scan_leaf.new.core.machine) at.invariant.2 c.in-Ok.ensures.scanned)),
      c.scan_leaf.ensures.schema ∙ at.invariant.1,
      at.invariant.2,
    )

pub returns-in-Err-clause-scanned : goal.returns-in-Err-clause-scanned
returns-in-Err-clause-scanned c =
    let a = c.args in
    let at = c.loop-leaf in
    let slots : ℕ = length a.core.now.machine.slots in
    leaves_refused a.core.now.schema a.clock a.query slots at.leaf a.leaves a.core.now.machine c.in-Err.why at.core.machine c.scan_leaf.new.core.machine (omega arith) at.invariant.0
    (subst (λ (s : List Table). AreRefused s at.core.machine (scans_of_leaf a.clock a.query slots at.leaf) c.in-Err.why c.scan_leaf.new.core.machine) at.invariant.1
    (subst (λ (n : ℕ). AreRefused at.core.schema at.core.machine (scans_of_leaf a.clock a.query n at.leaf) c.in-Err.why c.scan_leaf.new.core.machine) at.invariant.2 c.in-Err.ensures.scanned))
