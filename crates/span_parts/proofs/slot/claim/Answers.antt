use Rattle.std.proofs.lemmas.Result.{IfErr-weaker}
use Rattle.span_parts.proofs.AtSlot.{unclaimed_answer, claimed_goes}
use Rattle.span_machine.specs.Pieces.{machine_of}
use Rattle.span_parts.proofs.slot.claim.Goals as goal

pub returns-clause-refused : goal.returns-clause-refused
returns-clause-refused c =
    let a = c.args in
    let k = c.claim_gap.new.self in
    IfErr-weaker c.claim_gap.result _ _ (λ why is. unclaimed_answer (machine_of a.journal.now) a.query a.leaf a.slot a.interval why (machine_of k) is) c.claim_gap.ensures.refused

pub returns-clause-whole : goal.returns-clause-whole
returns-clause-whole c =
    let a = c.args in
    claimed_goes a.schema.now a.journal.now c.claim_gap.new.self a.query a.leaf a.slot a.interval c.claim_gap.result c.claim_gap.ensures.refused c.claim_gap.ensures.ok c.claim_gap.ensures.pieces
