use Rattle.std.proofs.Common.{◌∙◌, sym, ap, subst, inl, inr}
use Rattle.span_machine.specs.declared.step.Reply.TheVariants as reply_of
use Rattle.span_machine.specs.Machine.{Machine, Answers, IsAnswer, scan}
use Rattle.span_machine.specs.Pieces.{Journaled, machine_of}
use Rattle.span_journal.specs.Judged.{IsGap, MayScan}
use Rattle.span_parts.specs.Whole.{IsReadFor}
use Rattle.span_parts.proofs.AtSlot.{unclaimed_answer, unclaimed_goes, unregistered_is, unregistered_same, registered_whole}
use Rattle.span_parts.proofs.Scanning.{scanned_answer}
use Rattle.span_parts.proofs.Wholes.{goes_same}
use Rattle.span_parts.proofs.slot.register.Goals as goal

pub returns-in-Ok-clause-scanned : goal.returns-in-Ok-clause-scanned
returns-in-Ok-clause-scanned c = λ is.
    let a = c.args in
    let gap = c.in-Ok-Some.again in
    let k = c.claim_gap.new.self in
    let same = c.in-Ok-Some.ensures.ok in
    let may = subst (IsGap (machine_of a.journal.now) a.query a.leaf a.slot a.interval) c.in-Ok-Some.field-0-is c.in-Ok-Some.ensures.gap in
    let may_then = subst (λ (m : Machine). MayScan m a.query a.leaf a.slot a.interval gap.range gap.s) (sym same) may in
    let here = c.requires.belongs in
    let w = goes_same a.schema.now a.journal.now k same c.in-Ok-Some.ensures.pieces here.0 here.1 in
    subst (λ (m : Machine). IsAnswer (scan m a.query a.leaf a.slot a.interval) reply_of.Scanned (machine_of c.register.new.self)) same
    (scanned_answer a.schema.now k here.0 w a.query a.leaf a.slot a.interval gap.range gap.s may_then _ c.register.new.self c.in-Ok.ensures.ok)

pub returns-in-Ok-clause-whole : goal.returns-in-Ok-clause-whole
returns-in-Ok-clause-whole c = λ shards w there.
    let a = c.args in
    let gap = c.in-Ok-Some.again in
    let k = c.claim_gap.new.self in
    let same = c.in-Ok-Some.ensures.ok in
    let may = subst (IsGap (machine_of a.journal.now) a.query a.leaf a.slot a.interval) c.in-Ok-Some.field-0-is c.in-Ok-Some.ensures.gap in
    let may_then = subst (λ (m : Machine). MayScan m a.query a.leaf a.slot a.interval gap.range gap.s) (sym same) may in
    let w_then = goes_same a.schema.now a.journal.now k same c.in-Ok-Some.ensures.pieces shards w in
    let one = c.are_same.ensures (c.if-not-are_same.false) in
    let read = subst (λ (m : Machine). IsReadFor a.schema.now m a.query a.leaf a.shard.now a.gap.now.range a.gap.now.s a.piece) (sym same) c.requires.read in
    registered_whole a.schema.now k a.query a.leaf a.slot a.interval gap.range gap.s may_then a.gap.now.range a.gap.now.s a.piece one.0 one.1 c.register.new.self c.in-Ok.ensures.ok a.shard.now read shards w_then there

pub returns-in-Err-clause-refused : goal.returns-in-Err-clause-refused
returns-in-Err-clause-refused c =
    let a = c.args in
    unclaimed_answer (machine_of a.journal.now) a.query a.leaf a.slot a.interval c.in-Err.why (machine_of c.claim_gap.new.self) c.in-Err.ensures.refused

pub returns-in-Err-clause-whole : goal.returns-in-Err-clause-whole
returns-in-Err-clause-whole c = λ shards w there.
    let a = c.args in
    unclaimed_goes a.schema.now a.journal.now c.claim_gap.new.self a.query a.leaf a.slot a.interval c.in-Err.why c.in-Err.ensures.refused c.in-Err.ensures.pieces shards w

pub returns-in-Err-register-clause-refused : goal.returns-in-Err-register-clause-refused
returns-in-Err-register-clause-refused c =
    let a = c.args in
    let gap = c.in-Ok-Some.again in
    let k = c.claim_gap.new.self in
    let same = c.in-Ok-Some.ensures.ok in
    let may = subst (IsGap (machine_of a.journal.now) a.query a.leaf a.slot a.interval) c.in-Ok-Some.field-0-is c.in-Ok-Some.ensures.gap in
    let may_then = subst (λ (m : Machine). MayScan m a.query a.leaf a.slot a.interval gap.range gap.s) (sym same) may in
    let why = c.in-Err-register.why in
    let unregistered = c.in-Err-register.ensures.why in
    let stays = unregistered_same a.schema.now k a.query a.leaf a.slot a.interval gap.range gap.s may_then why c.register.new.self unregistered c.in-Err-register.ensures.err in
    inr (ap reply_of.Refused (unregistered_is a.schema.now k a.query a.leaf a.slot a.interval gap.range gap.s may_then why unregistered), ap machine_of stays ∙ same)

pub returns-in-Err-register-clause-whole : goal.returns-in-Err-register-clause-whole
returns-in-Err-register-clause-whole c = λ shards w there.
    let a = c.args in
    let gap = c.in-Ok-Some.again in
    let k = c.claim_gap.new.self in
    let same = c.in-Ok-Some.ensures.ok in
    let may = subst (IsGap (machine_of a.journal.now) a.query a.leaf a.slot a.interval) c.in-Ok-Some.field-0-is c.in-Ok-Some.ensures.gap in
    let may_then = subst (λ (m : Machine). MayScan m a.query a.leaf a.slot a.interval gap.range gap.s) (sym same) may in
    let stays = unregistered_same a.schema.now k a.query a.leaf a.slot a.interval gap.range gap.s may_then c.in-Err-register.why c.register.new.self c.in-Err-register.ensures.why c.in-Err-register.ensures.err in
    goes_same a.schema.now a.journal.now c.register.new.self (ap machine_of stays ∙ same) (ap (λ (l : Journaled). l.queries) stays ∙ c.in-Ok-Some.ensures.pieces) shards w

pub returns-then-not-are_same-clause-whole : goal.returns-then-not-are_same-clause-whole
returns-then-not-are_same-clause-whole c = λ shards w there. goes_same c.args.schema.now c.args.journal.now c.claim_gap.new.self c.in-Ok-Some.ensures.ok c.in-Ok-Some.ensures.pieces shards w

pub returns-in-Ok-None-clause-whole : goal.returns-in-Ok-None-clause-whole
returns-in-Ok-None-clause-whole c = λ shards w there. goes_same c.args.schema.now c.args.journal.now c.claim_gap.new.self c.in-Ok-None.ensures.ok c.in-Ok-None.ensures.pieces shards w
