use Rattle.std.proofs.Common.{◌∙◌, sym, ap, subst, inl, inr}
use Rattle.std.specs.Prelude.{Ok, Err, Some}
use Rattle.std.proofs.lemmas.Option.{get_or_from_slice_get}
use Rattle.span_machine.specs.declared.step.Step.TheVariants as step
use Rattle.span_machine.specs.declared.step.Reply.TheVariants as reply_of
use Rattle.span_machine.specs.Machine.{Machine, Answer, Answers, scan}
use Rattle.span_machine.specs.Pieces.{machine_of}
use Rattle.span_journal.specs.Judged.{IsGap, MayScan}
use Rattle.span_parts.specs.Whole.{IsReadFor, IsUnread}
use Rattle.span_parts.proofs.Changes.{shard_there}
use Rattle.span_parts.proofs.Scanning.{of_leaf, scanned_leaf, scanned_tables, scanned_maskable, reads, scanned_answer, scanned_whole}
use Rattle.span_parts.proofs.Wholes.{no_text, goes_same, goes_by, pieces_same}
use Rattle.span_parts.proofs.steps.scan.Goals as goal

pub read_gap-requires-clause-tables : goal.read_gap-requires-clause-tables
read_gap-requires-clause-tables c =
    let a = c.args in
    let gap = c.in-Ok-Some.gap in
    let k = c.claim_gap.new.self in
    let same = c.in-Ok-Some.ensures.ok in
    let may = subst (IsGap (machine_of a.journal.now) a.query a.leaf a.slot a.interval) c.in-Ok-Some.field-0-is c.in-Ok-Some.ensures.gap in
    let may_then = subst (λ (m : Machine). MayScan m a.query a.leaf a.slot a.interval gap.range gap.s) (sym same) may in
    let w = goes_same a.schema.now a.journal.now k same c.in-Ok-Some.ensures.pieces a.shards.now c.requires in
    scanned_tables a.schema.now k a.shards.now w a.query a.leaf a.slot a.interval gap.range gap.s may_then

pub read_gap-requires-clause-maskable : goal.read_gap-requires-clause-maskable
read_gap-requires-clause-maskable c =
    let a = c.args in
    let gap = c.in-Ok-Some.gap in
    let k = c.claim_gap.new.self in
    let same = c.in-Ok-Some.ensures.ok in
    let may = subst (IsGap (machine_of a.journal.now) a.query a.leaf a.slot a.interval) c.in-Ok-Some.field-0-is c.in-Ok-Some.ensures.gap in
    let may_then = subst (λ (m : Machine). MayScan m a.query a.leaf a.slot a.interval gap.range gap.s) (sym same) may in
    let w = goes_same a.schema.now a.journal.now k same c.in-Ok-Some.ensures.pieces a.shards.now c.requires in
    scanned_maskable a.schema.now k a.shards.now w a.query a.leaf a.slot a.interval gap.range gap.s may_then

pub returns-in-Ok-register-clause-step : goal.returns-in-Ok-register-clause-step
returns-in-Ok-register-clause-step c =
    let a = c.args in
    let gap = c.in-Ok-Some.gap in
    let k = c.claim_gap.new.self in
    let same = c.in-Ok-Some.ensures.ok in
    let may = subst (IsGap (machine_of a.journal.now) a.query a.leaf a.slot a.interval) c.in-Ok-Some.field-0-is c.in-Ok-Some.ensures.gap in
    let may_then = subst (λ (m : Machine). MayScan m a.query a.leaf a.slot a.interval gap.range gap.s) (sym same) may in
    let w = goes_same a.schema.now a.journal.now k same c.in-Ok-Some.ensures.pieces a.shards.now c.requires in
    subst (λ (m : Machine). Answers m (scan m a.query a.leaf a.slot a.interval) reply_of.Scanned (machine_of c.register.new.self)) same
    (inl (scanned_answer a.schema.now k a.shards.now w a.query a.leaf a.slot a.interval gap.range gap.s may_then _ c.register.new.self c.in-Ok-register.ensures.ok))

pub returns-in-Ok-register-clause-whole : goal.returns-in-Ok-register-clause-whole
returns-in-Ok-register-clause-whole c =
    let a = c.args in
    let gap = c.in-Ok-Some.gap in
    let k = c.claim_gap.new.self in
    let same = c.in-Ok-Some.ensures.ok in
    let may = subst (IsGap (machine_of a.journal.now) a.query a.leaf a.slot a.interval) c.in-Ok-Some.field-0-is c.in-Ok-Some.ensures.gap in
    let may_then = subst (λ (m : Machine). MayScan m a.query a.leaf a.slot a.interval gap.range gap.s) (sym same) may in
    let w = goes_same a.schema.now a.journal.now k same c.in-Ok-Some.ensures.pieces a.shards.now c.requires in
    let found = shard_there a.schema.now a.journal.now a.shards.now c.requires a.slot may.slot_state may.here in
    let there = found.1 ∙ ap (λ x. Some x) (sym (c.index-shards-slot.is ∙ get_or_from_slice_get a.shards.now a.slot found.0 c.index-shards-slot.result found.1)) in
    let read = of_leaf (λ _. IsReadFor a.schema.now (machine_of k) a.query a.leaf c.index-shards-slot.result gap.range gap.s c.in-Ok.piece) (Ok c.in-Ok.piece) _ _ (scanned_leaf a.schema.now k a.shards.now w a.query a.leaf a.slot a.interval gap.range gap.s may_then) c.in-Ok.ensures in
    scanned_whole a.schema.now k a.shards.now w a.query a.leaf a.slot a.interval gap.range gap.s may_then _ c.register.new.self c.in-Ok-register.ensures.ok c.index-shards-slot.result there read

pub returns-in-Err-read_gap-clause-step : goal.returns-in-Err-read_gap-clause-step
returns-in-Err-read_gap-clause-step c =
    let a = c.args in
    let gap = c.in-Ok-Some.gap in
    let k = c.claim_gap.new.self in
    let same = c.in-Ok-Some.ensures.ok in
    let may = subst (IsGap (machine_of a.journal.now) a.query a.leaf a.slot a.interval) c.in-Ok-Some.field-0-is c.in-Ok-Some.ensures.gap in
    let may_then = subst (λ (m : Machine). MayScan m a.query a.leaf a.slot a.interval gap.range gap.s) (sym same) may in
    let w = goes_same a.schema.now a.journal.now k same c.in-Ok-Some.ensures.pieces a.shards.now c.requires in
    let found = shard_there a.schema.now a.journal.now a.shards.now c.requires a.slot may.slot_state may.here in
    let there = found.1 ∙ ap (λ x. Some x) (sym (c.index-shards-slot.is ∙ get_or_from_slice_get a.shards.now a.slot found.0 c.index-shards-slot.result found.1)) in
    let unread = of_leaf (λ _. IsUnread a.schema.now c.index-shards-slot.result gap.range gap.s c.in-Err-read_gap.why) (Err c.in-Err-read_gap.why) _ _ (scanned_leaf a.schema.now k a.shards.now w a.query a.leaf a.slot a.interval gap.range gap.s may_then) c.in-Err-read_gap.ensures in
    let memory = reads a.schema.now a.journal.now a.shards.now c.requires a.query a.leaf a.slot a.interval gap.range gap.s may c.index-shards-slot.result there c.in-Err-read_gap.why unread in
    inr (ap reply_of.Refused memory, same)

pub returns-in-Err-clause-whole : goal.returns-in-Err-clause-whole
returns-in-Err-clause-whole c =
    let a = c.args in
    let k = c.claim_gap.new.self in
    elim c.in-Err.ensures.refused [
      | inl memory ↦ goes_same a.schema.now a.journal.now k memory.1 c.in-Err.ensures.pieces a.shards.now c.requires
      | inr is ↦
          goes_by a.schema.now a.journal.now k no_text (step.Scan a.query a.leaf a.slot a.interval) tt (reply_of.Refused c.in-Err.why)
          (inl (sym (ap (λ (x : Answer). x.0) is), sym (ap (λ (x : Answer). x.1) is))) tt (pieces_same a.schema.now a.journal.now.queries k.queries c.in-Err.ensures.pieces) a.shards.now c.requires
    ]
