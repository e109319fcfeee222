use Rattle.std.proofs.Common.{None, inl, sym, ap, ◌∙◌, subst}
use Rattle.std.specs.Prelude.{slice_get, slice_set}
use Rattle.span_shard.specs.Shard.{with_writes, applied}
use Rattle.span_parts.specs.Whole.{Shards, IsWhole}
use Rattle.span_parts.proofs.Changes.{of_some, set_there, set_twice, set_again}
use Rattle.span_parts.proofs.Preparing.{noted_answer, noted_whole, unnoted_answer, taken_back}
use Rattle.span_parts.proofs.Wholes.{goes_same}
use Rattle.span_parts.proofs.steps.note_prepared.Goals as goal

pub returns-in-Ok-clause-step : goal.returns-in-Ok-clause-step
returns-in-Ok-clause-step c =
    let a = c.args in
    let before = c.requires.0 in
    let w = c.requires.1 in
    let r = c.requires.2 in
    inl (noted_answer a.schema.now a.journal.now before w a.owner a.txn a.slot r.mutations r.may r.before r.here r.writes r.are.changes r.few c.in-Ok.timestamp _ c.in-Ok.ensures.ok)

pub returns-in-Ok-clause-whole : goal.returns-in-Ok-clause-whole
returns-in-Ok-clause-whole c =
    let a = c.args in
    let k = c.note_prepared.new.self in
    let before = c.requires.0 in
    let w = c.requires.1 in
    let r = c.requires.2 in
    subst (IsWhole a.schema.now k) (sym r.put)
    (noted_whole a.schema.now a.journal.now before w a.owner a.txn a.slot r.mutations r.may r.before r.here r.writes r.are.changes r.few c.in-Ok.timestamp k c.in-Ok.ensures.ok c.in-Ok.ensures.pieces)

pub returns-in-Err-clause-step : goal.returns-in-Err-clause-step
returns-in-Err-clause-step c =
    let a = c.args in
    let before = c.requires.0 in
    let w = c.requires.1 in
    let r = c.requires.2 in
    let answer = unnoted_answer a.schema.now a.journal.now before w a.owner a.txn a.slot r.mutations r.may r.before r.here r.writes r.are.changes r.few c.in-Err.why c.in-Err.ensures.why in
    inl (answer.0, c.in-Err.ensures.err ∙ answer.1)

-- the writes are taken back
pub returns-in-Err-clause-whole : goal.returns-in-Err-clause-whole
returns-in-Err-clause-whole c =
    let a = c.args in
    let k = c.note_prepared.new.self in
    let before = c.requires.0 in
    let w = c.requires.1 in
    let r = c.requires.2 in
    let written = with_writes a.txn r.writes r.before in
    let there = ap (λ (l : Shards). slice_get l a.slot) r.put ∙ set_there before a.slot r.before written r.here in
    let back =
    of_some _ _ written there c.apply_at.ensures
    ∙ ap (λ (l : Shards). slice_set l a.slot (applied a.txn None written)) r.put
    ∙ set_twice before a.slot written (applied a.txn None written)
    ∙ ap (slice_set before a.slot) (taken_back a.schema.now a.journal.now before w a.owner a.txn a.slot r.mutations r.may r.before r.here r.writes r.are.touched)
    ∙ set_again before a.slot r.before r.here in
    subst (IsWhole a.schema.now k) (sym back) (goes_same a.schema.now a.journal.now k c.in-Err.ensures.err c.in-Err.ensures.pieces before w)
