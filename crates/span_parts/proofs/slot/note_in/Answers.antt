use Rattle.std.proofs.Common.{◌≡◌, List, None, inl, sym, ap, ◌∙◌, subst}
use Rattle.std.specs.Prelude.{slice_set}
use Rattle.span_shard.specs.KeyVersions.{KeyVersions}
use Rattle.span_shard.specs.Shard.{applied}
use Rattle.span_parts.specs.Whole.{IsWhole}
use Rattle.span_parts.proofs.Changes.{set_again}
use Rattle.span_parts.proofs.Preparing.{noted_answer, noted_whole, unnoted_answer, taken_back}
use Rattle.span_parts.proofs.Wholes.{goes_same}
use Rattle.span_parts.proofs.slot.note_in.Goals as goal

pub returns-in-Ok-clause-step : goal.returns-in-Ok-clause-step
returns-in-Ok-clause-step c =
    let a = c.args in
    let before = c.requires.0 in
    let here = c.requires.1 in
    let r = c.requires.2 in
    inl (noted_answer a.schema.now a.journal.now here.0 here.1 a.owner a.txn a.slot r.mutations r.may before here.2 r.writes r.are.changes r.few c.in-Ok.timestamp _ c.in-Ok.ensures.ok)

pub returns-in-Ok-clause-whole : goal.returns-in-Ok-clause-whole
returns-in-Ok-clause-whole c = λ before r shards w there.
    let a = c.args in
    let k = c.note_prepared.new.self in
    subst (λ (cs : List KeyVersions). IsWhole a.schema.now k (slice_set shards a.slot cs)) (sym r.put)
    (noted_whole a.schema.now a.journal.now shards w a.owner a.txn a.slot r.mutations r.may before there r.writes r.are.changes r.few c.in-Ok.timestamp k c.in-Ok.ensures.ok c.in-Ok.ensures.pieces)

pub returns-in-Err-clause-step : goal.returns-in-Err-clause-step
returns-in-Err-clause-step c =
    let a = c.args in
    let before = c.requires.0 in
    let here = c.requires.1 in
    let r = c.requires.2 in
    let answer = unnoted_answer a.schema.now a.journal.now here.0 here.1 a.owner a.txn a.slot r.mutations r.may before here.2 r.writes r.are.changes r.few c.in-Err.why c.in-Err.ensures.why in
    inl (answer.0, c.in-Err.ensures.err ∙ answer.1)

-- the writes are taken back
pub returns-in-Err-clause-whole : goal.returns-in-Err-clause-whole
returns-in-Err-clause-whole c = λ before r shards w there.
    let a = c.args in
    let k = c.note_prepared.new.self in
    let back =
    c.apply.ensures ∙ ap (applied a.txn None) r.put
    ∙ taken_back a.schema.now a.journal.now shards w a.owner a.txn a.slot r.mutations r.may before there r.writes r.are.touched in
    subst (IsWhole a.schema.now k) (sym (ap (slice_set shards a.slot) back ∙ set_again shards a.slot before there))
    (goes_same a.schema.now a.journal.now k c.in-Err.ensures.err c.in-Err.ensures.pieces shards w)
