use Rattle.std.proofs.Common.{◌≡◌, List, sym, ap, ◌∙◌, refl, subst}
use Rattle.std.specs.Prelude.{slice_set}
use Rattle.span_shard.specs.KeyVersions.{KeyVersions}
use Rattle.span_parts.specs.Whole.{IsWhole}
use Rattle.span_parts.proofs.Changes.{set_again}
use Rattle.span_parts.proofs.Applying.{later_applied, whole_applied}
use Rattle.span_parts.proofs.Wholes.{goes_same}
use Rattle.span_parts.proofs.slot.apply_in.Goals as goal

pub apply-requires : goal.apply-requires
apply-requires c =
    let a = c.args in
    later_applied a.schema.now a.journal.now c.requires.0 c.requires.1 a.slot a.shard.now c.requires.2 a.owner a.txn a.interval c.in-Ok.committed _ c.in-Ok.ensures.ok

pub returns-in-Ok-clause-whole : goal.returns-in-Ok-clause-whole
returns-in-Ok-clause-whole c = λ shards w there.
    let a = c.args in
    let k = c.note_applied.new.self in
    subst (λ (cs : List KeyVersions). IsWhole a.schema.now k (slice_set shards a.slot cs)) (sym c.apply.ensures)
    (whole_applied a.schema.now a.journal.now shards w a.slot a.shard.now there a.owner a.txn a.interval c.in-Ok.committed _ c.in-Ok.ensures.ok k refl c.in-Ok.ensures.pieces)

pub returns-in-Err-clause-whole : goal.returns-in-Err-clause-whole
returns-in-Err-clause-whole c = λ shards w there.
    let a = c.args in
    let k = c.note_applied.new.self in
    subst (IsWhole a.schema.now k) (sym (set_again shards a.slot a.shard.now there))
    (goes_same a.schema.now a.journal.now k c.in-Err.ensures.err c.in-Err.ensures.pieces shards w)
