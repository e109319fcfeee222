use Rattle.std.proofs.Common.{sym, ap, ◌∙◌, subst}
use Rattle.std.specs.Prelude.{slice_set}
use Rattle.span_parts.specs.Whole.{IsWhole}
use Rattle.span_parts.proofs.Changes.{set_again}
use Rattle.span_parts.proofs.slot.prepare_in.Goals as goal

pub note_in-requires : goal.note_in-requires
note_in-requires c = (c.args.shard.now, c.requires, c.in-Ok.ensures.written)

pub returns-in-Ok-clause-whole : goal.returns-in-Ok-clause-whole
returns-in-Ok-clause-whole c = c.note_in.ensures.whole c.args.shard.now c.in-Ok.ensures.written

pub returns-in-Err-clause-whole : goal.returns-in-Err-clause-whole
returns-in-Err-clause-whole c = λ shards w there.
    let a = c.args in
    subst (IsWhole a.schema.now a.journal.now) (sym (ap (slice_set shards a.slot) c.in-Err.ensures.err ∙ set_again shards a.slot a.shard.now there)) w
