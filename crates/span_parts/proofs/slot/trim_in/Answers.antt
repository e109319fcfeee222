use Rattle.std.proofs.Common.{◌≡◌, List, sym, ap, ◌∙◌, refl, subst}
use Rattle.std.specs.Prelude.{slice_set}
use Rattle.span_shard.specs.KeyVersions.{KeyVersions}
use Rattle.span_shard.specs.Shard.{live}
use Rattle.span_machine.specs.declared.step.Reply.TheVariants as reply_of
use Rattle.span_parts.specs.Whole.{IsWhole}
use Rattle.span_parts.proofs.Changes.{set_again}
use Rattle.span_parts.proofs.Applying.{trimmed_answer, whole_trimmed}
use Rattle.span_parts.proofs.Wholes.{goes_same}
use Rattle.span_parts.proofs.slot.trim_in.Goals as goal

pub returns-in-Ok-clause-step : goal.returns-in-Ok-clause-step
returns-in-Ok-clause-step c =
    let a = c.args in
    let answer = trimmed_answer a.schema.now a.journal.now c.requires.0 c.requires.1 a.slot a.shard.now c.requires.2 a.h _ c.in-Ok.ensures.ok in
    (ap reply_of.Trimmed (c.live.ensures ∙ ap live c.trim.ensures) ∙ answer.0, answer.1)

pub returns-in-Ok-clause-whole : goal.returns-in-Ok-clause-whole
returns-in-Ok-clause-whole c = λ shards w there.
    let a = c.args in
    let k = c.raise_horizon.new.self in
    subst (λ (cs : List KeyVersions). IsWhole a.schema.now k (slice_set shards a.slot cs)) (sym c.trim.ensures)
    (whole_trimmed a.schema.now a.journal.now shards w a.slot a.shard.now there a.h _ c.in-Ok.ensures.ok k refl c.in-Ok.ensures.pieces)

pub returns-in-Err-clause-whole : goal.returns-in-Err-clause-whole
returns-in-Err-clause-whole c = λ shards w there.
    let a = c.args in
    let k = c.raise_horizon.new.self in
    subst (IsWhole a.schema.now k) (sym (set_again shards a.slot a.shard.now there))
    (goes_same a.schema.now a.journal.now k c.in-Err.ensures.err c.in-Err.ensures.pieces shards w)
