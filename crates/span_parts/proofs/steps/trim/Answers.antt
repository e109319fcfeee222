use Rattle.std.proofs.Common.{ap, sym, ◌∙◌, refl, subst}
use Rattle.span_machine.specs.declared.step.Reply.TheVariants as reply_of
use Rattle.span_parts.specs.Whole.{IsWhole}
use Rattle.span_parts.proofs.Changes.{of_some, shard_there}
use Rattle.span_parts.proofs.Applying.{trimmed_answer, whole_trimmed}
use Rattle.span_parts.proofs.steps.trim.Goals as goal

pub returns-in-Ok-clause-step : goal.returns-in-Ok-clause-step
returns-in-Ok-clause-step c =
    let a = c.args in
    let d = c.in-Ok.ensures.ok in
    let there = shard_there a.schema.now a.journal.now a.shards.now.items c.requires a.slot d.slot_state d.here in
    let cut = of_some _ _ there.0 there.1 c.trim_at.ensures in
    let answer = trimmed_answer a.schema.now a.journal.now a.shards.now.items c.requires a.slot there.0 there.1 a.h _ d in
    (ap reply_of.Trimmed cut.1 ∙ answer.0, answer.1)

pub returns-in-Ok-clause-whole : goal.returns-in-Ok-clause-whole
returns-in-Ok-clause-whole c =
    let a = c.args in
    let d = c.in-Ok.ensures.ok in
    let k = c.raise_horizon.new.self in
    let there = shard_there a.schema.now a.journal.now a.shards.now.items c.requires a.slot d.slot_state d.here in
    let cut = of_some _ _ there.0 there.1 c.trim_at.ensures in
    subst (IsWhole a.schema.now k) (sym cut.0)
    (whole_trimmed a.schema.now a.journal.now a.shards.now.items c.requires a.slot there.0 there.1 a.h _ d k refl c.in-Ok.ensures.pieces)
