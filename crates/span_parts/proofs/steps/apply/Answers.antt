use Rattle.std.proofs.Common.{refl, sym, subst}
use Rattle.span_shard.specs.Shard.{IsLaterCommit}
use Rattle.span_parts.specs.Whole.{IsWhole}
use Rattle.span_parts.proofs.Changes.{all_some, of_some, shard_there}
use Rattle.span_parts.proofs.Applying.{later_applied, whole_applied}
use Rattle.span_parts.proofs.steps.apply.Goals as goal

pub apply_at-requires-clause-later : goal.apply_at-requires-clause-later
apply_at-requires-clause-later c =
    let a = c.args in
    all_some (IsLaterCommit a.txn c.in-Ok.committed) _ (λ before there.
    later_applied a.schema.now a.journal.now a.shards.now.items c.requires a.slot before there a.owner a.txn a.interval c.in-Ok.committed _ c.in-Ok.ensures.ok)

pub returns-in-Ok-clause-whole : goal.returns-in-Ok-clause-whole
returns-in-Ok-clause-whole c =
    let a = c.args in
    let d = c.in-Ok.ensures.ok in
    let k = c.note_applied.new.self in
    let there = shard_there a.schema.now a.journal.now a.shards.now.items c.requires a.slot d.slot_state d.here in
    let put = of_some _ _ there.0 there.1 c.apply_at.ensures in
    subst (IsWhole a.schema.now k) (sym put)
    (whole_applied a.schema.now a.journal.now a.shards.now.items c.requires a.slot there.0 there.1 a.owner a.txn a.interval c.in-Ok.committed _ d k refl c.in-Ok.ensures.pieces)
