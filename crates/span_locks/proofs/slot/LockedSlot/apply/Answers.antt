use Rattle.std.proofs.Common.{ap, ◌∙◌, subst, inl}
use Rattle.span_machine.specs.Machine.{apply_step}
use Rattle.span_machine.specs.declared.step.Reply.TheVariants as reply
use Rattle.span_parts.specs.Replies.{as_reply}
use Rattle.span_machine.specs.declared.step.Step.TheVariants as step
use Rattle.span_machine.specs.Pieces.{machine_of}
use Rattle.span_parts.proofs.Passing.{passed}
use Rattle.span_parts.proofs.Wholes.{no_text}
use Rattle.span_locks.specs.Held.{IsUnderstoodAs}
use Rattle.span_board.specs.Rule.{SlotVersions}
use Rattle.span_locks.proofs.Held.{slot_belongs, keeper_restated}
use Rattle.span_locks.proofs.Restating.{slot_known, holder_restated, known_restated}
use Rattle.span_board.proofs.Meets.{holder_shape, keeper_shape}
use Rattle.span_locks.specs.Replies.{Replies, at_slot}
use Rattle.span_locks.proofs.Replying.{used_replies}
use Rattle.span_locks.proofs.slot.LockedSlot.apply.Goals as goal

pub agree-keeper-requires-clause-tables : goal.agree-keeper-requires-clause-tables
agree-keeper-requires-clause-tables g c = (c.self.invariant.0, ap (λ b. b.table_id) c.replace-keeper.ensures.value ∙ c.journal.invariant.at)

pub agree-keeper-requires-clause-holder : goal.agree-keeper-requires-clause-holder
agree-keeper-requires-clause-holder g c = holder_shape c.self.inside.seat.me c.self.inside.number c.self.inside.shard c.self.invariant.1

pub agree-keeper-requires-clause-keeper : goal.agree-keeper-requires-clause-keeper
agree-keeper-requires-clause-keeper g c = keeper_shape c.journal.inside.badge.views _ (ap (λ b. b.views) c.replace-keeper.ensures.value) c.journal.invariant.knows

pub apply_in-applied-requires : goal.apply_in-applied-requires
apply_in-applied-requires g c =
    let me = c.self.inside in
    let j = c.journal.inside in
    let schema = g.J.Naming.schema in
    let board = c.args.board.now in
    let views = ap (λ b. b.views) c.replace-keeper.ensures.value in
    let is = slot_known me.seat.me me.number me.shard j.badge.views _ c.self.invariant.1 views c.agree-keeper.ensures.known.0 in
    let within = c.is_used.ensures.used c.if-not-is_used.false in
    slot_belongs schema board.schema g.J.Naming.table j.badge.table_id j.badge.views j.journal board.schema_is c.journal.invariant me.number me.shard within is

pub restate-keeper-requires-clause-tables : goal.restate-keeper-requires-clause-tables
restate-keeper-requires-clause-tables g c = (c.agree-keeper.ensures.tables.0, c.agree-keeper.ensures.tables.1)

pub restate-keeper-requires-clause-holder : goal.restate-keeper-requires-clause-holder
restate-keeper-requires-clause-holder g c = holder_shape c.agree-keeper.new.seat.me c.self.inside.number c.self.inside.shard (c.agree-keeper.ensures.holder ∙ c.self.invariant.1)

pub restate-keeper-requires-clause-keeper : goal.restate-keeper-requires-clause-keeper
restate-keeper-requires-clause-keeper g c = keeper_shape c.journal.inside.badge.views _ (c.agree-keeper.ensures.keeper ∙ ap (λ b. b.views) c.replace-keeper.ensures.value) c.journal.invariant.knows

pub invariant_of-self : goal.invariant_of-self
invariant_of-self g c = (c.restate-keeper.ensures.tables.0, holder_restated c.self.inside.seat.me c.agree-keeper.new.seat.me _ c.self.inside.number c.self.inside.shard c.replace-shard.result _ c.self.invariant.1 c.agree-keeper.ensures.holder c.restate-keeper.ensures.holder c.restate-keeper.ensures.shard)

pub invariant_of-journal : goal.invariant_of-journal
invariant_of-journal g c =
    let me = c.self.inside in
    let j = c.journal.inside in
    let schema = g.J.Naming.schema in
    let board = c.args.board.now in
    let views = ap (λ b. b.views) c.replace-keeper.ensures.value in
    let is = slot_known me.seat.me me.number me.shard j.badge.views _ c.self.invariant.1 views c.agree-keeper.ensures.known.0 in
    let within = c.is_used.ensures.used c.if-not-is_used.false in
    let after = known_restated me.seat.me c.agree-keeper.new.seat.me me.number me.shard c.replace-shard.result c.apply_in-applied.new.shard j.badge.views _ _ c.self.invariant.1 c.agree-keeper.ensures.holder (c.agree-keeper.ensures.keeper ∙ views) c.restate-keeper.ensures.keeper c.replace-shard.ensures.value in
    keeper_restated schema board.schema g.J.Naming.table j.badge.table_id j.badge.views j.journal board.schema_is c.journal.invariant me.number me.shard within is _ _ c.apply_in-applied.new.journal c.apply_in-applied.new.shard c.restate-keeper.ensures.tables.1 after
    (passed (IsUnderstoodAs schema) board.schema (machine_of j.journal) c.journal.invariant.asked no_text (step.Apply c.args.owner c.args.txn me.number c.args.interval) tt _ (machine_of c.apply_in-applied.new.journal) (inl c.apply_in-applied.ensures.step))
    c.apply_in-applied.ensures.whole

pub returns-clause-reply : goal.returns-clause-reply
returns-clause-reply g c =
    let me = c.self.inside in
    let j = c.journal.inside in
    let schema = g.J.Naming.schema in
    let within = c.is_used.ensures.used c.if-not-is_used.false in
    let r = as_reply (λ _. reply.Applied) c.apply_in-applied.result in
    subst (λ (s : SlotVersions). Replies schema c.args.journal.now (at_slot s.number (λ k. apply_step k c.args.owner c.args.txn s.number c.args.interval)) r) c.self.view_is
    (used_replies schema g.J.Naming.table j.badge.table_id j.badge.views j.journal c.journal.invariant c.args.journal.now c.journal.view_is me.number within (λ k. apply_step k c.args.owner c.args.txn me.number c.args.interval) r c.apply_in-applied.ensures.step.0)
