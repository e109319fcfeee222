use Rattle.std.proofs.Common.{◌≡◌, ◌⊎◌, List, ap, ◌∙◌, subst}
use Rattle.span_value.specs.declared.refusal.Refusal.TheVariants.{OutOfMemory}
use Rattle.span_schema.specs.declared.table.Table.{Table}
use Rattle.span_machine.specs.Machine.{prepare}
use Rattle.span_machine.specs.declared.step.Reply.TheVariants as reply
use Rattle.span_parts.specs.Replies.{as_reply}
use Rattle.span_machine.specs.declared.step.Step.TheVariants as step
use Rattle.span_machine.specs.Pieces.{machine_of}
use Rattle.span_parts.proofs.Passing.{passed}
use Rattle.span_parts.proofs.Wholes.{no_text}
use Rattle.span_locks.specs.Held.{IsUnderstoodAs}
use Rattle.span_board.specs.Rule.{SlotVersions}
use Rattle.span_locks.proofs.Held.{slot_belongs, keeper_restated}
use Rattle.span_locks.proofs.Restating.{slot_known, holder_restated, known_restated}
use Rattle.span_board.proofs.Meets.{holder_shape, keeper_shape}
use Rattle.span_locks.specs.Replies.{MayReply, at_slot}
use Rattle.span_locks.proofs.Replying.{answers_may, used_may_reply}
use Rattle.span_locks.proofs.slot.LockedSlot.prepare.Goals as goal

pub agree-keeper-requires-clause-tables : goal.agree-keeper-requires-clause-tables
agree-keeper-requires-clause-tables g c = (c.self.invariant.0, ap (λ b. b.table_id) c.replace-keeper.ensures.value ∙ c.journal.invariant.at)

pub agree-keeper-requires-clause-holder : goal.agree-keeper-requires-clause-holder
agree-keeper-requires-clause-holder g c = holder_shape c.self.inside.seat.me c.self.inside.number c.self.inside.shard c.self.invariant.1

pub agree-keeper-requires-clause-keeper : goal.agree-keeper-requires-clause-keeper
agree-keeper-requires-clause-keeper g c = keeper_shape c.journal.inside.badge.views _ (ap (λ b. b.views) c.replace-keeper.ensures.value) c.journal.invariant.knows

pub prepare_in-prepared-requires : goal.prepare_in-prepared-requires
prepare_in-prepared-requires g c =
    let me = c.self.inside in
    let j = c.journal.inside in
    let schema = g.J.Naming.schema in
    let board = c.args.board.now in
    let views = ap (λ b. b.views) c.replace-keeper.ensures.value in
    let is = slot_known me.seat.me me.number me.shard j.badge.views _ c.self.invariant.1 views c.agree-keeper.ensures.known.0 in
    let within = c.is_used.ensures.used c.if-not-is_used.false in
    slot_belongs schema board.schema g.J.Naming.table j.badge.table_id j.badge.views j.journal board.schema_is c.journal.invariant me.number me.shard within is

pub restate-keeper-requires-clause-tables : goal.restate-keeper-requires-clause-tables
restate-keeper-requires-clause-tables g c = (c.agree-keeper.ensures.tables.0, c.agree-keeper.ensures.tables.1)

pub restate-keeper-requires-clause-holder : goal.restate-keeper-requires-clause-holder
restate-keeper-requires-clause-holder g c = holder_shape c.agree-keeper.new.seat.me c.self.inside.number c.self.inside.shard (c.agree-keeper.ensures.holder ∙ c.self.invariant.1)

pub restate-keeper-requires-clause-keeper : goal.restate-keeper-requires-clause-keeper
restate-keeper-requires-clause-keeper g c = keeper_shape c.journal.inside.badge.views _ (c.agree-keeper.ensures.keeper ∙ ap (λ b. b.views) c.replace-keeper.ensures.value) c.journal.invariant.knows

pub invariant_of-self : goal.invariant_of-self
invariant_of-self g c = (c.restate-keeper.ensures.tables.0, holder_restated c.self.inside.seat.me c.agree-keeper.new.seat.me _ c.self.inside.number c.self.inside.shard c.replace-shard.result _ c.self.invariant.1 c.agree-keeper.ensures.holder c.restate-keeper.ensures.holder c.restate-keeper.ensures.shard)

pub invariant_of-journal : goal.invariant_of-journal
invariant_of-journal g c =
    let me = c.self.inside in
    let j = c.journal.inside in
    let schema = g.J.Naming.schema in
    let board = c.args.board.now in
    let views = ap (λ b. b.views) c.replace-keeper.ensures.value in
    let is = slot_known me.seat.me me.number me.shard j.badge.views _ c.self.invariant.1 views c.agree-keeper.ensures.known.0 in
    let within = c.is_used.ensures.used c.if-not-is_used.false in
    let after = known_restated me.seat.me c.agree-keeper.new.seat.me me.number me.shard c.replace-shard.result c.prepare_in-prepared.new.shard j.badge.views _ _ c.self.invariant.1 c.agree-keeper.ensures.holder (c.agree-keeper.ensures.keeper ∙ views) c.restate-keeper.ensures.keeper c.replace-shard.ensures.value in
    keeper_restated schema board.schema g.J.Naming.table j.badge.table_id j.badge.views j.journal board.schema_is c.journal.invariant me.number me.shard within is _ _ c.prepare_in-prepared.new.journal c.prepare_in-prepared.new.shard c.restate-keeper.ensures.tables.1 after
    (passed (IsUnderstoodAs schema) board.schema (machine_of j.journal) c.journal.invariant.asked no_text (step.Prepare c.args.owner c.args.txn me.number) tt _ (machine_of c.prepare_in-prepared.new.journal) c.prepare_in-prepared.ensures.step)
    c.prepare_in-prepared.ensures.whole

pub returns-clause-reply : goal.returns-clause-reply
returns-clause-reply g c =
    let me = c.self.inside in
    let j = c.journal.inside in
    let schema = g.J.Naming.schema in
    let board = c.args.board.now in
    let m = machine_of j.journal in
    let within = c.is_used.ensures.used c.if-not-is_used.false in
    let r = as_reply reply.Prepared c.prepare_in-prepared.result in
    let is =
    subst (λ (s : List Table). (r ≡ reply.Refused OutOfMemory) ⊎ (r ≡ (prepare s m c.args.owner c.args.txn me.number).0)) board.schema_is
    (answers_may m (prepare board.schema m c.args.owner c.args.txn me.number) r _ c.prepare_in-prepared.ensures.step) in
    subst (λ (s : SlotVersions). MayReply schema c.args.journal.now (at_slot s.number (λ k. prepare schema k c.args.owner c.args.txn s.number)) r) c.self.view_is
    (used_may_reply schema g.J.Naming.table j.badge.table_id j.badge.views j.journal c.journal.invariant c.args.journal.now c.journal.view_is me.number within (λ k. prepare schema k c.args.owner c.args.txn me.number) r is)
