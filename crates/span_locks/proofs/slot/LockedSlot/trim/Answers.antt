use Rattle.std.proofs.Common.{◌≡◌, ◌≤◌, List, ap, ◌∙◌, subst, inl}
use Rattle.span_schema.specs.declared.table.Table.{Table}
use Rattle.span_arena.specs.Limits.{most_nodes}
use Rattle.span_shard.specs.KeyVersions.{KeyVersions}
use Rattle.span_shard.specs.Shard.{live}
use Rattle.span_machine.specs.Machine.{trim}
use Rattle.span_machine.specs.declared.step.Reply.TheVariants as reply
use Rattle.span_parts.specs.Replies.{as_reply}
use Rattle.span_machine.specs.declared.step.Step.TheVariants as step
use Rattle.span_machine.specs.Pieces.{machine_of}
use Rattle.span_parts.proofs.Passing.{passed}
use Rattle.span_parts.proofs.Wholes.{no_text}
use Rattle.span_locks.specs.Held.{IsUnderstoodAs}
use Rattle.span_board.specs.Rule.{SlotVersions}
use Rattle.span_locks.proofs.Held.{slot_belongs, keeper_restated}
use Rattle.span_locks.proofs.Restating.{slot_known, holder_restated, known_restated}
use Rattle.span_board.proofs.Meets.{holder_shape, keeper_shape}
use Rattle.span_locks.specs.Replies.{Replies, at_slot}
use Rattle.span_locks.proofs.Replying.{used_replies, kept_few}
use Rattle.span_locks.proofs.slot.LockedSlot.trim.Goals as goal

pub agree-keeper-requires-clause-tables : goal.agree-keeper-requires-clause-tables
agree-keeper-requires-clause-tables g c = (c.self.invariant.0, ap (λ b. b.table_id) c.replace-keeper.ensures.value ∙ c.journal.invariant.at)

pub agree-keeper-requires-clause-holder : goal.agree-keeper-requires-clause-holder
agree-keeper-requires-clause-holder g c = holder_shape c.self.inside.seat.me c.self.inside.number c.self.inside.shard c.self.invariant.1

pub agree-keeper-requires-clause-keeper : goal.agree-keeper-requires-clause-keeper
agree-keeper-requires-clause-keeper g c = keeper_shape c.journal.inside.badge.views _ (ap (λ b. b.views) c.replace-keeper.ensures.value) c.journal.invariant.knows

pub trim_in-trimmed-requires : goal.trim_in-trimmed-requires
trim_in-trimmed-requires g c =
    let me = c.self.inside in
    let j = c.journal.inside in
    let schema = g.J.Naming.schema in
    let board = c.args.board.now in
    let views = ap (λ b. b.views) c.replace-keeper.ensures.value in
    let is = slot_known me.seat.me me.number me.shard j.badge.views _ c.self.invariant.1 views c.agree-keeper.ensures.known.0 in
    let within = c.is_used.ensures.used c.if-not-is_used.false in
    slot_belongs schema board.schema g.J.Naming.table j.badge.table_id j.badge.views j.journal board.schema_is c.journal.invariant me.number me.shard within is

pub restate-keeper-requires-clause-tables : goal.restate-keeper-requires-clause-tables
restate-keeper-requires-clause-tables g c = (c.agree-keeper.ensures.tables.0, c.agree-keeper.ensures.tables.1)

pub restate-keeper-requires-clause-holder : goal.restate-keeper-requires-clause-holder
restate-keeper-requires-clause-holder g c = holder_shape c.agree-keeper.new.seat.me c.self.inside.number c.self.inside.shard (c.agree-keeper.ensures.holder ∙ c.self.invariant.1)

pub restate-keeper-requires-clause-keeper : goal.restate-keeper-requires-clause-keeper
restate-keeper-requires-clause-keeper g c = keeper_shape c.journal.inside.badge.views _ (c.agree-keeper.ensures.keeper ∙ ap (λ b. b.views) c.replace-keeper.ensures.value) c.journal.invariant.knows

pub invariant_of-self : goal.invariant_of-self
invariant_of-self g c = (c.restate-keeper.ensures.tables.0, holder_restated c.self.inside.seat.me c.agree-keeper.new.seat.me _ c.self.inside.number c.self.inside.shard c.replace-shard.result _ c.self.invariant.1 c.agree-keeper.ensures.holder c.restate-keeper.ensures.holder c.restate-keeper.ensures.shard)

pub invariant_of-journal : goal.invariant_of-journal
invariant_of-journal g c =
    let me = c.self.inside in
    let j = c.journal.inside in
    let schema = g.J.Naming.schema in
    let board = c.args.board.now in
    let views = ap (λ b. b.views) c.replace-keeper.ensures.value in
    let is = slot_known me.seat.me me.number me.shard j.badge.views _ c.self.invariant.1 views c.agree-keeper.ensures.known.0 in
    let within = c.is_used.ensures.used c.if-not-is_used.false in
    let after = known_restated me.seat.me c.agree-keeper.new.seat.me me.number me.shard c.replace-shard.result c.trim_in-trimmed.new.shard j.badge.views _ _ c.self.invariant.1 c.agree-keeper.ensures.holder (c.agree-keeper.ensures.keeper ∙ views) c.restate-keeper.ensures.keeper c.replace-shard.ensures.value in
    keeper_restated schema board.schema g.J.Naming.table j.badge.table_id j.badge.views j.journal board.schema_is c.journal.invariant me.number me.shard within is _ _ c.trim_in-trimmed.new.journal c.trim_in-trimmed.new.shard c.restate-keeper.ensures.tables.1 after
    (passed (IsUnderstoodAs schema) board.schema (machine_of j.journal) c.journal.invariant.asked no_text (step.Trim me.number c.args.h) tt _ (machine_of c.trim_in-trimmed.new.journal) (inl c.trim_in-trimmed.ensures.step))
    c.trim_in-trimmed.ensures.whole

pub returns-clause-reply : goal.returns-clause-reply
returns-clause-reply g c =
    let me = c.self.inside in
    let j = c.journal.inside in
    let schema = g.J.Naming.schema in
    let board = c.args.board.now in
    let m = machine_of j.journal in
    let within = c.is_used.ensures.used c.if-not-is_used.false in
    let r = as_reply reply.Trimmed c.trim_in-trimmed.result in
    let is = subst (λ (s : List Table). r ≡ (trim s m me.number c.args.h).0) board.schema_is c.trim_in-trimmed.ensures.step.0 in
    subst (λ (s : SlotVersions). Replies schema c.args.journal.now (at_slot s.number (λ k. trim schema k s.number c.args.h)) r) c.self.view_is
    (used_replies schema g.J.Naming.table j.badge.table_id j.badge.views j.journal c.journal.invariant c.args.journal.now c.journal.view_is me.number within (λ k. trim schema k me.number c.args.h) r is)

pub returns-clause-kept : goal.returns-clause-kept
returns-clause-kept g c =
    let me = c.self.inside in
    let j = c.journal.inside in
    let schema = g.J.Naming.schema in
    let board = c.args.board.now in
    let views = ap (λ b. b.views) c.replace-keeper.ensures.value in
    let is = slot_known me.seat.me me.number me.shard j.badge.views _ c.self.invariant.1 views c.agree-keeper.ensures.known.0 in
    let within = c.is_used.ensures.used c.if-not-is_used.false in
    let belongs = slot_belongs schema board.schema g.J.Naming.table j.badge.table_id j.badge.views j.journal board.schema_is c.journal.invariant me.number me.shard within is in
    let few = subst (λ (cs : List KeyVersions). live cs ≤ most_nodes) (c.restate-keeper.ensures.shard ∙ c.replace-shard.ensures.value) c.keeps_at_most.ensures in
    kept_few board.schema j.journal c.trim_in-trimmed.new.journal me.number c.args.h me.shard c.trim_in-trimmed.new.shard belongs c.trim_in-trimmed.ensures.whole few c.trim_in-trimmed.result c.trim_in-trimmed.ensures.step
