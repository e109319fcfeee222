use Rattle.std.proofs.Common.{ℕ, List, sym, ap, ◌∙◌, subst}
use Rattle.span_schema.specs.declared.table.Table.{Table}
use Rattle.span_parts.specs.Whole.{IsRead, IsReadFor}
use Rattle.span_machine.specs.declared.step.Step.TheVariants as step
use Rattle.span_machine.specs.Machine.{Machine, scan}
use Rattle.span_machine.specs.Pieces.{machine_of}
use Rattle.span_machine.specs.declared.step.Reply.TheVariants as reply
use Rattle.span_parts.proofs.Passing.{passed_register}
use Rattle.span_parts.proofs.Wholes.{no_text}
use Rattle.span_locks.specs.Held.{IsUnderstoodAs}
use Rattle.span_board.specs.Rule.{SlotVersions}
use Rattle.span_locks.proofs.Held.{slot_belongs, own_read, keeper_stays}
use Rattle.span_locks.proofs.Restating.{slot_known}
use Rattle.span_board.proofs.Meets.{holder_shape, keeper_shape}
use Rattle.span_locks.proofs.Refusing.{scan_unscanned}
use Rattle.span_locks.proofs.Replying.{replies}
use Rattle.span_locks.specs.Replies.{Replies}
use Rattle.span_locks.proofs.slot.LockedSlot.register.Goals as goal

pub agree-requires-clause-tables : goal.agree-requires-clause-tables
agree-requires-clause-tables g c = (c.self.invariant.0, ap (λ b. b.table_id) c.replace-keeper.ensures.value ∙ c.journal.invariant.at)

pub agree-requires-clause-holder : goal.agree-requires-clause-holder
agree-requires-clause-holder g c = holder_shape c.self.inside.seat.me c.self.inside.number c.self.inside.shard c.self.invariant.1

pub agree-requires-clause-keeper : goal.agree-requires-clause-keeper
agree-requires-clause-keeper g c = keeper_shape c.journal.inside.badge.views _ (ap (λ b. b.views) c.replace-keeper.ensures.value) c.journal.invariant.knows

pub register-requires-clause-belongs : goal.register-requires-clause-belongs
register-requires-clause-belongs g c =
    let me = c.self.inside in
    let j = c.journal.inside in
    let schema = g.J.Naming.schema in
    let board = c.args.board.now in
    let views = ap (λ b. b.views) c.replace-keeper.ensures.value in
    let is = slot_known me.seat.me me.number me.shard j.badge.views _ c.self.invariant.1 views c.agree.ensures.known.0 in
    let within = c.is_used.ensures.used c.if-not-is_used.false in
    slot_belongs schema board.schema g.J.Naming.table j.badge.table_id j.badge.views j.journal board.schema_is c.journal.invariant me.number me.shard within is

pub register-requires-clause-read : goal.register-requires-clause-read
register-requires-clause-read g c =
    let j = c.journal.inside in
    let schema = g.J.Naming.schema in
    let board = c.args.board.now in
    let me = c.self.inside in
    let asked = c.is_asked.ensures c.if-not-is_asked.false in
    let gap = c.args.gap.now in
    let read = subst (λ (k : SlotVersions). IsRead schema k.versions gap.range gap.s c.args.leaf.now c.args.top.now c.args.place c.args.piece) (sym c.self.view_is) c.requires.read in
    subst (λ (s : List Table). IsReadFor s (machine_of j.journal) c.args.query c.args.place me.shard gap.range gap.s c.args.piece) (sym board.schema_is)
    (own_read schema board.schema g.J.Naming.table j.badge.table_id j.badge.views j.journal board.schema_is c.journal.invariant c.args.text.now c.args.params.now c.args.query c.args.place c.args.leaf.now c.args.top.now asked c.requires.leaf (c.understanding_is_unique.ensures schema)
    me.shard gap.range gap.s c.args.piece read)

pub invariant_of-journal : goal.invariant_of-journal
invariant_of-journal g c =
    let me = c.self.inside in
    let j = c.journal.inside in
    let schema = g.J.Naming.schema in
    let board = c.args.board.now in
    let views = ap (λ b. b.views) c.replace-keeper.ensures.value in
    let is = slot_known me.seat.me me.number me.shard j.badge.views _ c.self.invariant.1 views c.agree.ensures.known.0 in
    let within = c.is_used.ensures.used c.if-not-is_used.false in
    keeper_stays schema board.schema g.J.Naming.table j.badge.table_id j.badge.views j.journal board.schema_is c.journal.invariant me.number me.shard within is _ _ c.register.new.journal c.agree.ensures.tables.1 (c.agree.ensures.keeper ∙ views)
    (passed_register (IsUnderstoodAs schema) board.schema (machine_of j.journal) c.journal.invariant.asked c.register.result no_text (step.Scan c.args.query c.args.place me.number c.args.interval) tt reply.Scanned (machine_of c.register.new.journal) c.register.ensures.scanned c.register.ensures.same c.register.ensures.refused)
    c.register.ensures.whole

pub returns-clause-refused : goal.returns-clause-refused
returns-clause-refused g c =
    let schema = g.J.Naming.schema in
    let me = c.self.inside in
    let j = c.journal.inside in
    let board = c.args.board.now in
    scan_unscanned schema board.schema g.J.Naming.table j.badge.table_id j.badge.views j.journal board.schema_is c.journal.invariant c.args.query c.args.place me.number c.args.interval c.register.result (machine_of c.register.new.journal) c.register.ensures.refused

pub returns-clause-scanned : goal.returns-clause-scanned
returns-clause-scanned g c = λ is.
    let schema = g.J.Naming.schema in
    let me = c.self.inside in
    let j = c.journal.inside in
    subst (λ (n : ℕ). Replies schema c.args.journal.now (λ (m : Machine). scan m c.args.query c.args.place n c.args.interval) reply.Scanned) (ap (λ (k : SlotVersions). k.number) c.self.view_is)
    (replies schema g.J.Naming.table j.badge.table_id j.badge.views j.journal c.journal.invariant c.args.journal.now c.journal.view_is (λ (m : Machine). scan m c.args.query c.args.place me.number c.args.interval) reply.Scanned (c.register.ensures.scanned is).0)
