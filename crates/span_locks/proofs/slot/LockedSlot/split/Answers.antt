use Rattle.std.proofs.Common.{◌<◌, ◌∷◌, [], length, sym, ap, ◌∙◌, subst}
use Rattle.std.proofs.lemmas.Option.{slice_get_within}
use Rattle.span_checking.specs.RootKeys.{root_key}
use Rattle.span_board.specs.declared.board.Role.TheVariants.{Holder, Keeper}
use Rattle.span_board.specs.Known.{restated}
use Rattle.span_board.specs.Rule.{number_of, known_at}
use Rattle.span_locks.proofs.Held.{slot_belongs, keeper_cut}
use Rattle.span_locks.proofs.Restating.{slot_known}
use Rattle.span_board.proofs.Meets.{holder_shape, keeper_shape}
use Rattle.span_locks.proofs.slot.LockedSlot.split.Goals as goal

pub agree-keeper-requires-clause-tables : goal.agree-keeper-requires-clause-tables
agree-keeper-requires-clause-tables g c = (c.self.invariant.0, ap (λ b. b.table_id) c.replace-keeper.ensures.value ∙ c.journal.invariant.at)

pub agree-keeper-requires-clause-holder : goal.agree-keeper-requires-clause-holder
agree-keeper-requires-clause-holder g c = holder_shape c.self.inside.seat.me c.self.inside.number c.self.inside.shard c.self.invariant.1

pub agree-keeper-requires-clause-keeper : goal.agree-keeper-requires-clause-keeper
agree-keeper-requires-clause-keeper g c = keeper_shape c.journal.inside.badge.views _ (ap (λ b. b.views) c.replace-keeper.ensures.value) c.journal.invariant.knows

pub cut_in-requires-clause-belongs : goal.cut_in-requires-clause-belongs
cut_in-requires-clause-belongs g c =
    let me = c.self.inside in
    let j = c.journal.inside in
    let schema = g.J.Naming.schema in
    let board = c.args.board.now in
    let views = ap (λ b. b.views) c.replace-keeper.ensures.value in
    let is = slot_known me.seat.me me.number me.shard j.badge.views _ c.self.invariant.1 views c.agree-keeper.ensures.known.0 in
    let d = c.in_ok-may_cut.ensures.may c.if-not-branch.false in
    let within = slice_get_within j.journal.slots me.number d.0.slot_state d.0.here in
    slot_belongs schema board.schema g.J.Naming.table j.badge.table_id j.badge.views j.journal board.schema_is c.journal.invariant me.number me.shard within is

pub cut_in-requires-clause-coded : goal.cut_in-requires-clause-coded
cut_in-requires-clause-coded g c =
    let of = c.requires.coded in
    (of.0, of.1, of.2, ap (λ s. root_key s of.0 of.1) c.args.board.now.schema_is ∙ of.3)

pub cut_in-requires-clause-may : goal.cut_in-requires-clause-may
cut_in-requires-clause-may g c = (c.in_ok-may_cut.ensures.may c.if-not-branch.false).0

pub restate_both-keeper-requires-clause-tables : goal.restate_both-keeper-requires-clause-tables
restate_both-keeper-requires-clause-tables g c = (c.agree-keeper.ensures.tables.0, c.next.invariant.0, c.agree-keeper.ensures.tables.1)

pub restate_both-keeper-requires-clause-holder : goal.restate_both-keeper-requires-clause-holder
restate_both-keeper-requires-clause-holder g c = holder_shape c.agree-keeper.new.seat.me c.self.inside.number c.self.inside.shard (c.agree-keeper.ensures.holder ∙ c.self.invariant.1)

pub restate_both-keeper-requires-clause-next : goal.restate_both-keeper-requires-clause-next
restate_both-keeper-requires-clause-next g c = holder_shape c.next.inside.seat.me c.next.inside.number c.next.inside.shard c.next.invariant.1

pub restate_both-keeper-requires-clause-keeper : goal.restate_both-keeper-requires-clause-keeper
restate_both-keeper-requires-clause-keeper g c = keeper_shape c.journal.inside.badge.views _ (c.agree-keeper.ensures.keeper ∙ ap (λ b. b.views) c.replace-keeper.ensures.value) c.journal.invariant.knows

pub invariant_of-self : goal.invariant_of-self
invariant_of-self g c =
    let number = ap (λ k. number_of k.0) (c.agree-keeper.ensures.holder ∙ c.self.invariant.1) in (
      c.restate_both-keeper.ensures.tables.0,
      c.restate_both-keeper.ensures.holder
          ∙ ap (λ i. (Holder i c.replace-shard.result ∷ [], [])) number
          ∙ ap (λ cs. (Holder c.self.inside.number cs ∷ [], [])) (sym c.restate_both-keeper.ensures.shard),
    )

pub invariant_of-next : goal.invariant_of-next
invariant_of-next g c =
    let number = ap (λ k. number_of k.0) c.next.invariant.1 in (
      c.restate_both-keeper.ensures.tables.1,
      c.restate_both-keeper.ensures.next
          ∙ ap (λ i. (Holder i c.in-Ok.part ∷ [], [])) number
          ∙ ap (λ cs. (Holder c.next.inside.number cs ∷ [], [])) (sym c.restate_both-keeper.ensures.part),
    )

pub invariant_of-journal : goal.invariant_of-journal
invariant_of-journal g c =
    let me = c.self.inside in
    let next = c.next.inside in
    let j = c.journal.inside in
    let schema = g.J.Naming.schema in
    let board = c.args.board.now in
    let views = ap (λ b. b.views) c.replace-keeper.ensures.value in
    let is = slot_known me.seat.me me.number me.shard j.badge.views _ c.self.invariant.1 views c.agree-keeper.ensures.known.0 in
    let d = c.in_ok-may_cut.ensures.may c.if-not-branch.false in
    let within = slice_get_within j.journal.slots me.number d.0.slot_state d.0.here in
    let held = c.agree-keeper.ensures.keeper ∙ views in
    let numbered = ap (λ k. number_of k.0) (c.agree-keeper.ensures.holder ∙ c.self.invariant.1) in
    let next_numbered = ap (λ k. number_of k.0) c.next.invariant.1 in
    let shard = c.replace-shard.result in
    let part = c.in-Ok.part in
    let after =
    c.restate_both-keeper.ensures.keeper
    ∙ ap (λ v. (Keeper (restated (restated (known_at v) (number_of c.agree-keeper.new.seat.me.0) shard) (number_of next.seat.me.0) part) ∷ []) ∷ []) held
    ∙ ap (λ n. (Keeper (restated (restated (known_at j.badge.views) n shard) (number_of next.seat.me.0) part) ∷ []) ∷ []) numbered
    ∙ ap (λ n. (Keeper (restated (restated (known_at j.badge.views) me.number shard) n part) ∷ []) ∷ []) next_numbered
    ∙ ap (λ cs. (Keeper (restated (restated (known_at j.badge.views) me.number cs) next.number part) ∷ []) ∷ []) c.replace-shard.ensures.value in
    let enough =
    subst (λ n. n < length (restated (known_at j.badge.views) me.number c.cut_in.new.shard).slots) next_numbered
    (subst (λ cs. number_of next.seat.me.0 < length (restated (known_at j.badge.views) me.number cs).slots) c.replace-shard.ensures.value
    (subst (λ n. number_of next.seat.me.0 < length (restated (known_at j.badge.views) n shard).slots) numbered
    (subst (λ v. number_of next.seat.me.0 < length (restated (known_at v) (number_of c.agree-keeper.new.seat.me.0) shard).slots) held c.restate_both-keeper.ensures.room))) in
    keeper_cut schema board.schema g.J.Naming.table j.badge.table_id j.badge.views j.journal board.schema_is c.journal.invariant me.number me.shard within is _ _ c.cut_in.new.journal c.cut_in.new.shard part next.number c.restate_both-keeper.ensures.tables.2 after d.1 enough c.in-Ok.ensures.cut
