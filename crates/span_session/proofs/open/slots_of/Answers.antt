use Rattle.std.proofs.Common.{◌<◌, ◌+◌, ◌-◌, ◌∷◌, [], length, suc, add-one, sym, ap, ◌∙◌, subst, arith}
use Rattle.std.proofs.lemmas.List.{length-append}
use Rattle.span_board.specs.declared.board.Role.TheVariants.{Holder}
use Rattle.span_board.specs.Rule.{clients, first_of, others_of}
use Rattle.span_board.proofs.Meets.{splits_at}
use Rattle.span_board.proofs.Opening.{apart_append, apart_holders, apart_holder_clients, next_holder}
use Rattle.span_session.proofs.open.slots_of.Goals as goal

pub split_seat-seat-requires : goal.split_seat-seat-requires
split_seat-seat-requires g c =
    let t = c.args.board.now in
    let i = c.loop-number.invariant in
    let n = c.loop-number.number in
    (i.0 ∙ sym t.table_is, subst (λ n. 0 < n) (sym t.words) (omega arith), splits_at _ _ _ _ _ (ap (λ z. z.0) i.1 ∙ next_holder n 16 (clients 0 c.args.sessions) c.loop-number-test.true) (apart_append _ _ _ (apart_holders n (suc n) (16 - suc n) (omega arith)) (apart_holder_clients n 0 c.args.sessions)))

pub new-requires-clause-holder : goal.new-requires-clause-holder
new-requires-clause-holder g c =
    let n = c.loop-number.number in
    let shape = ap (λ z. z.0) c.loop-number.invariant.1 ∙ next_holder n 16 (clients 0 c.args.sessions) c.loop-number-test.true in
    c.split_seat-seat.ensures.4 ∙ ap (λ v. (first_of v, [])) shape ∙ ap (λ s. (Holder n s ∷ [], [])) (sym c.new-shard.ensures)

pub loop-number-preserved : goal.loop-number-preserved
loop-number-preserved g c =
    let i = c.loop-number.invariant in
    let n = c.loop-number.number in
    let p = c.split_seat-seat.ensures in
    (p.0 ∙ i.0, rw add-one (p.2 ∙ ap (λ z. (others_of z.0, z.1)) (i.1 ∙ ap (λ l. (l, [])) (next_holder n 16 (clients 0 c.args.sessions) c.loop-number-test.true))), ap length c.in_ok-push.ensures.items ∙ length-append c.loop-number.slots.items _ ∙ ap (λ k. k + 1) i.2)
