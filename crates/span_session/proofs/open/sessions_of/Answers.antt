use Rattle.std.proofs.Common.{◌<◌, ◌-◌, [], suc, add-one, sym, ap, ◌∙◌, subst, arith}
use Rattle.span_board.specs.Rule.{first_of, others_of}
use Rattle.span_board.proofs.Meets.{splits_at}
use Rattle.span_board.proofs.Opening.{apart_clients, next_client, more_newcomers}
use Rattle.span_session.proofs.open.sessions_of.Goals as goal

pub split_seat-seat-requires : goal.split_seat-seat-requires
split_seat-seat-requires g c =
    let t = c.args.board.now in
    let i = c.loop-owner.invariant in
    let n = c.loop-owner.owner in
    (i.0 ∙ sym t.table_is, subst (λ n. 0 < n) (sym t.words) (omega arith), splits_at _ _ _ _ _ (ap (λ z. z.0) i.1 ∙ next_client n c.args.count c.loop-owner-test.true) (apart_clients n (suc n) (c.args.count - suc n) (omega arith)))

pub new-requires-clause-at : goal.new-requires-clause-at
new-requires-clause-at g c = c.split_seat-seat.ensures.3 ∙ c.loop-owner.invariant.0

pub new-requires-clause-client : goal.new-requires-clause-client
new-requires-clause-client g c =
    let n = c.loop-owner.owner in
    let shape = ap (λ z. z.0) c.loop-owner.invariant.1 ∙ next_client n c.args.count c.loop-owner-test.true in
    c.split_seat-seat.ensures.4 ∙ ap (λ v. (first_of v, [])) shape

pub loop-owner-preserved : goal.loop-owner-preserved
loop-owner-preserved g c =
    let i = c.loop-owner.invariant in
    let n = c.loop-owner.owner in
    let p = c.split_seat-seat.ensures in (
      p.0 ∙ i.0,
      rw add-one (p.2 ∙ ap (λ z. (others_of z.0, z.1)) (i.1 ∙ ap (λ l. (l, [])) (next_client n c.args.count c.loop-owner-test.true))),
      rw add-one (more_newcomers n c.args.count c.loop-owner.sessions.items c.push.new.self.items _ c.loop-owner-test.true i.2 c.in_ok-push.ensures.items c.new.ensures),
    )
