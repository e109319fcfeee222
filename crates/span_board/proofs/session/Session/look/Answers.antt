use Rattle.std.proofs.Common.{◌<◌, sym, ◌∙◌, subst, arith}
use Rattle.span_board.proofs.Steps.{look_at}
use Rattle.span_board.proofs.session.Session.look.Goals as goal

pub load-requires : goal.load-requires
load-requires g c =
    let i = c.self.invariant in
    let s = c.self.inside.seat in
    let t = c.args.board.now in
    (i.0 ∙ sym t.table_is, subst (λ k. 0 < k) (sym t.words) (omega arith), look_at _ _ _ _ _ _ s.me i.1)
