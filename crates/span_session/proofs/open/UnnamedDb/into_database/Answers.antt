use Rattle.std.proofs.Common.{◌<◌, sym, ap, subst, arith}
use Rattle.span_board.proofs.Meets.{splits_at}
use Rattle.span_board.proofs.Opening.{apart_keeper}
use Rattle.span_session.proofs.open.UnnamedDb.into_database.Goals as goal

pub split_seat-requires : goal.split_seat-requires
split_seat-requires g c =
    let v = c.self.invariant in
    (v.0, subst (λ n. 0 < n) (sym v.2) (omega arith), splits_at _ _ _ _ _ (ap (λ z. z.0) v.1) (apart_keeper 0 16 0 c.self.inside.sessions))
