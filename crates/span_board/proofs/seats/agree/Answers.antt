use Rattle.std.proofs.Common.{◌<◌, ◌++◌, sym, ap, ◌∙◌, subst, arith}
use Rattle.span_board.specs.Rule.{number_of, versions_of}
use Rattle.span_board.proofs.Steps.{agree_at}
use Rattle.span_board.proofs.Meets.{joins_at, splits_at, apart_holder, only_view}
use Rattle.span_board.proofs.seats.agree.Goals as goal

pub join_seat-requires : goal.join_seat-requires
join_seat-requires g c =
    let t = c.args.board.now in
    let k = c.into_seat.ensures in
    let view = only_view _ _ _ c.requires.keeper k.2 in
    (c.requires.tables.0 ∙ sym t.table_is, k.0 ∙ (c.requires.tables.1 ∙ sym t.table_is), k.3, subst (λ n. 0 < n) (sym t.words) (omega arith), joins_at _ _ _ _ _ _ _ (ap (λ z. z.0) c.requires.holder) view)

pub load-requires : goal.load-requires
load-requires g c =
    let t = c.args.board.now in
    let view = only_view _ _ _ c.requires.keeper c.into_seat.ensures.2 in
    let j = c.join_seat.ensures in
    let m = c.requires.holder in
    (j.0 ∙ (c.requires.tables.0 ∙ sym t.table_is), subst (λ n. 0 < n) (sym t.words) (omega arith), agree_at _ _ _ _ _ _ _ (j.2 ∙ (λ z. (view z ++ (m z).0, (m z).1))))

pub split_seat-requires : goal.split_seat-requires
split_seat-requires g c =
    let t = c.args.board.now in
    let view = only_view _ _ _ c.requires.keeper c.into_seat.ensures.2 in
    let j = c.join_seat.ensures in
    let m = c.requires.holder in
    let l = c.load.ensures in
    let shape = ap (λ z. z.0) l.2.0 ∙ (ap (λ z. z.0) j.2 ∙ (λ z. view z ++ (m z).0)) in
    (l.0 ∙ (j.0 ∙ (c.requires.tables.0 ∙ sym t.table_is)), subst (λ n. 0 < n) (sym t.words) (omega arith), splits_at _ _ _ _ _ shape (apart_holder (number_of c.args.seat.now.me.0) (versions_of c.args.seat.now.me.0)))
