use Rattle.std.proofs.Common.{refl, ◌<◌, ◌++◌, ◌∷◌, [], List, sym, ap, ◌∙◌, subst, arith}
use mathlib.Core.Option.{some}
use Rattle.span_board.specs.declared.board.Role.{Role}
use Rattle.span_board.specs.declared.board.Change.TheVariants.{Grown}
use Rattle.span_board.specs.Rule.{mine_of, known_at, Publishes}
use Rattle.span_board.proofs.Steps.{publish_at}
use Rattle.span_board.proofs.Meets.{joins_at, splits_at, apart_client, only_view}
use Rattle.span_board.proofs.seats.grow.Goals as goal

pub join_seat-requires : goal.join_seat-requires
join_seat-requires g c =
    let t = c.args.board.now in
    let k = c.into_seat.ensures in
    let view = only_view _ _ _ c.requires.keeper k.2 in
    (c.requires.tables.0 ∙ sym t.table_is, k.0 ∙ (c.requires.tables.1 ∙ sym t.table_is), k.3, subst (λ n. 0 < n) (sym t.words) (omega arith), joins_at _ _ _ _ _ _ _ (ap (λ z. z.0) c.requires.client) view)

pub compare_exchange_with-requires : goal.compare_exchange_with-requires
compare_exchange_with-requires g c =
    let t = c.args.board.now in
    let view = only_view _ _ _ c.requires.keeper c.into_seat.ensures.2 in
    let j = c.join_seat.ensures in
    let m = c.requires.client in (
      j.0 ∙ (c.requires.tables.0 ∙ sym t.table_is),
      subst (λ n. 0 < n) (sym t.words) (omega arith),
      publish_at _ _ _ _ _ _ (known_at c.args.keeper.views) c.args.commit _ _ _ (j.2 ∙ (λ z. (view z ++ (m z).0, (m z).1))) c.requires.owner c.requires.count.0 refl,
    )

pub split_seat-requires : goal.split_seat-requires
split_seat-requires g c =
    let t = c.args.board.now in
    let view = only_view _ _ _ c.requires.keeper c.into_seat.ensures.2 in
    let j = c.join_seat.ensures in
    let m = c.requires.client in
    let l = c.compare_exchange_with.ensures in
    let shape = ap (λ z. z.0) j.2 ∙ (λ z. view z ++ (m z).0) in
    let shaped = subst (λ (v : List Role). Publishes v (some (Grown c.args.commit)) c.compare_exchange_with.new.seat.me.0) shape l.2.1 in
    (l.0 ∙ (j.0 ∙ (c.requires.tables.0 ∙ sym t.table_is)), subst (λ n. 0 < n) (sym t.words) (omega arith), splits_at _ _ _ _ _ shaped.0 (apart_client c.args.owner ((known_at c.args.keeper.views).commits ++ c.args.commit ∷ []) (mine_of c.args.seat.now.me.0 ++ c.args.commit ∷ [])))
