use Rattle.std.proofs.Common.{◌<◌, ◌∷◌, [], length, ap, ◌∙◌, subst}
use Rattle.span_board.specs.declared.board.Role.TheVariants.{Keeper}
use Rattle.span_board.specs.Known.{Known, restated}
use Rattle.span_board.specs.Rule.{number_of, known_at}
use Rattle.span_board.proofs.Meets.{keeper_read}
use Rattle.span_board.proofs.seats.restate_both.Goals as goal

pub restate-after-requires-clause-keeper : goal.restate-after-requires-clause-keeper
restate-after-requires-clause-keeper g c = keeper_read c.restate-between.result.0.views _ c.restate-between.ensures.keeper

pub returns-clause-room : goal.returns-clause-room
returns-clause-room g c = subst (λ (b : Known). number_of c.args.next.now.me.0 < length b.slots) (ap known_at c.restate-between.ensures.keeper) c.restate-after.ensures.known.1

pub returns-clause-keeper : goal.returns-clause-keeper
returns-clause-keeper g c =
    c.restate-after.ensures.keeper
    ∙ ap (λ (b : Known). (Keeper (restated b (number_of c.args.next.now.me.0) c.args.part) ∷ []) ∷ []) (ap known_at c.restate-between.ensures.keeper)
