use Rattle.std.proofs.Common.{[], refl, ap}
use Rattle.span_board.proofs.Meets.{client_shape}
use Rattle.span_board.proofs.Opening.{client_history}
use Rattle.span_board.proofs.session.Session.new.Goals as goal

pub invariant_of-result : goal.invariant_of-result
invariant_of-result g c = (c.requires.at, client_shape c.args.seat.me c.args.owner [] [] c.requires.client)

pub returns : goal.returns
returns g c = client_history c.args.owner c.args.owner c.args.seat.me.0 _ (ap (λ z. z.0) c.requires.client) refl c.new.ensures.items
