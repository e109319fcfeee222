use Rattle.span_parser.proofs.Falling.{sort_key_more_shrinks}
use Rattle.span_parser.proofs.clause.sort_key_rest.Goals as goal

pub turns-smaller : goal.turns-smaller
turns-smaller c = (sort_key_more_shrinks c.args.text.now).falls c.turns.tokens.now c.sort_key_more.new.tokens.now c.in_ok-next.next c.in_ok-next.ensures
