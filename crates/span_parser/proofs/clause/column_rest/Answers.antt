use Rattle.span_parser.proofs.Falling.{column_more_shrinks}
use Rattle.span_parser.proofs.clause.column_rest.Goals as goal

pub turns-smaller : goal.turns-smaller
turns-smaller c = (column_more_shrinks c.args.text.now).falls c.turns.tokens.now c.column_more.new.tokens.now c.in_ok-next.next c.in_ok-next.ensures
