use Rattle.span_parser.proofs.Falling.{join_shrinks}
use Rattle.span_querytext.proofs.query.QueryReader.joins.Goals as goal

pub loop-tokens-smaller : goal.loop-tokens-smaller
loop-tokens-smaller g c = (join_shrinks c.args.self.now.text c.args.self.now.left c.requires.nests.limited).falls c.loop-tokens.tokens.now c.join.new.tokens.now c.in_ok-next.next c.in_ok-next.ensures
