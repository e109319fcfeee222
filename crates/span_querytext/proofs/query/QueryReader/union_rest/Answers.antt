use Rattle.span_parser.proofs.Falling.{union_more_shrinks}
use Rattle.span_querytext.proofs.query.QueryReader.union_rest.Goals as goal

pub loop-tokens-smaller : goal.loop-tokens-smaller
loop-tokens-smaller g c = (union_more_shrinks c.args.self.now.text c.args.self.now.left c.requires.nests.limited).falls c.loop-tokens.tokens.now c.union_more.new.tokens.now c.in_ok-next.next c.in_ok-next.ensures
