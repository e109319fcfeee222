use Rattle.span_primary.proofs.Shrinking.{conjunction_more_shrinks}
use Rattle.span_syntax.proofs.expression.ExpressionReader.conjunction_rest.Goals as goal

pub loop-tokens-smaller : goal.loop-tokens-smaller
loop-tokens-smaller g c = (conjunction_more_shrinks c.args.self.now.text c.args.self.now.left c.requires.nests.limited).falls c.loop-tokens.tokens.now c.conjunction_more.new.tokens.now c.in_ok-next.next c.in_ok-next.ensures
