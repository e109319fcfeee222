use Rattle.span_primary.proofs.Shrinking.{when_shrinks}
use Rattle.span_primary.proofs.reader.Reader.when_rest.Goals as goal

pub loop-tokens-smaller : goal.loop-tokens-smaller
loop-tokens-smaller g c = (when_shrinks c.args.self.now.text c.args.self.now.left c.requires.deeper c.requires.nests.limited).falls c.loop-tokens.tokens.now c.when.new.tokens.now c.in_ok-next.next c.in_ok-next.ensures
