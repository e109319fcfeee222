use Rattle.span_grammar.proofs.Steps.{many_shorter}
use Rattle.span_grammar.proofs.reader.+read.Goals as goal

pub loop-repeated-smaller : goal.loop-repeated-smaller
loop-repeated-smaller t c =
    many_shorter c.args.left c.args.part c.in-Many.repeated c.loop-repeated.rest.now c.in_ok-rest-in-Many.rest.now c.in-Many.ensures c.requires c.in_ok-rest-in-Many.ensures
