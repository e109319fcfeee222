use Rattle.std.proofs.Common.{arith}
use Rattle.span_keywalk.proofs.Walking.{all_handed}
use Rattle.span_keywalk.proofs.chains.chains_of.Goals as goal

pub invariant_of-result : goal.invariant_of-result
invariant_of-result c = (all_handed c.args.arena.now.cells c.args.nexts.now c.args.index.now c.requires c.numbers.result (omega (arith, c.numbers.ensures.len)) c.first.result c.first.ensures).within

pub returns : goal.returns
returns c = (all_handed c.args.arena.now.cells c.args.nexts.now c.args.index.now c.requires c.numbers.result (omega (arith, c.numbers.ensures.len)) c.first.result c.first.ensures).now
