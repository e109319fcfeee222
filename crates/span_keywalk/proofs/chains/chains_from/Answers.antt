use Rattle.std.proofs.Common.{arith}
use Rattle.span_keywalk.proofs.From.{from_handed}
use Rattle.span_keywalk.proofs.chains.chains_from.Goals as goal

pub invariant_of-result : goal.invariant_of-result
invariant_of-result g c =
    (from_handed c.args.arena.now.cells c.args.nexts.now c.args.index.now c.requires c.numbers.result (omega (arith, c.numbers.ensures.len)) c.args.low.now c.first_from-at.result c.first_from-at.ensures.first).within

pub returns-clause-chains : goal.returns-clause-chains
returns-clause-chains g c =
    (from_handed c.args.arena.now.cells c.args.nexts.now c.args.index.now c.requires c.numbers.result (omega (arith, c.numbers.ensures.len)) c.args.low.now c.first_from-at.result c.first_from-at.ensures.first).now
