use Rattle.std.proofs.Common.{arith}
use Rattle.span_keywalk.proofs.From.{from_walked}
use Rattle.span_keywalk.proofs.walk.walk_from.Goals as goal

pub invariant_of-result : goal.invariant_of-result
invariant_of-result g c =
    ((from_walked c.args.arena.now.cells c.args.nexts.now c.args.index.now c.requires c.numbers.result (omega (arith, c.numbers.ensures.len)) c.args.low.now c.first_from-at.result c.first_from-at.ensures.first).within, c.requires.places)

pub returns-clause-entries : goal.returns-clause-entries
returns-clause-entries g c =
    (from_walked c.args.arena.now.cells c.args.nexts.now c.args.index.now c.requires c.numbers.result (omega (arith, c.numbers.ensures.len)) c.args.low.now c.first_from-at.result c.first_from-at.ensures.first).now
