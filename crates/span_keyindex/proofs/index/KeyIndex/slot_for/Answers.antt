use Rattle.span_keyindex.proofs.Owning.{slot_chain, slot_own, slot_is}
use Rattle.span_keyindex.proofs.index.KeyIndex.slot_for.Goals as goal

pub returns-clause-ok : goal.returns-clause-ok
returns-clause-ok g c = slot_is c.args.arena.now c.slot_for.new.arena c.args.self.now.nexts c.slot_for.new.nexts c.args.self.now.tree c.slot_for.new.index c.args.key c.in_ok-number.number c.in_ok-number.ensures.ok

pub returns-clause-chain : goal.returns-clause-chain
returns-clause-chain g c = slot_chain c.args.arena.now c.slot_for.new.arena c.args.self.now.nexts c.slot_for.new.nexts c.args.self.now.tree c.slot_for.new.index c.args.key c.in_ok-number.number c.requires.own c.in_ok-number.ensures.ok

pub returns-clause-own : goal.returns-clause-own
returns-clause-own g c = record {
  index = c.in_ok-number.ensures.own;
  own = slot_own c.args.arena.now c.slot_for.new.arena c.args.self.now.nexts c.slot_for.new.nexts c.args.self.now.tree c.slot_for.new.index c.args.key c.in_ok-number.number c.requires.index c.requires.own c.in_ok-number.ensures.ok;
}
