use Rattle.span_keyindex.specs.Indexes.{entries_of}
use Rattle.span_keyindex.proofs.Owning.{chain_found}
use Rattle.span_keyindex.proofs.index.KeyIndex.find.Goals as goal

pub returns-in-Some-clause-chain : goal.returns-in-Some-clause-chain
returns-in-Some-clause-chain c = chain_found (entries_of c.args.self.now c.args.arena.now) c.args.arena.now c.args.key.now (record { number = c.in-Some.number }) c.requires.own c.in-Some.ensures
