use Rattle.span_keyindex.specs.Indexes.{entries_of}
use Rattle.span_keyindex.proofs.Owning.{chain_found}
use Rattle.span_keyindex.proofs.index.KeyIndex.find_near.Goals as goal

pub returns-in-Here-clause-chain : goal.returns-in-Here-clause-chain
returns-in-Here-clause-chain c = chain_found (entries_of c.args.self.now c.args.arena.now) c.args.arena.now c.args.key.now (record { number = c.args.near }) c.requires.own c.in-Here.ensures
