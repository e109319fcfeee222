use Rattle.std.proofs.Common.{◌∙◌, sym}
use Rattle.span_keyindex.specs.Indexes.{entries_of}
use Rattle.span_keyindex.proofs.Nearby.{near_here}
use Rattle.span_keyindex.proofs.Owning.{chain_found}
use Rattle.span_keyindex.proofs.index.KeyIndex.chain_at.Goals as goal

pub returns-in-Equal-clause-own : goal.returns-in-Equal-clause-own
returns-in-Equal-clause-own c = near_here c.args.self.now c.args.arena.now c.requires c.args.near (sym c.is_chain.ensures ∙ c.if-not-is_chain.false) c.args.key.now (sym c.order.ensures ∙ c.in-Equal.is)

pub returns-in-Equal-clause-chain : goal.returns-in-Equal-clause-chain
returns-in-Equal-clause-chain c =
    chain_found (entries_of c.args.self.now c.args.arena.now) c.args.arena.now c.args.key.now (record { number = c.args.near }) c.requires.own
    (near_here c.args.self.now c.args.arena.now c.requires c.args.near (sym c.is_chain.ensures ∙ c.if-not-is_chain.false) c.args.key.now (sym c.order.ensures ∙ c.in-Equal.is))
