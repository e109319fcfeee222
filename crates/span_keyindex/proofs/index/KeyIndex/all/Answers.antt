use Rattle.std.proofs.Common.{List, sym, subst}
use Rattle.std.specs.Prelude.{All}
use Rattle.span_arena.specs.Content.{IsChain}
use Rattle.span_keytree.specs.Entries.{KeyEntry}
use Rattle.span_keyindex.specs.Indexes.{entries_of}
use Rattle.span_keyindex.proofs.Owning.{all_chains}
use Rattle.span_keytree.proofs.Rising.{pairs_rising}
use Rattle.span_keyindex.proofs.index.KeyIndex.all.Goals as goal

pub returns-clause-chains : goal.returns-clause-chains
returns-clause-chains c = subst (λ (es : List KeyEntry). All (λ (e : KeyEntry). IsChain c.args.arena.now e.chain.number) es) (sym c.all.ensures) (all_chains (entries_of c.args.self.now c.args.arena.now) c.args.arena.now c.requires.own)

pub returns-clause-rising : goal.returns-clause-rising
returns-clause-rising c = pairs_rising (entries_of c.args.self.now c.args.arena.now) c.requires.index.search.rising
