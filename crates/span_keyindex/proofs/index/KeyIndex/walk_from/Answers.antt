use Rattle.span_keyindex.specs.Indexes.{entries_of}
use Rattle.span_keytree.proofs.Rising.{pairs_rising}
use Rattle.span_keyindex.proofs.index.KeyIndex.walk_from.Goals as goal

pub returns-clause-rising : goal.returns-clause-rising
returns-clause-rising g c = pairs_rising (entries_of c.args.self.now c.args.arena.now) c.requires.index.search.rising
