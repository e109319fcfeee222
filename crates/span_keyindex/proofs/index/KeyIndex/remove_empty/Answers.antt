use Rattle.std.proofs.Common.{List, sym, subst}
use Rattle.span_keytree.specs.Arenas.{in_use, IsArenaOf}
use Rattle.span_keytree.specs.Entries.{KeyEntry}
use Rattle.span_keytree.specs.Roots.{entries_at}
use Rattle.span_keyindex.specs.Indexes.{entries_of}
use Rattle.span_keyindex.proofs.Freeing.{arena_of_used}
use Rattle.span_keyindex.proofs.index.KeyIndex.remove_empty.Goals as goal

pub returns-clause-own : goal.returns-clause-own
returns-clause-own c = record {
  index = c.remove_unused.ensures.own;
  own = subst (λ (es : List KeyEntry). IsArenaOf es c.remove_unused.new.arena) {x = in_use c.args.arena.now (entries_of c.args.self.now c.args.arena.now)} {y = entries_at c.remove_unused.new.arena.cells c.remove_unused.new.index} (sym c.remove_unused.ensures.entries)
      (arena_of_used (entries_of c.args.self.now c.args.arena.now) c.args.arena.now c.remove_unused.new.arena c.requires.own c.remove_unused.ensures.arena);
}
