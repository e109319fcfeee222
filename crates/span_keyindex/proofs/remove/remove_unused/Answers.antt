use Rattle.std.proofs.Common.{List, sym, subst}
use Rattle.span_arena.specs.Content.{is_unused}
use Rattle.span_keytree.specs.Arenas.{IsArenaOf}
use Rattle.span_keytree.specs.Entries.{KeyEntry}
use Rattle.span_keytree.specs.Roots.{entries_at}
use Rattle.span_keyindex.specs.Removals.{all_of}
use Rattle.span_keyindex.proofs.Unlinking.{sequence_of, sequence_own, run_left, entries_left, index_left}
use Rattle.span_keyindex.proofs.remove.remove_unused.Goals as goal

pub unlink-count-requires-clause-own : goal.unlink-count-requires-clause-own
unlink-count-requires-clause-own c = sequence_own c.args.arena.now.cells c.args.nexts.now c.args.index.now c.requires.own

pub unlink-count-requires-clause-chains : goal.unlink-count-requires-clause-chains
unlink-count-requires-clause-chains c =
    subst (λ (es : List KeyEntry). IsArenaOf es c.args.arena.now) {x = entries_at c.args.arena.now.cells c.args.index.now} {y = all_of c.args.arena.now.cells c.args.nexts.now} (sym (sequence_of c.args.arena.now.cells c.args.nexts.now c.args.index.now c.requires.own)) c.requires.chains

pub build-built-requires : goal.build-built-requires
build-built-requires c =
    run_left c.args.arena.now.cells c.unlink-count.new.arena.cells c.args.nexts.now c.unlink-count.new.nexts c.args.index.now (is_unused c.args.arena.now) c.unlink-count.result c.first.result c.requires.own c.unlink-count.ensures.cells c.unlink-count.ensures.linked c.unlink-count.ensures.count c.unlink-count.ensures.places c.first.ensures

pub returns-clause-entries : goal.returns-clause-entries
returns-clause-entries c =
    entries_left c.args.arena.now.cells c.unlink-count.new.arena.cells c.args.nexts.now c.unlink-count.new.nexts c.args.index.now (is_unused c.args.arena.now) c.unlink-count.result c.first.result c.requires.own c.unlink-count.ensures.cells c.unlink-count.ensures.linked c.unlink-count.ensures.count c.unlink-count.ensures.places c.first.ensures c.build-built.new.arena.cells c.build-built.result c.build-built.ensures.tree

pub last_below-index-requires : goal.last_below-index-requires
last_below-index-requires c = c.build-built.ensures.tree.tree

pub returns-clause-own : goal.returns-clause-own
returns-clause-own c =
    index_left c.args.arena.now.cells c.unlink-count.new.arena.cells c.args.nexts.now c.unlink-count.new.nexts c.args.index.now (is_unused c.args.arena.now) c.unlink-count.result c.first.result c.requires.own c.unlink-count.ensures.cells c.unlink-count.ensures.linked c.unlink-count.ensures.count c.unlink-count.ensures.places c.first.ensures c.build-built.new.arena.cells c.build-built.result c.build-built.ensures.tree c.last_below-index.result c.last_below-index.ensures
