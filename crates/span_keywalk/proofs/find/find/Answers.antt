use Rattle.span_keytree.specs.Roots.{tree_of}
use Rattle.span_keytree.proofs.Searching.{search_cases}
use Rattle.span_keywalk.proofs.find.find.Goals as goal

pub returns : goal.returns
returns c = search_cases c.args.key.now (tree_of c.args.arena.now.cells c.args.index.now) c.find_below.result c.requires.rising c.find_below.ensures
