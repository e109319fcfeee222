use Rattle.std.proofs.Common.{◌∙◌, None}
use Rattle.span_keytree.specs.Roots.{tree_of}
use Rattle.span_keytree.proofs.Searching.{first_is}
use Rattle.span_keytree.proofs.Whole.{search_cost}
use Rattle.span_keywalk.proofs.find.first_from.Goals as goal

pub returns-clause-first : goal.returns-clause-first
returns-clause-first g c = c.first_below.ensures.first ∙ first_is c.args.key.now None (tree_of c.args.arena.now.cells c.args.index.now) c.requires.rising

pub returns-clause-cost : goal.returns-clause-cost
returns-clause-cost g c = search_cost c.args.arena.now.cells c.args.index.now c.args.steps.now c.first_below.new.steps c.requires c.first_below.ensures.steps
