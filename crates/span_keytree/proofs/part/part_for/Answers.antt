use Rattle.std.proofs.Common.{◌∙◌, sym}
use Rattle.span_keytree.proofs.Into.{chain_there, into_tree, into_search}
use Rattle.span_keytree.proofs.part.part_for.Goals as goal

pub is_part-requires : goal.is_part-requires
is_part-requires g c =
    into_tree c.args.arena.now c.args.index.now c.args.key.now c.climb_from-cell.result c.requires.search (chain_there c.args.arena.now c.args.index.now c.climb_from-cell.result c.requires.chains (sym c.is_chain.ensures ∙ c.if-not-is_chain.false))

pub returns-then-is_part-clause-part : goal.returns-then-is_part-clause-part
returns-then-is_part-clause-part g c = record {
  there = chain_there c.args.arena.now c.args.index.now c.climb_from-cell.result c.requires.chains (sym c.is_chain.ensures ∙ c.if-not-is_chain.false);
  own = sym c.is_part.ensures.part ∙ c.if-is_part.true;
}

pub returns-then-is_part-clause-steps : goal.returns-then-is_part-clause-steps
returns-then-is_part-clause-steps g c =
    into_search c.args.arena.now c.args.index.now c.args.key.now c.climb_from-cell.result c.requires.search (chain_there c.args.arena.now c.args.index.now c.climb_from-cell.result c.requires.chains (sym c.is_chain.ensures ∙ c.if-not-is_chain.false)) c.args.steps.now c.is_part.new.steps c.is_part.ensures.steps

pub returns-else-is_part-clause-steps : goal.returns-else-is_part-clause-steps
returns-else-is_part-clause-steps g c =
    into_search c.args.arena.now c.args.index.now c.args.key.now c.climb_from-cell.result c.requires.search (chain_there c.args.arena.now c.args.index.now c.climb_from-cell.result c.requires.chains (sym c.is_chain.ensures ∙ c.if-not-is_chain.false)) c.args.steps.now c.is_part.new.steps c.is_part.ensures.steps
