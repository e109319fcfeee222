use Rattle.std.proofs.Common.{[], sym, ◌∙◌}
use Rattle.span_keytree.proofs.Into.{chain_there, into_tree}
use Rattle.span_keytree.proofs.Rightmost.{stops_part}
use Rattle.span_keytree.proofs.stop.stop_in_part.Goals as goal

pub last_below-end-requires : goal.last_below-end-requires
last_below-end-requires c =
    into_tree c.args.arena.now c.args.index.now [] c.args.cell c.requires.search (chain_there c.args.arena.now c.args.index.now c.args.cell c.requires.chains (sym c.is_chain.ensures ∙ c.if-not-is_chain.false))

pub stop_below-requires : goal.stop_below-requires
stop_below-requires c =
    into_tree c.args.arena.now c.args.index.now [] c.args.cell c.requires.search (chain_there c.args.arena.now c.args.index.now c.args.cell c.requires.chains (sym c.is_chain.ensures ∙ c.if-not-is_chain.false))

pub returns : goal.returns
returns c =
    stops_part c.args.arena.now c.args.index.now c.args.cell c.in-Some.last c.requires.search c.requires.chains (sym c.is_chain.ensures ∙ c.if-not-is_chain.false) (sym c.requires.last ∙ c.in-Some.is) (sym c.last_below-end.ensures ∙ c.leads_to.ensures c.if-not-leads_to.false) c.stop_below.result c.stop_below.ensures
