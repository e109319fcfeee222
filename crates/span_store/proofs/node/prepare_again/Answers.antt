use Rattle.std.proofs.Common.{Option, refl, sym, subst}
use Rattle.span_arena.specs.Content.{Prepared, IsSomePrepared}
use Rattle.span_store.proofs.Preparing.{prepared_there, chain_here, node_of, never_refused}
use Rattle.span_store.proofs.node.prepare_again.Goals as goal

pub give_back-requires : goal.give_back-requires
give_back-requires c =
    let node = node_of c.args.arena.now c.args.arena.now c.args.arena.now c.args.prepared.now.items c.args.prepared.now.items c.place_for-at.result c.index.result.now (record { txn = c.args.txn; chain = c.args.chain; node = c.index.result.now.node }) c.args.row
    c.requires.owned c.place_for-at.ensures c.index.ensures in
    subst (λ (o : Option Prepared). IsSomePrepared o (λ _. Unit {0})) (sym node.prepared) tt

pub reserve_node-requires : goal.reserve_node-requires
reserve_node-requires c =
    chain_here c.args.arena.now c.give_back.new.self c.args.arena.now c.args.prepared.now.items c.args.prepared.now.items c.place_for-at.result c.index.result.now (record { txn = c.args.txn; chain = c.args.chain; node = c.index.result.now.node }) c.args.row
    c.requires.owned c.place_for-at.ensures c.index.ensures c.give_back.ensures

pub unreachable-requires : goal.unreachable-requires
unreachable-requires c = never_refused c.args.arena.now c.index.result.now.node.number c.give_back.new.self _ c.in_default.field-0 c.give_back.ensures c.live-in_use.ensures.order c.in_default.ensures.refused

pub returns : goal.returns
returns c =
    prepared_there c.args.arena.now c.give_back.new.self c.reserve_node.new.self c.args.prepared.now.items _ c.place_for-at.result c.index.result.now (record { txn = c.args.txn; chain = c.args.chain; node = c.in-Ok.node }) c.args.row
    c.requires.owned c.place_for-at.ensures c.index.ensures c.give_back.ensures c.in-Ok.ensures.ok refl
