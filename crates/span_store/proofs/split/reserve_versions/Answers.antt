use Rattle.std.specs.Prelude.{not}
use Rattle.std.specs.Ordering.{is_lt}
use Rattle.std.proofs.lemmas.List.Elements.{All-filter}
use Rattle.span_keycode.specs.Order.{byte_order}
use Rattle.span_arena.specs.Content.{IsChain}
use Rattle.span_keytree.specs.Entries.{KeyEntry, entries_from}
use Rattle.span_keyindex.specs.Indexes.{entries_of}
use Rattle.span_keyindex.proofs.Owning.{all_chains}
use Rattle.span_store.proofs.Moving.{reserving_starts, reserved_chain, reserving_step, reserving_ends}
use Rattle.span_store.proofs.split.reserve_versions.Goals as goal

pub loop-chain-init : goal.loop-chain-init
loop-chain-init c = record {
  can_next = tt;
  is_finite = tt;
  so_far = reserving_starts (entries_from c.args.key.now (entries_of c.args.index.now c.args.arena.now)) c.chains_from-chains.result c.args.arena.now c.args.room.now
      (All-filter (λ (e : KeyEntry). not (is_lt (byte_order e.key c.args.key.now))) (λ (e : KeyEntry). IsChain c.args.arena.now e.chain.number) (entries_of c.args.index.now c.args.arena.now) (all_chains (entries_of c.args.index.now c.args.arena.now) c.args.arena.now c.requires.own)) c.chains_from-chains.ensures;
}

pub count-requires : goal.count-requires
count-requires c = reserved_chain (entries_from c.args.key.now (entries_of c.args.index.now c.args.arena.now)) c.loop-chain.chains c.next.new.self _ c.args.arena.now c.args.room.now c.loop-chain.room c.loop-chain.invariant.so_far c.in-Some.ensures.steps

pub loop-chain-preserved : goal.loop-chain-preserved
loop-chain-preserved c = record {
  can_next = tt;
  is_finite = tt;
  so_far = reserving_step (entries_from c.args.key.now (entries_of c.args.index.now c.args.arena.now)) c.loop-chain.chains c.next.new.self _ c.args.arena.now c.args.room.now c.loop-chain.room c.loop-chain.invariant.so_far c.in-Some.ensures.steps
      c.count.result c.add_nodes.new.room c.count.ensures c.in_ok-add_nodes.ensures.ok;
}

pub returns-clause-ok : goal.returns-clause-ok
returns-clause-ok c = reserving_ends (entries_from c.args.key.now (entries_of c.args.index.now c.args.arena.now)) c.loop-chain.chains c.args.arena.now c.args.room.now c.loop-chain.room c.loop-chain.invariant.so_far c.in_default.ensures.steps.0
