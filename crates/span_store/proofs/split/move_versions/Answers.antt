use Rattle.std.specs.Prelude.{not}
use Rattle.std.specs.Ordering.{is_lt}
use Rattle.std.proofs.lemmas.List.Elements.{All-filter}
use Rattle.span_keycode.specs.Order.{byte_order}
use Rattle.span_arena.specs.Content.{IsChain}
use Rattle.span_keytree.specs.Entries.{KeyEntry, entries_from}
use Rattle.span_keyindex.specs.Indexes.{entries_of}
use Rattle.span_keyindex.proofs.Owning.{all_chains}
use Rattle.span_store.proofs.Moving.{moving_starts, source_chain, to_chain, to_none, enough_free, moving_step, moving_ends}
use Rattle.span_store.proofs.Parting.{held_once, part_once}
use Rattle.span_store.proofs.split.move_versions.Goals as goal

pub loop-source-init : goal.loop-source-init
loop-source-init c = record {
  can_next = tt;
  is_finite = tt;
  so_far = moving_starts (entries_from c.args.key.now (entries_of c.args.index.now c.args.arena.now)) (entries_of c.args.part.now c.args.to.now) c.chains_from-sources.result c.chains-chains.result c.args.arena.now c.args.to.now c.chains_from-sources.ensures c.chains-chains.ensures c.requires.keys
      (All-filter (λ (e : KeyEntry). not (is_lt (byte_order e.key c.args.key.now))) (λ (e : KeyEntry). IsChain c.args.arena.now e.chain.number) (entries_of c.args.index.now c.args.arena.now) (all_chains (entries_of c.args.index.now c.args.arena.now) c.args.arena.now c.requires.own.own))
      (all_chains (entries_of c.args.part.now c.args.to.now) c.args.to.now c.requires.part.own) c.requires.none c.requires.room;
}

pub take_versions-requires-clause-chain : goal.take_versions-requires-clause-chain
take_versions-requires-clause-chain c = to_chain (entries_from c.args.key.now (entries_of c.args.index.now c.args.arena.now)) (entries_of c.args.part.now c.args.to.now) c.loop-source.sources c.next.new.self c.loop-source.chains c.next-in-Some.new.self _ _ c.args.arena.now c.loop-source.arena c.args.to.now c.loop-source.to (part_once c.args.key.now (entries_of c.args.index.now c.args.arena.now) c.args.arena.now c.requires.own.own) (held_once (entries_of c.args.part.now c.args.to.now) c.args.to.now c.requires.part.own) c.loop-source.invariant.so_far c.in-Some.ensures.steps c.in-Some-next.ensures.steps

pub take_versions-requires-clause-none : goal.take_versions-requires-clause-none
take_versions-requires-clause-none c = to_none (entries_from c.args.key.now (entries_of c.args.index.now c.args.arena.now)) (entries_of c.args.part.now c.args.to.now) c.loop-source.sources c.next.new.self c.loop-source.chains c.next-in-Some.new.self _ _ c.args.arena.now c.loop-source.arena c.args.to.now c.loop-source.to (part_once c.args.key.now (entries_of c.args.index.now c.args.arena.now) c.args.arena.now c.requires.own.own) (held_once (entries_of c.args.part.now c.args.to.now) c.args.to.now c.requires.part.own) c.loop-source.invariant.so_far c.in-Some.ensures.steps c.in-Some-next.ensures.steps

pub take_versions-requires-clause-source : goal.take_versions-requires-clause-source
take_versions-requires-clause-source c = source_chain (entries_from c.args.key.now (entries_of c.args.index.now c.args.arena.now)) (entries_of c.args.part.now c.args.to.now) c.loop-source.sources c.next.new.self c.loop-source.chains c.next-in-Some.new.self _ _ c.args.arena.now c.loop-source.arena c.args.to.now c.loop-source.to (part_once c.args.key.now (entries_of c.args.index.now c.args.arena.now) c.args.arena.now c.requires.own.own) (held_once (entries_of c.args.part.now c.args.to.now) c.args.to.now c.requires.part.own) c.loop-source.invariant.so_far c.in-Some.ensures.steps c.in-Some-next.ensures.steps

pub take_versions-requires-clause-free : goal.take_versions-requires-clause-free
take_versions-requires-clause-free c = enough_free (entries_from c.args.key.now (entries_of c.args.index.now c.args.arena.now)) (entries_of c.args.part.now c.args.to.now) c.loop-source.sources c.next.new.self c.loop-source.chains c.next-in-Some.new.self _ _ c.args.arena.now c.loop-source.arena c.args.to.now c.loop-source.to (part_once c.args.key.now (entries_of c.args.index.now c.args.arena.now) c.args.arena.now c.requires.own.own) (held_once (entries_of c.args.part.now c.args.to.now) c.args.to.now c.requires.part.own) c.loop-source.invariant.so_far c.in-Some.ensures.steps c.in-Some-next.ensures.steps

pub loop-source-preserved : goal.loop-source-preserved
loop-source-preserved c = record {
  can_next = tt;
  is_finite = tt;
  so_far = moving_step (entries_from c.args.key.now (entries_of c.args.index.now c.args.arena.now)) (entries_of c.args.part.now c.args.to.now) c.loop-source.sources c.next.new.self c.loop-source.chains c.next-in-Some.new.self _ _ c.args.arena.now c.loop-source.arena c.args.to.now c.loop-source.to (part_once c.args.key.now (entries_of c.args.index.now c.args.arena.now) c.args.arena.now c.requires.own.own) (held_once (entries_of c.args.part.now c.args.to.now) c.args.to.now c.requires.part.own) c.loop-source.invariant.so_far c.in-Some.ensures.steps c.in-Some-next.ensures.steps c.take_versions.new.from c.take_versions.new.self c.take_versions.ensures.here c.take_versions.ensures.there;
}

pub returns : goal.returns
returns c = moving_ends (entries_from c.args.key.now (entries_of c.args.index.now c.args.arena.now)) (entries_of c.args.part.now c.args.to.now) c.loop-source.sources c.loop-source.chains c.args.arena.now c.loop-source.arena c.args.to.now c.loop-source.to c.loop-source.invariant.so_far c.in_default.ensures.steps.0
