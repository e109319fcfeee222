use Rattle.span_keyindex.specs.Indexes.{entries_of}
use Rattle.span_keyindex.proofs.Owning.{all_chains}
use Rattle.span_store.proofs.Cutting.{left_start, left_chain, left_step, left_none}
use Rattle.span_store.proofs.trim.trim_chains.Goals as goal

pub loop-chain-init : goal.loop-chain-init
loop-chain-init c = record {
  can_next = tt;
  is_finite = tt;
  so_far = left_start c.args.horizon (entries_of c.args.index.now c.args.arena.now) c.chains-chains.result c.args.arena.now (all_chains (entries_of c.args.index.now c.args.arena.now) c.args.arena.now c.requires.own) c.chains-chains.ensures;
}

pub trim-requires : goal.trim-requires
trim-requires c = left_chain c.args.horizon (entries_of c.args.index.now c.args.arena.now) c.loop-chain.chains c.next.new.self _ c.args.arena.now c.loop-chain.arena c.loop-chain.invariant.so_far c.in-Some.ensures.steps

pub loop-chain-preserved : goal.loop-chain-preserved
loop-chain-preserved c = record {
  can_next = tt;
  is_finite = tt;
  so_far = left_step c.args.horizon (entries_of c.args.index.now c.args.arena.now) c.loop-chain.chains c.next.new.self _ c.args.arena.now c.loop-chain.arena c.loop-chain.invariant.so_far c.in-Some.ensures.steps c.trim.new.self c.trim.ensures;
}

pub returns : goal.returns
returns c = left_none c.args.horizon (entries_of c.args.index.now c.args.arena.now) c.loop-chain.chains c.args.arena.now c.loop-chain.arena c.loop-chain.invariant.so_far c.in_default.ensures.steps.0
