use Rattle.span_store.specs.Reads.{versions_alone_at}
use Rattle.span_store.proofs.Seeing.{chains_left, first_chain, pushed_step}
use Rattle.span_store.proofs.place.push_keys.Goals as goal

pub invariant_of-push : goal.invariant_of-push
invariant_of-push c = first_chain c.args.arena.now c.loop-key.walk c.next.new.self _ c.in-Some.ensures.steps c.loop-key.invariant.chains

pub loop-key-preserved : goal.loop-key-preserved
loop-key-preserved c = record {
  can_next = tt;
  is_finite = tt;
  chains = chains_left c.args.arena.now c.loop-key.walk c.next.new.self _ c.in-Some.ensures.steps c.loop-key.invariant.chains;
  so_far = pushed_step (versions_alone_at c.args.arena.now) c.loop-key.found.items c.push.new.self.items c.loop-key.walk c.next.new.self _ _ c.in-Some.ensures.steps c.in_ok-push.ensures.items c.loop-key.invariant.so_far;
}
