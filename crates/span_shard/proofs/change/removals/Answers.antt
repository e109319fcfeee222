use Rattle.std.proofs.Common.{None, refl, sym, ◌∙◌}
use Rattle.span_shard.specs.Overlay.{changes_of}
use Rattle.span_shard.proofs.RunAll.{removal_more, removal_none}
use Rattle.span_shard.proofs.change.removals.Goals as goal

pub loop-key-preserved-in-Continue-1 : goal.loop-key-preserved-in-Continue-1
loop-key-preserved-in-Continue-1 c =
    removal_more c.args.store.now (changes_of c.args.made.now c.args.removed.keys) c.args.made.now c.loop-key.left.keys c.pop_last.new.self.keys c.loop-key.writes.items c.push.new.self.items (record { key = c.in-Some.key; row = None }) refl
    c.in_ok-push.ensures.items c.in-Some.ensures.member (λ k. c.in-Some.ensures.updates.0 k) (sym c.is_removal.ensures ∙ c.if-is_removal.true) c.loop-key.invariant

pub loop-key-preserved : goal.loop-key-preserved
loop-key-preserved c =
    removal_none c.args.store.now (changes_of c.args.made.now c.args.removed.keys) c.args.made.now c.loop-key.left.keys c.pop_last.new.self.keys c.loop-key.writes.items c.in-Some.key
    c.in-Some.ensures.member (λ k. c.in-Some.ensures.updates.0 k) (sym c.is_removal.ensures ∙ c.if-is_removal.false) c.loop-key.invariant
