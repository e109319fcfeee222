use Rattle.std.proofs.Common.{◌++◌, ◌∷◌, [], ℕ, List, sym, ap, ◌∙◌}
use Rattle.span_maderows.proofs.Pushing.{pushing_first, pushing_next, pushed_until}
use Rattle.span_maderows.proofs.ordered.push_keys_of_map.Goals as goal

pub loop-key-init : goal.loop-key-init
loop-key-init c = record {
  can_next = tt;
  is_finite = tt;
  pushing = pushing_first c.args.map.now.entries c.args.front.now c.args.keys.now.items c.range-rest.result c.range-rest.ensures.ordered (c.range-rest.ensures.between tt);
}

pub returns-then-not-begins_with : goal.returns-then-not-begins_with
returns-then-not-begins_with c =
    pushed_until c.args.map.now.entries c.args.front.now c.args.keys.now.items c.loop-key.keys.items c.in-Some.key.now c.in-Some._row.now c.loop-key.rest c.next.new.self c.in-Some.ensures.steps
    (sym c.begins_with.ensures ∙ c.if-not-begins_with.true) c.loop-key.invariant.pushing

pub loop-key-preserved : goal.loop-key-preserved
loop-key-preserved c = record {
  can_next = tt;
  is_finite = tt;
  pushing = pushing_next c.args.map.now.entries c.args.front.now c.args.keys.now.items c.loop-key.keys.items c.push.new.self.items c.in-Some.key.now c.in-Some._row.now c.loop-key.rest c.next.new.self c.in-Some.ensures.steps
      (c.in_ok-push.ensures.items ∙ ap (λ (k : List ℕ). c.loop-key.keys.items ++ k ∷ []) (c.in_ok-from_slice.ensures.bytes ∙ c.as_slice.ensures))
      (sym c.begins_with.ensures ∙ c.if-not-begins_with.false) c.loop-key.invariant.pushing;
}
