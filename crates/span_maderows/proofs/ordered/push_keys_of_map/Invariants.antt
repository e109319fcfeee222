use Rattle.span_maderows.proofs.Pushing.{IsPushing}
use Rattle.span_maderows.proofs.ordered.push_keys_of_map.Given as goal

-- the keys so far, and those that are left
abbrev pub invariant-loop-key : goal.invariant-loop-key
invariant-loop-key l = record {
  can_next : (goal.iterator-loop-key).can_next l.rest;
  is_finite : (goal.iterator-loop-key).is_finite l.rest;
  pushing : IsPushing l.map.entries l.front l.fn.keys.items l.rest l.keys.items;
}
