use Rattle.std.proofs.Common.{drop}
use Rattle.span_maderows.proofs.Pushing.{IsPushing}
use Rattle.span_maderows.proofs.ordered.push_keys_of_list.Given as goal

-- the keys so far, and those that are left
abbrev pub invariant-loop-key : goal.invariant-loop-key
invariant-loop-key l = IsPushing l.rows l.front l.fn.keys.items (drop l.key-index l.rest) l.keys.items
