use Rattle.std.proofs.Common.{◌≡◌, take}
use Rattle.span_store.specs.Stored.{count_for}
use Rattle.span_store.proofs.node.place_for.Given as goal

-- none so far is for the chain
abbrev pub invariant-loop-at : goal.invariant-loop-at
invariant-loop-at l = count_for l.chain.number (take l.at l.prepared.items) ≡ 0
