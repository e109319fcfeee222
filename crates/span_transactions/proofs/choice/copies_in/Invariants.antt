use Rattle.std.proofs.Common.{◌≡◌, take}
use Rattle.span_machine.specs.Machine.{mutations_in}
use Rattle.span_transactions.proofs.choice.copies_in.Given as goal

-- copies of those so far
abbrev pub invariant-loop-mutation : goal.invariant-loop-mutation
invariant-loop-mutation l = l.copies ≡ mutations_in l.schema l.slot_state (take l.mutation-index l.mutations)
