use Rattle.std.proofs.Common.{◌≡◌, ◌≤◌, ◌<◌, ℕ, false}
use Rattle.span_machine.specs.Pieces.{machine_of}
use Rattle.span_board.specs.Places.{has_mutations}
use Rattle.span_board.proofs.places.next_with_mutations.Given as goal

-- in the slots so far none lie
abbrev pub invariant-loop-slot : goal.invariant-loop-slot
invariant-loop-slot l = (l.from ≤ l.slot) × ((i : ℕ) → l.from ≤ i → i < l.slot → has_mutations l.schema (machine_of l.journal) l.owner l.txn i ≡ false)
