use Rattle.std.proofs.Common.{◌<◌, ℕ, get_or, length}
use Rattle.span_arena.specs.FreeOrders.{IsPlaceOf}
use Rattle.span_arena.proofs.free_order.are_inverse.Given as goal

-- those so far have their places
abbrev pub invariant-loop-at : goal.invariant-loop-at
invariant-loop-at l = record {
  each : (i : ℕ) → i < l.at → IsPlaceOf l.places (get_or l.numbers i 0) i;
  within : (i : ℕ) → i < l.at → get_or l.places i 0 < length l.numbers;
}
