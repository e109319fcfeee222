use Rattle.std.proofs.Common.{◌≡◌, ◌≤◌, ◌++◌, List, ℕ, length, drop}
use Rattle.span_value.specs.declared.value.Value.{Value}
use Rattle.span_keycode.specs.Coding.{AreFit, tuple_code}
use Rattle.span_keycode.proofs.Skips.{Left}
use Rattle.span_keycode.proofs.root.skip_tuple.Given as goal

abbrev pub invariant-loop-i : goal.invariant-loop-i
invariant-loop-i l = record {
  within : l.at ≤ length l.bytes;
  left : (vs : List Value) (more : List ℕ) → AreFit l.columns vs → l.bytes ≡ tuple_code l.columns vs ++ more → Left (drop l.i l.columns) (drop l.at l.bytes) more;
}
