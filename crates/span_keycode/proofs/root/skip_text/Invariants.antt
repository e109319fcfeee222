use Rattle.std.proofs.Common.{◌≡◌, ◌≤◌, ◌-◌, List, ℕ, Some, length, drop}
use Rattle.span_keycode.specs.Coding.{in_direction}
use Rattle.span_keycode.specs.Texts.{text_at}
use Rattle.span_keycode.proofs.root.skip_text.Given as goal

abbrev pub invariant-loop-width : goal.invariant-loop-width
invariant-loop-width l = record {
  within : l.at ≤ length l.bytes;
  more : (text rest : List ℕ) → text_at (in_direction l.desc l.bytes) ≡ Some (text, rest) → (left : List ℕ) × (text_at (in_direction l.desc (drop l.at l.bytes)) ≡ Some (left, rest));
}

abbrev pub decreases-loop-width : goal.decreases-loop-width
decreases-loop-width l = length l.bytes - l.at
