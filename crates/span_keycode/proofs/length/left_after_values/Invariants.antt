use Rattle.std.proofs.Common.{◌≡◌, ◌+◌, drop}
use Rattle.span_keycode.specs.Keys.{values_len}
use Rattle.span_keycode.proofs.length.left_after_values.Given as goal

abbrev pub invariant-loop-value : goal.invariant-loop-value
invariant-loop-value l = l.rest + values_len l.values ≡ l.left + values_len (drop l.value-index l.values)
