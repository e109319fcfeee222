use Rattle.std.proofs.Common.{◌≡◌, ◌≤◌, take, length}
use Rattle.span_keycode.specs.Ranges.{next_after}
use Rattle.span_keycode.proofs.range.kept_len.Given as goal

abbrev pub invariant-loop-kept : goal.invariant-loop-kept
invariant-loop-kept l = record {
  within : l.kept ≤ length l.code;
  next : next_after l.code ≡ next_after (take l.kept l.code);
}

abbrev pub decreases-loop-kept : goal.decreases-loop-kept
decreases-loop-kept l = l.kept
