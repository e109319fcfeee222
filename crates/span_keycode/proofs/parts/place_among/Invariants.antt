use Rattle.std.proofs.Common.{◌≡◌, ◌+◌, drop}
use Rattle.span_keycode.specs.Parts.{place_among}
use Rattle.span_keycode.proofs.parts.place_among.Given as goal

abbrev pub invariant-loop-i : goal.invariant-loop-i
invariant-loop-i l = place_among l.covered l.fn.range ≡ place_among (drop l.i l.covered) l.fn.range + l.i
