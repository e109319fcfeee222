use Rattle.std.proofs.Common.{◌≡◌, drop}
use Rattle.span_keycode.specs.Parts.{lowest_gap}
use Rattle.span_keycode.proofs.parts.gap_between.Given as goal

abbrev pub invariant-loop-piece : goal.invariant-loop-piece
invariant-loop-piece l =
    lowest_gap (record { low = l.fn.low; high = l.fn.high }) l.covered ≡ lowest_gap (record { low = l.from; high = l.fn.high }) (drop l.piece-index l.covered)
