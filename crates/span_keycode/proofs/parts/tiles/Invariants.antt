use Rattle.std.proofs.Common.{◌≡◌, drop}
use Rattle.span_keycode.specs.Parts.{tiles}
use Rattle.span_keycode.proofs.parts.tiles.Given as goal

abbrev pub invariant-loop-piece : goal.invariant-loop-piece
invariant-loop-piece l = tiles l.fn.range l.covered ≡ tiles (record { low = l.low; high = l.high }) (drop l.piece-index l.covered)
