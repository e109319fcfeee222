use Rattle.std.proofs.Common.{length}
use Rattle.span_keyindex.specs.Removals.{all_of}
use Rattle.span_keyindex.proofs.Unlinking.{IsPassing}
use Rattle.span_keyindex.proofs.remove.unlink.Given as goal

abbrev pub invariant-loop-step : goal.invariant-loop-step
invariant-loop-step l = IsPassing (all_of l.fn.arena.cells l.fn.nexts) l.fn.arena l.arena l.fn.nexts l.nexts (length l.fn.arena.cells) l._step l.at l.kept
