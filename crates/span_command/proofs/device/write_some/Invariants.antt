use Rattle.std.specs.Io.KnownBytes.{Keeps}
use Rattle.span_command.proofs.device.write_some.Given as goal

-- nothing was written so far
abbrev pub invariant-loop : goal.invariant-loop
invariant-loop g l = Keeps (g.W.Write.contents l.fn.device) (g.W.Write.contents l.device)
