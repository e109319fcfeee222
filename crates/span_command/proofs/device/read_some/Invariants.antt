use Rattle.std.proofs.Common.{◌≡◌, length}
use Rattle.std.specs.Io.KnownBytes.{Keeps}
use Rattle.span_command.proofs.device.read_some.Given as goal

-- reads that were interrupted took no byte
abbrev pub invariant-loop : goal.invariant-loop
invariant-loop g l = (length l.buffer ≡ length l.initial.buffer) × Keeps (g.R.Read.remaining l.initial.device) (g.R.Read.remaining l.device)
