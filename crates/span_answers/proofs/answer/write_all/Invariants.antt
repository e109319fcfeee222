use Rattle.std.proofs.Common.{◌≡◌, length}
use Rattle.std.specs.Io.KnownBytes.{Keeps, append_known}
use Rattle.span_answers.proofs.answer.write_all.Given as goal

-- no write failed so far, and what was written and the rest are all the bytes
abbrev pub invariant-loop-rest : goal.invariant-loop-rest
invariant-loop-rest g l =
    (g.O.OutputDevice.failures l.output ≡ g.O.OutputDevice.failures l.fn.output)
    × Keeps (append_known (g.O.OutputDevice.written l.fn.output) l.bytes) (append_known (g.O.OutputDevice.written l.output) l.rest)

abbrev pub decreases-loop-rest : goal.decreases-loop-rest
decreases-loop-rest g l = length l.rest
