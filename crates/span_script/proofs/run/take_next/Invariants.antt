use Rattle.std.proofs.Common.{◌≡◌, ℕ, List}
use Rattle.std.specs.Io.KnownBytes.{Keeps, append_known}
use Rattle.span_command.specs.Unread.{IsStillToCome}
use Rattle.span_script.proofs.run.take_next.Given as goal

-- no device failed so far, no line was taken, and what was answered is written or pending
abbrev pub invariant-loop : goal.invariant-loop
invariant-loop g l =
    let remaining = g.I.InputDevice.remaining in
    let known = g.O.OutputDevice.written in
    record {
      input_works : g.I.InputDevice.failures l.input ≡ g.I.InputDevice.failures l.fn.input;
      output_works : g.O.OutputDevice.failures l.output ≡ g.O.OutputDevice.failures l.fn.output;
      to_come : (text : List ℕ) → IsStillToCome l.fn.lines (remaining l.fn.input) text → IsStillToCome l.lines (remaining l.input) text;
      written : Keeps (append_known (known l.fn.output) l.fn.answers) (append_known (known l.output) l.answers);
    }
