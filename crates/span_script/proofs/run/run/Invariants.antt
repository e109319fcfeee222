use Rattle.std.proofs.Common.{◌≡◌, ℕ, List, Some}
use Rattle.span_steps.specs.Running.{state_of}
use Rattle.span_script.proofs.Runs.{IsAnsweredSoFar}
use Rattle.span_script.proofs.run.run.Given as goal

-- no device failed so far, and the lines so far are answered
abbrev pub invariant-loop : goal.invariant-loop
invariant-loop g l =
    let remaining = g.I.InputDevice.remaining in
    let written = g.O.OutputDevice.written in
    record {
      input_works : g.I.InputDevice.failures l.input ≡ g.I.InputDevice.failures l.fn.input;
      output_works : g.O.OutputDevice.failures l.output ≡ g.O.OutputDevice.failures l.fn.output;
      same_schema : l.core.schema ≡ l.fn.core.schema;
      so_far : (script : List ℕ) → remaining l.fn.input ≡ Some script
          → IsAnsweredSoFar l.fn.core.schema l.fn.core.machine script (written l.fn.output) l.lines (remaining l.input) (state_of l.running) l.core.machine (written l.output) l.answers;
    }
