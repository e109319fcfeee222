use Rattle.std.proofs.Common.{◌≡◌, ◌++◌, ◌+◌, ◌≤◌, length, vec_len}
use Rattle.std.specs.Prelude.{vec_capacity}
use Rattle.std.specs.Vec.Iter.{into_iter_items, into_iter_len}
use Rattle.span_machine.specs.Machine.{start}
use Rattle.span_machine.specs.Run.{AreChecked, AreOfSchema}
use Rattle.span_core.specs.Histories.{Run}
use Rattle.span_core.proofs.run.run.Given as goal

-- the replies so far are the machine's, and there is capacity for one to each step that is left
abbrev pub invariant-loop-step : goal.invariant-loop-step
invariant-loop-step l = record {
  schema : l.core.schema ≡ l.fn.schema;
  ran : Run l.fn.schema start l.yielded l.replies.items l.core.machine;
  of_schema : AreOfSchema l.fn.schema l.yielded;
  checked : AreChecked l.fn.schema (into_iter_items l.step-iterator);
  rest : l.yielded ++ into_iter_items l.step-iterator ≡ l.fn.steps.items;
  count : into_iter_len l.step-iterator ≡ length (into_iter_items l.step-iterator);
  capacity : vec_len l.replies + into_iter_len l.step-iterator ≤ vec_capacity l.replies;
}
