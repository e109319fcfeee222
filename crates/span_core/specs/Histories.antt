-- The machine's steps and whole runs, where query texts are understood as `span_binder` understands them.
use Rattle.std.specs.Prelude.{List}
use Rattle.span_schema.specs.declared.table.Table.{Table}
use Rattle.span_machine.specs.declared.step.Step.{Step}
use Rattle.span_machine.specs.declared.step.Reply.{Reply}
use Rattle.span_machine.specs.Machine as machine
use Rattle.span_machine.specs.Machine.{Machine}
use Rattle.span_machine.specs.Run as run
use Rattle.span_binder.specs.Understands.{Understands}

-- from a machine, the reply to the step and the machine after it
abbrev pub IsStep : List Table → Machine → Step → Reply → Machine → Type 0
IsStep schema m s r next = machine.IsStep (Understands schema) schema m s r next

-- from a machine, the replies to the steps, one after another, and the machine after them
abbrev pub Run : List Table → Machine → List Step → List Reply → Machine → Type 0
Run schema m steps replies last = run.Run (Understands schema) schema m steps replies last

-- The headline: every reply is the machine's, and every query that is answered has exactly the rows, in order, that its
-- text means on the tables of all the commits of the run at its timestamp or earlier.
abbrev pub IsHistory : List Table → List Step → List Reply → Type 0
IsHistory schema steps replies = run.IsHistory (Understands schema) schema steps replies
