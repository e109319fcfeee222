use Rattle.std.proofs.Common.{◌≡◌, ◌++◌, take}
use Rattle.span_answers.specs.Lines.{slot_lines}
use Rattle.span_answers.proofs.answer.Answers.slot_lines.Given as goal

-- the lines of the slots before the next one
abbrev pub invariant-loop-slot : goal.invariant-loop-slot
invariant-loop-slot l = l.self ≡ l.fn.self ++ slot_lines l.core.schema l.core.machine 0 (take l.slot l.core.machine.slots)
