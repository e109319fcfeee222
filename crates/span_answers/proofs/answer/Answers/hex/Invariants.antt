use Rattle.std.proofs.Common.{◌≡◌, ◌++◌, drop}
use Rattle.span_value.specs.Cells.{hex_pairs}
use Rattle.span_answers.specs.Lines.{Begins}
use Rattle.span_answers.proofs.answer.Answers.hex.Given as goal

-- what is added so far, and the digits of the bytes that are left
abbrev pub invariant-loop-byte : goal.invariant-loop-byte
invariant-loop-byte l = Begins l.fn.self l.self × (l.self ++ hex_pairs (drop l.byte-index l.bytes) ≡ l.fn.self ++ hex_pairs l.bytes)
