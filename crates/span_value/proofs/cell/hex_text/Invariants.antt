use Rattle.std.proofs.Common.{◌≡◌, ◌++◌, ◌∷◌, drop, string_bytes}
use Rattle.span_value.specs.Cells.{hex_pairs}
use Rattle.span_value.proofs.cell.hex_text.Given as goal

abbrev pub invariant-loop-byte : goal.invariant-loop-byte
invariant-loop-byte l = string_bytes l.out ++ hex_pairs (drop l.byte-index l.bytes) ≡ 92 ∷ 120 ∷ hex_pairs l.bytes
