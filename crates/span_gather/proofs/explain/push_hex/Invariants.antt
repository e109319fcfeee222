use Rattle.std.proofs.Common.{◌≡◌, ◌++◌, drop, string_bytes}
use Rattle.span_value.specs.Cells.{hex_pairs}
use Rattle.span_gather.proofs.explain.push_hex.Given as goal

-- the digits so far, and those of the bytes that are left
abbrev pub invariant-loop-byte : goal.invariant-loop-byte
invariant-loop-byte l = string_bytes l.out ++ hex_pairs (drop l.byte-index l.bytes) ≡ string_bytes l.fn.out ++ hex_pairs l.bytes
