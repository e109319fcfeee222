use Rattle.std.proofs.Common.{◌≡◌, ◌≤◌, ◌++◌, drop, map}
use Rattle.span_keycode.specs.Limits.{inline_bytes}
use Rattle.span_keycode.specs.Keys.{key_code, code_of, level_of}
use Rattle.span_keycode.proofs.encode.code.Given as goal

abbrev pub invariant-loop-i : goal.invariant-loop-i
invariant-loop-i l = record {
  bytes : l.out.items ++ code_of l.schema (map (level_of l.schema l.values) (drop l.i l.path)) ≡ key_code l.schema l.table l.values;
  capacity : inline_bytes ≤ l.out.capacity;
}
