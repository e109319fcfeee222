use Rattle.std.proofs.Common.{◌≤◌, take, drop, length}
use Rattle.span_keycode.specs.Reads.{IsNoTuple, IsTuple}
use Rattle.span_keycode.proofs.tuple.read_tuple.Given as goal

abbrev pub invariant-loop-i : goal.invariant-loop-i
invariant-loop-i l = record {
  within : l.at ≤ length l.bytes;
  read : IsTuple (take l.i l.columns) l.bytes l.fn.values.items l.values.items l.at;
  back : IsNoTuple (drop l.i l.columns) (drop l.at l.bytes) → IsNoTuple l.columns l.bytes;
}
