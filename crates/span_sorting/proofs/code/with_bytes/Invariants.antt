use Rattle.std.proofs.Common.{◌≡◌, ◌<◌, ◌*◌, ◌-◌, ◌^◌, drop}
use Rattle.span_sorting.specs.Codes.{with_bytes}
use Rattle.span_sorting.proofs.code.with_bytes.Given as goal

-- the digits so far, and the bytes that are left
abbrev pub invariant-loop-place : goal.invariant-loop-place
invariant-loop-place l = record {
  code : with_bytes 8 l.rank l.bytes ≡ with_bytes (8 - l.place) l.code (drop l.place l.bytes);
  low : l.code < 5 * 256 ^ l.place;
}
