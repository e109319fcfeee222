use Rattle.std.proofs.Common.{◌≡◌, ◌≤◌, ◌==◌, count_by, take}
use Rattle.span_program.proofs.progress.count_line_feeds.Given as goal

-- how many of those so far are an LF
abbrev pub invariant-loop-byte : goal.invariant-loop-byte
invariant-loop-byte l = record {
  counted : l.count ≡ count_by (λ byte. byte == 10) (take l.byte-index l.bytes);
  few : l.count ≤ l.byte-index;
}
