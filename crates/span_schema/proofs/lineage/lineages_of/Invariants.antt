use Rattle.std.proofs.Common.{◌≡◌, ℕ, ◌<◌, map, None}
use Rattle.std.specs.List.{range_with_len}
use Rattle.span_schema.specs.Lineages.{lineage_at, cause_at}
use Rattle.span_schema.proofs.lineage.lineages_of.Given as goal

abbrev pub invariant-loop-i : goal.invariant-loop-i
invariant-loop-i l = record {
  lines : l.lines.items ≡ map (lineage_at l.tables) (range_with_len 0 l.i);
  before : (k : ℕ) → k < l.i → cause_at l.tables k ≡ None;
}
