use Rattle.std.proofs.Common.{◌≡◌, take}
use Rattle.span_collected.specs.Parts.{all_rows}
use Rattle.span_algebra.proofs.source.join_parts.Given as goal

abbrev pub invariant-loop-part : goal.invariant-loop-part
invariant-loop-part l = l.rows ≡ all_rows (take l.part-index l.parts)
