use Rattle.std.proofs.Common.{◌≡◌, take}
use Rattle.span_query.specs.Sorting.{sorted}
use Rattle.span_sorting.specs.Codes.{HaveCodes, coded_rows}
use Rattle.span_sorting.specs.Orders.{take_first}
use Rattle.span_collected.specs.Parts.{all_rows}
use Rattle.span_algebra.proofs.source.lend_parts.Given as goal

abbrev pub invariant-loop-part : goal.invariant-loop-part
invariant-loop-part l = record {
  rows : take_first l.count (sorted l.keys (coded_rows l.rows)) ≡ take_first l.count (sorted l.keys (all_rows (take l.part-index l.parts)));
  coded : HaveCodes l.keys l.rows;
}
