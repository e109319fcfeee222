use Rattle.std.proofs.Common.{◌≡◌, take}
use Rattle.span_rows.specs.Columns.{distinct_at}
use Rattle.span_rows.specs.LentRows.{lent_rows}
use Rattle.span_collected.specs.Parts.{all_rows}
use Rattle.span_algebra.proofs.source.lend_firsts_of.Given as goal

abbrev pub invariant-loop-part : goal.invariant-loop-part
invariant-loop-part l = distinct_at l.columns (lent_rows l.rows.items) ≡ distinct_at l.columns (all_rows (take l.part-index l.parts))
