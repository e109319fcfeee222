use Rattle.std.proofs.Common.{◌≡◌, take}
use Rattle.span_rows.specs.LentRows.{lent_rows}
use Rattle.span_collected.specs.Parts.{all_rows}
use Rattle.span_algebra.proofs.source.lend_rows_of.Given as goal

abbrev pub invariant-loop-part : goal.invariant-loop-part
invariant-loop-part l = lent_rows l.rows.items ≡ all_rows (take l.part-index l.parts)
