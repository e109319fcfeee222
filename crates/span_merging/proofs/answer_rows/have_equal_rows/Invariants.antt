use Rattle.std.proofs.Common.{◌≡◌, drop}
use Rattle.std.specs.Cmp.Lexicographic.{pointwise}
use Rattle.span_query.specs.Groups.{are_equal}
use Rattle.span_merging.proofs.answer_rows.have_equal_rows.Given as goal

-- the rows so far are equal
abbrev pub invariant-loop-at : goal.invariant-loop-at
invariant-loop-at l = pointwise are_equal l.rows l.others ≡ pointwise are_equal (drop l.at l.rows) (drop l.at l.others)
