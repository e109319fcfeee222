use Rattle.std.proofs.Common.{take}
use Rattle.span_rows.specs.LentRows.{lent_rows}
use Rattle.span_classes.specs.Classes.{HaveTaken}
use Rattle.span_classes.proofs.class_groups.groups_of_class.Given as goal

-- the groups of the rows so far
abbrev pub invariant-loop-place : goal.invariant-loop-place
invariant-loop-place l = HaveTaken l.grouping l.class (lent_rows l.rows) (take l.place (lent_rows l.rows)) l.index.keys l.groups l.firsts.items
