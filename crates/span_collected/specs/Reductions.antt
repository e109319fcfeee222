-- Rows that are enough in the place of others.
use Rattle.std.specs.Prelude.{◌≡◌, List, Result, Ok, Err, Some, None, take}
use Rattle.span_expr.specs.declared.cell.Failure.{Failure}
use Rattle.span_expr.specs.declared.cell.Failure.TheVariants.{Fault, OutOfMemory}
use Rattle.span_query.specs.Rows.{Row, Rows}
use Rattle.span_query.specs.Sorting.{sorted}
use Rattle.span_rows.specs.Columns.{distinct_at}
use Rattle.span_collected.specs.declared.reduction.Reduction.{Reduction}
use Rattle.span_collected.specs.declared.reduction.Reduction.TheVariants.{Everything, First, InOrder, Distinct}

-- What is kept of the rows and of the others is the same: all, the first in the order of the keys, all in this order, or the values at
-- the columns, each once.
abbrev pub AreEnough : Reduction → List Row → List Row → Type 0
AreEnough Everything rows all = rows ≡ all
AreEnough (First keys count) rows all = take count (sorted keys.items rows) ≡ take count (sorted keys.items all)
AreEnough (InOrder keys) rows all = sorted keys.items rows ≡ sorted keys.items all
AreEnough (Distinct columns) rows all = distinct_at columns.items rows ≡ distinct_at columns.items all

-- rows that are enough in the place of those that are meant, or the fault
abbrev pub HasEnough : Reduction → Rows → Rows → Type 0
HasEnough reduction None meant = meant ≡ None
HasEnough reduction (Some rows) meant = (all : List Row) × (meant ≡ Some all) × AreEnough reduction rows all

-- They are enough in the place of those that are meant, or it is their fault; nothing is stated where memory ran out.
abbrev pub GivesEnough : Reduction → Result (List Row) Failure → Rows → Type 0
GivesEnough reduction (Ok rows) meant = HasEnough reduction (Some rows) meant
GivesEnough reduction (Err Fault) meant = HasEnough reduction None meant
GivesEnough reduction (Err OutOfMemory) meant = Unit {0}
