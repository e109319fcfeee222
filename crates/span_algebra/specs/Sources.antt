-- The rows of an item of a FROM, lent or made.
use Rattle.std.specs.Prelude.{◌≡◌, ℕ, List, [], Option, Result, Ok, Err, Some, None, Vec}
use Rattle.std.specs.declared.alloc.Global.{Global}
use denote.Ref.{Bor}
use Rattle.span_expr.specs.declared.cell.Failure.{Failure}
use Rattle.span_expr.specs.declared.cell.Failure.TheVariants.{Fault, OutOfMemory}
use Rattle.span_query.specs.declared.query.SortKey.{SortKey}
use Rattle.span_query.specs.Rows.{Row, Rows}
use Rattle.span_query.specs.Sorting.{sorted}
use Rattle.span_rows.specs.Columns.{distinct_at}
use Rattle.span_rows.specs.LentRows.{lent_rows}
use Rattle.span_sorting.specs.Orders.{take_first}
use Rattle.span_algebra.specs.declared.source.SourceRows.{SourceRows}
use Rattle.span_algebra.specs.declared.source.SourceRows.TheVariants.{Lent, Made}
use Rattle.span_algebra.specs.declared.source.TableSource.{TableSource}
use Rattle.span_algebra.specs.declared.source.TableSource.TheVariants as table
use Rattle.span_collected.specs.Parts.{all_rows}

abbrev pub source_rows : SourceRows → List Row
source_rows (Lent rows) = rows.now
source_rows (Made rows) = rows

-- These are the rows that are meant, or it is the fault; nothing is stated where memory ran out.
abbrev pub GivesRows : Result SourceRows Failure → Rows → Type 0
GivesRows (Ok source) o = o ≡ Some (source_rows source)
GivesRows (Err Fault) o = o ≡ None
GivesRows (Err OutOfMemory) o = Unit {0}

-- The same of rows that are lent.
abbrev pub LendsRows : Result (Vec (Bor Row) Global) Failure → Rows → Type 0
LendsRows (Ok rows) o = o ≡ Some (lent_rows rows.items)
LendsRows (Err Fault) o = o ≡ None
LendsRows (Err OutOfMemory) o = Unit {0}

-- what a table gives: its rows, or the fault
abbrev pub source_result : TableSource → Rows
source_result (table.Parts parts) = Some (all_rows parts.items)
source_result table.Fault = None

-- a table gives this; one that is not there has no rows
abbrev pub IsGivenBy : Option TableSource → Rows → Type 0
IsGivenBy None o = o ≡ Some []
IsGivenBy (Some source) o = o ≡ source_result source

-- sorted by the keys, these rows and those are the same; where a count is given, the first `count` are
abbrev pub SortsAs : List SortKey → Option ℕ → List Row → Rows → Type 0
SortsAs keys count rows None = ⊥
SortsAs keys count rows (Some all) = take_first count (sorted keys rows) ≡ take_first count (sorted keys all)

-- the values of these rows at the columns, each once, are those of those
abbrev pub HasSameValues : List ℕ → List Row → Rows → Type 0
HasSameValues columns rows None = ⊥
HasSameValues columns rows (Some all) = distinct_at columns rows ≡ distinct_at columns all
