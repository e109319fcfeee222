-- The rows of a leaf of one table, entry by entry.
use Rattle.std.specs.Prelude.{◌≡◌, ℕ, ◌==◌, [], ◌∷◌, Bool, true, false, List, Option, Some, None, Result, length, if◌then◌else◌}
use Rattle.std.specs.List.{AllByRecursion, list_all}
use Rattle.span_schema.specs.declared.table.Table.{Table}
use Rattle.span_schema.specs.Numbers.{other_kinds}
use Rattle.span_rowcode.specs.Rows.{row_code}
use Rattle.span_mutate.specs.declared.row.TableRow.{TableRow}
use Rattle.span_mutate.specs.Typed.{IsTyped}
use Rattle.span_shard.specs.Rows.{code_of}
use Rattle.span_expr.specs.declared.cell.Failure.{Failure}
use Rattle.span_expr.specs.declared.expr.Expr.{Expr}
use Rattle.span_expr.specs.Places.{moved, rank}
use Rattle.span_query.specs.Rows.{Row, OrFault, Rows, ◌>>=◌, keep_if, holds}
use Rattle.span_conditions.specs.Answers.{Adds}
use Rattle.span_leaves.specs.Leaves.{width_of}
use Rattle.span_columns.specs.Picks.{picked, picked_width}
use Rattle.span_columns.specs.Reads.{reads_within}
use Rattle.span_celltests.specs.declared.cell_test.CellTest.{CellTest}
use Rattle.span_tablescan.specs.declared.scan.Test.{Test}
use Rattle.span_tablescan.specs.declared.scan.Test.TheVariants.{Always, OnRow, OnColumns}
use Rattle.span_tablescan.specs.declared.scan.TableScan.{TableScan}
use Rattle.span_entries.specs.Meaning.{declared_row}
use Rattle.span_celltests.specs.CellTests.{meets, IsTestable}
use Rattle.span_rowreader.specs.Added.{IsRowAdded}
use Rattle.span_rowreader.specs.Readers.{IsReader}

-- ---- what is kept

-- whether a row passes a condition, where there may be none
abbrev pub passes : Option Expr → Row → OrFault Bool
passes None row = Some true
passes (Some e) row = holds e row

-- whether a row is one of table n that passes
abbrev pub is_kept : List Table → ℕ → Option Expr → TableRow → OrFault Bool
is_kept schema n w t = if t.table == n then passes w (declared_row schema t) else Some false

-- its values at the places that the mask has, where it is one
abbrev pub kept_row : List Table → ℕ → List Bool → Option Expr → TableRow → Rows
kept_row schema n ms w t = is_kept schema n w t >>= (λ b. Some (keep_if (picked ms (declared_row schema t)) b))

-- ---- how it is found

-- the mask of a row of that width has each column that the condition reads
pub record IsMaskOf (width : ℕ) (e : Expr) (ms : List Bool) : Type 0 where
  pub long : length ms ≡ width
  pub reads : reads_within ms e ≡ true

-- it is the condition, at rows of table n with the columns alone that the mask has
pub record IsConditionAt (schema : List Table) (n : ℕ) (ms : List Bool) (w : Option Expr) (at : Expr) : Type 0 where
  pub condition : Expr
  pub is : w ≡ Some condition
  pub mask : IsMaskOf (width_of schema n) condition ms
  pub moved : at ≡ moved (rank ms) condition

-- a row of table n passes where its cells outside the key meet all of these, and only there
pub record AreTestsWhere (schema : List Table) (n : ℕ) (w : Option Expr) (tests : List CellTest) : Type 0 where
  pub testable : AllByRecursion (IsTestable (other_kinds schema n)) tests
  pub judged : (t : TableRow) → IsTyped schema t → t.table ≡ n
      → passes w (declared_row schema t) ≡ Some (list_all (meets t.cells) tests)

-- a row of table n does not pass where its cells outside the key do not meet all of these
pub record AreNeeded (schema : List Table) (n : ℕ) (w : Option Expr) (tests : List CellTest) : Type 0 where
  pub testable : AllByRecursion (IsTestable (other_kinds schema n)) tests
  pub unmet : (t : TableRow) → IsTyped schema t → t.table ≡ n → list_all (meets t.cells) tests ≡ false
      → passes w (declared_row schema t) ≡ Some false

-- the test is whether a row of table n that meets the needed tests passes the condition; the mask is that of the rows that are added
abbrev pub IsTestOf : List Table → ℕ → List Bool → Option Expr → List CellTest → Test → Type 0
IsTestOf schema n ms w needed Always = AreTestsWhere schema n w needed
IsTestOf schema n ms w needed (OnRow e) = IsConditionAt schema n ms w e
IsTestOf schema n ms w needed (OnColumns columns e) =
    (columns.table ≡ n) × IsReader schema columns × IsConditionAt schema n columns.mask w e

-- it reads what its leaf, which is of one table, gives
pub record IsScan (schema : List Table) (scan : TableScan) : Type 0 where
  pub tables : scan.leaf.now.tables ≡ scan.reader.table ∷ []
  pub joins : scan.leaf.now.joins ≡ []
  pub mask : scan.reader.mask ≡ scan.leaf.now.kept
  pub reader : IsReader schema scan.reader
  pub needed : AreNeeded schema scan.reader.table scan.leaf.now.filter scan.needed
  pub test : IsTestOf schema scan.reader.table scan.leaf.now.kept scan.leaf.now.filter scan.needed scan.test

-- its rows have no values, and each of the table that meets the needed tests is kept
pub record IsCount (scan : TableScan) : Type 0 where
  pub test : scan.test ≡ Always
  pub width : picked_width scan.reader.mask ≡ 0

-- ---- what was added

-- whatever row of table n has this coded key and these packed cells, it was added
abbrev pub IsAdded : List Table → ℕ → List Bool → List ℕ → List ℕ → List Row → List Row → Type 0
IsAdded schema n ms key row old new = IsRowAdded schema n ms key row old new

-- whatever row of table n has this coded key and these packed cells, it was added where it passes
pub record IsAddedWhere (schema : List Table) (n : ℕ) (ms : List Bool) (w : Option Expr) (key row : List ℕ)
    (found : Result (Unit {0}) Failure) (old new : List Row) : Type 0 where
  pub of : (t : TableRow) → IsTyped schema t → t.table ≡ n → key ≡ code_of schema t → row ≡ row_code t.cells
      → Adds found (kept_row schema n ms w t) old new

-- whatever row has this coded key and these packed cells, it was added where it is one of table n that passes
pub record IsTaken (schema : List Table) (n : ℕ) (ms : List Bool) (w : Option Expr) (key row : List ℕ)
    (found : Result (Unit {0}) Failure) (old new : List Row) : Type 0 where
  pub of : (t : TableRow) → IsTyped schema t → key ≡ code_of schema t → row ≡ row_code t.cells
      → Adds found (kept_row schema n ms w t) old new

-- the same, by a scan
abbrev pub IsTakenBy : List Table → TableScan → List ℕ → List ℕ → Result (Unit {0}) Failure → List Row → List Row
    → Type 0
IsTakenBy schema scan key row found old new =
    IsTaken schema scan.reader.table scan.leaf.now.kept scan.leaf.now.filter key row found old new
