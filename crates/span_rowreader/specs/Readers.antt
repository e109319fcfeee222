-- Reading of a table's rows, of the columns alone that a mask has.
use Rattle.std.specs.Prelude.{◌≡◌, ℕ, ◌≤◌, List, Bool, true, length, IfSome, drop, map, replicate, if◌then◌else◌}
use Rattle.span_value.specs.declared.value.Value.{Value}
use Rattle.span_schema.specs.declared.table.Table.{Table}
use Rattle.span_schema.specs.Numbers.{key_places, other_places}
use Rattle.span_rowcode.specs.Rows.{row_code}
use Rattle.span_mutate.specs.declared.row.TableRow.{TableRow}
use Rattle.span_mutate.specs.Typed.{IsTyped}
use Rattle.span_shard.specs.Rows.{code_of}
use Rattle.span_expr.specs.Places.{rank}
use Rattle.span_leaves.specs.Leaves.{width_of}
use Rattle.span_columns.specs.Picks.{picked, picked_width}
use Rattle.span_rowreader.specs.declared.reader.TableReader.{TableReader}
use Rattle.span_entries.specs.Meaning.{declared_row}
use Rattle.span_rowreader.specs.KeyNumbers.{AreKeyNumbers}
use Rattle.span_entries.specs.Longest.{IsLongest}
use Rattle.span_rowreader.specs.Placed.{is_wanted, wants_none}
use Rattle.span_rowreader.specs.Reads.{AreReadsOf}
use Rattle.span_entries.specs.Steps.{key_steps}
use Rattle.span_entries.specs.WholeKeys.{IsTableByLength}

-- the place of a column among those that the mask has, or a place after all of them
abbrev pub target : List Bool → ℕ → ℕ
target ms place = if is_wanted ms place then rank ms place else length ms

-- it reads the columns that its mask has of the rows of its table
pub record IsReader (schema : List Table) (r : TableReader) : Type 0 where
  pub narrow : length r.mask ≤ width_of schema r.table
  pub longest : IsLongest schema r.table r.most
  pub by_length : IfSome r.by_length (IsTableByLength schema r.table)
  pub steps : r.steps ≡ key_steps schema r.table
  pub all : r.all ≡ replicate (picked_width r.mask) true
  pub reads : AreReadsOf schema r.table (map (target r.mask) (key_places schema r.table)) r.all r.reads
  pub numbers : IfSome r.numbers (AreKeyNumbers schema r.table (map (target r.mask) (key_places schema r.table)) r.all)
  pub others : r.others ≡ map (target r.mask) (other_places schema r.table)
  pub others_read : r.others_read ≤ length r.others
  pub others_left : wants_none r.all (drop r.others_read r.others) ≡ true

-- whatever row of table n has this coded key and these packed cells, these are its values in the columns that the mask has
pub record ArePickedOf (schema : List Table) (n : ℕ) (ms : List Bool) (key row : List ℕ)
    (values : List Value) : Type 0 where
  pub are : (t : TableRow) → IsTyped schema t → t.table ≡ n → key ≡ code_of schema t → row ≡ row_code t.cells
      → values ≡ picked ms (declared_row schema t)
