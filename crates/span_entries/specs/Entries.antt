-- Rows as a shard has them.
use Rattle.std.specs.Prelude.{◌≡◌, ◌==◌, ℕ, Bool, List, [], ◌∷◌, drop, map}
use Rattle.span_schema.specs.declared.table.Table.{Table}
use Rattle.span_rowcode.specs.Rows.{row_code}
use Rattle.span_mutate.specs.declared.row.TableRow.{TableRow}
use Rattle.span_mutate.specs.Typed.{IsTyped, AreTyped}
use Rattle.span_shard.specs.Rows.{code_of}
use Rattle.span_shard.specs.Shard.{KeyRow}
use Rattle.span_query.specs.Rows.{Row}
use Rattle.span_leaves.specs.Leaves.{width_of}
use Rattle.span_columns.specs.Picks.{picked}
use Rattle.span_entries.specs.Meaning.{whole_table}

-- a row as a shard has it
abbrev pub key_row : List Table → TableRow → KeyRow
key_row schema r = record { key = code_of schema r; row = row_code r.cells }

-- what holds of whatever rows the entries are
pub record OfRows (schema : List Table) (entries : List KeyRow) (P : List TableRow → Type 0) : Type 0 where
  pub of : (rows : List TableRow) → AreTyped schema rows → entries ≡ map (key_row schema) rows → P rows

-- of whatever row this is the coded key, the answer is whether it is one of table n
pub record IsWhetherOf (schema : List Table) (n : ℕ) (key : List ℕ) (found : Bool) : Type 0 where
  pub of : (r : TableRow) → IsTyped schema r → key ≡ code_of schema r → found ≡ (r.table == n)

-- the rows of tables, each with its values at the places that its part of the mask has
abbrev pub picked_tables : List Table → List TableRow → List Bool → List ℕ → List (List Row)
picked_tables schema rows ms [] = []
picked_tables schema rows ms (t ∷ ts) =
    map (picked ms) (whole_table schema rows t) ∷ picked_tables schema rows (drop (width_of schema t) ms) ts

-- entries that are no rows
abbrev pub AreNoRows : List Table → List KeyRow → Type 0
AreNoRows schema entries = (rows : List TableRow) → AreTyped schema rows → entries ≡ map (key_row schema) rows → ⊥
