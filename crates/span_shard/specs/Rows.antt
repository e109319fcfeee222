-- How the rows of a database are kept in a shard: packed, under their coded keys.
use Rattle.std.specs.Prelude.{ℕ, Bool, List, find, Option}
use Rattle.std.specs.List.{list_any}
use Rattle.std.specs.Option.{option_map}
use Rattle.std.specs.Ordering.{eq_by_cmp}
use Rattle.span_schema.specs.declared.table.Table.{Table}
use Rattle.span_keycode.specs.Order.{byte_order}
use Rattle.span_keycode.specs.Keys.{key_code}
use Rattle.span_rowcode.specs.Rows.{row_code}
use Rattle.span_mutate.specs.declared.mutation.CheckedMutation.{CheckedMutation}
use Rattle.span_mutate.specs.declared.row.TableRow.{TableRow}
use Rattle.span_mutate.specs.Directories.{root_row}
use Rattle.span_maderows.specs.Made.{begins_with}
use Rattle.span_store.specs.declared.write.Write.{Write}
use Rattle.span_shard.specs.Writes.{IsWrite, is_of}

-- the coding of a row's key
abbrev pub code_of : List Table → TableRow → List ℕ
code_of tables r = key_code tables r.table r.key

-- a row whose key has this coding
abbrev pub is_coded : List Table → List ℕ → TableRow → Bool
is_coded tables k r = eq_by_cmp byte_order k (code_of tables r)

-- the packed cells of the row of a database whose key has this coding, if there is one
abbrev pub row_coded : List Table → List TableRow → List ℕ → Option (List ℕ)
row_coded tables db k = option_map (λ (r : TableRow). row_code r.cells) (find (is_coded tables k) db)

-- the coding of the key of the root row of a mutation
abbrev pub root_code : List Table → CheckedMutation → List ℕ
root_code tables m = key_code tables (root_row tables m.table m.key).table (root_row tables m.table m.key).key

-- a coded key in the directory of one of the mutations
abbrev pub is_touched : List Table → List CheckedMutation → List ℕ → Bool
is_touched tables ms k = list_any (λ (m : CheckedMutation). begins_with k (root_code tables m)) ms

-- at each key the write of the row after, where it is another one than the row before
abbrev pub AreChanges : List Table → List TableRow → List TableRow → List Write → Type 0
AreChanges tables db after ws =
    (k : List ℕ) → IsWrite k (row_coded tables db k) (row_coded tables after k) (find (is_of k) ws)
