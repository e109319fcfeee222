-- What is read of a shard to prepare mutations, and what is made of it.
use Rattle.std.specs.Prelude.{◌≡◌, ℕ, Bool, true, false, ◌⊎◌, List, Option, Some, None, Ok, Err, ◌<◌}
use Rattle.std.specs.List.{AllByRecursion}
use Rattle.std.specs.Str.{bytes_eq}
use Rattle.span_value.specs.declared.refusal.Refusal.{Refusal}
use Rattle.span_value.specs.declared.refusal.Refusal.TheVariants.{OutOfMemory, ShardFull, BadKey, BadRow}
use Rattle.span_arena.specs.Limits.{most_nodes}
use Rattle.span_schema.specs.declared.table.Table.{Table}
use Rattle.span_rowcode.specs.Rows.{row_code}
use Rattle.span_mutate.specs.declared.mutation.CheckedMutation.{CheckedMutation}
use Rattle.span_mutate.specs.declared.row.TableRow.{TableRow}
use Rattle.span_mutate.specs.Database.{apply}
use Rattle.span_mutate.specs.Directories.{IsDatabase}
use Rattle.span_mutate.specs.Faults.{is_mutation_fault}
use Rattle.span_mutate.specs.Typed.{IsTyped, AreTyped}
use Rattle.span_store.specs.declared.write.Write.{Write}
use Rattle.span_store.specs.KeyVersions.{KeyVersions}
use Rattle.span_store.specs.Versions.{row_at}
pub use Rattle.span_store.specs.Reads.{entry_row, has_short_key}
use Rattle.span_shard.specs.Rows.{code_of, is_touched, AreChanges}
use Rattle.span_store.specs.KeyLists.{end_of_time, row_now, live}
use Rattle.span_shard.specs.Shard.{IsNow, with_writes}

-- the row at a key by all that was applied
abbrev pub row_of : KeyVersions → Option (List ℕ)
row_of c = row_at c.versions end_of_time

-- both are no row, or equal rows
abbrev pub is_same_row : Option (List ℕ) → Option (List ℕ) → Bool
is_same_row None None = true
is_same_row (Some a) (Some b) = bytes_eq a b
is_same_row a b = false

-- bytes that are no row of a table, under no key of it
pub record IsNoTableRow (tables : List Table) (key row : List ℕ) : Type 0 where
  pub none : (r : TableRow) → IsTyped tables r → key ≡ code_of tables r → row ≡ row_code r.cells → ⊥

-- what mutations write: in touched directories alone; of each database whose rows these are now, what changes of it
pub record AreWrites (tables : List Table) (ms : List CheckedMutation) (cs : List KeyVersions) (ws : List Write) : Type
    0 where
  pub touched : AllByRecursion (λ (w : Write). is_touched tables ms w.key ≡ true) ws
  pub changes : (db : List TableRow) → IsDatabase tables db → AreTyped tables db → IsNow tables ms db cs
      → (after : List TableRow) × (apply tables db ms ≡ Ok after) × AreChanges tables db after ws

-- the fault that the mutations meet on each database whose rows these are now, or out of memory
abbrev pub IsFault : List Table → List CheckedMutation → List KeyVersions → Refusal → Type 0
IsFault tables ms cs why =
    (db : List TableRow) → IsDatabase tables db → AreTyped tables db → IsNow tables ms db cs → (why ≡ OutOfMemory)
    ⊎ (apply tables db ms ≡ Err why)

-- the writes of the mutations would bring the number of kept versions over the most that a shard keeps
pub record IsFull (tables : List Table) (ms : List CheckedMutation) (txn : ℕ) (cs : List KeyVersions)
    (why : Refusal) : Type 0 where
  pub full : why ≡ ShardFull
  pub writes : List Write
  pub of : AreWrites tables ms cs writes
  pub over : most_nodes < live (with_writes txn writes cs)

-- a fault of mutations, a full shard, out of memory
abbrev pub is_prepare_refusal : Refusal → Bool
is_prepare_refusal OutOfMemory = true
is_prepare_refusal ShardFull = true
is_prepare_refusal why = is_mutation_fault why

-- under a key that the mutations touch there are bytes now that are no row of a table
pub record AreUnreadable (tables : List Table) (ms : List CheckedMutation) (cs : List KeyVersions)
    (why : Refusal) : Type 0 where
  pub key : List ℕ
  pub row : List ℕ
  pub touched : is_touched tables ms key ≡ true
  pub now : row_now cs key ≡ Some row
  pub unread : IsNoTableRow tables key row
  pub number : (why ≡ BadKey) ⊎ (why ≡ BadRow)

-- with what a prepare may be refused
abbrev pub IsPrepareRefusal : List Table → List CheckedMutation → List KeyVersions → Refusal → Type 0
IsPrepareRefusal tables ms cs why = (is_prepare_refusal why ≡ true) ⊎ AreUnreadable tables ms cs why
