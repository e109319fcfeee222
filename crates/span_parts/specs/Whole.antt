-- A journal and shards that belong together.
use Rattle.std.specs.Prelude.{◌≡◌, ℕ, List, [], ◌∷◌, ◌++◌, Some, None, Ok, find, map, slice_get, slice_set, ◌≤◌, ◌⊎◌}
use Rattle.span_value.specs.declared.refusal.Refusal.{Refusal}
use Rattle.span_value.specs.declared.refusal.Refusal.TheVariants.{OutOfMemory}
use Rattle.span_value.specs.declared.value.Value.{Value}
use Rattle.span_schema.specs.declared.table.Table.{Table}
use Rattle.span_schema.specs.Lineages.{MeetsRules}
use Rattle.span_keycode.specs.Coding.{AreValues}
use Rattle.span_keycode.specs.declared.range.KeyRange.{KeyRange}
use Rattle.span_mutate.specs.declared.mutation.CheckedMutation.{CheckedMutation}
use Rattle.span_mutate.specs.declared.row.TableRow.{TableRow}
use Rattle.span_checking.specs.RootKeys.{root_key}
use Rattle.span_mutate.specs.Typed.{AreTyped}
use Rattle.span_arena.specs.Limits.{most_nodes}
use Rattle.span_shard.specs.KeyVersions.{KeyVersions}
use Rattle.span_store.specs.declared.write.Write.{Write}
use Rattle.span_shard.specs.Reading.{AreWrites}
use Rattle.span_shard.specs.Shard.{KeyRow, snapshot, with_writes, live}
use Rattle.span_columns.specs.declared.leaf.Leaf.{Leaf}
use Rattle.span_fragment.specs.declared.piece.Piece.{Piece}
use Rattle.span_entries.specs.Entries.{AreNoRows}
use Rattle.span_fragment.specs.Pieces.{IsPieceOf}
use Rattle.span_query.specs.declared.query.BoundQuery.{BoundQuery}
use Rattle.span_query.specs.Rows.{Row}
use Rattle.span_machine.specs.declared.query.OpenQuery.{OpenQuery}
use Rattle.span_machine.specs.declared.transaction.Commit.{Commit}
use Rattle.span_machine.specs.declared.transaction.OpenTransaction.{OpenTransaction}
use Rattle.span_machine.specs.Machine.{Machine, is_query, is_transaction, commit_of}
use Rattle.span_machine.specs.Meaning.{means}
use Rattle.span_machine.specs.Tables.{tables}
use Rattle.span_machine.specs.Pieces.{Journaled, machine_of}
use Rattle.span_machine_laws.proofs.Reached.{IsReached}
use Rattle.span_journal.specs.Judged.{MayPrepare, leaf_of}
use Rattle.span_openqueries.specs.declared.taken.Taken.{Taken}
pub use Rattle.span_version_laws.specs.Kept.{AreKept, AreAllKept, ArePieced}

-- the shards of all slots in use, by number
abbrev pub Shards : Type 0
Shards = List (List KeyVersions)

-- A journal and shards that belong together: what holds of every machine that a run reaches holds of the journal's; each slot's shard has
-- the versions that the slot keeps of the commits; the pieces of open queries have the rows of the tables.
pub record IsWhole (schema : List Table) (j : Journaled) (shards : Shards) : Type 0 where
  pub rules : MeetsRules schema
  pub reached : IsReached schema (machine_of j)
  pub kept : AreAllKept schema (machine_of j) shards
  pub pieced : ArePieced schema (machine_of j) j.queries

-- the journal goes with the same shards as before
abbrev pub GoesWith : List Table → Journaled → Journaled → Type 0
GoesWith schema old new = (shards : Shards) → IsWhole schema old shards → IsWhole schema new shards

-- For the query above the leaves, whose leaf it is at this place, the piece has as good rows as those that the leaf gives on a range, at s.
abbrev pub IsRead : List Table → List KeyVersions → KeyRange → ℕ → Leaf → BoundQuery → ℕ → Piece → Type 0
IsRead schema cs range s leaf query place piece = IsPieceOf schema leaf query place (snapshot range s cs) piece

-- the piece is read so for an open query, of its leaf at this place
abbrev pub IsReadFor : List Table → Machine → ℕ → ℕ → List KeyVersions → KeyRange → ℕ → Piece → Type 0
IsReadFor schema m query place cs range s piece =
    (question : OpenQuery) (leaf : Leaf) → find (is_query query) m.queries ≡ Some question → leaf_of m query place ≡ Some leaf
    → IsRead schema cs range s leaf question.top place piece

-- why nothing is read: out of memory, or bytes that are no row
abbrev pub IsUnread : List Table → List KeyVersions → KeyRange → ℕ → Refusal → Type 0
IsUnread schema cs range s why = (why ≡ OutOfMemory) ⊎ AreNoRows schema (snapshot range s cs)

-- the writes of a transaction that may be prepared at a slot are prepared in the slot's shard
pub record IsWritten (schema : List Table) (m : Machine) (owner txn slot : ℕ) (old new : Shards) : Type 0 where
  pub mutations : List CheckedMutation
  pub may : MayPrepare schema m owner txn slot mutations
  pub before : List KeyVersions
  pub here : slice_get old slot ≡ Some before
  pub writes : List Write
  pub are : AreWrites schema mutations before writes
  pub few : live (with_writes txn writes before) ≤ most_nodes
  pub put : new ≡ slice_set old slot (with_writes txn writes before)

-- ---- one slot, whose shard alone is at hand

-- the shard is that of the slot, among shards that the journal belongs to
abbrev pub BelongsAt : List Table → Journaled → ℕ → List KeyVersions → Type 0
BelongsAt schema j slot shard = (shards : Shards) × IsWhole schema j shards × (slice_get shards slot ≡ Some shard)

-- the journal goes with the same shards as before, but for the slot's, which was the first and is the second
abbrev pub GoesAt : List Table → ℕ → Journaled → Journaled → List KeyVersions → List KeyVersions → Type 0
GoesAt schema slot old new before after =
    (shards : Shards) → IsWhole schema old shards → slice_get shards slot ≡ Some before
    → IsWhole schema new (slice_set shards slot after)

-- the journal goes with the same shards as before, where the slot's shard is this one
abbrev pub StaysAt : List Table → ℕ → Journaled → Journaled → List KeyVersions → Type 0
StaysAt schema slot old new shard =
    (shards : Shards) → IsWhole schema old shards → slice_get shards slot ≡ Some shard → IsWhole schema new shards

-- the coding is that of a key with values of a running program, of the root table with a name
abbrev pub CodesRootKey : List Table → List ℕ → Type 0
CodesRootKey schema code =
    (name : List ℕ) × (values : List Value) × AreValues values × (root_key schema name values ≡ Some code)

-- The slot was cut in two: the journal goes with the same shards as before, but for the slot's, which was the first and is the second, and the
-- one of the new slot. The log and the open queries are the same.
pub record IsCutAt (schema : List Table) (slot : ℕ) (old new : Journaled)
    (before after part : List KeyVersions) : Type 0 where
  pub whole : (shards : Shards) → IsWhole schema old shards → slice_get shards slot ≡ Some before
      → IsWhole schema new (slice_set shards slot after ++ part ∷ [])
  pub log : new.log ≡ old.log
  pub queries : (machine_of new).queries ≡ (machine_of old).queries

-- the writes of a transaction that may be prepared at the slot are prepared in its shard
pub record IsWrittenAt (schema : List Table) (m : Machine) (owner txn slot : ℕ)
    (before after : List KeyVersions) : Type 0 where
  pub mutations : List CheckedMutation
  pub may : MayPrepare schema m owner txn slot mutations
  pub writes : List Write
  pub are : AreWrites schema mutations before writes
  pub few : live (with_writes txn writes before) ≤ most_nodes
  pub put : after ≡ with_writes txn writes before

-- ---- the log

-- the open transaction has joined the log as a commit at ts, and the open queries are the same
pub record IsCommitted (old : Machine) (owner txn ts : ℕ) (new : Machine) : Type 0 where
  pub transaction : OpenTransaction
  pub found : find (is_transaction owner txn) old.transactions ≡ Some transaction
  pub log : new.log ≡ old.log ++ commit_of ts transaction ∷ []
  pub queries : new.queries ≡ old.queries

-- what the query above the leaves gives on the pieces that were taken is what the statement means on the tables of the log at the query's timestamp
pub record AreMeant (schema : List Table) (log : List Commit) (taken : Taken) (rows : List Row) : Type 0 where
  pub db : List TableRow
  pub made : tables schema log taken.s ≡ Ok db
  pub are : means schema taken.statement.query taken.statement.leaves db ≡ Some rows

-- what the statement means on the tables of the log at the query's timestamp is a fault
pub record IsFaulty (schema : List Table) (log : List Commit) (taken : Taken) : Type 0 where
  pub db : List TableRow
  pub made : tables schema log taken.s ≡ Ok db
  pub is : means schema taken.statement.query taken.statement.leaves db ≡ None
