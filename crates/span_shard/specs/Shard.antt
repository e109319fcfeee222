-- A shard is what it has of each key, in order of the keys (`span_store`); what its calls make of that.
use Rattle.std.specs.Prelude.{◌≡◌, ℕ, true, List, [], ◌∷◌, ◌++◌, map, filter, Option, Some, None, ◌≢◌, ◌<◌, ◌⊎◌}
use Rattle.std.specs.List.{AllByRecursion}
use Rattle.span_value.specs.declared.refusal.Refusal.{Refusal}
use Rattle.span_value.specs.declared.refusal.Refusal.TheVariants.{OutOfMemory, ShardFull}
use Rattle.span_arena.specs.Limits.{most_nodes}
use Rattle.span_schema.specs.declared.table.Table.{Table}
use Rattle.span_mutate.specs.declared.mutation.CheckedMutation.{CheckedMutation}
use Rattle.span_mutate.specs.declared.row.TableRow.{TableRow}
pub use Rattle.span_store.specs.KeyLists.{AreInOrder, IsIdle, IsInUse, IsLaterCommit, by_order, end_of_time, is_key, kept_of, keys_before, keys_cmp, keys_from, live, new_key, prepared_at, prepared_of, prepared_write, row_now, trimmed_key, versions_at, versions_of, with_write}
use Rattle.span_store.specs.declared.chain.PreparedWrite.{PreparedWrite}
use Rattle.span_store.specs.declared.write.Write.{Write}
use Rattle.span_store.specs.KeyVersions.{KeyVersions}
pub use Rattle.span_store.specs.Reads.{KeyRow, is_within, seen_at, snapshot}
use Rattle.span_shard.specs.Rows.{row_coded, is_touched}
use Rattle.span_store.specs.Versions.{is_used, applied_to_key}

-- ---- prepare

-- with all the writes prepared
abbrev pub with_writes : ℕ → List Write → List KeyVersions → List KeyVersions
with_writes txn [] cs = cs
with_writes txn (w ∷ ws) cs = with_write txn w (with_writes txn ws cs)

-- with the last of the writes prepared, those in front of them not yet
pub record HasSomeOf (txn : ℕ) (ws : List Write) (old new : List KeyVersions) : Type 0 where
  pub front : List Write
  pub rest : List Write
  pub whole : front ++ rest ≡ ws
  pub put : new ≡ with_writes txn rest old

-- the prepared write, if there is one, is of another transaction
abbrev pub IsNotOf : ℕ → Option PreparedWrite → Type 0
IsNotOf txn None = Unit {0}
IsNotOf txn (Some w) = w.txn ≢ txn

-- nothing of the transaction is prepared
abbrev pub HasNoneOf : ℕ → List KeyVersions → Type 0
HasNoneOf txn cs = AllByRecursion (λ c. IsNotOf txn c.prepared) cs

-- nothing is prepared at any key that the mutations touch
abbrev pub IsFree : List Table → List CheckedMutation → List KeyVersions → Type 0
IsFree tables ms cs = AllByRecursion (λ c. is_touched tables ms c.key ≡ true → c.prepared ≡ None) cs

-- the rows at the touched keys are now those of the database
abbrev pub IsNow : List Table → List CheckedMutation → List TableRow → List KeyVersions → Type 0
IsNow tables ms db cs = (k : List ℕ) → is_touched tables ms k ≡ true → row_now cs k ≡ row_coded tables db k

-- ---- apply

-- with the transaction's writes applied at its commit timestamp, or given up where there is none
abbrev pub applied : ℕ → Option ℕ → List KeyVersions → List KeyVersions
applied txn committed cs = filter is_used (map (applied_to_key txn committed) cs)

-- ---- trim

-- trimmed at the horizon h, without the keys that have nothing any more
abbrev pub trimmed : ℕ → List KeyVersions → List KeyVersions
trimmed h cs = filter is_used (map (trimmed_key h) cs)

-- ---- what is read

-- out of memory; or the writes would bring the number of kept versions over the most
abbrev pub ArePutsRefused : ℕ → List Write → List KeyVersions → Refusal → Type 0
ArePutsRefused txn ws cs why = (why ≡ OutOfMemory) ⊎ ((why ≡ ShardFull) × (most_nodes < live (with_writes txn ws cs)))
