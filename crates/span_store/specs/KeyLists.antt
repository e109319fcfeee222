-- A store is what it has of each key, in order of the keys.
use Rattle.std.specs.Prelude.{◌≡◌, ℕ, ◌+◌, Bool, true, not, List, [], ◌∷◌, length, filter, find, sum_by, is_some, Option, Some, None, if◌then◌else◌, ◌⊎◌}
use Rattle.std.specs.List.{AllByRecursion}
use Rattle.std.specs.Ordering.{eq_by_cmp, is_lt}
use Rattle.std.specs.declared.cmp.Ordering.{Ordering}
use Rattle.std.specs.declared.cmp.Ordering.TheVariants.{Less, Equal, Greater}
use Rattle.span_value.specs.declared.refusal.Refusal.{Refusal}
use Rattle.span_value.specs.declared.refusal.Refusal.TheVariants.{OutOfMemory, ShardFull}
use Rattle.span_arena.specs.Limits.{most_nodes}
use Rattle.span_arena.specs.Order.{AreFalling}
use Rattle.span_keycode.specs.Order.{byte_order}
use Rattle.span_mutate.specs.Directories.{IsRising}
use Rattle.span_store.specs.declared.chain.Version.{Version}
use Rattle.span_store.specs.declared.chain.PreparedWrite.{PreparedWrite}
use Rattle.span_store.specs.declared.write.Write.{Write}
use Rattle.span_store.specs.KeyVersions.{KeyVersions}
use Rattle.span_store.specs.Versions.{row_at, newest_at, is_used, with_prepared, kept_upto, timestamps, IsNewestUpto, IsLaterWrite}

-- the order of keys
abbrev pub keys_cmp : KeyVersions → KeyVersions → Ordering
keys_cmp c d = byte_order c.key d.key

-- each key is before those after it
abbrev pub AreInOrder : List KeyVersions → Type 0
AreInOrder cs = IsRising keys_cmp cs

abbrev pub is_key : List ℕ → KeyVersions → Bool
is_key key c = eq_by_cmp byte_order key c.key

abbrev pub versions_of : Option KeyVersions → List Version
versions_of None = []
versions_of (Some c) = c.versions

abbrev pub prepared_of : Option KeyVersions → Option PreparedWrite
prepared_of None = None
prepared_of (Some c) = c.prepared

-- the versions at a key, from the newest to the oldest
abbrev pub versions_at : List KeyVersions → List ℕ → List Version
versions_at cs key = versions_of (find (is_key key) cs)

-- the write that is prepared at a key
abbrev pub prepared_at : List KeyVersions → List ℕ → Option PreparedWrite
prepared_at cs key = prepared_of (find (is_key key) cs)

-- above every timestamp
abbrev pub end_of_time : ℕ
end_of_time = 18446744073709551615

-- the row at a key by all that was applied
abbrev pub row_now : List KeyVersions → List ℕ → Option (List ℕ)
row_now cs key = row_at (versions_at cs key) end_of_time

-- ---- prepare

-- one of three, by an order
abbrev pub by_order : {A : Type 0} → Ordering → A → A → A → A
by_order Less less equal greater = less
by_order Equal less equal greater = equal
by_order Greater less equal greater = greater

abbrev pub prepared_write : ℕ → Write → PreparedWrite
prepared_write txn w = record { txn = txn; row = w.row }

-- a key with no version, where a write is prepared
abbrev pub new_key : ℕ → Write → KeyVersions
new_key txn w = record { key = w.key; versions = []; prepared = Some (prepared_write txn w) }

-- with the write prepared at its key, which takes its place in order if it was not there
abbrev pub with_write : ℕ → Write → List KeyVersions → List KeyVersions
with_write txn w [] = new_key txn w ∷ []
with_write txn w (c ∷ cs) =
    by_order (byte_order w.key c.key) (new_key txn w ∷ c ∷ cs) (with_prepared (prepared_write txn w) c ∷ cs)
    (c ∷ with_write txn w cs)

-- nothing is prepared
abbrev pub IsIdle : List KeyVersions → Type 0
IsIdle cs = AllByRecursion (λ (c : KeyVersions). c.prepared ≡ None) cs

abbrev pub IsInUse : KeyVersions → Type 0
IsInUse c = is_used c ≡ true

-- ---- apply

-- the commit timestamp, where there is one, is later than the versions of every key where the transaction has a write
-- prepared
abbrev pub IsLaterCommit : ℕ → Option ℕ → List KeyVersions → Type 0
IsLaterCommit txn None cs = Unit {0}
IsLaterCommit txn (Some ts) cs = AllByRecursion (λ c. IsLaterWrite txn ts c.versions c.prepared) cs

-- the versions of each key are in the order of their timestamps, the latest first
abbrev pub HaveFallingVersions : List KeyVersions → Type 0
HaveFallingVersions cs = AllByRecursion (λ c. AreFalling (timestamps c.versions)) cs

-- what is read of a key at s is its last version at or below s
abbrev pub ReadLastVersions : List KeyVersions → Type 0
ReadLastVersions cs = AllByRecursion (λ c. (s : ℕ) → IsNewestUpto s c.versions (newest_at c.versions s)) cs

-- ---- trim

-- the key with its versions trimmed at the horizon h
abbrev pub trimmed_key : ℕ → KeyVersions → KeyVersions
trimmed_key h c = record c { versions = kept_upto h c.versions }

-- ---- split

-- the keys with their versions that are below a key, and those from it on
abbrev pub keys_before : List ℕ → List KeyVersions → List KeyVersions
keys_before key cs = filter (λ c. is_lt (byte_order c.key key)) cs

abbrev pub keys_from : List ℕ → List KeyVersions → List KeyVersions
keys_from key cs = filter (λ c. not (is_lt (byte_order c.key key))) cs

-- ---- what is read

abbrev pub kept_of : KeyVersions → ℕ
kept_of c = length c.versions + (if is_some c.prepared then 1 else 0)

-- how many versions are kept, prepared ones included
abbrev pub live : List KeyVersions → ℕ
live cs = sum_by kept_of cs

-- out of memory; or nothing is prepared at the key, and as many versions are kept as may be
abbrev pub IsPutRefused : List KeyVersions → List ℕ → Refusal → Type 0
IsPutRefused cs key why =
    (why ≡ OutOfMemory) ⊎ ((why ≡ ShardFull) × (prepared_at cs key ≡ None) × (live cs ≡ most_nodes))
