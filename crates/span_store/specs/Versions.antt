use Rattle.std.specs.Prelude.{◌≡◌, ℕ, Bool, true, false, ◌==◌, ◌||◌, not, nat_le, List, [], ◌∷◌, map, find, is_some, Option, Some, None, option_and_then, if◌then◌else◌}
use Rattle.span_arena.specs.Order.{IsLater, IsLastUpto}
use Rattle.span_store.specs.declared.chain.Version.{Version}
use Rattle.span_store.specs.declared.chain.PreparedWrite.{PreparedWrite}
use Rattle.span_store.specs.KeyVersions.{KeyVersions}

-- ---- one key

-- the newest version at or below s
abbrev pub newest_at : List Version → ℕ → Option Version
newest_at versions s = find (λ v. nat_le v.timestamp s) versions

-- the row at s: that of the newest version at or below s, where there is one and it is no deletion
abbrev pub row_at : List Version → ℕ → Option (List ℕ)
row_at versions s = option_and_then (λ v. v.row) (newest_at versions s)

abbrev pub is_empty : List Version → Bool
is_empty [] = true
is_empty (v ∷ vs) = false

-- the key has a version or a prepared write
abbrev pub is_used : KeyVersions → Bool
is_used c = not (is_empty c.versions) || is_some c.prepared

abbrev pub with_prepared : PreparedWrite → KeyVersions → KeyVersions
with_prepared write c = record c { prepared = Some write }

-- with the row as the newest version at the commit timestamp, where there is one
abbrev pub with_version : Option ℕ → Option (List ℕ) → List Version → List Version
with_version None row versions = versions
with_version (Some ts) row versions = (record { timestamp = ts; row = row }) ∷ versions

-- the key once this prepared write is applied
abbrev pub applied_write : Option PreparedWrite → ℕ → Option ℕ → KeyVersions → KeyVersions
applied_write None txn committed c = c
applied_write (Some w) txn committed c =
    if w.txn == txn then record c { versions = with_version committed w.row c.versions; prepared = None } else c

-- the key once the transaction's write there is applied, at its commit timestamp, or given up where there is none
abbrev pub applied_to_key : ℕ → Option ℕ → KeyVersions → KeyVersions
applied_to_key txn committed c = applied_write c.prepared txn committed c

-- ---- the order of versions

abbrev pub timestamps : List Version → List ℕ
timestamps vs = map (λ (v : Version). v.timestamp) vs

-- the last of the versions at or below s, where there is one
abbrev pub IsNewestUpto : ℕ → List Version → Option Version → Type 0
IsNewestUpto s vs found = IsLastUpto Version (λ (v : Version). v.timestamp) s vs found

-- where the write is the transaction's, its commit timestamp is later than the versions there
abbrev pub IsLaterWrite : ℕ → ℕ → List Version → Option PreparedWrite → Type 0
IsLaterWrite txn ts versions None = Unit {0}
IsLaterWrite txn ts versions (Some w) = w.txn ≡ txn → IsLater ts (timestamps versions)

-- ---- trimming

-- a version of a row is kept, and a deletion is not
abbrev pub kept_version : Version → Option (List ℕ) → List Version
kept_version v None = []
kept_version v (Some row) = v ∷ []

-- what is kept at a horizon: the newest version at or below it, unless it is a deletion, and all later ones
abbrev pub kept_upto : ℕ → List Version → List Version
kept_upto h [] = []
kept_upto h (v ∷ vs) = if nat_le v.timestamp h then kept_version v v.row else v ∷ kept_upto h vs
