-- A shard has of each key the versions that the log's commits made there, trimmed at the horizon, one that is not
-- applied yet left out, and the write that the transaction prepared there is to leave.
use Rattle.std.proofs.Common.{◌≡◌, ◌≢◌, ℕ, suc, Bool, true, nat_le, if◌then◌else◌, List, [], ◌∷◌, ◌++◌, length, ◌≤◌, Option, Some, None, Ok}
use Rattle.std.specs.Prelude.{filter, map, slice_get}
use Rattle.std.specs.List.{AllByRecursion}
use Rattle.span_schema.specs.declared.table.Table.{Table}
pub use Rattle.span_keycode.specs.Parts.{is_within}
use Rattle.span_keycode.specs.Keys.{key_code}
use Rattle.span_keycode.specs.Roots.{IsCoding}
use Rattle.span_keycode.specs.Limits.{longest_key}
use Rattle.span_mutate.specs.declared.mutation.CheckedMutation.{CheckedMutation}
use Rattle.span_mutate.specs.declared.row.TableRow.{TableRow}
use Rattle.span_keycode.specs.declared.range.KeyRange.{KeyRange}
use Rattle.span_mutate.specs.Database.{apply, rows_of}
use Rattle.span_mutate.specs.Typed.{AreTyped}
use Rattle.span_mutate.specs.Directories.{Root}
use Rattle.span_maderows.specs.Made.{begins_with}
use Rattle.span_store.specs.declared.chain.Version.{Version}
use Rattle.span_store.specs.declared.chain.PreparedWrite.{PreparedWrite}
use Rattle.span_shard.specs.KeyVersions.{KeyVersions}
use Rattle.span_shard.specs.Rows.{code_of, row_coded}
use Rattle.span_shard.specs.Reading.{is_same_row}
use Rattle.span_shard.specs.Versions.{row_at, kept_upto}
use Rattle.span_shard.specs.Shard.{KeyRow, versions_at, prepared_at, AreInOrder, IsInUse}
use Rattle.span_query.specs.Rows.{Rows}
use Rattle.span_algebra.specs.SameMeaning.{MeanTheSame}
use Rattle.span_columns.specs.declared.leaf.Leaf.{Leaf}
use Rattle.span_planner.specs.Plannable.{IsPlannable}
use Rattle.span_fragment.specs.declared.piece.Piece.{Piece}
pub use Rattle.span_entries.specs.Entries.{key_row}
use Rattle.span_machine.specs.declared.query.ScanLeaf.{ScanLeaf}
use Rattle.span_machine.specs.declared.slot.SlotState.{SlotState}
use Rattle.span_machine.specs.declared.transaction.Commit.{Commit}
use Rattle.span_machine.specs.declared.transaction.OpenTransaction.{OpenTransaction}
use Rattle.span_machine.specs.declared.transaction.Decision.{Decision}
use Rattle.span_machine.specs.declared.transaction.Decision.TheVariants as decision
use Rattle.span_machine.specs.Meaning.{leaf_within}
pub use Rattle.span_machine.specs.Meaning.{row_within, rows_within, tables_within}
use Rattle.span_machine.specs.Tables.{tables}
use Rattle.span_machine.specs.Kept.{after_mutations}
use Rattle.span_machine.specs.Machine.{Machine, is_at, has_key, holds, commit_of, statement_plan}
use Rattle.span_machine.specs.Pieces.{Pieced}
pub use Rattle.span_machine.specs.Slots.{IsCodedRoot}
use Rattle.span_machine_laws.proofs.Stability.{changes_at}
use Rattle.span_machine_laws.proofs.InPlace.{commits_at, claims}

-- the coding of a key, that is not too long
pub record IsCodedCoding (schema : List Table) (k : List ℕ) : Type 0 where
  pub is : IsCoding schema k
  pub short : length (key_code schema is.table is.values) ≤ longest_key

-- a coded key in its directory
abbrev pub is_under : List Table → Root → List ℕ → Bool
is_under schema root k = begins_with k (key_code schema root.table root.key)

-- ---- the versions that commits make at a key

-- the newest version at a key where one row takes the place of another there
abbrev pub with_change : ℕ → Option (List ℕ) → Option (List ℕ) → List Version → List Version
with_change ts before after vs = if is_same_row before after then vs else (record { timestamp = ts; row = after }) ∷ vs

-- a directory once a commit's mutations of it have run
abbrev pub directory_after : List Table → Root → List TableRow → Commit → List TableRow
directory_after schema root db c = after_mutations schema db (filter (is_at schema root) c.mutations)

-- the versions that commits make at a key of their directory, newest first, in front of those that are there
abbrev pub made_from : List Table → Root → List ℕ → List TableRow → List Commit → List Version → List Version
made_from schema root k db [] vs = vs
made_from schema root k db (c ∷ cs) vs =
    made_from schema root k (directory_after schema root db c) cs
    (with_change c.timestamp (row_coded schema db k) (row_coded schema (directory_after schema root db c) k) vs)

abbrev pub made : List Table → Root → List ℕ → List Commit → List Version
made schema root k commits = made_from schema root k [] commits []

-- at every s the versions have the row that the directory's commits up to s make
pub record MakeRows (schema : List Table) (root : Root) (k : List ℕ) (commits : List Commit) (vs : List Version) : Type
    0 where
  pub rows : (s : ℕ) → (db : List TableRow)
      × (apply schema [] (changes_at schema root (filter (λ c. nat_le c.timestamp s) commits)) ≡ Ok db)
      × (row_coded schema db k ≡ row_at vs s)

-- the versions are those that the directory's commits make, trimmed at the horizon h
pub record HasRows (schema : List Table) (root : Root) (k : List ℕ) (h : ℕ) (commits : List Commit)
    (vs : List Version) : Type 0 where
  pub versions : vs ≡ kept_upto h (made schema root k commits)
  pub makes : MakeRows schema root k commits (made schema root k commits)

-- what is prepared is the row after, where that is another one
abbrev pub IsPut : ℕ → Option (List ℕ) → Option (List ℕ) → Option PreparedWrite → Type 0
IsPut txn before after None = after ≡ before
IsPut txn before after (Some w) = (w.txn ≡ txn) × (w.row ≡ after) × (after ≢ before)

-- what is prepared is what the transaction's mutations make of the directory after its commits
pub record IsPreparedBy (schema : List Table) (root : Root) (k : List ℕ) (commits : List Commit) (txn : ℕ)
    (ms : List CheckedMutation) (prepared : Option PreparedWrite) : Type 0 where
  pub before : List TableRow
  pub after : List TableRow
  pub now : apply schema [] (changes_at schema root commits) ≡ Ok before
  pub through : apply schema before (filter (is_at schema root) ms) ≡ Ok after
  pub put : IsPut txn (row_coded schema before k) (row_coded schema after k) prepared

-- the last commit is not applied yet: it is above the horizon, and what is prepared is what it makes
pub record IsPending (schema : List Table) (root : Root) (k : List ℕ) (h : ℕ) (commits : List Commit)
    (vs : List Version) (prepared : Option PreparedWrite) (t : OpenTransaction) (ts : ℕ) : Type 0 where
  pub front : List Commit
  pub whole : commits ≡ front ++ commit_of ts t ∷ []
  pub put : IsPreparedBy schema root k front t.number t.mutations prepared
  pub rows : HasRows schema root k h front vs

-- what is kept at a key of a directory that a transaction claims, by what was decided of it
abbrev pub IsKeptUnder : List Table → Root → List ℕ → ℕ → List Commit → List Version → Option PreparedWrite
    → OpenTransaction → Decision → Type 0
IsKeptUnder schema root k h commits vs prepared t decision.Undecided =
    IsPreparedBy schema root k commits t.number t.mutations prepared × HasRows schema root k h commits vs
IsKeptUnder schema root k h commits vs prepared t decision.Aborted =
    IsPreparedBy schema root k commits t.number t.mutations prepared × HasRows schema root k h commits vs
IsKeptUnder schema root k h commits vs prepared t (decision.Committed ts) =
    IsPending schema root k h commits vs prepared t ts

-- what is kept at a key, by the commits of its directory and the transactions that claim it
abbrev pub IsKeptBy : List Table → Root → List ℕ → ℕ → List Commit → List Version → Option PreparedWrite
    → List OpenTransaction → Type 0
IsKeptBy schema root k h commits vs prepared [] = (prepared ≡ None) × HasRows schema root k h commits vs
IsKeptBy schema root k h commits vs prepared (t ∷ ts) = IsKeptUnder schema root k h commits vs prepared t t.decision

-- what is kept at a key by a machine, in a slot that has this horizon
abbrev pub IsKeptAt : List Table → Machine → ℕ → ℕ → List KeyVersions → Root → List ℕ → Type 0
IsKeptAt schema m slot horizon cs root k =
    IsKeptBy schema root k horizon (commits_at schema root m.log) (versions_at cs k) (prepared_at cs k)
    (filter (claims schema root slot) m.transactions)

-- The slot is in use, and its shard is what the log and the open transactions make it there: it has no key outside the
-- slot's range, and at each key of the directories that the range has it keeps what they make, at the slot's own
-- horizon.
pub record AreKept (schema : List Table) (m : Machine) (slot : ℕ) (cs : List KeyVersions) : Type 0 where
  pub slot_state : SlotState
  pub here : slice_get m.slots slot ≡ Some slot_state
  pub keys : AreInOrder cs
  pub used : AllByRecursion IsInUse cs
  pub coded : AllByRecursion (λ c. IsCodedCoding schema c.key) cs
  pub inside : AllByRecursion (λ c. has_key slot_state c.key ≡ true) cs
  pub kept : (root : Root) → IsCodedRoot schema root → holds schema slot_state root ≡ true → (k : List ℕ)
      → is_under schema root k ≡ true → IsKeptAt schema m slot slot_state.horizon cs root k

-- the shards of all slots in use are what the log and the open transactions make them
pub record AreAllKept (schema : List Table) (m : Machine) (shards : List (List KeyVersions)) : Type 0 where
  pub count : length shards ≡ length m.slots
  pub each : (slot : ℕ) (cs : List KeyVersions) → slice_get shards slot ≡ Some cs → AreKept schema m slot cs

-- ---- the pieces of open queries

-- the rows of the piece are as good as those that the leaf gives on the rows of the range, at s
pub record HasRowsIn (IsAsGood : Rows → Rows → Type 0) (schema : List Table) (log : List Commit) (s : ℕ) (leaf : Leaf)
    (range : KeyRange) (piece : Piece) : Type 0 where
  pub db : List TableRow
  pub made : tables schema log s ≡ Ok db
  pub good : IsAsGood piece.rows (leaf_within schema db leaf range)

-- each piece of a leaf has rows as good as those that the leaf gives on its range
abbrev pub AreRead : (Rows → Rows → Type 0) → List Table → List Commit → ℕ → Leaf → List KeyRange → List Piece → Type 0
AreRead IsAsGood schema log s leaf [] [] = Unit {0}
AreRead IsAsGood schema log s leaf [] (piece ∷ ps) = ⊥
AreRead IsAsGood schema log s leaf (c ∷ cs) [] = ⊥
AreRead IsAsGood schema log s leaf (c ∷ cs) (piece ∷ ps) =
    HasRowsIn IsAsGood schema log s leaf c piece × AreRead IsAsGood schema log s leaf cs ps

-- each leaf and its pieces, where a leaf's place, counted from 0, says which rows are as good as others
abbrev pub AreLeafPieces : (ℕ → Rows → Rows → Type 0) → List Table → List Commit → ℕ → List ScanLeaf → List (List Piece)
    → Type 0
AreLeafPieces AreAsGood schema log s [] [] = Unit {0}
AreLeafPieces AreAsGood schema log s [] (pieces ∷ ps) = ⊥
AreLeafPieces AreAsGood schema log s (l ∷ ls) [] = ⊥
AreLeafPieces AreAsGood schema log s (l ∷ ls) (pieces ∷ ps) =
    AreRead (AreAsGood 0) schema log s l.leaf l.covered pieces
    × AreLeafPieces (λ (place : ℕ). AreAsGood (suc place)) schema log s ls ps

-- The leaves are those of the plan of a statement that can be planned, and each has its pieces, whose rows are as good for the query above.
pub record IsPieced (schema : List Table) (log : List Commit) (p : Pieced) : Type 0 where
  pub plannable : IsPlannable schema p.query.statement
  pub of_plan : map (λ (l : ScanLeaf). l.leaf) p.query.leaves ≡ (statement_plan schema p.query.statement).leaves
  pub top : p.query.top ≡ (statement_plan schema p.query.statement).top
  pub leaves : AreLeafPieces (MeanTheSame p.query.top) schema log p.query.s p.query.leaves p.pieces

abbrev pub ArePieced : List Table → Machine → List Pieced → Type 0
ArePieced schema m ps = AllByRecursion (IsPieced schema m.log) ps

-- the slot's range has the key of the row
abbrev pub has_row : List Table → SlotState → TableRow → Bool
has_row schema slot_state r = has_key slot_state (code_of schema r)

-- entries that are rows of a range in the slot's range, those of each table being all that the database has there, in
-- its order
pub record HasRowsOf (schema : List Table) (slot_state : SlotState) (range : KeyRange) (db : List TableRow)
    (entries : List KeyRow) : Type 0 where
  pub rows : List TableRow
  pub typed : AreTyped schema rows
  pub entries_are : entries ≡ map (key_row schema) rows
  pub of_table : (n : ℕ) → rows_of n rows
      ≡ filter (row_within schema range) (filter (has_row schema slot_state) (rows_of n db))
