-- The rows at keys as mutations leave them, over those that are there now.
use Rattle.std.specs.Prelude.{◌≡◌, ◌⊎◌, ℕ, ◌≤◌, ◌<◌, Bool, true, false, if◌then◌else◌, ◌&&◌, ◌||◌, List, [], ◌∷◌, length, find, take, is_some, is_none, not, nat_lt, Option, Some, None, Ok, Err}
use Rattle.std.specs.List.{list_any, AllByRecursion}
use Rattle.std.specs.Option.{unwrap_or}
use Rattle.span_value.specs.declared.value.Value.{Value}
use Rattle.span_value.specs.declared.refusal.Refusal.{Refusal}
use Rattle.span_value.specs.declared.refusal.Refusal.TheVariants.{OutOfMemory, Exists, Missing, ParentMissing, HasChildren, RowTooLong, BadKey, BadRow}
use Rattle.span_value.specs.Results.{first_cause}
use Rattle.span_schema.specs.declared.table.Table.{Table}
use Rattle.span_schema.specs.Numbers.{key_columns, other_kinds, parent_of}
use Rattle.span_keycode.specs.Order.{is_same}
use Rattle.span_keycode.specs.Keys.{key_code, IsCodedKey}
use Rattle.span_keycode.specs.Reads.{IsNoKey}
use Rattle.span_rowcode.specs.Rows.{IsRow, IsNoRow, row_code}
use Rattle.span_rowcode.specs.Limits.{longest_row}
use Rattle.span_mutate.specs.declared.mutation.CheckedMutation.{CheckedMutation}
use Rattle.span_mutate.specs.declared.mutation.MutationKind.{MutationKind}
use Rattle.span_mutate.specs.declared.row.TableRow.{TableRow}
use Rattle.span_mutate.specs.Database.{is_insert, is_update, merge_cells, blocks_delete, apply_one, apply}
use Rattle.span_mutate.specs.Directories.{IsDatabase}
use Rattle.span_mutate.specs.Faults.{is_mutation_fault}
use Rattle.span_mutate.specs.Typed.{IsTyped, AreTyped}
use Rattle.span_maderows.specs.Made.{begins_with, made_at}
use Rattle.span_store.specs.declared.write.Write.{Write}
use Rattle.span_store.specs.KeyVersions.{KeyVersions}
use Rattle.span_shard.specs.Rows.{code_of, row_coded, root_code, is_touched}
use Rattle.span_store.specs.KeyLists.{row_now}
use Rattle.span_shard.specs.Shard.{IsNow}
use Rattle.span_shard.specs.Writes.{is_of}
use Rattle.span_shard.specs.Reading.{row_of, is_same_row, is_prepare_refusal, AreUnreadable}

-- what mutations make of rows: by coded keys the packed rows that they made, the keys at which they removed one, maybe
-- before they made one there, and the keys from which on down they removed all
pub record Changes : Type 0 where
  pub made : List (List ℕ × List ℕ)
  pub removed : List (List ℕ)
  pub cleared : List (List ℕ)

abbrev pub no_change : Changes
no_change = record { made = []; removed = []; cleared = [] }

-- what is left at a key by the row that was made there, and whether one was removed
abbrev pub change_of : Option (List ℕ) → Bool → Option (Option (List ℕ))
change_of (Some row) removed = Some (Some row)
change_of None true = Some None
change_of None false = None

-- what mutations leave at a key, where they change its row; Some None where they leave none
abbrev pub changed_at : Changes → List ℕ → Option (Option (List ℕ))
changed_at es k = change_of (made_at es.made k) (list_any (is_same k) es.removed)

-- the row at a key: what mutations leave there, and else what is there now
abbrev pub row_over : List KeyVersions → Changes → List ℕ → Option (List ℕ)
row_over cs es k = unwrap_or (changed_at es k) (row_now cs k)

-- the row at a key at which mutations made none: none where they removed one, and else what is there now
abbrev pub row_under : List KeyVersions → Changes → List ℕ → Option (List ℕ)
row_under cs es k = unwrap_or (change_of None (list_any (is_same k) es.removed)) (row_now cs k)

-- ---- the keys below one

-- a key with a row now, which no mutation changed
abbrev pub is_unchanged : Changes → KeyVersions → Bool
is_unchanged es c = is_none (changed_at es c.key) && is_some (row_of c)

-- every row that the store has from a key on down was changed
abbrev pub AreChangedUnder : List KeyVersions → Changes → List ℕ → Type 0
AreChangedUnder cs es front =
    (k : List ℕ) → begins_with k front ≡ true → is_some (row_now cs k) ≡ true → is_some (changed_at es k) ≡ true

-- so from each of the cleared keys on down
abbrev pub AreCleared : List KeyVersions → Changes → Type 0
AreCleared cs es = (front : List ℕ) → list_any (is_same front) es.cleared ≡ true → AreChangedUnder cs es front

-- the cleared keys are as before
abbrev pub HasSameCleared : Changes → Changes → Type 0
HasSameCleared es fs = fs.cleared ≡ es.cleared

-- a key is among the cleared ones too
abbrev pub AddsCleared : List ℕ → Changes → Changes → Type 0
AddsCleared key es fs =
    (k : List ℕ) → list_any (is_same k) fs.cleared ≡ (if is_same key k then true else list_any (is_same k) es.cleared)

-- the keys with a row that begin with these bytes
pub record AreUnder (cs : List KeyVersions) (es : Changes) (front : List ℕ) (ks : List (List ℕ)) : Type 0 where
  pub sound : AllByRecursion (λ (k : List ℕ). (begins_with k front ≡ true) × (is_some (row_over cs es k) ≡ true)) ks
  pub complete : (k : List ℕ) → begins_with k front ≡ true → is_some (row_over cs es k) ≡ true
      → list_any (is_same k) ks ≡ true

-- the keys of the store with a row that begin with these bytes, of which no mutation changed one
pub record AreUnchangedUnder (cs : List KeyVersions) (es : Changes) (front : List ℕ) (ks : List (List ℕ)) : Type 0 where
  pub sound : AllByRecursion (λ (k : List ℕ). (begins_with k front ≡ true) × (is_some (row_over cs es k) ≡ true)) ks
  pub complete : (k : List ℕ) → begins_with k front ≡ true → changed_at es k ≡ None → is_some (row_now cs k) ≡ true
      → list_any (is_same k) ks ≡ true

-- it is a key of a table whose rows stay where a row of table n above them is to be deleted
abbrev pub BlocksDelete : List Table → ℕ → Bool → List ℕ → Type 0
BlocksDelete tables n b k =
    (m : ℕ) (ws : List Value) → IsCodedKey tables m ws → k ≡ key_code tables m ws → blocks_delete tables n m ≡ b

-- whether one of the keys is of such a table
abbrev pub IsBlocked : List Table → ℕ → List (List ℕ) → Bool → Type 0
IsBlocked tables n ks true = (k : List ℕ) × (list_any (is_same k) ks ≡ true) × BlocksDelete tables n true k
IsBlocked tables n ks false = AllByRecursion (BlocksDelete tables n false) ks

-- what is left at a key, where its row is removed or not
abbrev pub without_if : Bool → Option (Option (List ℕ)) → Option (Option (List ℕ))
without_if true left = Some None
without_if false left = left

-- a row is left at this key, and the others are as before
abbrev pub IsPutAt : List ℕ → List ℕ → Changes → Changes → Type 0
IsPutAt key row es fs = (k : List ℕ) → changed_at fs k ≡ (if is_same key k then Some (Some row) else changed_at es k)

-- ... and mutations had made none there
pub record IsAddedAt (key row : List ℕ) (es fs : Changes) : Type 0 where
  pub none : made_at es.made key ≡ None
  pub put : IsPutAt key row es fs

-- no row is left at these keys, and the others are as before
abbrev pub AreRemoved : Changes → List (List ℕ) → Changes → Type 0
AreRemoved es ks fs = (k : List ℕ) → changed_at fs k ≡ without_if (list_any (is_same k) ks) (changed_at es k)

-- one of the keys is no key of a table
pub record HasNoKey (tables : List Table) (ks : List (List ℕ)) : Type 0 where
  pub key : List ℕ
  pub among : list_any (is_same key) ks ≡ true
  pub none : IsNoKey tables key

-- ---- the row that a mutation makes

-- the cells of a packed row, and none where there is no row
abbrev pub AreCellsOf : List Table → ℕ → Option (List ℕ) → List Value → Type 0
AreCellsOf tables n None vs = vs ≡ []
AreCellsOf tables n (Some row) vs = IsRow (other_kinds tables n) vs × (row ≡ row_code vs)

-- the bytes are no row of the table
abbrev pub IsUnpacked : List Table → ℕ → Option (List ℕ) → Type 0
IsUnpacked tables n None = ⊥
IsUnpacked tables n (Some row) = IsNoRow (other_kinds tables n) row

-- the coding of a mutation's key
abbrev pub own_code : List Table → CheckedMutation → List ℕ
own_code tables m = key_code tables m.table m.key

-- the row at a mutation's key
abbrev pub row_before : List Table → List KeyVersions → Changes → CheckedMutation → Option (List ℕ)
row_before tables cs es m = row_over cs es (own_code tables m)

-- the parent row of a row with this key is absent
abbrev pub lacks_parent_over : List Table → List KeyVersions → Changes → Option ℕ → List Value → Bool
lacks_parent_over tables cs es None key = false
lacks_parent_over tables cs es (Some p) key =
    is_none (row_over cs es (key_code tables p (take (length (key_columns tables p)) key)))

-- the parent row of a mutation's row is there, or it has none
abbrev pub HasParent : List Table → List KeyVersions → Changes → Option CheckedMutation → Type 0
HasParent tables cs es None = Unit {0}
HasParent tables cs es (Some m) = lacks_parent_over tables cs es (parent_of tables m.table) m.key ≡ false

-- a mutation of table n, the key of which begins with these values, as many as len
abbrev pub HasFront : ℕ → ℕ → List Value → Option CheckedMutation → Type 0
HasFront n len values None = ⊥
HasFront n len values (Some m) = (m.table ≡ n) × (take len m.key ≡ values)

-- what refuses to make a row of these cells, in the order of the checks: whether its key has a row, whether its parent
-- row is absent
abbrev pub put_cause : CheckedMutation → Bool → Bool → List Value → Option Refusal
put_cause m present lacking old = first_cause (
    (is_insert m.kind && present, Exists)
    ∷ (is_update m.kind && not present, Missing)
    ∷ (lacking, ParentMissing)
    ∷ (nat_lt longest_row (length (row_code (merge_cells m.cells old))), RowTooLong)
    ∷ []
    )

abbrev pub cause_over : List Table → List KeyVersions → Changes → CheckedMutation → List Value → Option Refusal
cause_over tables cs es m old =
    put_cause m (is_some (row_before tables cs es m)) (lacks_parent_over tables cs es (parent_of tables m.table) m.key)
    old

-- the row that a mutation makes of the cells that were there
pub record IsPutRow (tables : List Table) (cs : List KeyVersions) (es : Changes) (m : CheckedMutation)
    (row : List ℕ) : Type 0 where
  pub old : List Value
  pub cells : AreCellsOf tables m.table (row_before tables cs es m) old
  pub cause : cause_over tables cs es m old ≡ None
  pub is : row ≡ row_code (merge_cells m.cells old)

-- the packed row of a row's cells once the named ones have changed, which is not too long
abbrev pub IsMergedRow : List (Option Value) → List Value → List ℕ → Type 0
IsMergedRow named old row =
    (row ≡ row_code (merge_cells named old)) × (length (row_code (merge_cells named old)) ≤ longest_row)

-- it is too long, or out of memory
abbrev pub IsMergeRefused : List (Option Value) → List Value → Refusal → Type 0
IsMergeRefused named old why =
    ((why ≡ RowTooLong) × (longest_row < length (row_code (merge_cells named old)))) ⊎ (why ≡ OutOfMemory)

-- an insert is where its key has no row, and an update where it has one
abbrev pub IsPresenceRight : MutationKind → Bool → Type 0
IsPresenceRight kind present = (is_insert kind && present ≡ false) × (is_update kind && not present ≡ false)

abbrev pub IsPresenceRefused : MutationKind → Bool → Refusal → Type 0
IsPresenceRefused kind present why =
    ((why ≡ Exists) × (is_insert kind && present ≡ true))
    ⊎ ((why ≡ Missing) × (is_insert kind && present ≡ false) × (is_update kind && not present ≡ true))

-- whichever cells were there, the mutation is refused so
abbrev pub IsPutFault : List Table → List KeyVersions → Changes → CheckedMutation → Refusal → Type 0
IsPutFault tables cs es m why =
    (old : List Value) → AreCellsOf tables m.table (row_before tables cs es m) old
    → cause_over tables cs es m old ≡ Some why

-- out of memory, the fault, or bytes that are no row
abbrev pub IsNoPut : List Table → List KeyVersions → Changes → CheckedMutation → Refusal → Type 0
IsNoPut tables cs es m why =
    (why ≡ OutOfMemory) ⊎ (((is_mutation_fault why ≡ true) × IsPutFault tables cs es m why)
    ⊎ ((why ≡ BadRow) × IsUnpacked tables m.table (row_before tables cs es m)))

-- the row that an insert makes where no mutation made one at its key
pub record IsRowAlone (tables : List Table) (cs : List KeyVersions) (es : Changes) (m : CheckedMutation)
    (row : List ℕ) : Type 0 where
  pub insert : is_insert m.kind ≡ true
  pub under : row_under cs es (own_code tables m) ≡ None
  pub parent : lacks_parent_over tables cs es (parent_of tables m.table) m.key ≡ false
  pub is : row ≡ row_code (merge_cells m.cells [])
  pub fits : length (row_code (merge_cells m.cells [])) ≤ longest_row

-- the row that a mutation makes is at its key, and the others are as before
pub record HasPutRow (tables : List Table) (cs : List KeyVersions) (m : CheckedMutation) (es fs : Changes) : Type 0
  where
    pub row : List ℕ
    pub made : IsPutRow tables cs es m row
    pub put : IsPutAt (own_code tables m) row es fs

-- ---- the rows that a mutation deletes

-- none where its own row is absent; else all keys from its own on down, none of which holds it
abbrev pub AreDeleted : List Table → List KeyVersions → Changes → CheckedMutation → List (List ℕ) → Type 0
AreDeleted tables cs es m ks = ((row_before tables cs es m ≡ None) × (ks ≡ []))
    ⊎ ((is_some (row_before tables cs es m) ≡ true) × AreUnder cs es (own_code tables m) ks
    × IsBlocked tables m.table ks false)

-- at these keys, and no others, no row is left
pub record HasDeleted (tables : List Table) (cs : List KeyVersions) (m : CheckedMutation) (es fs : Changes) : Type 0
  where
    pub keys : List (List ℕ)
    pub are : AreDeleted tables cs es m keys
    pub removed : AreRemoved es keys fs

-- a key below holds the row
pub record IsHeld (tables : List Table) (cs : List KeyVersions) (es : Changes) (m : CheckedMutation) : Type 0 where
  pub there : is_some (row_before tables cs es m) ≡ true
  pub keys : List (List ℕ)
  pub under : AreUnder cs es (own_code tables m) keys
  pub blocked : IsBlocked tables m.table keys true

-- what is below is no key of a table
pub record IsStray (tables : List Table) (cs : List KeyVersions) (es : Changes) (m : CheckedMutation) : Type 0 where
  pub keys : List (List ℕ)
  pub under : AreUnder cs es (own_code tables m) keys
  pub stray : HasNoKey tables keys

-- out of memory, a row that holds it, or bytes that are no key
abbrev pub IsNoDelete : List Table → List KeyVersions → Changes → CheckedMutation → Refusal → Type 0
IsNoDelete tables cs es m why =
    (why ≡ OutOfMemory) ⊎ (((why ≡ HasChildren) × IsHeld tables cs es m) ⊎ ((why ≡ BadKey) × IsStray tables cs es m))

-- ---- mutations one after another

-- the rows at some keys are those of the database
abbrev pub IsOver : List Table → (List ℕ → Bool) → List KeyVersions → Changes → List TableRow → Type 0
IsOver tables dir cs es db = (k : List ℕ) → dir k ≡ true → row_over cs es k ≡ row_coded tables db k

-- they are all keys of the mutation's directory, and maybe others
abbrev pub HasDirectory : List Table → (List ℕ → Bool) → CheckedMutation → Type 0
HasDirectory tables dir m = (k : List ℕ) → begins_with k (root_code tables m) ≡ true → dir k ≡ true

-- bytes that are a row of a table, under its key
pub record IsTableRow (tables : List Table) (key row : List ℕ) : Type 0 where
  pub of : TableRow
  pub typed : IsTyped tables of
  pub key_is : key ≡ code_of tables of
  pub row_is : row ≡ row_code of.cells

-- what mutations leave are rows of tables
abbrev pub AreTableRows : List Table → Changes → Type 0
AreTableRows tables es = (k row : List ℕ) → changed_at es k ≡ Some (Some row) → IsTableRow tables k row

-- what a mutation makes of what those before it left
pub record IsRunOf (tables : List Table) (cs : List KeyVersions) (m : CheckedMutation) (es fs : Changes) : Type 0 where
  pub rows : AreTableRows tables fs
  pub here : (k : List ℕ) → is_some (changed_at fs k) ≡ true
      → (is_some (changed_at es k) || begins_with k (root_code tables m)) ≡ true
  pub applied : (dir : List ℕ → Bool) → HasDirectory tables dir m → (db : List TableRow) → IsDatabase tables db
      → AreTyped tables db → IsOver tables dir cs es db → (next : List TableRow) × (apply_one tables db m ≡ Ok next)
      × IsOver tables dir cs fs next

-- why a mutation is refused: its fault on each database with these rows, or out of memory; bytes that are no row where
-- none has them
pub record IsRunFault (tables : List Table) (cs : List KeyVersions) (m : CheckedMutation) (es : Changes)
    (why : Refusal) : Type 0 where
  pub fault : (dir : List ℕ → Bool) → HasDirectory tables dir m → (db : List TableRow) → IsDatabase tables db
      → AreTyped tables db → IsOver tables dir cs es db → (why ≡ OutOfMemory) ⊎ (apply_one tables db m ≡ Err why)
  pub number : (is_prepare_refusal why ≡ true) ⊎ AreUnreadable tables (m ∷ []) cs why

-- what mutations make, one after another, of the rows that are there now
pub record AreRunsOf (tables : List Table) (ms : List CheckedMutation) (cs : List KeyVersions) (es : Changes) : Type 0
  where
    pub touched : (k : List ℕ) → is_some (changed_at es k) ≡ true → is_touched tables ms k ≡ true
    pub applied : (db : List TableRow) → IsDatabase tables db → AreTyped tables db → IsNow tables ms db cs
        → (after : List TableRow) × (apply tables db ms ≡ Ok after) × IsOver tables (is_touched tables ms) cs es after

-- ---- what is written

-- a row that is to be written at a key, unless it is there now
abbrev pub write_new : List ℕ → Option (List ℕ) → Bool → Option Write
write_new k row true = None
write_new k row false = Some (record { key = k; row = row })

-- what is to be written at a key, where what mutations leave there is another row than the one that is there now
abbrev pub write_if : List ℕ → Option (List ℕ) → Option (Option (List ℕ)) → Option Write
write_if k before None = None
write_if k before (Some row) = write_new k row (is_same_row before row)

abbrev pub write_at : List KeyVersions → Changes → List ℕ → Option Write
write_at cs es k = write_if k (row_now cs k) (changed_at es k)

-- at a key: not looked at yet, or done
abbrev pub IsWrittenAt : List KeyVersions → Changes → Changes → List Write → List ℕ → Type 0
IsWrittenAt cs es left ws k =
    ((changed_at left k ≡ changed_at es k) × (find (is_of k) ws ≡ None))
    ⊎ ((changed_at left k ≡ None) × (find (is_of k) ws ≡ write_at cs es k))

-- the changes that are not left are written
pub record AreWrittenFrom (cs : List KeyVersions) (es left : Changes) (ws : List Write) : Type 0 where
  pub changed : AllByRecursion (λ (w : Write). is_some (changed_at es w.key) ≡ true) ws
  pub at : (k : List ℕ) → IsWrittenAt cs es left ws k

-- rows that were made, and keys at which one was removed
abbrev pub changes_of : List (List ℕ × List ℕ) → List (List ℕ) → Changes
changes_of made removed = record { made = made; removed = removed; cleared = [] }

-- at each key the write of what mutations leave there, all of keys whose rows they change
pub record AreWritesAt (cs : List KeyVersions) (es : Changes) (ws : List Write) : Type 0 where
  pub changed : AllByRecursion (λ (w : Write). is_some (changed_at es w.key) ≡ true) ws
  pub at : (k : List ℕ) → find (is_of k) ws ≡ write_at cs es k
