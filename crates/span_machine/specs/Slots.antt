-- The ranges of slots: which directories each of them has.
--
-- A range is cut at coded root keys alone, so that a directory, whose keys all begin with the coding of its root row,
-- is in one slot as a whole.
use Rattle.std.specs.Prelude.{◌≡◌, ℕ, Bool, true, List, map, filter, position, slice_get, Option, Some, None}
use Rattle.std.specs.List.{AllByRecursion}
use Rattle.span_schema.specs.declared.table.Table.{Table}
use Rattle.span_schema.specs.Numbers.{root_of}
use Rattle.span_keycode.specs.Keys.{IsCodedKey, key_code}
pub use Rattle.span_keycode.specs.Parts.{is_from, is_upto}
unfoldable pub use Rattle.span_keycode.specs.Parts.{is_between}
use Rattle.span_mutate.specs.declared.mutation.CheckedMutation.{CheckedMutation}
use Rattle.span_mutate.specs.Directories.{Root, is_in_directory, root_row}
use Rattle.span_machine.specs.declared.slot.SlotState.{SlotState}

-- ---- directories

-- the root row of a mutation's directory
abbrev pub root_at : List Table → CheckedMutation → Root
root_at schema m = root_row schema m.table m.key

-- the mutation is in the directory of this root row
abbrev pub is_at : List Table → Root → CheckedMutation → Bool
is_at schema root m = is_in_directory schema root m.table m.key

-- the coding of a root row's key
unfoldable pub root_code : List Table → Root → List ℕ
root_code schema root = key_code schema root.table root.key

-- ---- ranges

-- the slot's range has the coded key
abbrev pub has_key : SlotState → List ℕ → Bool
has_key slot_state key = is_between slot_state.lo slot_state.hi key

-- the number of the slot whose range has the coded key
abbrev pub slot_of : List SlotState → List ℕ → Option ℕ
slot_of slots key = position (λ slot_state. has_key slot_state key) slots

-- the slot's range has the directory of the root row
abbrev pub holds : List Table → SlotState → Root → Bool
holds schema slot_state root = has_key slot_state (root_code schema root)

-- the mutations of directories that the slot has
abbrev pub mutations_in : List Table → SlotState → List CheckedMutation → List CheckedMutation
mutations_in schema slot_state ms = filter (λ m. holds schema slot_state (root_at schema m)) ms

-- ---- the ranges of all slots

-- the range of a slot, without its timestamps
pub record SlotRange : Type 0 where
  pub lo : Option (List ℕ)
  pub hi : Option (List ℕ)

abbrev pub range_of : SlotState → SlotRange
range_of slot_state = record { lo = slot_state.lo; hi = slot_state.hi }

abbrev pub ranges_of : List SlotState → List SlotRange
ranges_of slots = map range_of slots

-- the range of all keys
abbrev pub whole_range : SlotRange
whole_range = record { lo = None; hi = None }

-- the key is in the range of one slot, and of no other
pub record IsInOne (ranges : List SlotRange) (key : List ℕ) : Type 0 where
  pub slot : ℕ
  pub range : SlotRange
  pub here : slice_get ranges slot ≡ Some range
  pub inside : is_between range.lo range.hi key ≡ true
  pub only : (i : ℕ) (r : SlotRange) → slice_get ranges i ≡ Some r → is_between r.lo r.hi key ≡ true → i ≡ slot

-- the ranges tile the keys: each key is in one of them
abbrev pub AreTiles : List SlotRange → Type 0
AreTiles ranges = (key : List ℕ) → IsInOne ranges key

-- a root row: of a root table, with a key that has a coding
abbrev pub IsCodedRoot : List Table → Root → Type 0
IsCodedRoot schema root = (root_of schema root.table ≡ root.table) × IsCodedKey schema root.table root.key

-- an end of a range: open, or a coded root key
abbrev pub IsCut : List Table → Option (List ℕ) → Type 0
IsCut schema None = Unit {0}
IsCut schema (Some key) = (root : Root) × IsCodedRoot schema root × (key ≡ root_code schema root)

-- the ranges are cut at root keys alone
abbrev pub AreCut : List Table → List SlotRange → Type 0
AreCut schema ranges = AllByRecursion (λ (r : SlotRange). IsCut schema r.lo × IsCut schema r.hi) ranges
