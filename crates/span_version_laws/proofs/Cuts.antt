-- A key is in the range of a slot just where the directory that it lies in is: ranges are cut at root keys.
use Rattle.std.proofs.Common.{◌≡◌, ℕ, true, not, ◌&&◌, Bool, List, Option, Some, None, refl, ap, sym, ◌∙◌}
use Rattle.std.specs.Prelude.{slice_get}
use Rattle.std.specs.Ordering.{is_lt}
use Rattle.span_schema.specs.declared.table.Table.{Table}
use Rattle.span_schema.specs.Lineages.{MeetsRules}
use Rattle.span_keycode.specs.Order.{byte_order}
use Rattle.span_keycode.specs.Keys.{key_code}
use Rattle.span_mutate.specs.Directories.{Root}
use Rattle.span_machine.specs.declared.slot.SlotState.{SlotState}
use Rattle.span_machine.specs.Slots.{IsCodedRoot, IsCut, is_from, is_upto, is_between, has_key, holds, root_code}
use Rattle.span_machine.specs.Machine.{Machine}
use Rattle.span_machine_laws.proofs.Ends.{less_cut}
use Rattle.span_machine_laws.proofs.Reached.{IsReached}
use Rattle.span_machine_laws.proofs.Ranges.{cut_at}
use Rattle.span_version_laws.specs.Kept.{is_under}

-- ---- ranges

module _ (schema : List Table) (rules : MeetsRules schema) (root : Root) (is : IsCodedRoot schema root) (k : List ℕ) (under : is_under schema root k ≡ true) where
  from_cut : (lo : Option (List ℕ)) → IsCut schema lo → is_from lo k ≡ is_from lo (root_code schema root)
  unfolding root_code
  from_cut None cut = refl
  from_cut (Some low) cut =
      ap (λ (l : List ℕ). not (is_lt (byte_order k l))) cut.2 ∙ ap not (less_cut schema rules root is k under cut.0 cut.1) ∙ ap (λ (l : List ℕ). not (is_lt (byte_order (key_code schema root.table root.key) l))) (sym cut.2)

  upto_cut : (hi : Option (List ℕ)) → IsCut schema hi → is_upto hi k ≡ is_upto hi (root_code schema root)
  unfolding root_code
  upto_cut None cut = refl
  upto_cut (Some high) cut =
      ap (λ (l : List ℕ). is_lt (byte_order k l)) cut.2 ∙ less_cut schema rules root is k under cut.0 cut.1 ∙ ap (λ (l : List ℕ). is_lt (byte_order (key_code schema root.table root.key) l)) (sym cut.2)

  -- the slot's range has the key just where it has the directory
  pub has_under : (slot_state : SlotState) → IsCut schema slot_state.lo → IsCut schema slot_state.hi → has_key slot_state k ≡ holds schema slot_state root
  unfolding is_between
  has_under slot_state lo hi = ap (λ (b : Bool). b && is_upto slot_state.hi k) (from_cut slot_state.lo lo) ∙ ap (λ (b : Bool). is_from slot_state.lo (root_code schema root) && b) (upto_cut slot_state.hi hi)

-- ---- the slots of a machine

module _ (schema : List Table) (rules : MeetsRules schema) (m : Machine) (reached : IsReached schema m) (slot : ℕ) (slot_state : SlotState) (here : slice_get m.slots slot ≡ Some slot_state)
    (root : Root) (is : IsCodedRoot schema root) (k : List ℕ) (under : is_under schema root k ≡ true) where
  -- a slot has a key in its range just where it has its directory
  pub has_as_root : has_key slot_state k ≡ holds schema slot_state root
  has_as_root = let cut = cut_at schema m.slots slot slot_state here reached.ranges.cut in has_under schema rules root is k under slot_state cut.0 cut.1

  pub held_by_key : has_key slot_state k ≡ true → holds schema slot_state root ≡ true
  held_by_key has = sym has_as_root ∙ has

  pub key_by_held : holds schema slot_state root ≡ true → has_key slot_state k ≡ true
  key_by_held held = has_as_root ∙ held
