-- A slot that is cut in two at a key: the keys of the two parts, and the list of slots.
use Rattle.std.proofs.Common.{◌≡◌, ◌≢◌, ℕ, zero, suc, Bool, true, false, not, List, [], ◌∷◌, ◌++◌, length, Option, Some, None, refl, ap, subst, inl, inr, ◌⊎◌}
use Rattle.std.specs.Prelude.{slice_get, slice_set}
use Rattle.std.specs.Ordering.{is_lt}
use Rattle.std.proofs.lemmas.Bool.{not-true, not_from_false, and_from, and_parts}
use Rattle.std.proofs.lemmas.Option.{get_or_from_slice_get}
use Rattle.std.proofs.lemmas.List.Quantifiers.{position-Some}
use Rattle.std.proofs.Math.Nat.{suc_inj}
use Rattle.span_value.specs.Results.{first_cause}
use Rattle.span_value.specs.declared.refusal.Refusal.TheVariants as refusal
use Rattle.span_keycode.specs.Order.{byte_order}
use Rattle.span_keycode.proofs.Befores.{IsBefore, IsUpto, upto_upto, lt_lt}
use Rattle.span_machine.specs.declared.slot.SlotState.{SlotState}
use Rattle.span_machine.specs.Machine.{slot_of}
use Rattle.span_machine.specs.Slots.{is_from, is_upto, is_between, has_key}

-- ---- the keys of the two parts

-- the slot's part before a key, and its part from there on
abbrev pub part_below : List ℕ → SlotState → SlotState
part_below code slot_state = record slot_state { hi = Some code }

abbrev pub part_from : List ℕ → SlotState → SlotState
part_from code slot_state = record slot_state { lo = Some code }

upto_before : (hi : Option (List ℕ)) (code key : List ℕ) → is_upto hi code ≡ true → IsBefore key code → is_upto hi key ≡ true
upto_before None code key high low = refl
upto_before (Some h) code key high low = lt_lt key code h low high

from_above : (lo : Option (List ℕ)) (code key : List ℕ) → is_from lo code ≡ true → IsUpto code key → is_from lo key ≡ true
from_above None code key low high = refl
from_above (Some l) code key low high = not_from_false (is_lt (byte_order key l)) (upto_upto l code key (not-true (is_lt (byte_order code l)) low) high)

-- a key of the lower part is one of the slot, and before the cut
pub below_parts : (code : List ℕ) (slot_state : SlotState) (key : List ℕ) → has_key slot_state code ≡ true → has_key (part_below code slot_state) key ≡ true → (has_key slot_state key ≡ true) × IsBefore key code
unfolding is_between
below_parts code slot_state key inside e =
    let low : is_from slot_state.lo key ≡ true = (and_parts (is_from slot_state.lo key) (is_lt (byte_order key code)) e).0 in
    let before : IsBefore key code = (and_parts (is_from slot_state.lo key) (is_lt (byte_order key code)) e).1 in
    let high : is_upto slot_state.hi code ≡ true = (and_parts (is_from slot_state.lo code) (is_upto slot_state.hi code) inside).1 in
    (and_from (is_from slot_state.lo key) (is_upto slot_state.hi key) low (upto_before slot_state.hi code key high before), before)

-- a key of the part from the cut on is one of the slot, and not before the cut
pub from_parts : (code : List ℕ) (slot_state : SlotState) (key : List ℕ) → has_key slot_state code ≡ true → has_key (part_from code slot_state) key ≡ true → (has_key slot_state key ≡ true) × IsUpto code key
unfolding is_between
from_parts code slot_state key inside e =
    let after : IsUpto code key = not-true (is_lt (byte_order key code)) (and_parts (not (is_lt (byte_order key code))) (is_upto slot_state.hi key) e).0 in
    let high : is_upto slot_state.hi key ≡ true = (and_parts (not (is_lt (byte_order key code))) (is_upto slot_state.hi key) e).1 in
    let low : is_from slot_state.lo code ≡ true = (and_parts (is_from slot_state.lo code) (is_upto slot_state.hi code) inside).0 in
    (and_from (is_from slot_state.lo key) (is_upto slot_state.hi key) (from_above slot_state.lo code key low after) high, after)

-- and the other way
pub below_has : (code : List ℕ) (slot_state : SlotState) (key : List ℕ) → has_key slot_state key ≡ true → IsBefore key code → has_key (part_below code slot_state) key ≡ true
unfolding is_between
below_has code slot_state key has before =
    and_from (is_from slot_state.lo key) (is_lt (byte_order key code)) (and_parts (is_from slot_state.lo key) (is_upto slot_state.hi key) has).0 before

pub from_has : (code : List ℕ) (slot_state : SlotState) (key : List ℕ) → has_key slot_state key ≡ true → IsUpto code key → has_key (part_from code slot_state) key ≡ true
unfolding is_between
from_has code slot_state key has after =
    and_from (not (is_lt (byte_order key code))) (is_upto slot_state.hi key) (not_from_false (is_lt (byte_order key code)) after) (and_parts (is_from slot_state.lo key) (is_upto slot_state.hi key) has).1

-- the slot that a key is found in has it
pub found_has : (slots : List SlotState) (key : List ℕ) (slot : ℕ) (slot_state : SlotState) → slot_of slots key ≡ Some slot → slice_get slots slot ≡ Some slot_state → has_key slot_state key ≡ true
found_has slots key slot slot_state found here =
    let test : SlotState → Bool = λ b. has_key b key in
    subst (λ (b : SlotState). has_key b key ≡ true) (get_or_from_slice_get slots slot slot_state slot_state here) (position-Some test slots slot slot_state found).1

-- ---- the list of slots

-- where a slot is in the list after the cut: it is the lower part, the new slot at the end, or another as it was
abbrev pub IsOneOf : List SlotState → ℕ → SlotState → SlotState → ℕ → SlotState → Type 0
IsOneOf slots slot lower upper i b = ((i ≡ slot) × (b ≡ lower)) ⊎ (((i ≡ length slots) × (b ≡ upper)) ⊎ ((slice_get slots i ≡ Some b) × (i ≢ slot)))

pushed_place : (slots : List SlotState) (upper b : SlotState) (i : ℕ) → slice_get (slots ++ upper ∷ []) i ≡ Some b → ((i ≡ length slots) × (b ≡ upper)) ⊎ (slice_get slots i ≡ Some b)
pushed_place [] upper b zero h = inl (refl, cc)
pushed_place [] upper b (suc i) h = absurd (cc)
pushed_place (c ∷ cs) upper b zero h = inr h
pushed_place (c ∷ cs) upper b (suc i) h = elim (pushed_place cs upper b i h) [ inl e ↦ inl (ap suc e.0, e.1) | inr g ↦ inr g ]

pub split_place : (slots : List SlotState) (slot : ℕ) (lower upper b : SlotState) (i : ℕ) → slice_get (slice_set slots slot lower ++ upper ∷ []) i ≡ Some b → IsOneOf slots slot lower upper i b
split_place [] slot lower upper b zero h = inr (inl (refl, cc))
split_place [] slot lower upper b (suc i) h = absurd (cc)
split_place (c ∷ cs) zero lower upper b zero h = inl (refl, cc)
split_place (c ∷ cs) zero lower upper b (suc i) h = elim (pushed_place cs upper b i h) [
  | inl e ↦ inr (inl (ap suc e.0, e.1))
  | inr g ↦ inr (inr (g, λ e. cc))
]
split_place (c ∷ cs) (suc slot) lower upper b zero h = inr (inr (h, λ e. cc))
split_place (c ∷ cs) (suc slot) lower upper b (suc i) h = elim (split_place cs slot lower upper b i h) [
  | inl e ↦ inl (ap suc e.0, e.1)
  | inr rest ↦ (elim rest [
    | inl e ↦ inr (inl (ap suc e.0, e.1))
    | inr e ↦ inr (inr (e.0, λ same. e.1 (suc_inj {m = i} {n = slot} same)))
  ])
]

-- the lower part is at its place, the new slot at the end, and every other as it was
pub split_here : (slots : List SlotState) (slot : ℕ) (a lower upper : SlotState) → slice_get slots slot ≡ Some a → slice_get (slice_set slots slot lower ++ upper ∷ []) slot ≡ Some lower
split_here [] slot a lower upper h = absurd (cc)
split_here (c ∷ cs) zero a lower upper h = refl
split_here (c ∷ cs) (suc slot) a lower upper h = split_here cs slot a lower upper h

pushed_new : (slots : List SlotState) (upper : SlotState) → slice_get (slots ++ upper ∷ []) (length slots) ≡ Some upper
pushed_new [] upper = refl
pushed_new (c ∷ cs) upper = pushed_new cs upper

pub split_new : (slots : List SlotState) (slot : ℕ) (lower upper : SlotState) → slice_get (slice_set slots slot lower ++ upper ∷ []) (length slots) ≡ Some upper
split_new [] slot lower upper = refl
split_new (c ∷ cs) zero lower upper = pushed_new cs upper
split_new (c ∷ cs) (suc slot) lower upper = split_new cs slot lower upper

pushed_other : (slots : List SlotState) (upper b : SlotState) (i : ℕ) → slice_get slots i ≡ Some b → slice_get (slots ++ upper ∷ []) i ≡ Some b
pushed_other [] upper b i h = absurd (cc)
pushed_other (c ∷ cs) upper b zero h = h
pushed_other (c ∷ cs) upper b (suc i) h = pushed_other cs upper b i h

pub split_other : (slots : List SlotState) (slot : ℕ) (lower upper b : SlotState) (i : ℕ) → i ≢ slot → slice_get slots i ≡ Some b → slice_get (slice_set slots slot lower ++ upper ∷ []) i ≡ Some b
split_other [] slot lower upper b i off h = absurd (cc)
split_other (c ∷ cs) zero lower upper b zero off h = absurd (off refl)
split_other (c ∷ cs) zero lower upper b (suc i) off h = pushed_other cs upper b i h
split_other (c ∷ cs) (suc slot) lower upper b zero off h = h
split_other (c ∷ cs) (suc slot) lower upper b (suc i) off h = split_other cs slot lower upper b i (λ e. off (ap suc e)) h

pub split_length : (slots : List SlotState) (slot : ℕ) (lower upper : SlotState) → length (slice_set slots slot lower ++ upper ∷ []) ≡ suc (length slots)
split_length [] slot lower upper = refl
split_length (c ∷ cs) zero lower upper = ap suc (pushed cs)
  where
    pushed : (bs : List SlotState) → length (bs ++ upper ∷ []) ≡ suc (length bs)
    pushed [] = refl
    pushed (b ∷ bs) = ap suc (pushed bs)
split_length (c ∷ cs) (suc slot) lower upper = ap suc (split_length cs slot lower upper)

-- ---- what is not refused

-- a Split that is not refused finds nothing prepared in the slot
pub may_split : (begins busy full : Bool) → first_cause ((begins, refusal.BadSplit) ∷ (busy, refusal.SplitBusy) ∷ (full, refusal.NoSlot) ∷ []) ≡ None → (begins ≡ false) × (busy ≡ false) × (full ≡ false)
may_split false false false e = (refl, refl, refl)
may_split false false true e = absurd (cc)
may_split false true full e = absurd (cc)
may_split true busy full e = absurd (cc)
