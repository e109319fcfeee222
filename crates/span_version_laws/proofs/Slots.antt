-- The slot of a shard: the directories that it has, and what steps leave of its state.
use Rattle.std.proofs.Common.{◌≡◌, ◌≢◌, ℕ, zero, suc, max, Bool, true, false, cond, ◌&&◌, nat_lt, nat_le, List, [], ◌∷◌, Some, None, refl, ap, sym, ◌∙◌, subst}
use Rattle.std.specs.Prelude.{slice_get, slice_set, filter}
use Rattle.std.proofs.lemmas.Option.{same_Some}
use Rattle.span_truetime.specs.declared.interval.Interval.{Interval}
use Rattle.span_schema.specs.declared.table.Table.{Table}
use Rattle.span_mutate.specs.declared.mutation.CheckedMutation.{CheckedMutation}
use Rattle.span_mutate.specs.Directories.{Root}
use Rattle.span_shard.specs.KeyVersions.{KeyVersions}
use Rattle.span_machine.specs.declared.slot.SlotState.{SlotState}
use Rattle.span_machine.specs.Slots.{SlotRange, range_of, is_between, has_key}
use Rattle.span_machine.specs.Machine.{Machine, root_at, is_at, holds, mutations_in, if_some, with_last, with_risen_floor}
use Rattle.span_machine_laws.proofs.Locality.{IsRoot, own_root}
use Rattle.span_machine_laws.proofs.Stability.{is_some_of, none_of}
use Rattle.span_machine_laws.proofs.InPlace.{IsInPlace}
use Rattle.span_machine_laws.proofs.Reached.{IsReached, placed_at}
use Rattle.span_version_laws.specs.Kept.{AreKept}

-- ---- the directories of a slot

-- the slot has the directory of the root row
pub record HasRoot (schema : List Table) (m : Machine) (slot : ℕ) (root : Root) : Type 0 where
  pub slot_state : SlotState
  pub here : slice_get m.slots slot ≡ Some slot_state
  pub held : holds schema slot_state root ≡ true

-- the directory is in place there
pub placed_in : (schema : List Table) (m : Machine) → IsReached schema m → (root : Root) → IsRoot schema root → (slot : ℕ) → HasRoot schema m slot root → IsInPlace schema root slot m
placed_in schema m reached root is slot has = placed_at schema m reached root is slot has.slot_state has.here has.held

-- a slot of whose directory a mutation is in its range has the directory
pub held_of_some : (schema : List Table) (root : Root) → IsRoot schema root → (slot_state : SlotState) (ms : List CheckedMutation) → is_some_of (filter (is_at schema root) (mutations_in schema slot_state ms)) ≡ true → holds schema slot_state root ≡ true
held_of_some schema root is slot_state [] e = absurd (let bad : false ≡ true = e in cc)
held_of_some schema root is slot_state (m ∷ ms) e = cases (holds schema slot_state (root_at schema m)) (is_at schema root m) refl refl (held_of_some schema root is slot_state ms) e
  where
    cases : (a b : Bool) → holds schema slot_state (root_at schema m) ≡ a → is_at schema root m ≡ b
        → (is_some_of (filter (is_at schema root) (mutations_in schema slot_state ms)) ≡ true → holds schema slot_state root ≡ true)
        → is_some_of (filter (is_at schema root) (cond a (m ∷ mutations_in schema slot_state ms) (mutations_in schema slot_state ms))) ≡ true → holds schema slot_state root ≡ true
    cases false b held at again some = again some
    cases true true held at again some = subst (λ (q : Root). holds schema slot_state q ≡ true) (sym (own_root schema root m is at)) held
    cases true false held at again some =
        again (sym (ap (λ (b : Bool). is_some_of (cond b (m ∷ filter (is_at schema root) (mutations_in schema slot_state ms)) (filter (is_at schema root) (mutations_in schema slot_state ms)))) at) ∙ some)

-- of a directory that the slot does not have no mutation is in its range
pub none_held : (schema : List Table) (root : Root) → IsRoot schema root → (slot_state : SlotState) (ms : List CheckedMutation) → holds schema slot_state root ≡ false → filter (is_at schema root) (mutations_in schema slot_state ms) ≡ []
none_held schema root is slot_state ms off = cases (is_some_of (filter (is_at schema root) (mutations_in schema slot_state ms))) refl
  where
    cases : (b : Bool) → is_some_of (filter (is_at schema root) (mutations_in schema slot_state ms)) ≡ b → filter (is_at schema root) (mutations_in schema slot_state ms) ≡ []
    cases false e = none_of (filter (is_at schema root) (mutations_in schema slot_state ms)) e
    cases true e = absurd (let bad : true ≡ false = sym (held_of_some schema root is slot_state ms e) ∙ off in cc)

-- ---- the state of a slot

-- the slot has a state of the same range and the same horizon
pub record IsStill (slots : List SlotState) (slot : ℕ) (old : SlotState) : Type 0 where
  pub state : SlotState
  pub here : slice_get slots slot ≡ Some state
  pub range : range_of state ≡ range_of old
  pub horizon : state.horizon ≡ old.horizon

pub still_same : (slots : List SlotState) (slot : ℕ) (old : SlotState) → slice_get slots slot ≡ Some old → IsStill slots slot old
still_same slots slot old here = record { state = old; here = here; range = refl; horizon = refl }

-- also where another state takes the place of one, of any slot, with its range and its horizon
pub still_set : (slots : List SlotState) (slot i : ℕ) (old a b : SlotState) → slice_get slots slot ≡ Some old → slice_get slots i ≡ Some a → range_of b ≡ range_of a → b.horizon ≡ a.horizon → IsStill (slice_set slots i b) slot old
still_set [] slot i old a b here there range horizon = absurd (cc)
still_set (c ∷ slots) zero zero old a b here there range horizon =
    let same : a ≡ old = same_Some a old (sym there ∙ here) in
    record { state = b; here = refl; range = range ∙ ap range_of same; horizon = horizon ∙ ap (λ (d : SlotState). d.horizon) same }
still_set (c ∷ slots) zero (suc i) old a b here there range horizon = still_same (c ∷ slice_set slots i b) 0 old here
still_set (c ∷ slots) (suc slot) zero old a b here there range horizon = still_same (b ∷ slots) (suc slot) old here
still_set (c ∷ slots) (suc slot) (suc i) old a b here there range horizon =
    let rest = still_set slots slot i old a b here there range horizon in
    record { state = rest.state; here = rest.here; range = rest.range; horizon = rest.horizon }

pub still_last : (slots : List SlotState) (slot i ts : ℕ) (old : SlotState) → slice_get slots slot ≡ Some old → IsStill (with_last slots i ts) slot old
still_last slots slot i ts old here = elim (slice_get slots i) as (λ o. slice_get slots i ≡ o → IsStill (if_some o slots (λ slot_state. slice_set slots i (record slot_state { last = max slot_state.last ts }))) slot old) [
  | None ↦ λ e. still_same slots slot old here
  | Some slot_state ↦ λ e. still_set slots slot i old slot_state (record slot_state { last = max slot_state.last ts }) here e refl refl
] refl

pub still_risen : (slots : List SlotState) (slot i q : ℕ) (interval : Interval) (old slot_state : SlotState) → slice_get slots slot ≡ Some old → slice_get slots i ≡ Some slot_state → IsStill (slice_set slots i (with_risen_floor slot_state q interval)) slot old
still_risen slots slot i q interval old slot_state here there = elim (nat_lt slot_state.floor q && nat_le q interval.latest) as (λ v. IsStill (slice_set slots i (cond v (record slot_state { floor = q }) slot_state)) slot old) [
  | true ↦ still_set slots slot i old slot_state (record slot_state { floor = q }) here there refl refl
  | false ↦ still_set slots slot i old slot_state slot_state here there refl refl
]

-- the state of another slot stays
pub other_set : (slots : List SlotState) (slot i : ℕ) (b : SlotState) → slot ≢ i → slice_get (slice_set slots i b) slot ≡ slice_get slots slot
other_set [] slot i b off = refl
other_set (c ∷ slots) zero zero b off = absurd (off refl)
other_set (c ∷ slots) zero (suc i) b off = refl
other_set (c ∷ slots) (suc slot) zero b off = refl
other_set (c ∷ slots) (suc slot) (suc i) b off = other_set slots slot i b (λ e. off (ap suc e))

-- the range has the same keys
pub same_range_has : (a b : SlotState) → range_of a ≡ range_of b → (key : List ℕ) → has_key a key ≡ has_key b key
same_range_has a b same key = ap (λ (r : SlotRange). is_between r.lo r.hi key) same

-- ---- what is kept, by the slot's state

module _ (schema : List Table) (m : Machine) {slot : ℕ} (cs : List KeyVersions) (kept : AreKept schema m slot cs) where
  -- the slot has the directories of its range
  abbrev pub home : (root : Root) → holds schema kept.slot_state root ≡ true → HasRoot schema m slot root
  home root held = record { slot_state = kept.slot_state; here = kept.here; held = held }

  -- the slot has one state
  pub state_is : (slot_state : SlotState) → slice_get m.slots slot ≡ Some slot_state → kept.slot_state ≡ slot_state
  state_is slot_state here = same_Some kept.slot_state slot_state (sym kept.here ∙ here)
