-- What is at or below a slot's horizon is sealed.
use Rattle.std.proofs.Common.{◌≡◌, ℕ, max, true, false, cond, ◌&&◌, nat_lt, nat_le, List, [], ◌∷◌, ◌++◌, Option, Some, None, zero, suc, refl, ap, sym, subst, inl, inr, ◌⊎◌, arith}
use Rattle.std.specs.Prelude.{slice_get, slice_set}
use Rattle.span_machine.specs.declared.slot.SlotState.{SlotState}
use Rattle.span_machine.specs.declared.transaction.OpenTransaction.{OpenTransaction}
use Rattle.span_machine.specs.declared.transaction.Decision.{Decision}
use Rattle.span_machine.specs.declared.transaction.Decision.TheVariants as decision
use Rattle.span_machine.specs.declared.step.Step.{Step}
use Rattle.span_truetime.specs.declared.interval.Interval.{Interval}
use Rattle.span_schema.specs.declared.table.Table.{Table}
use Rattle.span_mutate.specs.Directories.{Root}
use Rattle.span_machine.specs.Slots.{root_code}
use Rattle.span_machine.specs.Machine.{Machine, answer, start, has_key, holds, with_horizon, is_safe, commit_timestamp, applied_at, with_risen_floor, with_last, coordinator_slot, if_some}
use Rattle.span_machine_laws.proofs.Causes.{may_trim}
use Rattle.span_machine_laws.proofs.Lists.{slice_get-set}
use Rattle.span_machine_laws.proofs.Splits.{part_below, part_from, below_parts, from_parts, found_has, split_place}
use Rattle.span_machine_laws.proofs.Holdings.{AreHolding}
use Rattle.span_machine_laws.proofs.Ranges.{HasRanges, home_only}
use Rattle.span_machine_laws.proofs.Sealed.{IsSealed, answer_keeps}
use Rattle.span_machine_laws.proofs.Sound.{IsSound, sealed_when_safe}
use Rattle.span_machine_laws.proofs.Locality.{IsRoot}
use Rattle.span_machine_laws.proofs.Walks.{Ends, answer_by}
use Rattle.span_value.specs.declared.refusal.Refusal.{Refusal}
use Rattle.span_query.specs.declared.query.Statement.{Statement}
use Rattle.std.specs.Prelude.{Result}

-- a slot state in the place of another: its horizon is that one's, or one that is safe
abbrev pub IsLeft : Machine → ℕ → SlotState → SlotState → Type 0
IsLeft m slot old new = (new.horizon ≡ old.horizon) ⊎ (is_safe m slot old new.horizon ≡ true)

-- each slot state comes from an old one, of any slot, in whose range its own is
pub record IsLeftFrom (m : Machine) (new : SlotState) : Type 0 where
  pub slot : ℕ
  pub old : SlotState
  pub here : slice_get m.slots slot ≡ Some old
  pub inside : (key : List ℕ) → has_key new key ≡ true → has_key old key ≡ true
  pub left : IsLeft m slot old new

abbrev pub KeepsHorizons : Machine → List SlotState → Type 0
KeepsHorizons m slots = (i : ℕ) (new : SlotState) → slice_get slots i ≡ Some new → IsLeftFrom m new

horizons_same : (m : Machine) → KeepsHorizons m m.slots
horizons_same m i new h = record { slot = i; old = new; here = h; inside = λ key k. k; left = inl refl }

horizons_set : (m : Machine) (slot : ℕ) (old new : SlotState) → slice_get m.slots slot ≡ Some old → ((key : List ℕ) → has_key new key ≡ true → has_key old key ≡ true) → IsLeft m slot old new → KeepsHorizons m (slice_set m.slots slot new)
horizons_set m slot old new here inside left i c h = elim (slice_get-set m.slots slot i new c h) [
  | inl e ↦ subst (IsLeftFrom m) (sym e.1) (record { slot = slot; old = old; here = here; inside = inside; left = left })
  | inr g ↦ record { slot = i; old = c; here = g; inside = λ key k. k; left = inl refl }
]

horizons_last : (m : Machine) (slot ts : ℕ) → KeepsHorizons m (with_last m.slots slot ts)
horizons_last m slot ts = elim (slice_get m.slots slot) as (λ o. slice_get m.slots slot ≡ o → KeepsHorizons m (if_some o m.slots (λ slot_state. slice_set m.slots slot (record slot_state { last = max slot_state.last ts })))) [
  | None ↦ λ e. horizons_same m
  | Some slot_state ↦ λ e. horizons_set m slot slot_state (record slot_state { last = max slot_state.last ts }) e (λ key k. k) (inl refl)
] refl

horizons_risen : (m : Machine) (slot q : ℕ) (interval : Interval) (slot_state : SlotState) → slice_get m.slots slot ≡ Some slot_state → KeepsHorizons m (slice_set m.slots slot (with_risen_floor slot_state q interval))
horizons_risen m slot q interval slot_state here = elim (nat_lt slot_state.floor q && nat_le q interval.latest) as (λ v. KeepsHorizons m (slice_set m.slots slot (cond v (record slot_state { floor = q }) slot_state))) [
  | true ↦ horizons_set m slot slot_state (record slot_state { floor = q }) here (λ key k. k) (inl refl)
  | false ↦ horizons_set m slot slot_state slot_state here (λ key k. k) (inl refl)
]

horizons_applied : (m : Machine) (o : Decision) (owner txn slot : ℕ) (t : OpenTransaction) → KeepsHorizons m (applied_at o m owner txn slot t).1.slots
horizons_applied m decision.Undecided owner txn slot t = horizons_same m
horizons_applied m decision.Aborted owner txn slot t = horizons_same m
horizons_applied m (decision.Committed ts) owner txn slot t = horizons_last m slot ts

-- both parts of a slot that is cut have its horizon
horizons_split : (m : Machine) (slot : ℕ) (old : SlotState) (code : List ℕ) → slice_get m.slots slot ≡ Some old → has_key old code ≡ true → KeepsHorizons m (slice_set m.slots slot (part_below code old) ++ part_from code old ∷ [])
horizons_split m slot old code here inside i c h = elim (split_place m.slots slot (part_below code old) (part_from code old) c i h) [
  | inl e ↦ subst (IsLeftFrom m) (sym e.1) (record { slot = slot; old = old; here = here; inside = λ key k. (below_parts code old key inside k).0; left = inl refl })
  | inr other ↦ (elim other [
    | inl e ↦ subst (IsLeftFrom m) (sym e.1) (record { slot = slot; old = old; here = here; inside = λ key k. (from_parts code old key inside k).0; left = inl refl })
    | inr e ↦ record { slot = i; old = c; here = e.0; inside = λ key k. k; left = inl refl }
  ])
]

horizon_ends : (schema : List Table) (m : Machine) (u : Result Statement Refusal) → Ends schema m u (λ step a. KeepsHorizons m a.1.slots)
horizon_ends schema m u = record {
  refuses = λ step why may. horizons_same m;
  begins = λ owner ms accepted. horizons_same m;
  prepares = λ owner txn slot t slot_state found here accepted well fits low. horizons_set m slot slot_state _ here (λ key k. k) (inl refl);
  commits = λ owner txn interval t found accepted. horizons_last m (coordinator_slot t.prepared) (commit_timestamp m t interval);
  aborts = λ owner txn interval t found open_still. horizons_same m;
  applies = λ owner txn slot interval t slot_state found here accepted. horizons_applied m t.decision owner txn slot t;
  advances = λ slot interval slot_state here. horizons_set m slot slot_state _ here (λ key k. k) (inl refl);
  trims = λ slot h slot_state here accepted. horizons_set m slot slot_state (with_horizon h slot_state) here (λ key k. k) (inr (may_trim (nat_lt h slot_state.horizon) (is_safe m slot slot_state h) accepted).1);
  opens = λ text params bound interval asked is accepted. horizons_same m;
  finds_nothing = λ query leaf slot interval. horizons_same m;
  scans = λ query leaf slot interval q slot_state l part found here at gap above safe. horizons_risen m slot q.s interval slot_state here;
  waits = λ query leaf slot interval q slot_state found here. horizons_risen m slot q.s interval slot_state here;
  finishes = λ query q found covered. horizons_same m;
  closes = λ query q found. horizons_same m;
  splits = λ table key code slot slot_state keyed home here accepted. horizons_split m slot slot_state code here (found_has m.slots code slot slot_state home here);
}

-- the directories that a slot has are sealed at its horizon
pub record HasHorizons (schema : List Table) (m : Machine) : Type 0 where
  pub sealed : (i : ℕ) (b : SlotState) → slice_get m.slots i ≡ Some b → (root : Root) → IsRoot schema root → holds schema b root ≡ true → IsSealed schema root b.horizon m

pub answer_horizons : (schema : List Table) (m : Machine) (u : Result Statement Refusal) → IsSound schema m → HasRanges schema m → AreHolding m → HasHorizons schema m → (step : Step) → HasHorizons schema (answer schema m u step).1
answer_horizons schema m u sound ranges holding has step = record {
  sealed = λ i b h root is held.
      let from : IsLeftFrom m b = answer_by schema m u (λ x a. KeepsHorizons m a.1.slots) (horizon_ends schema m u) step i b h in
      let held_before : holds schema from.old root ≡ true = from.inside (root_code schema root) held in
      let sealed : IsSealed schema root b.horizon m = elim from.left [
        | inl e ↦ subst (λ (s : ℕ). IsSealed schema root s m) (sym e) (has.sealed from.slot from.old from.here root is held_before)
        | inr e ↦ sealed_when_safe schema m sound from.slot b.horizon from.old root from.here (home_only schema m ranges root from.slot from.old from.here held_before) e
      ] in
      (answer_keeps schema root is b.horizon m holding sealed u step).seal;
}

abbrev horizon_or : Option SlotState → ℕ
horizon_or None = 0
horizon_or (Some b) = b.horizon

pub start_horizons : (schema : List Table) → HasHorizons schema start
start_horizons schema = record { sealed = λ i b h root is held. start_sealed i b h root }
  where
    none_below : (i : ℕ) (b : SlotState) → slice_get start.slots i ≡ Some b → b.horizon ≡ 0
    none_below zero b h = sym (ap (λ (o : Option SlotState). horizon_or o) h)
    none_below (suc i) b h = cc

    start_sealed : (i : ℕ) (b : SlotState) → slice_get start.slots i ≡ Some b → (root : Root) → IsSealed schema root b.horizon start
    start_sealed i b h root = subst (λ (s : ℕ). IsSealed schema root s start) (sym (none_below i b h)) (record { floors = λ j c g k. omega arith; prepared = λ j c g k. tt })
