-- The shards of all slots.
use Rattle.std.proofs.Common.{◌≡◌, ◌≢◌, ℕ, zero, suc, true, false, List, [], ◌∷◌, ◌++◌, length, Some, Result, refl, ap, sym, ◌∙◌, subst, inl, inr, ◌⊎◌}
use Rattle.std.specs.Prelude.{slice_get, slice_set}
use Rattle.std.specs.List.{list_any}
use Rattle.std.proofs.lemmas.List.{length-set}
use Rattle.std.proofs.lemmas.Option.{same_Some}
use Rattle.std.proofs.Math.Nat.{suc_inj}
use Rattle.span_value.specs.declared.refusal.Refusal.{Refusal}
use Rattle.span_schema.specs.declared.table.Table.{Table}
use Rattle.span_schema.specs.Lineages.{MeetsRules}
use Rattle.span_query.specs.declared.query.Statement.{Statement}
use Rattle.span_shard.specs.KeyVersions.{KeyVersions}
use Rattle.span_shard.specs.Shard.{keys_before, keys_from}
use Rattle.span_machine.specs.declared.slot.SlotState.{SlotState}
use Rattle.span_machine.specs.declared.step.Step.{Step}
use Rattle.span_machine.specs.declared.step.Step.TheVariants.{Begin, Prepare, Decide, Apply, Advance, Trim, Open, Scan, Finish, Close, Split}
use Rattle.span_machine.specs.Slots.{SlotRange, IsCut, has_key, ranges_of}
use Rattle.span_machine.specs.Machine.{Machine, answer, start, is_prepared_at, split_in_two}
use Rattle.span_machine_laws.proofs.Ranges.{answer_ranges}
use Rattle.span_machine_laws.proofs.Reached.{IsReached}
use Rattle.span_machine_laws.proofs.Splits.{part_below, part_from, split_length}
use Rattle.span_version_laws.specs.Kept.{AreKept, AreAllKept}
use Rattle.span_version_laws.proofs.Splitting.{kept_split_lower, kept_split_upper}
use Rattle.span_version_laws.proofs.Steps.{start_kept, kept_by_step, kept_split_elsewhere}

-- at the start there is one slot, with an empty shard
pub start_all_kept : (schema : List Table) → AreAllKept schema start ([] ∷ [])
start_all_kept schema = record { count = refl; each = λ slot cs here. by_place slot cs here }
  where
    by_place : (slot : ℕ) (cs : List KeyVersions) → slice_get ([] ∷ []) slot ≡ Some cs → AreKept schema start slot cs
    by_place zero cs here = subst (AreKept schema start 0) (same_Some [] cs here) (start_kept schema)
    by_place (suc slot) cs here = absurd (cc)

-- ---- steps that touch no shard

pub all_kept_same : (schema : List Table) (m n : Machine) (shards : List (List KeyVersions)) → length n.slots ≡ length m.slots → ((slot : ℕ) (cs : List KeyVersions) → AreKept schema m slot cs → AreKept schema n slot cs) → AreAllKept schema m shards → AreAllKept schema n shards
all_kept_same schema m n shards same keeps all = record { count = all.count ∙ sym same; each = λ slot cs here. keeps slot cs (all.each slot cs here) }

-- the step leaves every shard
abbrev pub LeavesShards : Step → Type 0
LeavesShards (Begin owner transaction) = Unit {0}
LeavesShards (Prepare owner txn slot) = ⊥
LeavesShards (Decide owner txn v interval) = Unit {0}
LeavesShards (Apply owner txn slot interval) = ⊥
LeavesShards (Advance slot interval) = Unit {0}
LeavesShards (Trim slot h) = ⊥
LeavesShards (Open text params bound interval) = Unit {0}
LeavesShards (Scan query leaf slot interval) = Unit {0}
LeavesShards (Finish query) = Unit {0}
LeavesShards (Close query) = Unit {0}
LeavesShards (Split table key) = ⊥

ranges_length : (slots : List SlotState) → length (ranges_of slots) ≡ length slots
ranges_length [] = refl
ranges_length (b ∷ slots) = ap suc (ranges_length slots)

-- no step but a Split makes a slot
pub slots_stay : (schema : List Table) (m : Machine) (u : Result Statement Refusal) (step : Step) → ((table : List ℕ) (key : List _) → step ≢ Split table key) → length (answer schema m u step).1.slots ≡ length m.slots
slots_stay schema m u step off = elim (answer_ranges schema m u step) [
  | inl same ↦ sym (ranges_length (answer schema m u step).1.slots) ∙ ap (λ (rs : List SlotRange). length rs) same ∙ ranges_length m.slots
  | inr is ↦ absurd (off is.table is.key is.is)
]

pub all_kept_by_step : (schema : List Table) (m : Machine) → IsReached schema m → (shards : List (List KeyVersions)) (u : Result Statement Refusal) (step : Step) → LeavesShards step → AreAllKept schema m shards → AreAllKept schema (answer schema m u step).1 shards
all_kept_by_step schema m reached shards u (Begin owner ms) leaves all = all_kept_same schema m _ shards (slots_stay schema m u (Begin owner ms) (λ table key e. cc)) (λ slot cs kept. kept_by_step schema m reached cs kept u (Begin owner ms)) all
all_kept_by_step schema m reached shards u (Prepare owner txn slot) leaves all = absurd leaves
all_kept_by_step schema m reached shards u (Decide owner txn v interval) leaves all = all_kept_same schema m _ shards (slots_stay schema m u (Decide owner txn v interval) (λ table key e. cc)) (λ slot cs kept. kept_by_step schema m reached cs kept u (Decide owner txn v interval)) all
all_kept_by_step schema m reached shards u (Apply owner txn slot interval) leaves all = absurd leaves
all_kept_by_step schema m reached shards u (Advance i interval) leaves all = all_kept_same schema m _ shards (slots_stay schema m u (Advance i interval) (λ table key e. cc)) (λ slot cs kept. kept_by_step schema m reached cs kept u (Advance i interval)) all
all_kept_by_step schema m reached shards u (Trim slot h) leaves all = absurd leaves
all_kept_by_step schema m reached shards u (Open text params bound interval) leaves all = all_kept_same schema m _ shards (slots_stay schema m u (Open text params bound interval) (λ table key e. cc)) (λ slot cs kept. kept_by_step schema m reached cs kept u (Open text params bound interval)) all
all_kept_by_step schema m reached shards u (Scan query leaf i interval) leaves all = all_kept_same schema m _ shards (slots_stay schema m u (Scan query leaf i interval) (λ table key e. cc)) (λ slot cs kept. kept_by_step schema m reached cs kept u (Scan query leaf i interval)) all
all_kept_by_step schema m reached shards u (Finish query) leaves all = all_kept_same schema m _ shards (slots_stay schema m u (Finish query) (λ table key e. cc)) (λ slot cs kept. kept_by_step schema m reached cs kept u (Finish query)) all
all_kept_by_step schema m reached shards u (Close query) leaves all = all_kept_same schema m _ shards (slots_stay schema m u (Close query) (λ table key e. cc)) (λ slot cs kept. kept_by_step schema m reached cs kept u (Close query)) all
all_kept_by_step schema m reached shards u (Split table key) leaves all = absurd leaves

-- ---- steps that change one shard

set_place : {A : Type 0} (xs : List A) (i j : ℕ) (v x : A) → slice_get (slice_set xs i v) j ≡ Some x → ((j ≡ i) × (x ≡ v)) ⊎ ((slice_get xs j ≡ Some x) × (j ≢ i))
set_place [] i j v x h = absurd (cc)
set_place (y ∷ ys) zero zero v x h = inl (refl, cc)
set_place (y ∷ ys) zero (suc j) v x h = inr (h, λ e. cc)
set_place (y ∷ ys) (suc i) zero v x h = inr (h, λ e. cc)
set_place (y ∷ ys) (suc i) (suc j) v x h = elim (set_place ys i j v x h) [
  | inl e ↦ inl (ap suc e.0, e.1)
  | inr e ↦ inr (e.0, λ same. e.1 (suc_inj {m = j} {n = i} same))
]

pub all_kept_set : (schema : List Table) (m n : Machine) (shards : List (List KeyVersions)) (i : ℕ) (ds : List KeyVersions) → length n.slots ≡ length m.slots → AreKept schema n i ds
    → ((slot : ℕ) (cs : List KeyVersions) → slot ≢ i → AreKept schema m slot cs → AreKept schema n slot cs) → AreAllKept schema m shards → AreAllKept schema n (slice_set shards i ds)
all_kept_set schema m n shards i ds same here others all = record {
  count = length-set shards i ds ∙ all.count ∙ sym same;
  each = λ slot cs at. elim (set_place shards i slot ds cs at) [
    | inl e ↦ subst (λ (j : ℕ). AreKept schema n j cs) (sym e.0) (subst (AreKept schema n i) (sym e.1) here)
    | inr e ↦ others slot cs e.1 (all.each slot cs e.0)
  ];
}

-- ---- a split

cut_place : {A : Type 0} (xs : List A) (i j : ℕ) (v w x : A) → slice_get (slice_set xs i v ++ w ∷ []) j ≡ Some x → ((j ≡ i) × (x ≡ v)) ⊎ (((j ≡ length xs) × (x ≡ w)) ⊎ ((slice_get xs j ≡ Some x) × (j ≢ i)))
cut_place [] i zero v w x h = inr (inl (refl, cc))
cut_place [] i (suc j) v w x h = absurd (cc)
cut_place (y ∷ ys) zero zero v w x h = inl (refl, cc)
cut_place (y ∷ ys) zero (suc j) v w x h = elim (pushed ys j w x h) [
  | inl e ↦ inr (inl (ap suc e.0, e.1))
  | inr e ↦ inr (inr (e, λ same. cc))
]
  where
    pushed : {A : Type 0} (xs : List A) (j : ℕ) (w x : A) → slice_get (xs ++ w ∷ []) j ≡ Some x → ((j ≡ length xs) × (x ≡ w)) ⊎ (slice_get xs j ≡ Some x)
    pushed [] zero w x h = inl (refl, cc)
    pushed [] (suc j) w x h = absurd (cc)
    pushed (z ∷ zs) zero w x h = inr h
    pushed (z ∷ zs) (suc j) w x h = elim (pushed zs j w x h) [ inl e ↦ inl (ap suc e.0, e.1) | inr g ↦ inr g ]
cut_place (y ∷ ys) (suc i) zero v w x h = inr (inr (h, λ e. cc))
cut_place (y ∷ ys) (suc i) (suc j) v w x h = elim (cut_place ys i j v w x h) [
  | inl e ↦ inl (ap suc e.0, e.1)
  | inr other ↦ (elim other [
    | inl e ↦ inr (inl (ap suc e.0, e.1))
    | inr e ↦ inr (inr (e.0, λ same. e.1 (suc_inj {m = j} {n = i} same)))
  ])
]

cut_length : {A : Type 0} (xs : List A) (i : ℕ) (v w : A) → length (slice_set xs i v ++ w ∷ []) ≡ suc (length xs)
cut_length [] i v w = refl
cut_length (y ∷ ys) zero v w = ap suc (pushed_length ys w)
  where
    pushed_length : {A : Type 0} (xs : List A) (w : A) → length (xs ++ w ∷ []) ≡ suc (length xs)
    pushed_length [] w = refl
    pushed_length (z ∷ zs) w = ap suc (pushed_length zs w)
cut_length (y ∷ ys) (suc i) v w = ap suc (cut_length ys i v w)

-- the slot that is cut keeps the keys before the cut, the new one has those from there on, and the others keep theirs
pub all_kept_split : (schema : List Table) → MeetsRules schema → (m : Machine) → IsReached schema m → (shards : List (List KeyVersions)) → AreAllKept schema m shards → (slot : ℕ) (cs : List KeyVersions) → slice_get shards slot ≡ Some cs
    → (code : List ℕ) (slot_state : SlotState) → slice_get m.slots slot ≡ Some slot_state → has_key slot_state code ≡ true → IsCut schema (Some code) → list_any (is_prepared_at slot) m.transactions ≡ false
    → AreAllKept schema (split_in_two m slot code slot_state).1 (slice_set shards slot (keys_before code cs) ++ keys_from code cs ∷ [])
all_kept_split schema rules m reached shards all slot cs at code slot_state here inside cut free =
    let kept : AreKept schema m slot cs = all.each slot cs at in
    let n : Machine = (split_in_two m slot code slot_state).1 in
    record {
      count = cut_length shards slot (keys_before code cs) (keys_from code cs) ∙ ap suc all.count ∙ sym (split_length m.slots slot (part_below code slot_state) (part_from code slot_state));
      each = λ j ds there. elim (cut_place shards slot j (keys_before code cs) (keys_from code cs) ds there) [
        | inl e ↦ subst (λ (k : ℕ). AreKept schema n k ds) (sym e.0) (subst (AreKept schema n slot) (sym e.1) (kept_split_lower schema rules m reached cs kept code slot_state here inside cut free))
        | inr other ↦ (elim other [
          | inl e ↦ subst (λ (k : ℕ). AreKept schema n k ds) (sym (e.0 ∙ all.count)) (subst (AreKept schema n (length m.slots)) (sym e.1) (kept_split_upper schema rules m reached cs kept code slot_state here inside cut free))
          | inr e ↦ kept_split_elsewhere schema m reached ds (all.each j ds e.0) code slot slot_state e.1
        ])
      ];
    }
