-- The shards of all slots, where one is changed.
use Rattle.std.proofs.Common.{◌≡◌, ℕ, zero, suc, ◌<◌, List, [], ◌∷◌, Option, Some, None, length, refl, ap, sym, subst, arith}
use Rattle.std.specs.Prelude.{slice_get, slice_set, IfSome}
use Rattle.std.proofs.lemmas.Option.{slice_get_within, same_Some}
use Rattle.span_schema.specs.declared.table.Table.{Table}
use Rattle.span_machine.specs.declared.slot.SlotState.{SlotState}
use Rattle.span_machine.specs.Machine.{Machine}
use Rattle.span_version_laws.specs.Kept.{AreAllKept}
use Rattle.span_shard.specs.KeyVersions.{KeyVersions}
use Rattle.span_machine.specs.Pieces.{Journaled, machine_of}
use Rattle.span_parts.specs.Whole.{Shards, IsWhole}

-- what is set at a place in use is there
pub set_there : {A : Type 0} (xs : List A) (i : ℕ) (old new : A) → slice_get xs i ≡ Some old → slice_get (slice_set xs i new) i ≡ Some new
set_there [] i old new here = absurd (cc here)
set_there (x ∷ xs) zero old new here = refl
set_there (x ∷ xs) (suc i) old new here = set_there xs i old new here

-- the last that is set is there, and what was there may be set again
pub set_twice : {A : Type 0} (xs : List A) (i : ℕ) (x y : A) → slice_set (slice_set xs i x) i y ≡ slice_set xs i y
set_twice [] i x y = refl
set_twice (a ∷ xs) zero x y = refl
set_twice (a ∷ xs) (suc i) x y = ap (λ l. a ∷ l) (set_twice xs i x y)

pub set_again : {A : Type 0} (xs : List A) (i : ℕ) (x : A) → slice_get xs i ≡ Some x → slice_set xs i x ≡ xs
set_again [] i x here = refl
set_again (a ∷ xs) zero x here = let same : a ≡ x = same_Some a x here in ap (λ b. b ∷ xs) (sym same)
set_again (a ∷ xs) (suc i) x here = ap (λ l. a ∷ l) (set_again xs i x here)

-- there is something at each place within
pub there_is : {A : Type 0} (xs : List A) (i : ℕ) → i < length xs → (x : A) × (slice_get xs i ≡ Some x)
there_is [] i within = absurd (omega (arith, within))
there_is (x ∷ xs) zero within = (x, refl)
there_is (x ∷ xs) (suc i) within = there_is xs i (omega (arith, within))

module _ (schema : List Table) (m : Machine) (shards : Shards) (all : AreAllKept schema m shards) where
  -- a slot in use has a shard
  pub within : (slot : ℕ) (slot_state : SlotState) → slice_get m.slots slot ≡ Some slot_state → slot < length shards
  within slot slot_state here = let w = slice_get_within m.slots slot slot_state here in let c = all.count in omega (arith, w, c)

-- ---- what is found at a place

pub of_some : {A : Type 0} (P : A → Type 0) (o : Option A) (x : A) → o ≡ Some x → IfSome o P → P x
of_some P o x e p = subst (λ q. IfSome q P) e p

pub all_some : {A : Type 0} (P : A → Type 0) (o : Option A) → ((x : A) → o ≡ Some x → P x) → IfSome o P
all_some P None each = tt
all_some P (Some x) each = each x refl

-- ---- what holds of a result

-- the shard of a slot in use
pub shard_there : (schema : List Table) (j : Journaled) (shards : Shards) → IsWhole schema j shards → (slot : ℕ) (slot_state : SlotState) → slice_get (machine_of j).slots slot ≡ Some slot_state
    → (cs : List KeyVersions) × (slice_get shards slot ≡ Some cs)
shard_there schema j shards w slot slot_state here = there_is shards slot (within schema (machine_of j) shards w.kept slot slot_state here)
