-- A part of a shard: what a slot keeps of its range is what a slot with a part of the range keeps there.
use Rattle.std.proofs.Common.{◌≡◌, ℕ, Bool, true, false, cond, List, [], ◌∷◌, Option, Some, refl, ap, sym, ◌∙◌, subst}
use Rattle.std.specs.Prelude.{find, filter, slice_get}
use Rattle.span_value.proofs.Lists.{all_filter}
use Rattle.span_schema.specs.declared.table.Table.{Table}
use Rattle.span_schema.specs.Lineages.{MeetsRules}
use Rattle.span_keycode.proofs.Order.{same_bytes}
use Rattle.span_mutate.specs.Directories.{Root}
use Rattle.span_mutate.proofs.Placing.{rising_filter}
use Rattle.span_maderows.proofs.Lists.{all_filter_itself}
use Rattle.span_store.specs.declared.chain.Version.{Version}
use Rattle.span_store.specs.declared.chain.PreparedWrite.{PreparedWrite}
use Rattle.span_shard.specs.KeyVersions.{KeyVersions}
use Rattle.span_shard.specs.Shard.{is_key, versions_of, prepared_of, versions_at, prepared_at, keys_cmp, IsInUse}
use Rattle.span_machine.specs.declared.slot.SlotState.{SlotState}
use Rattle.span_machine.specs.declared.transaction.Commit.{Commit}
use Rattle.span_machine.specs.declared.transaction.OpenTransaction.{OpenTransaction}
use Rattle.span_machine.specs.Slots.{IsCut, root_code}
use Rattle.span_machine.specs.Machine.{Machine, has_key, holds}
use Rattle.span_machine_laws.proofs.Lists.{all_both}
use Rattle.span_machine_laws.proofs.InPlace.{commits_at, claims}
use Rattle.span_version_laws.specs.Kept.{IsCodedRoot, IsCodedCoding, IsKeptBy, AreKept}
use Rattle.span_version_laws.proofs.Cuts.{has_under}
use Rattle.span_version_laws.proofs.Steps.{under_prepared}

-- the same transactions, wherever they are prepared
abbrev pub AreMoved : List OpenTransaction → List OpenTransaction → Type 0
AreMoved [] [] = Unit {0}
AreMoved [] (u ∷ us) = ⊥
AreMoved (t ∷ ts) [] = ⊥
AreMoved (t ∷ ts) (u ∷ us) = ((record t { prepared = u.prepared }) ≡ u) × AreMoved ts us

-- A slot of a machine has a part of the range that another slot had in a machine before, at its horizon: the commits are the same, and the
-- transactions that claim the directories of the part are, wherever else they are prepared.
pub record IsPart (schema : List Table) (m n : Machine) (slot part : ℕ) (old new : SlotState) : Type 0 where
  pub here : slice_get n.slots part ≡ Some new
  pub horizon : new.horizon ≡ old.horizon
  pub within : (key : List ℕ) → has_key new key ≡ true → has_key old key ≡ true
  pub cut : IsCut schema new.lo × IsCut schema new.hi
  pub log : n.log ≡ m.log
  pub moved : (root : Root) → IsCodedRoot schema root → holds schema new root ≡ true → AreMoved (filter (claims schema root slot) m.transactions) (filter (claims schema root part) n.transactions)

-- what is found at a key that passes is found among those that pass
find_part : (p : List ℕ → Bool) (k : List ℕ) → p k ≡ true → (cs : List KeyVersions) → find (is_key k) (filter (λ (c : KeyVersions). p c.key) cs) ≡ find (is_key k) cs
find_part p k passes [] = refl
find_part p k passes (c ∷ cs) = cases (p c.key) (is_key k c) refl refl (find_part p k passes cs)
  where
    cases : (a b : Bool) → p c.key ≡ a → is_key k c ≡ b → find (is_key k) (filter (λ (d : KeyVersions). p d.key) cs) ≡ find (is_key k) cs
        → find (is_key k) (cond a (c ∷ filter (λ (d : KeyVersions). p d.key) cs) (filter (λ (d : KeyVersions). p d.key) cs)) ≡ cond (is_key k c) (Some c) (find (is_key k) cs)
    cases true b e f again = ap (λ (o : Option KeyVersions). cond (is_key k c) (Some c) o) again
    cases false true e f again = absurd (let bad : true ≡ false = sym (subst (λ (l : List ℕ). p l ≡ true) (same_bytes k c.key f) passes) ∙ e in cc)
    cases false false e f again = again ∙ sym (ap (λ (b : Bool). cond b (Some c) (find (is_key k) cs)) f)

-- what is kept by transactions is kept by them wherever they are prepared
by_moved : (schema : List Table) (root : Root) (k : List ℕ) (h : ℕ) (cs : List Commit) (vs : List Version) (p : Option PreparedWrite) (ts us : List OpenTransaction) → AreMoved ts us → IsKeptBy schema root k h cs vs p ts → IsKeptBy schema root k h cs vs p us
by_moved schema root k h cs vs p [] [] same kept = kept
by_moved schema root k h cs vs p [] (u ∷ us) same kept = absurd same
by_moved schema root k h cs vs p (t ∷ ts) [] same kept = absurd same
by_moved schema root k h cs vs p (t ∷ ts) (u ∷ us) same kept =
    subst (λ (v : OpenTransaction). IsKeptBy schema root k h cs vs p (v ∷ us)) same.0 (under_prepared schema root k h cs vs p t u.prepared t.decision kept)

-- the keys of the part, with their versions, are kept there: those that pass a test which agrees with the part's range on the old one
pub kept_part : (schema : List Table) → MeetsRules schema → (m n : Machine) (slot part : ℕ) (cs : List KeyVersions) (kept : AreKept schema m slot cs) (new : SlotState) → IsPart schema m n slot part kept.slot_state new
    → (p : List ℕ → Bool) → ((key : List ℕ) → has_key kept.slot_state key ≡ true → p key ≡ has_key new key) → AreKept schema n part (filter (λ (c : KeyVersions). p c.key) cs)
kept_part schema rules m n slot part cs kept new is p agrees = record {
  slot_state = new;
  here = is.here;
  keys = rising_filter keys_cmp (λ (c : KeyVersions). p c.key) cs kept.keys;
  used = all_filter IsInUse (λ (c : KeyVersions). p c.key) cs kept.used;
  coded = all_filter (λ (c : KeyVersions). IsCodedCoding schema c.key) (λ (c : KeyVersions). p c.key) cs kept.coded;
  inside = all_both (λ (c : KeyVersions). p c.key ≡ true) (λ (c : KeyVersions). has_key kept.slot_state c.key ≡ true) (λ (c : KeyVersions). has_key new c.key ≡ true) (λ c passes has. sym (agrees c.key has) ∙ passes) (filter (λ (c : KeyVersions). p c.key) cs)
      (all_filter_itself (λ (c : KeyVersions). p c.key) cs) (all_filter (λ (c : KeyVersions). has_key kept.slot_state c.key ≡ true) (λ (c : KeyVersions). p c.key) cs kept.inside);
  kept = λ root is_root held k under.
      let has : has_key new k ≡ true = has_under schema rules root is_root k under new is.cut.0 is.cut.1 ∙ held in
      let there = find_part p k (agrees k (is.within k has) ∙ has) cs in
      let old = by_moved schema root k kept.slot_state.horizon (commits_at schema root m.log) (versions_at cs k) (prepared_at cs k) (filter (claims schema root slot) m.transactions) (filter (claims schema root part) n.transactions)
      (is.moved root is_root held) (kept.kept root is_root (is.within (root_code schema root) held) k under) in
      subst (λ h. IsKeptBy schema root k h (commits_at schema root n.log) (versions_at (filter (λ (c : KeyVersions). p c.key) cs) k) (prepared_at (filter (λ (c : KeyVersions). p c.key) cs) k) (filter (claims schema root part) n.transactions)) (sym is.horizon)
      (subst (λ l. IsKeptBy schema root k kept.slot_state.horizon (commits_at schema root l) (versions_at (filter (λ (c : KeyVersions). p c.key) cs) k) (prepared_at (filter (λ (c : KeyVersions). p c.key) cs) k) (filter (claims schema root part) n.transactions)) (sym is.log)
      (subst (λ o. IsKeptBy schema root k kept.slot_state.horizon (commits_at schema root m.log) (versions_of o) (prepared_of o) (filter (claims schema root part) n.transactions)) (sym there) old));
}
