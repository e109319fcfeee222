-- A trim keeps a shard as the log and the open transactions make it, at the new horizon.
use Rattle.std.proofs.Common.{◌≡◌, ℕ, zero, suc, ◌≤◌, true, false, cond, List, [], ◌∷◌, Option, Some, refl, ap, sym, ◌∙◌, subst}
use Rattle.std.specs.Prelude.{filter, map, slice_get, slice_set}
use Rattle.std.specs.List.{AllByRecursion}
use Rattle.span_schema.specs.declared.table.Table.{Table}
use Rattle.span_mutate.specs.Directories.{Root}
use Rattle.span_store.specs.declared.chain.Version.{Version}
use Rattle.span_store.specs.declared.chain.PreparedWrite.{PreparedWrite}
use Rattle.span_shard.specs.KeyVersions.{KeyVersions}
use Rattle.span_shard.specs.Versions.{is_used, kept_upto}
use Rattle.span_shard.specs.Shard.{versions_at, prepared_at, trimmed_key}
use Rattle.span_shard.specs.Shard as shard
use Rattle.span_shard.proofs.Undo.{used_filtered}
use Rattle.span_shard.proofs.InOrder.{in_order_trimmed}
use Rattle.span_machine.specs.declared.slot.SlotState.{SlotState}
use Rattle.span_machine.specs.declared.transaction.Commit.{Commit}
use Rattle.span_machine.specs.declared.transaction.OpenTransaction.{OpenTransaction}
use Rattle.span_machine.specs.declared.transaction.Decision.{Decision}
use Rattle.span_machine.specs.declared.transaction.Decision.TheVariants as decision
use Rattle.span_machine.specs.Machine.{Machine, has_key, holds, trimmed, with_horizon}
use Rattle.span_machine_laws.proofs.InPlace.{commits_at, claims}
use Rattle.span_version_laws.specs.Kept.{IsCodedCoding, HasRows, IsKeptUnder, IsKeptBy, AreKept, made}
use Rattle.span_version_laws.proofs.Keys.{versions_at-trimmed, prepared_at-trimmed}
use Rattle.span_version_laws.proofs.Slots.{state_is}
use Rattle.span_version_laws.proofs.Trimming.{kept_again}

module _ (schema : List Table) (root : Root) (k : List ℕ) (h n : ℕ) (high : h ≤ n) where
  rows_trimmed : (cs : List Commit) (vs : List Version) → HasRows schema root k h cs vs → HasRows schema root k n cs (kept_upto n vs)
  rows_trimmed cs vs has = record { versions = ap (kept_upto n) has.versions ∙ kept_again h n high (made schema root k cs); makes = has.makes }

  under_trimmed : (cs : List Commit) (vs : List Version) (p : Option PreparedWrite) (t : OpenTransaction) (o : Decision) → IsKeptUnder schema root k h cs vs p t o → IsKeptUnder schema root k n cs (kept_upto n vs) p t o
  under_trimmed cs vs p t decision.Undecided is = (is.0, rows_trimmed cs vs is.1)
  under_trimmed cs vs p t decision.Aborted is = (is.0, rows_trimmed cs vs is.1)
  under_trimmed cs vs p t (decision.Committed ts) is = record { front = is.front; whole = is.whole; put = is.put; rows = rows_trimmed is.front vs is.rows }

  -- what is kept at a key, trimmed
  by_trimmed : (cs : List Commit) (vs : List Version) (p : Option PreparedWrite) (us : List OpenTransaction) → IsKeptBy schema root k h cs vs p us → IsKeptBy schema root k n cs (kept_upto n vs) p us
  by_trimmed cs vs p [] is = (is.0, rows_trimmed cs vs is.1)
  by_trimmed cs vs p (u ∷ us) is = under_trimmed cs vs p u u.decision is

-- what holds of every key still does
keys_trimmed : (P : List ℕ → Type 0) (h : ℕ) (cs : List KeyVersions) → AllByRecursion (λ (c : KeyVersions). P c.key) cs → AllByRecursion (λ (c : KeyVersions). P c.key) (shard.trimmed h cs)
keys_trimmed P h [] all = tt
keys_trimmed P h (c ∷ cs) all =
    elim (is_used (trimmed_key h c)) as (λ b. AllByRecursion (λ (d : KeyVersions). P d.key) (cond b (trimmed_key h c ∷ shard.trimmed h cs) (shard.trimmed h cs))) [
      | true ↦ (all.0, keys_trimmed P h cs all.1)
      | false ↦ keys_trimmed P h cs all.1
    ]

there_set : (slots : List SlotState) (slot : ℕ) (old new : SlotState) → slice_get slots slot ≡ Some old → slice_get (slice_set slots slot new) slot ≡ Some new
there_set [] slot old new here = absurd (cc)
there_set (b ∷ slots) zero old new here = refl
there_set (b ∷ slots) (suc slot) old new here = there_set slots slot old new here

-- the shard trimmed at h is what the machine makes it after the trim
pub kept_trimmed : (schema : List Table) (m : Machine) {slot : ℕ} (cs : List KeyVersions) → AreKept schema m slot cs → (h : ℕ) (slot_state : SlotState) → slice_get m.slots slot ≡ Some slot_state → slot_state.horizon ≤ h → AreKept schema (trimmed schema m slot h slot_state).1 slot (shard.trimmed h cs)
kept_trimmed schema m {slot} cs kept h slot_state here high =
    let same : kept.slot_state ≡ slot_state = state_is schema m cs kept slot_state here in
    let low : kept.slot_state.horizon ≤ h = subst (λ (b : SlotState). b.horizon ≤ h) (sym same) high in
    record {
      slot_state = with_horizon h slot_state;
      here = there_set m.slots slot slot_state (with_horizon h slot_state) here;
      keys = in_order_trimmed h cs kept.keys;
      used = used_filtered (map (trimmed_key h) cs);
      coded = keys_trimmed (IsCodedCoding schema) h cs kept.coded;
      inside = keys_trimmed (λ key. has_key slot_state key ≡ true) h cs (subst (λ (b : SlotState). AllByRecursion (λ (c : KeyVersions). has_key b c.key ≡ true) cs) same kept.inside);
      kept = λ root is held k under.
          subst (λ vs. IsKeptBy schema root k h (commits_at schema root m.log) vs (prepared_at (shard.trimmed h cs) k) (filter (claims schema root slot) m.transactions)) (sym (versions_at-trimmed h cs k kept.keys))
          (subst (λ p. IsKeptBy schema root k h (commits_at schema root m.log) (kept_upto h (versions_at cs k)) p (filter (claims schema root slot) m.transactions)) (sym (prepared_at-trimmed h cs k kept.keys))
          (by_trimmed schema root k kept.slot_state.horizon h low (commits_at schema root m.log) (versions_at cs k) (prepared_at cs k) (filter (claims schema root slot) m.transactions)
          (kept.kept root is (subst (λ (b : SlotState). holds schema b root ≡ true) (sym same) held) k under)));
    }
