-- When no more versions are kept.
use Rattle.std.proofs.Common.{◌≡◌, ℕ, ◌+◌, Bool, true, false, cond, not, ◌||◌, List, [], ◌∷◌, Option, Some, None, length, refl, sym, ap, ◌∙◌, arith, inl, inr}
use Rattle.std.specs.Prelude.{filter, is_some}
use Rattle.std.proofs.lemmas.List.Sums.{sum_by-cons}
use Rattle.span_store.specs.declared.chain.Version.{Version}
use Rattle.span_store.specs.declared.chain.PreparedWrite.{PreparedWrite}
use Rattle.span_store.specs.KeyVersions.{KeyVersions}
use Rattle.span_store.specs.Versions.{is_empty, is_used}
use Rattle.span_store.specs.KeyLists.{kept_of, live, IsInUse, IsPutRefused}
use Rattle.std.specs.List.{AllByRecursion}
use Rattle.span_value.specs.declared.refusal.Refusal.{Refusal}
use Rattle.span_arena.specs.Limits.{most_nodes}
use Rattle.span_arena.specs.declared.token.Chain.{Chain}
use Rattle.span_arena.specs.Content.{Content}
use Rattle.span_keytree.specs.Arenas.{IsArenaOf}
use Rattle.span_keytree.specs.Entries.{KeyEntry}
use Rattle.span_store.specs.declared.node.PreparedNode.{PreparedNode}
use Rattle.span_store.specs.Stored.{all_kept, IsStored, IsRefusedFor}
use Rattle.span_store.proofs.Slots.{IsSlot}
use Rattle.span_store.proofs.Counting.{live_is}

-- ---- how many

unused_kept : (c : KeyVersions) → is_used c ≡ false → kept_of c ≡ 0
unused_kept c e = by c.versions refl c.prepared refl e
  where
    by : (vs : List Version) → c.versions ≡ vs → (p : Option PreparedWrite) → c.prepared ≡ p → (not (is_empty vs) || is_some p) ≡ false → kept_of c ≡ 0
    by [] is None at f = ap (λ (l : List Version). length l + cond (is_some c.prepared) 1 0) is ∙ ap (λ (o : Option PreparedWrite). 0 + cond (is_some o) 1 0) at
    by [] is (Some w) at f = absurd (let g : true ≡ false = f in cc)
    by (v ∷ vs) is p at f = absurd (let g : true ≡ false = f in cc)

pub live_used : (cs : List KeyVersions) → live (filter is_used cs) ≡ live cs
live_used [] = refl
live_used (c ∷ cs) = cases (is_used c) refl (live_used cs)
  where
    cases : (b : Bool) → is_used c ≡ b → live (filter is_used cs) ≡ live cs → live (cond b (c ∷ filter is_used cs) (filter is_used cs)) ≡ live (c ∷ cs)
    cases true is again = sum_by-cons kept_of c (filter is_used cs) ∙ ap (λ n. kept_of c + n) again ∙ sym (sum_by-cons kept_of c cs)
    cases false is again = again ∙ sym (sum_by-cons kept_of c cs ∙ ap (λ n. n + live cs) (unused_kept c is) ∙ (let e : 0 + live cs ≡ live cs = omega arith in e))

-- what the arena refuses, by the keys
pub refused_there : (es fs : List KeyEntry) (a b : Content) (ps : List PreparedNode) (key : List ℕ) (chain : Chain) → IsSlot es fs a b ps key chain → IsArenaOf fs b → a.most ≡ most_nodes → AllByRecursion IsInUse (all_kept a ps es)
    → (why : Refusal) → IsRefusedFor b chain.number why → IsPutRefused (all_kept a ps es) key why
refused_there es fs a b ps key chain slot own most used why refused = elim refused [
  | inl memory ↦ inl memory
  | inr full ↦ (
      let stored : IsStored fs b ps = record { own = own; owned = slot.owned; most = slot.most ∙ most } in
      let count : live (all_kept b ps fs) ≡ live (all_kept a ps es) = sym (live_used (all_kept b ps fs)) ∙ ap live (slot.undone used) in
      inr (
        full.0,
        slot.vacant (sym (slot.owned.counted chain.number) ∙ full.1),
        sym count ∙ sym (live_is fs b ps stored full.2) ∙ full.3 ∙ slot.most ∙ most,
      ))
]
