-- A slot that is cut in two: each part keeps its part of the shard.
use Rattle.std.proofs.Common.{◌≡◌, ℕ, true, false, not, List, [], ◌∷◌, length, Option, Some, None, refl, sym, subst}
use Rattle.std.specs.Prelude.{filter, slice_get}
use Rattle.std.specs.List.{list_any}
use Rattle.std.specs.Ordering.{is_lt}
use Rattle.std.specs.Cmp.{both_ways as same_tests}
use Rattle.std.proofs.lemmas.Bool.{not-true, not_from_false}
use Rattle.span_schema.specs.declared.table.Table.{Table}
use Rattle.span_schema.specs.Lineages.{MeetsRules}
use Rattle.span_keycode.specs.Order.{byte_order}
use Rattle.span_shard.specs.KeyVersions.{KeyVersions}
use Rattle.span_shard.specs.Shard.{is_key, prepared_of, versions_at, prepared_at, keys_before, keys_from, IsIdle}
use Rattle.span_machine.specs.declared.slot.SlotState.{SlotState}
use Rattle.span_machine.specs.declared.transaction.OpenTransaction.{OpenTransaction}
use Rattle.span_machine.specs.Slots.{IsCut}
use Rattle.span_machine.specs.Machine.{Machine, has_key, is_prepared_at, split_in_two}
use Rattle.span_machine_laws.proofs.Claims.{unclaimed_idle}
use Rattle.span_machine_laws.proofs.Holdings.{none_beyond}
use Rattle.span_machine_laws.proofs.InPlace.{commits_at, claims}
use Rattle.span_machine_laws.proofs.Lists.{all_found}
use Rattle.span_machine_laws.proofs.Ranges.{cut_at}
use Rattle.span_machine_laws.proofs.Reached.{IsReached}
use Rattle.span_machine_laws.proofs.Splits.{part_below, part_from, below_parts, from_parts, below_has, from_has, split_here, split_new}
use Rattle.span_version_laws.specs.Kept.{IsCodedCoding, IsKeptBy, AreKept}
use Rattle.span_version_laws.proofs.Cuts.{held_by_key}
use Rattle.span_version_laws.proofs.Keys.{all_by_key}
use Rattle.span_version_laws.proofs.Parts.{AreMoved, IsPart, kept_part}
use Rattle.span_version_laws.proofs.Roots.{root_of_coding}
use Rattle.span_version_laws.proofs.Slots.{state_is}

-- no transactions, wherever they are prepared
none_moved : (ts us : List OpenTransaction) → ts ≡ [] → us ≡ [] → AreMoved ts us
none_moved [] [] e f = tt
none_moved [] (u ∷ us) e f = absurd (cc)
none_moved (t ∷ ts) us e f = absurd (cc)

module _ (schema : List Table) (rules : MeetsRules schema) (m : Machine) (reached : IsReached schema m) {slot : ℕ} (cs : List KeyVersions) (kept : AreKept schema m slot cs) where
  -- where nothing is prepared in the slot, no write is prepared in its shard
  pub idle_when_free : list_any (is_prepared_at slot) m.transactions ≡ false → IsIdle cs
  idle_when_free free = all_by_key (λ (c : KeyVersions). c.prepared ≡ None) cs kept.keys (λ c at.
      let root = root_of_coding schema rules c.key (all_found (λ (d : KeyVersions). IsCodedCoding schema d.key) (is_key c.key) cs c at kept.coded) in
      let inside : has_key kept.slot_state c.key ≡ true = all_found (λ (d : KeyVersions). has_key kept.slot_state d.key ≡ true) (is_key c.key) cs c at kept.inside in
      let held = held_by_key schema rules m reached slot kept.slot_state kept.here root.0 root.1 c.key root.2 inside in
      let here : IsKeptBy schema root.0 c.key kept.slot_state.horizon (commits_at schema root.0 m.log) (versions_at cs c.key) (prepared_at cs c.key) [] =
      subst (IsKeptBy schema root.0 c.key kept.slot_state.horizon (commits_at schema root.0 m.log) (versions_at cs c.key) (prepared_at cs c.key)) (unclaimed_idle schema root.0 slot m.transactions free) (kept.kept root.0 root.1 held c.key root.2) in
      subst (λ (o : Option KeyVersions). prepared_of o ≡ None) at here.0)

  module _ (code : List ℕ) (slot_state : SlotState) (here : slice_get m.slots slot ≡ Some slot_state) (inside : has_key slot_state code ≡ true) (cut : IsCut schema (Some code)) (free : list_any (is_prepared_at slot) m.transactions ≡ false) where
    abbrev after : Machine
    after = (split_in_two m slot code slot_state).1

    same_state : kept.slot_state ≡ slot_state
    same_state = state_is schema m cs kept slot_state here

    -- the part before the cut is as the slot was
    lower_part : IsPart schema m after slot slot slot_state (part_below code slot_state)
    lower_part = record {
      here = split_here m.slots slot slot_state (part_below code slot_state) (part_from code slot_state) here;
      horizon = refl;
      within = λ key has. (below_parts code slot_state key inside has).0;
      cut = ((cut_at schema m.slots slot slot_state here reached.ranges.cut).0, cut);
      log = refl;
      moved = λ root is held. none_moved (filter (claims schema root slot) m.transactions) (filter (claims schema root slot) m.transactions) (unclaimed_idle schema root slot m.transactions free) (unclaimed_idle schema root slot m.transactions free);
    }

    -- so is the part from there on, in the new slot
    upper_part : IsPart schema m after slot (length m.slots) slot_state (part_from code slot_state)
    upper_part = record {
      here = split_new m.slots slot (part_below code slot_state) (part_from code slot_state);
      horizon = refl;
      within = λ key has. (from_parts code slot_state key inside has).0;
      cut = (cut, (cut_at schema m.slots slot slot_state here reached.ranges.cut).1);
      log = refl;
      moved = λ root is held. none_moved (filter (claims schema root slot) m.transactions) (filter (claims schema root (length m.slots)) m.transactions) (unclaimed_idle schema root slot m.transactions free)
          (unclaimed_idle schema root (length m.slots) m.transactions (none_beyond (length m.slots) m.transactions reached.holding));
    }

    is_below : (key : List ℕ) → has_key slot_state key ≡ true → is_lt (byte_order key code) ≡ has_key (part_below code slot_state) key
    is_below key has = same_tests (is_lt (byte_order key code)) (has_key (part_below code slot_state) key) (λ before. below_has code slot_state key has before) (λ part. (below_parts code slot_state key inside part).1)

    is_above : (key : List ℕ) → has_key slot_state key ≡ true → not (is_lt (byte_order key code)) ≡ has_key (part_from code slot_state) key
    is_above key has = same_tests (not (is_lt (byte_order key code))) (has_key (part_from code slot_state) key) (λ after_cut. from_has code slot_state key has (not-true (is_lt (byte_order key code)) after_cut))
        (λ part. not_from_false (is_lt (byte_order key code)) (from_parts code slot_state key inside part).1)

    -- the slot keeps the keys before the cut
    pub kept_split_lower : AreKept schema after slot (keys_before code cs)
    kept_split_lower = kept_part schema rules m after slot slot cs kept (part_below code slot_state) (subst (λ (b : SlotState). IsPart schema m after slot slot b (part_below code slot_state)) (sym same_state) lower_part) (λ key. is_lt (byte_order key code))
        (λ key has. is_below key (subst (λ (b : SlotState). has_key b key ≡ true) same_state has))

    -- and the new slot has the keys from there on
    pub kept_split_upper : AreKept schema after (length m.slots) (keys_from code cs)
    kept_split_upper = kept_part schema rules m after slot (length m.slots) cs kept (part_from code slot_state) (subst (λ (b : SlotState). IsPart schema m after slot (length m.slots) b (part_from code slot_state)) (sym same_state) upper_part) (λ key. not (is_lt (byte_order key code)))
        (λ key has. is_above key (subst (λ (b : SlotState). has_key b key ≡ true) same_state has))
