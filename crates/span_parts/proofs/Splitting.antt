-- Splits of a slot, in the journal and in the slot's shard.
use Rattle.std.proofs.Common.{◌≡◌, ℕ, false, nat_le, List, [], ◌∷◌, ◌++◌, length, Option, Some, ap, sym, ◌∙◌, subst}
use Rattle.std.specs.Prelude.{slice_get, slice_set}
use Rattle.std.specs.List.{list_any}
use Rattle.span_value.specs.declared.refusal.Refusal.{Refusal}
use Rattle.span_value.specs.declared.refusal.Refusal.TheVariants as refusal
use Rattle.span_value.specs.declared.value.Value.{Value}
use Rattle.span_schema.specs.declared.table.Table.{Table}
use Rattle.span_keycode.specs.Coding.{AreValues}
use Rattle.span_checking.specs.RootKeys.{root_key}
use Rattle.span_shard.specs.KeyVersions.{KeyVersions}
use Rattle.span_shard.specs.Shard.{IsIdle, keys_before, keys_from}
use Rattle.span_machine.specs.Limits.{most_slots}
use Rattle.span_machine.specs.declared.slot.SlotState.{SlotState}
use Rattle.span_machine.specs.declared.step.Step.TheVariants as step
use Rattle.span_machine.specs.declared.step.Reply.TheVariants as reply
use Rattle.span_machine.specs.Machine.{Machine, Answer, IsAnswer, refused, unless_refused, if_some, for_slot, is_prepared_at, begins_at, split, split_at, split_slot, split_in_two}
use Rattle.span_machine.specs.Pieces.{Journaled, machine_of}
use Rattle.span_machine_laws.proofs.Ranges.{split_cut}
use Rattle.span_machine_laws.proofs.Splits.{may_split, found_has}
use Rattle.span_version_laws.specs.Kept.{AreAllKept}
use Rattle.span_version_laws.proofs.AllKept.{all_kept_split}
use Rattle.span_version_laws.proofs.Splitting.{idle_when_free}
use Rattle.span_journal.specs.Judged.{MaySplit}
use Rattle.span_parts.specs.Whole.{Shards, IsWhole}
use Rattle.span_parts.proofs.Wholes.{no_text, goes_to, pieces_same}

module _ (schema : List Table) (j : Journaled) (shards : Shards) (w : IsWhole schema j shards) (slot : ℕ) (key : List ℕ) (d : MaySplit (machine_of j) slot key) where
  abbrev m : Machine
  m = machine_of j

  split_is : split_at m key ≡ split_in_two m slot key d.slot_state
  split_is =
      ap (λ (o : Option ℕ). if_some o (refused m refusal.BadSplit) (λ i. for_slot m i (split_slot m i key))) d.found
      ∙ ap (λ (o : Option SlotState). if_some o (refused m refusal.NoSlot) (split_slot m slot key)) d.here
      ∙ ap (λ (o : Option Refusal). unless_refused m o (split_in_two m slot key d.slot_state)) d.accepted

  unprepared : list_any (is_prepared_at slot) m.transactions ≡ false
  unprepared = (may_split (begins_at key d.slot_state) (list_any (is_prepared_at slot) m.transactions) (nat_le most_slots (length m.slots)) d.accepted).1

  -- nothing is prepared in the slot's shard
  pub idle : (cs : List KeyVersions) → slice_get shards slot ≡ Some cs → IsIdle cs
  idle cs there = idle_when_free schema w.rules m w.reached cs (w.kept.each slot cs there) unprepared

  -- the machine's answer
  pub split_answer : (n : Machine) → n ≡ (split_in_two m slot key d.slot_state).1 → IsAnswer (split_at m key) (reply.Split (length m.slots)) n
  split_answer n is = (sym (ap (λ (a : Answer). a.0) split_is), is ∙ sym (ap (λ (a : Answer). a.1) split_is))

  -- the shards that are cut belong to the journal that is
  pub split_whole : (name : List ℕ) (values : List Value) → AreValues values → root_key schema name values ≡ Some key → (k : Journaled) → machine_of k ≡ (split_in_two m slot key d.slot_state).1 → k.queries ≡ j.queries
      → (cs : List KeyVersions) → slice_get shards slot ≡ Some cs → IsWhole schema k (slice_set shards slot (keys_before key cs) ++ keys_from key cs ∷ [])
  split_whole name values are coded k same queries cs there =
      let whole : split schema m name values ≡ split_in_two m slot key d.slot_state = ap (λ (o : Option (List ℕ)). if_some o (refused m refusal.BadSplit) (split_at m)) coded ∙ split_is in
      let is : machine_of k ≡ (split schema m name values).1 = same ∙ sym (ap (λ (a : Answer). a.1) whole) in
      let after : Shards = slice_set shards slot (keys_before key cs) ++ keys_from key cs ∷ [] in
      goes_to schema j k no_text (step.Split name values) are is (pieces_same schema j.queries k.queries queries) shards after w
      (subst (λ (a : Answer). AreAllKept schema a.1 after) (sym whole)
      (all_kept_split schema w.rules m w.reached shards w.kept slot cs there key d.slot_state d.here (found_has m.slots key slot d.slot_state d.found d.here) (split_cut schema w.rules name values key are coded) unprepared))
