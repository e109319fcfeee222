use Rattle.std.proofs.Common.{◌≡◌, ℕ, ◌<◌, ◌≤◌, ◌-◌, max, zero, suc, true, false, cond, not, ◌&&◌, ◌==◌, nat_lt, nat_le, List, [], ◌∷◌, ◌++◌, length, Some, None, refl, ap, sym, ◌∙◌, subst, inl, inr, arith}
use Rattle.std.specs.Prelude.{slice_get, slice_set, find, filter}
use Rattle.std.proofs.lemmas.List.{append-nil}
use Rattle.std.proofs.lemmas.List.Elements.{filter-append}
use Rattle.std.specs.List.{list_all, list_any}
use Rattle.span_machine.specs.declared.slot.SlotState.{SlotState}
use Rattle.span_machine.specs.declared.transaction.Commit.{Commit}
use Rattle.span_schema.specs.declared.table.Table.{Table}
use Rattle.span_mutate.specs.declared.mutation.CheckedMutation.{CheckedMutation}
use Rattle.span_machine.specs.declared.transaction.OpenTransaction.{OpenTransaction}
use Rattle.span_machine.specs.declared.transaction.Decision.{Decision}
use Rattle.span_machine.specs.declared.transaction.Decision.TheVariants as decision
use Rattle.span_mutate.specs.Directories.{Root}
use Rattle.span_machine.specs.Slots.{is_between, has_key, root_code}
use Rattle.span_machine.specs.Machine.{is_at, holds, split_in_two, begins_at}
use Rattle.span_machine.specs.Limits.{most_slots}
use Rattle.span_machine.specs.Machine.{Machine, changed_first, without_first, is_prepared_at, greatest, with_last, mutations_in, mutations_refusal, is_undecided, is_prepared_for, answer, begun, prepare_timestamp, prepare_refusal, prepared, has_conflict, add_prepared, is_transaction, is_query, is_all_prepared, coordinator_slot, commit_timestamp, commit_of, committed, aborted, with_decision, without_prepared, applied, applied_at, advanced, opened, with_risen_floor, with_slot_state, cover, closed, start, first_slot, trimmed, with_horizon}
use Rattle.span_truetime.specs.Limits.{timestamp_end}
use Rattle.span_truetime.specs.Time.{timestamp_of}
use Rattle.span_machine.specs.declared.step.Step.{Step}
use Rattle.span_truetime.specs.declared.interval.Interval.{Interval}
use Rattle.span_machine_laws.proofs.Causes.{may_prepare, may_commit, undecided_is}
use Rattle.span_machine_laws.proofs.Stability.{changes_at, is_some_of}
use Rattle.span_machine_laws.proofs.Splits.{part_below, part_from, below_parts, from_parts, found_has, split_place, may_split}
use Rattle.span_machine_laws.proofs.Ranges.{HasRanges, home_at, home_split}
use Rattle.span_machine_laws.proofs.Holdings.{AreHolding, none_beyond}
use Rattle.span_machine_laws.proofs.Walks.{Ends, answer_by}
use Rattle.span_machine_laws.proofs.InPlace.{IsBelow, IsUnder, IsRising, Succeeds, commits_at, claims, IsPromised, IsClaimed, IsClaim, IsInPlace, IsPlaced, all_under, below_up, under_up, under_below, greatest_more, rising_push, changes_at-push}
use Rattle.span_machine_laws.proofs.Claims.{Lifts, lifts_same, lifts_set, lifts_last, last_here, claim_up, claim_first, claim_without, unclaimed, unclaimed_idle, all_held, commits_at-push, go_through, prepared_root, away_push, away_left, none_left, left_slot, claim_of, prepared_last}
use Rattle.span_schema.specs.Lineages.{MeetsRules}
use Rattle.span_machine_laws.proofs.Locality.{IsRoot}
use Rattle.span_machine_laws.proofs.Lists.{all_found}
use Rattle.span_machine_laws.proofs.Schemas.{IsBegunBy, IsBySchema, keyed_upto, keyed_in}
use Rattle.span_value.specs.declared.refusal.Refusal.{Refusal}
use Rattle.span_query.specs.declared.query.Statement.{Statement}
use Rattle.std.specs.Prelude.{Result}
use Rattle.std.proofs.lemmas.Bool.{both_ways, and_from, eqb-true, leb-false, and_parts}
use Rattle.std.proofs.lemmas.Option.{same_Some}
use Rattle.span_value.proofs.Lists.{all_push}

-- ---- the steps

module _ (schema : List Table) (rules : MeetsRules schema) (root : Root) (is : IsRoot schema root) (slot : ℕ) (m : Machine) (by : IsBySchema schema m) (ranges : HasRanges schema m) (holding : AreHolding m) (o : IsInPlace schema root slot m) where
  -- slot states rise, the log is the same, and the claim is kept
  pub in_place_by : (n : Machine) → Lifts m.slots n.slots → n.log ≡ m.log
      → ((a b : SlotState) → slice_get m.slots slot ≡ Some a → slice_get n.slots slot ≡ Some b → a.last ≤ b.last → IsClaim schema root a.last (commits_at schema root m.log) (filter (claims schema root slot) m.transactions) → IsClaim schema root b.last (commits_at schema root m.log) (filter (claims schema root slot) n.transactions))
      → IsInPlace schema root slot n
  in_place_by n lifts same claim = record {
    only = λ i b h k. let old = lifts.from i b h in o.only i old.0 old.1 (sym (old.3 (root_code schema root)) ∙ k);
    held = λ b h. let old = lifts.from slot b h in old.3 (root_code schema root) ∙ o.held old.0 old.1;
    in_range = subst (IsUnder timestamp_end) (sym same) o.in_range;
    rising = subst (λ l. IsRising (commits_at schema root l)) (sym same) o.rising;
    through = subst (λ l. Succeeds schema (changes_at schema root (commits_at schema root l))) (sym same) o.through;
    claim = λ b h. let old = lifts.from slot b h in subst (λ l. IsClaim schema root b.last (commits_at schema root l) (filter (claims schema root slot) n.transactions)) (sym same) (claim old.0 b old.1 h old.2 (o.claim old.0 old.1));
  }

  -- ---- Begin
  begin_placed : (owner : ℕ) (ms : List CheckedMutation) → IsInPlace schema root slot (begun m owner ms).1
  begin_placed owner ms =
      in_place_by (begun m owner ms).1 (lifts_same m.slots) refl (λ a b p q low h.
      subst (IsClaim schema root b.last (commits_at schema root m.log)) (sym (filter-append (claims schema root slot) m.transactions ((record { owner = owner; number = m.next_transaction; mutations = ms; decision = decision.Undecided; prepared = [] }) ∷ []) ∙ append-nil _))
      (claim_up schema root a.last b.last (commits_at schema root m.log) (filter (claims schema root slot) m.transactions) low h))

  -- ---- Prepare
  pub prepare_here : (owner txn : ℕ) (t : OpenTransaction) (slot_state : SlotState) → find (is_transaction owner txn) m.transactions ≡ Some t → slice_get m.slots slot ≡ Some slot_state
      → prepare_refusal schema m slot t slot_state ≡ None → mutations_refusal schema m (mutations_in schema slot_state t.mutations) ≡ None → IsInPlace schema root slot (prepared m owner txn slot slot_state).1
  prepare_here owner txn t slot_state found here accepted well =
      let may = may_prepare (is_undecided t) (is_prepared_at slot t) (length (mutations_in schema slot_state t.mutations) == 0) (has_conflict schema m slot (mutations_in schema slot_state t.mutations)) accepted in
      let whole : filter (is_at schema root) (mutations_in schema slot_state t.mutations) ≡ filter (is_at schema root) t.mutations = all_held schema root is slot_state t.mutations (o.held slot_state here) in
      in_place_by (prepared m owner txn slot slot_state).1 (lifts_set m.slots slot slot_state (record slot_state { last = prepare_timestamp slot_state }) here (omega arith) (λ _. refl)) refl (λ a b p q low h.
      let same : a ≡ slot_state = cc in
      claim_first schema root slot a.last b.last (commits_at schema root m.log) (commits_at schema root m.log) (is_transaction owner txn) (add_prepared slot (prepare_timestamp slot_state)) m.transactions t found (λ rest empty. record {
        neither = λ x y. (low, refl);
        both = λ x y. absurd (both_ways (is_prepared_at slot t) may.1 (and_parts (is_prepared_at slot t) (is_some_of (filter (is_at schema root) t.mutations)) x).0);
        leaves = λ x y. absurd (both_ways (is_prepared_at slot t) may.1 (and_parts (is_prepared_at slot t) (is_some_of (filter (is_at schema root) t.mutations)) x).0);
        comes = λ x y. (
          empty x ∙ unclaimed schema root is slot (mutations_in schema slot_state t.mutations) m.transactions (subst (λ l. is_some_of l ≡ true) (sym whole) (and_parts (is_prepared_at slot (add_prepared slot (prepare_timestamp slot_state) t)) (is_some_of (filter (is_at schema root) t.mutations)) y).1) may.2,
          λ below. subst (IsClaimed schema root b.last (commits_at schema root m.log) (add_prepared slot (prepare_timestamp slot_state) t)) (sym (undecided_is t.decision may.0)) (record {
            below = below_up a.last b.last (commits_at schema root m.log) low below;
            under = all_under a.last (greatest (t.prepared ++ (record { slot = slot; timestamp = prepare_timestamp slot_state }) ∷ [])) (commits_at schema root m.log) (prepared_last a slot_state t.prepared slot same) below;
            through = subst (λ l. Succeeds schema (changes_at schema root (commits_at schema root m.log) ++ l)) whole (go_through schema rules root is m (mutations_in schema slot_state t.mutations) (keyed_upto schema m.log (timestamp_end - 1) by.log)
                (keyed_in schema slot_state t.mutations (all_found (IsBegunBy schema) (is_transaction owner txn) m.transactions t found by.transactions)) o.in_range o.rising well);
          }),
        );
      }) h)

  pub prepare_at : (owner txn i : ℕ) (t : OpenTransaction) (slot_state : SlotState) → i ≡ slot → find (is_transaction owner txn) m.transactions ≡ Some t → slice_get m.slots i ≡ Some slot_state
      → prepare_refusal schema m i t slot_state ≡ None → mutations_refusal schema m (mutations_in schema slot_state t.mutations) ≡ None → IsInPlace schema root slot (prepared m owner txn i slot_state).1
  prepare_at owner txn i t slot_state e = subst (λ j. find (is_transaction owner txn) m.transactions ≡ Some t → slice_get m.slots j ≡ Some slot_state
      → prepare_refusal schema m j t slot_state ≡ None → mutations_refusal schema m (mutations_in schema slot_state t.mutations) ≡ None → IsInPlace schema root slot (prepared m owner txn j slot_state).1) (sym e) (prepare_here owner txn t slot_state)

  pub prepare_away : (owner txn i : ℕ) (t : OpenTransaction) (slot_state : SlotState) → (i == slot) ≡ false → find (is_transaction owner txn) m.transactions ≡ Some t → slice_get m.slots i ≡ Some slot_state
      → is_undecided t ≡ true → IsInPlace schema root slot (prepared m owner txn i slot_state).1
  prepare_away owner txn i t slot_state off found here open_still =
      let alike : claims schema root slot (add_prepared i (prepare_timestamp slot_state) t) ≡ claims schema root slot t = ap (λ b. b && is_some_of (filter (is_at schema root) t.mutations)) (away_push slot i (prepare_timestamp slot_state) t.prepared off) in
      in_place_by (prepared m owner txn i slot_state).1 (lifts_set m.slots i slot_state (record slot_state { last = prepare_timestamp slot_state }) here (omega arith) (λ _. refl)) refl (λ a b p q low h.
      claim_first schema root slot a.last b.last (commits_at schema root m.log) (commits_at schema root m.log) (is_transaction owner txn) (add_prepared i (prepare_timestamp slot_state)) m.transactions t found (λ rest empty. record {
        neither = λ x y. (low, refl);
        both = λ x y g.
            let old : IsPromised schema root a.last (commits_at schema root m.log) t = subst (IsClaimed schema root a.last (commits_at schema root m.log) t) (undecided_is t.decision open_still) g in
            subst (IsClaimed schema root b.last (commits_at schema root m.log) (add_prepared i (prepare_timestamp slot_state) t)) (sym (undecided_is t.decision open_still)) (record {
              below = below_up a.last b.last (commits_at schema root m.log) low old.below;
              under = under_up (greatest t.prepared) (greatest (t.prepared ++ (record { slot = i; timestamp = prepare_timestamp slot_state }) ∷ [])) (commits_at schema root m.log) (greatest_more t.prepared (record { slot = i; timestamp = prepare_timestamp slot_state })) old.under;
              through = old.through;
            });
        leaves = λ x y. absurd (both_ways (claims schema root slot t) (sym alike ∙ y) x);
        comes = λ x y. absurd (both_ways (claims schema root slot t) x (sym alike ∙ y));
      }) h)

  pub prepare_there : (owner txn i : ℕ) (t : OpenTransaction) (slot_state : SlotState) → find (is_transaction owner txn) m.transactions ≡ Some t → slice_get m.slots i ≡ Some slot_state
      → prepare_refusal schema m i t slot_state ≡ None → mutations_refusal schema m (mutations_in schema slot_state t.mutations) ≡ None → IsInPlace schema root slot (prepared m owner txn i slot_state).1
  prepare_there owner txn i t slot_state found here accepted well =
      let may = may_prepare (is_undecided t) (is_prepared_at i t) (length (mutations_in schema slot_state t.mutations) == 0) (has_conflict schema m i (mutations_in schema slot_state t.mutations)) accepted in
      elim (i == slot) as (λ v. (i == slot) ≡ v → IsInPlace schema root slot (prepared m owner txn i slot_state).1) [
        | true ↦ λ e. prepare_at owner txn i t slot_state (eqb-true i slot e) found here accepted well
        | false ↦ λ e. prepare_away owner txn i t slot_state e found here may.0
      ] refl

  -- ---- Decide
  pub commit_here : (owner txn ts : ℕ) (t : OpenTransaction) → find (is_transaction owner txn) m.transactions ≡ Some t → is_undecided t ≡ true → is_all_prepared schema m t ≡ true → greatest t.prepared ≤ ts → ts < timestamp_end
      → IsInPlace schema root slot (committed m owner txn ts t).1
  commit_here owner txn ts t found open_still ready high low =
      let c : Commit = commit_of ts t in
      let cs : List Commit = commits_at schema root m.log in
      let ds : List Commit = commits_at schema root (m.log ++ commit_of ts t ∷ []) in
      let lifts : Lifts m.slots (with_last m.slots (coordinator_slot t.prepared) ts) = lifts_last m.slots (coordinator_slot t.prepared) ts in
      let ranged : IsUnder timestamp_end (m.log ++ commit_of ts t ∷ []) = all_push (λ d. d.timestamp < timestamp_end) m.log (commit_of ts t) o.in_range low in
      elim (is_some_of (filter (is_at schema root) t.mutations)) as (λ v. is_some_of (filter (is_at schema root) t.mutations) ≡ v → IsInPlace schema root slot (committed m owner txn ts t).1) [
        | false ↦ λ e.
            let same : commits_at schema root (m.log ++ commit_of ts t ∷ []) ≡ commits_at schema root m.log =
            commits_at-push schema root m.log (commit_of ts t) ∙ ap (λ b. commits_at schema root m.log ++ cond b (commit_of ts t ∷ []) []) e ∙ append-nil _ in
            record {
              only = λ i b h k. let old = lifts.from i b h in o.only i old.0 old.1 (sym (old.3 (root_code schema root)) ∙ k);
              held = λ b h. let old = lifts.from slot b h in old.3 (root_code schema root) ∙ o.held old.0 old.1;
              in_range = ranged;
              rising = subst IsRising (sym same) o.rising;
              through = subst (λ l. Succeeds schema (changes_at schema root l)) (sym same) o.through;
              claim = λ b h. let old = lifts.from slot b h in
                  claim_first schema root slot old.0.last b.last (commits_at schema root m.log) (commits_at schema root (m.log ++ commit_of ts t ∷ [])) (is_transaction owner txn) (with_decision (decision.Committed ts)) m.transactions t found (λ rest empty. record {
                    neither = λ x y. (old.2, sym same);
                    both = λ x y. absurd (both_ways (is_some_of (filter (is_at schema root) t.mutations)) e (and_parts (is_prepared_at slot t) (is_some_of (filter (is_at schema root) t.mutations)) x).1);
                    leaves = λ x y. absurd (both_ways (claims schema root slot t) y x);
                    comes = λ x y. absurd (both_ways (claims schema root slot t) x y);
                  }) (o.claim old.0 old.1);
            }
        | true ↦ λ e.
            let same : commits_at schema root (m.log ++ commit_of ts t ∷ []) ≡ commits_at schema root m.log ++ commit_of ts t ∷ [] =
            commits_at-push schema root m.log (commit_of ts t) ∙ ap (λ b. commits_at schema root m.log ++ cond b (commit_of ts t ∷ []) []) e in
            let all : list_all (is_prepared_for schema m t) t.mutations ≡ true = (and_parts (not (length t.prepared == 0)) (list_all (is_prepared_for schema m t) t.mutations) ready).1 in
            let ready_at = prepared_root schema root is m slot t o.only t.mutations e all in
            let is : claims schema root slot t ≡ true = and_from (is_prepared_at slot t) (is_some_of (filter (is_at schema root) t.mutations)) ready_at.0 e in
            let slot_state = ready_at.1 in
            let promised : IsPromised schema root slot_state.0.last (commits_at schema root m.log) t =
            subst (IsClaimed schema root slot_state.0.last (commits_at schema root m.log) t) (undecided_is t.decision open_still)
            (claim_of schema root slot slot_state.0.last (commits_at schema root m.log) (is_transaction owner txn) m.transactions t found is (o.claim slot_state.0 slot_state.1)) in
            record {
              only = λ i b h k. let old = lifts.from i b h in o.only i old.0 old.1 (sym (old.3 (root_code schema root)) ∙ k);
              held = λ b h. let old = lifts.from slot b h in old.3 (root_code schema root) ∙ o.held old.0 old.1;
              in_range = ranged;
              rising = subst IsRising (sym same) (rising_push (commits_at schema root m.log) (commit_of ts t) o.rising (under_up (greatest t.prepared) ts (commits_at schema root m.log) high promised.under));
              through = subst (λ l. Succeeds schema (changes_at schema root l)) (sym same) (subst (Succeeds schema) (sym (changes_at-push schema root (commits_at schema root m.log) (commit_of ts t))) promised.through);
              claim = λ b h. let old = lifts.from slot b h in
                  claim_first schema root slot old.0.last b.last (commits_at schema root m.log) (commits_at schema root (m.log ++ commit_of ts t ∷ [])) (is_transaction owner txn) (with_decision (decision.Committed ts)) m.transactions t found (λ rest empty. record {
                    neither = λ x y. absurd (both_ways (claims schema root slot t) x is);
                    both = λ x y g. subst (IsBelow (max b.last ts)) (sym same)
                        (all_push (λ d. d.timestamp ≤ max b.last ts) (commits_at schema root m.log) (commit_of ts t) (under_below (greatest t.prepared) (max b.last ts) (commits_at schema root m.log) (omega arith) promised.under) (omega arith));
                    leaves = λ x y. absurd (both_ways (claims schema root slot t) y x);
                    comes = λ x y. absurd (both_ways (claims schema root slot t) x y);
                  }) (o.claim old.0 old.1);
            }
      ] refl

  pub abort_claim : (owner txn : ℕ) (t : OpenTransaction) (n k : ℕ) → find (is_transaction owner txn) m.transactions ≡ Some t → is_undecided t ≡ true → n ≤ k → IsClaim schema root n (commits_at schema root m.log) (filter (claims schema root slot) m.transactions)
      → IsClaim schema root k (commits_at schema root m.log) (filter (claims schema root slot) (aborted m owner txn t).1.transactions)
  abort_claim owner txn t n k found open_still low h =
      let drop : IsClaimed schema root n (commits_at schema root m.log) t t.decision → IsBelow k (commits_at schema root m.log) =
      λ g. let p : IsPromised schema root n (commits_at schema root m.log) t = subst (IsClaimed schema root n (commits_at schema root m.log) t) (undecided_is t.decision open_still) g in below_up n k (commits_at schema root m.log) low p.below in
      elim (length t.prepared == 0) as (λ v. IsClaim schema root k (commits_at schema root m.log) (filter (claims schema root slot) (cond v (without_first (is_transaction owner txn) m.transactions) (changed_first (is_transaction owner txn) (with_decision decision.Aborted) m.transactions)))) [
        | true ↦ claim_without schema root slot n k (commits_at schema root m.log) (is_transaction owner txn) m.transactions t found low (λ x g. drop g) h
        | false ↦ claim_first schema root slot n k (commits_at schema root m.log) (commits_at schema root m.log) (is_transaction owner txn) (with_decision decision.Aborted) m.transactions t found (λ rest empty. record {
          neither = λ x y. (low, refl);
          both = λ x y g. drop g;
          leaves = λ x y g. drop g;
          comes = λ x y. absurd (both_ways (claims schema root slot t) x y);
        }) h
      ]

  -- ---- Apply
  pub applied_claim : (owner txn : ℕ) (t : OpenTransaction) (n k : ℕ) → find (is_transaction owner txn) m.transactions ≡ Some t → n ≤ k → (IsClaimed schema root n (commits_at schema root m.log) t t.decision → IsBelow k (commits_at schema root m.log))
      → IsClaim schema root n (commits_at schema root m.log) (filter (claims schema root slot) m.transactions) → IsClaim schema root k (commits_at schema root m.log) (filter (claims schema root slot) (applied m owner txn slot t))
  applied_claim owner txn t n k found low drop h =
      let gone : is_prepared_at slot (without_prepared slot t) ≡ false = left_slot slot t.prepared in
      elim (length (without_prepared slot t).prepared == 0) as (λ v. IsClaim schema root k (commits_at schema root m.log) (filter (claims schema root slot) (cond v (without_first (is_transaction owner txn) m.transactions) (changed_first (is_transaction owner txn) (without_prepared slot) m.transactions)))) [
        | true ↦ claim_without schema root slot n k (commits_at schema root m.log) (is_transaction owner txn) m.transactions t found low (λ x g. drop g) h
        | false ↦ claim_first schema root slot n k (commits_at schema root m.log) (commits_at schema root m.log) (is_transaction owner txn) (without_prepared slot) m.transactions t found (λ rest empty. record {
          neither = λ x y. (low, refl);
          both = λ x y. absurd (both_ways (is_prepared_at slot (without_prepared slot t)) gone (and_parts (is_prepared_at slot (without_prepared slot t)) (is_some_of (filter (is_at schema root) t.mutations)) y).0);
          leaves = λ x y g. drop g;
          comes = λ x y. absurd (both_ways (is_prepared_at slot (without_prepared slot t)) gone (and_parts (is_prepared_at slot (without_prepared slot t)) (is_some_of (filter (is_at schema root) t.mutations)) y).0);
        }) h
      ]

  pub away_claim : (owner txn i : ℕ) (t : OpenTransaction) (n k : ℕ) → (i == slot) ≡ false → find (is_transaction owner txn) m.transactions ≡ Some t → n ≤ k
      → (IsClaimed schema root n (commits_at schema root m.log) t t.decision → IsClaimed schema root k (commits_at schema root m.log) (without_prepared i t) t.decision)
      → IsClaim schema root n (commits_at schema root m.log) (filter (claims schema root slot) m.transactions) → IsClaim schema root k (commits_at schema root m.log) (filter (claims schema root slot) (applied m owner txn i t))
  away_claim owner txn i t n k off found low keep h =
      let still : is_prepared_at slot (without_prepared i t) ≡ is_prepared_at slot t = away_left slot i t.prepared off in
      let alike : claims schema root slot (without_prepared i t) ≡ claims schema root slot t = ap (λ b. b && is_some_of (filter (is_at schema root) t.mutations)) still in
      elim (length (without_prepared i t).prepared == 0) as (λ v. (length (without_prepared i t).prepared == 0) ≡ v → IsClaim schema root k (commits_at schema root m.log) (filter (claims schema root slot) (cond v (without_first (is_transaction owner txn) m.transactions) (changed_first (is_transaction owner txn) (without_prepared i) m.transactions)))) [
        | true ↦ λ e. claim_without schema root slot n k (commits_at schema root m.log) (is_transaction owner txn) m.transactions t found low
            (λ x g. absurd (both_ways (is_prepared_at slot t) (sym still ∙ none_left slot (without_prepared i t).prepared e) (and_parts (is_prepared_at slot t) (is_some_of (filter (is_at schema root) t.mutations)) x).0)) h
        | false ↦ λ e. claim_first schema root slot n k (commits_at schema root m.log) (commits_at schema root m.log) (is_transaction owner txn) (without_prepared i) m.transactions t found (λ rest empty. record {
          neither = λ x y. (low, refl);
          both = λ x y g. keep g;
          leaves = λ x y. absurd (both_ways (claims schema root slot t) (sym alike ∙ y) x);
          comes = λ x y. absurd (both_ways (claims schema root slot t) x (sym alike ∙ y));
        }) h
      ] refl

  pub apply_here : (owner txn : ℕ) (t : OpenTransaction) (c : Decision) → t.decision ≡ c → find (is_transaction owner txn) m.transactions ≡ Some t → IsInPlace schema root slot (applied_at c m owner txn slot t).1
  apply_here owner txn t decision.Undecided e found = o
  apply_here owner txn t decision.Aborted e found = in_place_by (applied_at decision.Aborted m owner txn slot t).1 (lifts_same m.slots) refl (λ a b p q low h.
      applied_claim owner txn t a.last b.last found low (λ g. let below : IsBelow a.last (commits_at schema root m.log) = subst (IsClaimed schema root a.last (commits_at schema root m.log) t) e g in below_up a.last b.last (commits_at schema root m.log) low below) h)
  apply_here owner txn t (decision.Committed ts) e found = in_place_by (applied_at (decision.Committed ts) m owner txn slot t).1 (lifts_last m.slots slot ts) refl (λ a b p q low h.
      let risen_to : ts ≤ b.last = last_here m.slots slot ts b q in
      applied_claim owner txn t a.last b.last found low (λ g. let below : IsBelow (max a.last ts) (commits_at schema root m.log) = subst (IsClaimed schema root a.last (commits_at schema root m.log) t) e g in below_up (max a.last ts) b.last (commits_at schema root m.log) (omega arith) below) h)

  pub apply_away : (owner txn i : ℕ) (t : OpenTransaction) (c : Decision) → (i == slot) ≡ false → t.decision ≡ c → find (is_transaction owner txn) m.transactions ≡ Some t → IsInPlace schema root slot (applied_at c m owner txn i t).1
  apply_away owner txn i t decision.Undecided off e found = o
  apply_away owner txn i t decision.Aborted off e found = in_place_by (applied_at decision.Aborted m owner txn i t).1 (lifts_same m.slots) refl (λ a b p q low h.
      away_claim owner txn i t a.last b.last off found low (λ g. subst (IsClaimed schema root b.last (commits_at schema root m.log) (without_prepared i t)) (sym e)
      (below_up a.last b.last (commits_at schema root m.log) low (let below : IsBelow a.last (commits_at schema root m.log) = subst (IsClaimed schema root a.last (commits_at schema root m.log) t) e g in below))) h)
  apply_away owner txn i t (decision.Committed ts) off e found = in_place_by (applied_at (decision.Committed ts) m owner txn i t).1 (lifts_last m.slots i ts) refl (λ a b p q low h.
      away_claim owner txn i t a.last b.last off found low (λ g. subst (IsClaimed schema root b.last (commits_at schema root m.log) (without_prepared i t)) (sym e)
      (below_up (max a.last ts) (max b.last ts) (commits_at schema root m.log) (omega arith) (let below : IsBelow (max a.last ts) (commits_at schema root m.log) = subst (IsClaimed schema root a.last (commits_at schema root m.log) t) e g in below))) h)

  pub apply_there : (owner txn i : ℕ) (t : OpenTransaction) → find (is_transaction owner txn) m.transactions ≡ Some t → IsInPlace schema root slot (applied_at t.decision m owner txn i t).1
  apply_there owner txn i t found = elim (i == slot) as (λ v. (i == slot) ≡ v → IsInPlace schema root slot (applied_at t.decision m owner txn i t).1) [
    | true ↦ λ e. subst (λ j. IsInPlace schema root slot (applied_at t.decision m owner txn j t).1) (sym (eqb-true i slot e)) (apply_here owner txn t t.decision refl found)
    | false ↦ λ e. apply_away owner txn i t t.decision e refl found
  ] refl

  -- ---- the steps that leave log and transactions
  pub slots_placed : (n : Machine) → Lifts m.slots n.slots → n.log ≡ m.log → n.transactions ≡ m.transactions → IsInPlace schema root slot n
  slots_placed n lifts same_log same = in_place_by n lifts same_log (λ a b p q low h.
      subst (λ ts. IsClaim schema root b.last (commits_at schema root m.log) (filter (claims schema root slot) ts)) (sym same) (claim_up schema root a.last b.last (commits_at schema root m.log) (filter (claims schema root slot) m.transactions) low h))

  pub lifts_risen : (i q : ℕ) (interval : Interval) (slot_state : SlotState) → slice_get m.slots i ≡ Some slot_state → Lifts m.slots (slice_set m.slots i (with_risen_floor slot_state q interval))
  lifts_risen i q interval slot_state here = elim (nat_lt slot_state.floor q && nat_le q interval.latest) as (λ v. Lifts m.slots (slice_set m.slots i (cond v (record slot_state { floor = q }) slot_state))) [
    | true ↦ lifts_set m.slots i slot_state (record slot_state { floor = q }) here (omega arith) (λ _. refl)
    | false ↦ lifts_set m.slots i slot_state slot_state here (omega arith) (λ _. refl)
  ]

  -- ---- Split
  -- nothing is prepared in a slot that is cut, nor in the new one
  claim_split : (i : ℕ) (slot_state : SlotState) (code : List ℕ) (b : SlotState) (j : ℕ) → slice_get m.slots i ≡ Some slot_state → has_key slot_state code ≡ true → list_any (is_prepared_at i) m.transactions ≡ false
      → slice_get (slice_set m.slots i (part_below code slot_state) ++ part_from code slot_state ∷ []) j ≡ Some b → has_key b (root_code schema root) ≡ true → IsClaim schema root b.last (commits_at schema root m.log) (filter (claims schema root j) m.transactions)
  claim_split i slot_state code b j here inside idle h has =
      let below : holds schema slot_state root ≡ true → IsBelow slot_state.last (commits_at schema root m.log) =
      λ held. subst (IsClaim schema root slot_state.last (commits_at schema root m.log)) (unclaimed_idle schema root slot m.transactions (subst (λ k. list_any (is_prepared_at k) m.transactions ≡ false) (o.only i slot_state here held) idle))
      (o.claim slot_state (subst (λ k. slice_get m.slots k ≡ Some slot_state) (o.only i slot_state here held) here)) in
      elim (split_place m.slots i (part_below code slot_state) (part_from code slot_state) b j h) [
        | inl e ↦
            (let held : holds schema slot_state root ≡ true = (below_parts code slot_state (root_code schema root) inside (subst (λ (c : SlotState). has_key c (root_code schema root) ≡ true) e.1 has)).0 in
            let none : filter (claims schema root j) m.transactions ≡ [] = unclaimed_idle schema root j m.transactions (subst (λ k. list_any (is_prepared_at k) m.transactions ≡ false) (sym e.0) idle) in
            subst (IsClaim schema root b.last (commits_at schema root m.log)) (sym none) (subst (λ (c : SlotState). IsBelow c.last (commits_at schema root m.log)) (sym e.1) (below held)))
        | inr other ↦ (elim other [
          | inl e ↦
              (let held : holds schema slot_state root ≡ true = (from_parts code slot_state (root_code schema root) inside (subst (λ (c : SlotState). has_key c (root_code schema root) ≡ true) e.1 has)).0 in
              let none : filter (claims schema root j) m.transactions ≡ [] = unclaimed_idle schema root j m.transactions (subst (λ k. list_any (is_prepared_at k) m.transactions ≡ false) (sym e.0) (none_beyond (length m.slots) m.transactions holding)) in
              subst (IsClaim schema root b.last (commits_at schema root m.log)) (sym none) (subst (λ (c : SlotState). IsBelow c.last (commits_at schema root m.log)) (sym e.1) (below held)))
          | inr e ↦
              (let at : j ≡ slot = o.only j b e.0 has in
              subst (λ k. IsClaim schema root b.last (commits_at schema root m.log) (filter (claims schema root k) m.transactions)) (sym at) (o.claim b (subst (λ k. slice_get m.slots k ≡ Some b) at e.0)))
        ])
      ]

  -- the slot that has the directory after the cut is the lower part, the new slot, or the one that had it before
  split_placed : (i : ℕ) (slot_state : SlotState) (code : List ℕ) → slice_get m.slots i ≡ Some slot_state → has_key slot_state code ≡ true → list_any (is_prepared_at i) m.transactions ≡ false → IsPlaced schema root (split_in_two m i code slot_state).1
  split_placed i slot_state code here inside idle =
      let home = home_split m.slots i slot_state code here inside (root_code schema root) (home_at schema m ranges root) in (
        home.slot,
        record {
          only = home.only;
          held = λ b h. subst (λ (c : SlotState). has_key c (root_code schema root) ≡ true) (same_Some home.state b (sym home.here ∙ h)) home.has;
          in_range = o.in_range;
          rising = o.rising;
          through = o.through;
          claim = λ b h. claim_split i slot_state code b home.slot here inside idle h (subst (λ (c : SlotState). has_key c (root_code schema root) ≡ true) (same_Some home.state b (sym home.here ∙ h)) home.has);
        },
      )

  placed_ends : (u : Result Statement Refusal) → Ends schema m u (λ step a. IsPlaced schema root a.1)
  placed_ends u = record {
    refuses = λ step why may. (slot, o);
    begins = λ owner ms accepted. (slot, begin_placed owner ms);
    prepares = λ owner txn i t slot_state found here accepted well fits low. (slot, prepare_there owner txn i t slot_state found here accepted well);
    commits = λ owner txn interval t found accepted.
        let may = may_commit (is_undecided t) (is_all_prepared schema m t) (nat_le timestamp_end (commit_timestamp m t interval)) accepted in
        (slot, commit_here owner txn (commit_timestamp m t interval) t found may.0 may.1 (omega arith) (leb-false timestamp_end (commit_timestamp m t interval) may.2));
    aborts = λ owner txn interval t found open_still. (slot, in_place_by (aborted m owner txn t).1 (lifts_same m.slots) refl (λ a b p q low h. abort_claim owner txn t a.last b.last found open_still low h));
    applies = λ owner txn i interval t slot_state found here accepted. (slot, apply_there owner txn i t found);
    advances = λ i interval slot_state here. (slot, slots_placed (advanced m i interval slot_state).1 (lifts_set m.slots i slot_state (record slot_state { floor = max slot_state.floor interval.latest }) here (omega arith) (λ _. refl)) refl refl);
    trims = λ i h slot_state here accepted. (slot, slots_placed (trimmed schema m i h slot_state).1 (lifts_set m.slots i slot_state (with_horizon h slot_state) here (omega arith) (λ _. refl)) refl refl);
    opens = λ text params bound interval asked is accepted. (slot, slots_placed (opened schema m text params asked (timestamp_of bound interval)).1 (lifts_same m.slots) refl refl);
    finds_nothing = λ query leaf i interval. (slot, o);
    scans = λ query leaf i interval q slot_state l part found here at gap above safe.
        (slot, slots_placed (record (with_slot_state m i (with_risen_floor slot_state q.s interval)) { queries = changed_first (is_query query) (cover leaf part) m.queries }) (lifts_risen i q.s interval slot_state here) refl refl);
    waits = λ query leaf i interval q slot_state found here. (slot, slots_placed (with_slot_state m i (with_risen_floor slot_state q.s interval)) (lifts_risen i q.s interval slot_state here) refl refl);
    finishes = λ query q found covered. (slot, o);
    closes = λ query q found. (slot, slots_placed (closed m query q).1 (lifts_same m.slots) refl refl);
    splits = λ table key code i slot_state keyed home here accepted.
        split_placed i slot_state code here (found_has m.slots code i slot_state home here) (may_split (begins_at code slot_state) (list_any (is_prepared_at i) m.transactions) (nat_le most_slots (length m.slots)) accepted).1;
  }

-- every step keeps the directory in place
pub answer_placed : (schema : List Table) → MeetsRules schema → (root : Root) → IsRoot schema root → (slot : ℕ) (m : Machine) (u : Result Statement Refusal) → IsBySchema schema m → HasRanges schema m → AreHolding m → IsInPlace schema root slot m → (step : Step)
    → IsPlaced schema root (answer schema m u step).1
answer_placed schema rules root is slot m u by ranges holding o step = answer_by schema m u (λ x a. IsPlaced schema root a.1) (placed_ends schema rules root is slot m by ranges holding o u) step

pub only_one : (slot_state b : SlotState) (i : ℕ) → slice_get (slot_state ∷ []) i ≡ Some b → i ≡ 0
only_one slot_state b zero e = refl
only_one slot_state b (suc i) e = cc

-- the first slot has every key
pub first_has : (key : List ℕ) (b : SlotState) → slice_get start.slots 0 ≡ Some b → has_key b key ≡ true
unfolding is_between
first_has key b e = let same : first_slot ≡ b = cc in subst (λ (c : SlotState). has_key c key ≡ true) same refl

pub start_placed : (schema : List Table) (root : Root) → IsInPlace schema root 0 start
start_placed schema root = record {
  only = λ i b h k. only_one first_slot b i h;
  held = λ b h. first_has (root_code schema root) b h;
  in_range = tt;
  rising = tt;
  through = record { rows = []; made = refl };
  claim = λ b h. tt;
}
