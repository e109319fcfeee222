use Rattle.std.proofs.Common.{◌≡◌, ℕ, ◌<◌, ◌≤◌, max, Bool, true, false, cond, not, ◌&&◌, ◌||◌, ◌==◌, nat_lt, nat_le, List, [], ◌∷◌, ◌++◌, length, Some, None, refl, ap, sym, ◌∙◌, subst, inl, inr, ◌⊎◌, arith}
use Rattle.std.specs.Prelude.{slice_get, slice_set, find, filter}
use Rattle.std.proofs.lemmas.Bool.Decides.{nat_tests}
use Rattle.std.specs.List.{AllByRecursion, list_any, list_all}
use Rattle.span_machine.specs.declared.slot.SlotState.{SlotState}
use Rattle.span_schema.specs.declared.table.Table.{Table}
use Rattle.span_mutate.specs.declared.mutation.CheckedMutation.{CheckedMutation}
use Rattle.span_machine.specs.declared.transaction.OpenTransaction.{OpenTransaction}
use Rattle.span_machine.specs.declared.transaction.Decision.{Decision}
use Rattle.span_machine.specs.declared.transaction.Decision.TheVariants as decision
use Rattle.span_machine.specs.declared.transaction.Prepared.{Prepared}
use Rattle.span_machine.specs.declared.step.Step.{Step}
use Rattle.span_truetime.specs.declared.interval.Interval.{Interval}
use Rattle.span_mutate.specs.Directories.{Root}
use Rattle.span_machine.specs.Slots.{root_code}
use Rattle.span_machine.specs.Machine.{is_at, root_at}
use Rattle.span_machine.specs.Tables.{upto}
use Rattle.span_value.specs.declared.refusal.Refusal.TheVariants as refusal
use Rattle.span_machine.specs.Machine.{begun, prepare_timestamp, prepared, is_query, Machine, Answer, answer, refused, has_key, holds, with_horizon, if_some, changed_first, is_transaction, is_all_prepared, is_prepared_for, greatest, commit_timestamp, commit_refusal, commit_of, committed, aborted, is_undecided, coordinator_slot, applied, applied_at, advanced, opened, with_risen_floor, with_slot_state, cover, answer_on, meaning, closed, split_in_two, with_last, add_prepared, with_decision, without_prepared, trimmed}
use Rattle.span_truetime.specs.Limits.{timestamp_end}
use Rattle.span_truetime.specs.Time.{timestamp_of}
use Rattle.span_machine.specs.declared.step.Reply.TheVariants as reply
use Rattle.span_machine.specs.declared.step.Reply.TheVariants.{Refused}
use Rattle.span_machine_laws.proofs.Causes.{may_commit}
use Rattle.span_machine_laws.proofs.Splits.{part_below, part_from, below_parts, from_parts, found_has, split_place}
use Rattle.span_machine_laws.proofs.Holdings.{IsHolding, AreHolding}
use Rattle.std.proofs.lemmas.Option.{slice_get_within}
use Rattle.span_machine_laws.proofs.Lists.{slice_get-set, all_changed, all_without, all_found, one_or_other}
use Rattle.span_machine_laws.proofs.Walks.{Ends, answer_by}
use Rattle.span_machine_laws.proofs.Stability.{changes_at, touches, is_some_of, changes_at-more}
use Rattle.span_machine_laws.proofs.Locality.{IsRoot, own_root}
use Rattle.span_value.specs.declared.refusal.Refusal.{Refusal}
use Rattle.span_query.specs.declared.query.Statement.{Statement}
use Rattle.std.specs.Prelude.{Result}
use Rattle.std.proofs.lemmas.Bool.{eq-eqb, eqb-true, and_parts}
use Rattle.span_value.proofs.Lists.{all_filter, all_push, all_weaker}

-- ---- lists

abbrev pub touches_any : List Table → Root → List CheckedMutation → Bool
touches_any schema root ms = is_some_of (filter (is_at schema root) ms)

-- ---- what may still be committed

-- every transaction prepared at the slot has a prepare timestamp above s there
abbrev pub IsAbove : ℕ → ℕ → OpenTransaction → Type 0
IsAbove s slot t = AllByRecursion (λ p. p.slot ≡ slot → s < p.timestamp) t.prepared

-- no later commit changes the directory at s or earlier
pub record IsSealed (schema : List Table) (root : Root) (s : ℕ) (m : Machine) : Type 0 where
  pub floors : (i : ℕ) (b : SlotState) → slice_get m.slots i ≡ Some b → holds schema b root ≡ true → s ≤ b.floor
  pub prepared : (i : ℕ) (b : SlotState) → slice_get m.slots i ≡ Some b → holds schema b root ≡ true → AllByRecursion (IsAbove s i) m.transactions

-- each slot comes from itself
abbrev pub itself : ℕ → ℕ
itself i = i

-- The state of each slot in the place of that of the slot which it comes from: no key is new in its range, and its floor is no lower.
pub record Rises (source : ℕ → ℕ) (old new : List SlotState) : Type 0 where
  pub from : (i : ℕ) (b : SlotState) → slice_get new i ≡ Some b → (a : SlotState) × (slice_get old (source i) ≡ Some a) × (a.floor ≤ b.floor) × ((key : List ℕ) → has_key b key ≡ true → has_key a key ≡ true)

pub rises_same : (slots : List SlotState) → Rises itself slots slots
rises_same slots = record { from = λ i b h. (b, h, omega arith, λ key k. k) }

pub rises_set : (slots : List SlotState) (slot : ℕ) (a b : SlotState) → slice_get slots slot ≡ Some a → a.floor ≤ b.floor → ((key : List ℕ) → has_key b key ≡ true → has_key a key ≡ true) → Rises itself slots (slice_set slots slot b)
rises_set slots slot a b here low range = record {
  from = λ i c h. elim (slice_get-set slots slot i b c h) [
    | inl e ↦ (a, ap (slice_get slots) e.0 ∙ here, subst (λ (d : SlotState). a.floor ≤ d.floor) (sym e.1) low, λ key k. range key (subst (λ (d : SlotState). has_key d key ≡ true) e.1 k))
    | inr g ↦ (c, g, omega arith, λ key k. k)
  ];
}

-- ---- a slot that is cut in two

-- the new slot, which has this number, comes from the one that is cut, and each other from itself
abbrev pub from_cut : ℕ → ℕ → ℕ → ℕ
from_cut count slot i = cond (i == count) slot i

from_new : (count slot i : ℕ) → i ≡ count → from_cut count slot i ≡ slot
from_new count slot i e = ap (λ b. cond b slot i) (eq-eqb i count e)

from_other : (count slot i : ℕ) → i < count → from_cut count slot i ≡ i
from_other count slot i low = ap (λ b. cond b slot i) (apart i count low)
  where
    apart : (a b : ℕ) → a < b → (a == b) ≡ false
    apart a b less = grind (arith, nat_tests)

pub rises_cut : (slots : List SlotState) (slot : ℕ) (a : SlotState) (code : List ℕ) → slice_get slots slot ≡ Some a → has_key a code ≡ true
    → Rises (from_cut (length slots) slot) slots (slice_set slots slot (part_below code a) ++ part_from code a ∷ [])
rises_cut slots slot a code here inside = record {
  from = λ i b h. elim (split_place slots slot (part_below code a) (part_from code a) b i h) [
    | inl e ↦ (
      a,
      ap (slice_get slots) (from_other (length slots) slot i (subst (λ j. j < length slots) (sym e.0) (slice_get_within slots slot a here)) ∙ e.0) ∙ here,
      subst (λ (c : SlotState). a.floor ≤ c.floor) (sym e.1) (omega arith),
      λ key k. (below_parts code a key inside (subst (λ (c : SlotState). has_key c key ≡ true) e.1 k)).0,
    )
    | inr other ↦ (elim other [
      | inl e ↦ (
        a,
        ap (slice_get slots) (from_new (length slots) slot i e.0) ∙ here,
        subst (λ (c : SlotState). a.floor ≤ c.floor) (sym e.1) (omega arith),
        λ key k. (from_parts code a key inside (subst (λ (c : SlotState). has_key c key ≡ true) e.1 k)).0,
      )
      | inr e ↦ (
        b,
        ap (slice_get slots) (from_other (length slots) slot i (slice_get_within slots i b e.0)) ∙ e.0,
        omega arith,
        λ key k. k,
      )
    ])
  ];
}

-- what is prepared at no slot of this number or above it is above any timestamp there
above_beyond : (s count i : ℕ) → count ≤ i → (ts : List OpenTransaction) → AllByRecursion (IsHolding count) ts → AllByRecursion (IsAbove s i) ts
above_beyond s count i high ts all = all_weaker (IsHolding count) (IsAbove s i)
    (λ t h. all_weaker (λ (p : Prepared). p.slot < count) (λ (p : Prepared). p.slot ≡ i → s < p.timestamp) (λ p low e. absurd (omega arith)) t.prepared h.within) ts all

above_cut : (s count slot i : ℕ) (ts : List OpenTransaction) → AllByRecursion (IsHolding count) ts → AllByRecursion (IsAbove s (from_cut count slot i)) ts → AllByRecursion (IsAbove s i) ts
above_cut s count slot i ts holding = elim (i == count) as (λ v. (i == count) ≡ v → AllByRecursion (IsAbove s (cond v slot i)) ts → AllByRecursion (IsAbove s i) ts) [
  | true ↦ λ e above. let at : i ≡ count = eqb-true i count e in above_beyond s count i (omega arith) ts holding
  | false ↦ λ e above. above
] refl

-- a step keeps what is sealed, and the log's changes of the directory at s
pub record Keeps (schema : List Table) (root : Root) (s : ℕ) (m : Machine) (a : Answer) : Type 0 where
  pub seal : IsSealed schema root s a.1
  pub same : changes_at schema root (upto a.1.log s) ≡ changes_at schema root (upto m.log s)

module _ (schema : List Table) (root : Root) (is : IsRoot schema root) (s : ℕ) (m : Machine) (holding : AreHolding m) (sealed : IsSealed schema root s m) where
  pub kept_as_is : (a : Answer) → a.1 ≡ m → Keeps schema root s m a
  kept_as_is a e = record {
    seal = subst (IsSealed schema root s) (sym e) sealed;
    same = ap (λ (n : Machine). changes_at schema root (upto n.log s)) e;
  }

  -- slot states rise, transactions stay above, and the log is the same for the directory, where each slot comes from any old one
  pub kept_from : (source : ℕ → ℕ) (a : Answer) → Rises source m.slots a.1.slots
      → ((i : ℕ) (b : SlotState) → slice_get m.slots (source i) ≡ Some b → holds schema b root ≡ true → AllByRecursion (IsAbove s (source i)) m.transactions → AllByRecursion (IsAbove s i) a.1.transactions)
      → changes_at schema root (upto a.1.log s) ≡ changes_at schema root (upto m.log s) → Keeps schema root s m a
  kept_from source a rises above same = record {
    seal = record {
      floors = λ i b h k. let old = rises.from i b h in let low = sealed.floors (source i) old.0 old.1 (old.3 (root_code schema root) k) in omega arith;
      prepared = λ i b h k. let old = rises.from i b h in
          above i old.0 old.1 (old.3 (root_code schema root) k) (sealed.prepared (source i) old.0 old.1 (old.3 (root_code schema root) k));
    };
    same = same;
  }

  -- the same where each slot comes from itself
  pub kept_by : (a : Answer) → Rises itself m.slots a.1.slots
      → ((i : ℕ) (b : SlotState) → slice_get m.slots i ≡ Some b → holds schema b root ≡ true → AllByRecursion (IsAbove s i) m.transactions → AllByRecursion (IsAbove s i) a.1.transactions)
      → changes_at schema root (upto a.1.log s) ≡ changes_at schema root (upto m.log s) → Keeps schema root s m a
  kept_by a rises above same = kept_from itself a rises above same

  pub new_above : (slot i : ℕ) (slot_state b : SlotState) → slice_get m.slots slot ≡ Some slot_state → slice_get m.slots i ≡ Some b → holds schema b root ≡ true → slot ≡ i → s < prepare_timestamp slot_state
  new_above slot i slot_state b here h k e =
      let same : slot_state ≡ b = cc in
      let low = sealed.floors i b h k in
      let lower : s ≤ slot_state.floor = subst (λ (c : SlotState). s ≤ c.floor) (sym same) low in
      omega arith

  pub rises_last : (slot ts : ℕ) → Rises itself m.slots (with_last m.slots slot ts)
  rises_last slot ts = elim (slice_get m.slots slot) as (λ o. slice_get m.slots slot ≡ o → Rises itself m.slots (if_some o m.slots (λ slot_state. slice_set m.slots slot (record slot_state { last = max slot_state.last ts })))) [
    | None ↦ λ e. rises_same m.slots
    | Some slot_state ↦ λ e. rises_set m.slots slot slot_state (record slot_state { last = max slot_state.last ts }) e (omega arith) (λ _ k. k)
  ] refl

  pub above_here : (p : Prepared) (ps : List Prepared) (k : Root) → if_some (slice_get m.slots p.slot) false (λ slot_state. holds schema slot_state k) ≡ true
      → ((i : ℕ) (b : SlotState) → slice_get m.slots i ≡ Some b → holds schema b k ≡ true → AllByRecursion (λ p. p.slot ≡ i → s < p.timestamp) (p ∷ ps)) → s < p.timestamp
  above_here p ps k = elim (slice_get m.slots p.slot) as (λ o. slice_get m.slots p.slot ≡ o → if_some o false (λ slot_state. holds schema slot_state k) ≡ true
      → ((i : ℕ) (b : SlotState) → slice_get m.slots i ≡ Some b → holds schema b k ≡ true → AllByRecursion (λ p. p.slot ≡ i → s < p.timestamp) (p ∷ ps)) → s < p.timestamp) [
        | None ↦ λ e bad above. cc
        | Some b ↦ λ e holds_it above. (above p.slot b e holds_it).0 refl
      ] refl

  -- a transaction that is prepared for each of its mutations has, if one is of the directory, a prepare timestamp above s
  pub prepared_above : (k : Root) → (ps : List Prepared) → list_any (λ p. if_some (slice_get m.slots p.slot) false (λ slot_state. holds schema slot_state k)) ps ≡ true
      → ((i : ℕ) (b : SlotState) → slice_get m.slots i ≡ Some b → holds schema b k ≡ true → AllByRecursion (λ p. p.slot ≡ i → s < p.timestamp) ps) → s < greatest ps
  prepared_above k [] = λ e above. cc
  prepared_above k (p ∷ ps) = elim (if_some (slice_get m.slots p.slot) false (λ slot_state. holds schema slot_state k)) as (λ v. if_some (slice_get m.slots p.slot) false (λ slot_state. holds schema slot_state k) ≡ v → (v || list_any (λ p. if_some (slice_get m.slots p.slot) false (λ slot_state. holds schema slot_state k)) ps) ≡ true
      → ((i : ℕ) (b : SlotState) → slice_get m.slots i ≡ Some b → holds schema b k ≡ true → AllByRecursion (λ p. p.slot ≡ i → s < p.timestamp) (p ∷ ps)) → s < greatest (p ∷ ps)) [
        | true ↦ λ is e above. let low = above_here p ps k is above in omega arith
        | false ↦ λ is e above. let low = prepared_above k ps e (λ i b h g. (above i b h g).1) in omega arith
      ] refl

  -- the directory of a mutation at the directory is the directory
  pub some_prepared : (t : OpenTransaction) (ms : List CheckedMutation) → touches_any schema root ms ≡ true → list_all (is_prepared_for schema m t) ms ≡ true
      → ((i : ℕ) (b : SlotState) → slice_get m.slots i ≡ Some b → holds schema b root ≡ true → IsAbove s i t) → s < greatest t.prepared
  some_prepared t [] = λ e all above. cc
  some_prepared t (mu ∷ ms) = elim (is_at schema root mu) as (λ v. is_at schema root mu ≡ v → is_some_of (cond v (mu ∷ filter (is_at schema root) ms) (filter (is_at schema root) ms)) ≡ true → (is_prepared_for schema m t mu && list_all (is_prepared_for schema m t) ms) ≡ true
      → ((i : ℕ) (b : SlotState) → slice_get m.slots i ≡ Some b → holds schema b root ≡ true → IsAbove s i t) → s < greatest t.prepared) [
        | true ↦ λ at e all above. prepared_above (root_at schema mu) t.prepared (and_parts _ _ all).0 (λ i b h k. above i b h (subst (λ (q : Root). holds schema b q ≡ true) (sym (own_root schema root mu is at)) k))
        | false ↦ λ at e all above. some_prepared t ms e (and_parts _ _ all).1 above
      ] refl

  -- a commit that touches the directory is above s
  pub commit_apart : (owner txn : ℕ) (interval : Interval) (t : OpenTransaction) → find (is_transaction owner txn) m.transactions ≡ Some t → commit_refusal schema m t interval ≡ None
      → (touches schema root (commit_of (commit_timestamp m t interval) t) ≡ false) ⊎ (s < commit_timestamp m t interval)
  commit_apart owner txn interval t found accepted = elim (touches_any schema root t.mutations) as (λ v. touches_any schema root t.mutations ≡ v → (v ≡ false) ⊎ (s < commit_timestamp m t interval)) [
    | false ↦ λ e. inl refl
    | true ↦ λ e.
        let ready : is_all_prepared schema m t ≡ true = (may_commit (is_undecided t) (is_all_prepared schema m t) (nat_le timestamp_end (commit_timestamp m t interval)) accepted).1 in
        let above : s < greatest t.prepared = some_prepared t t.mutations e (and_parts (not (length t.prepared == 0)) (list_all (is_prepared_for schema m t) t.mutations) ready).1 (λ i b h k. all_found (IsAbove s i) (is_transaction owner txn) m.transactions t found (sealed.prepared i b h k)) in
        inr (omega arith)
  ] refl

  pub applied_above : (owner txn slot : ℕ) (t : OpenTransaction) (i : ℕ) → AllByRecursion (IsAbove s i) m.transactions → AllByRecursion (IsAbove s i) (applied m owner txn slot t)
  applied_above owner txn slot t i all = one_or_other (AllByRecursion (IsAbove s i)) (length (without_prepared slot t).prepared == 0) _ _ (all_without (IsAbove s i) (is_transaction owner txn) m.transactions all)
      (all_changed (IsAbove s i) (is_transaction owner txn) (without_prepared slot) (λ u above. all_filter (λ p. p.slot ≡ i → s < p.timestamp) (λ p. not (p.slot == slot)) u.prepared above) m.transactions all)

  applied_keeps : (o : Decision) (owner txn slot : ℕ) (t : OpenTransaction) → Keeps schema root s m (applied_at o m owner txn slot t)
  applied_keeps decision.Undecided owner txn slot t = kept_as_is (refused m refusal.WrongState) refl
  applied_keeps decision.Aborted owner txn slot t = kept_by (applied_at decision.Aborted m owner txn slot t) (rises_same m.slots) (λ i b h k all. applied_above owner txn slot t i all) refl
  applied_keeps (decision.Committed ts) owner txn slot t = kept_by (applied_at (decision.Committed ts) m owner txn slot t) (rises_last slot ts) (λ i b h k all. applied_above owner txn slot t i all) refl

  pub rises_risen : (slot q : ℕ) (interval : Interval) (slot_state : SlotState) → slice_get m.slots slot ≡ Some slot_state → Rises itself m.slots (slice_set m.slots slot (with_risen_floor slot_state q interval))
  rises_risen slot q interval slot_state here = elim (nat_lt slot_state.floor q && nat_le q interval.latest) as (λ v. (nat_lt slot_state.floor q && nat_le q interval.latest) ≡ v → Rises itself m.slots (slice_set m.slots slot (cond v (record slot_state { floor = q }) slot_state))) [
    | true ↦ λ e. rises_set m.slots slot slot_state (record slot_state { floor = q }) here (let low : nat_lt slot_state.floor q ≡ true = (and_parts (nat_lt slot_state.floor q) (nat_le q interval.latest) e).0 in grind (arith, nat_tests)) (λ _ k. k)
    | false ↦ λ e. rises_set m.slots slot slot_state slot_state here (omega arith) (λ _ k. k)
  ] refl

  keeps_ends : (u : Result Statement Refusal) → Ends schema m u (λ step a. Keeps schema root s m a)
  keeps_ends u = record {
    refuses = λ step why may. kept_as_is (refused m why) refl;
    begins = λ owner ms accepted. kept_by (begun m owner ms) (rises_same m.slots)
        (λ i b h k all. all_push (IsAbove s i) m.transactions (record { owner = owner; number = m.next_transaction; mutations = ms; decision = decision.Undecided; prepared = [] }) all tt) refl;
    prepares = λ owner txn slot t slot_state found here accepted well fits low. kept_by (prepared m owner txn slot slot_state) (rises_set m.slots slot slot_state (record slot_state { last = prepare_timestamp slot_state }) here (omega arith) (λ _ k. k))
        (λ i b h k all. all_changed (IsAbove s i) (is_transaction owner txn) (add_prepared slot (prepare_timestamp slot_state))
        (λ u above. all_push (λ p. p.slot ≡ i → s < p.timestamp) u.prepared (record { slot = slot; timestamp = prepare_timestamp slot_state }) above (new_above slot i slot_state b here h k)) m.transactions all)
        refl;
    commits = λ owner txn interval t found accepted. kept_by (committed m owner txn (commit_timestamp m t interval) t) (rises_last (coordinator_slot t.prepared) (commit_timestamp m t interval))
        (λ i b h k all. all_changed (IsAbove s i) (is_transaction owner txn) (with_decision (decision.Committed (commit_timestamp m t interval))) (λ u above. above) m.transactions all)
        (changes_at-more schema root m.log (commit_of (commit_timestamp m t interval) t) s (commit_apart owner txn interval t found accepted));
    aborts = λ owner txn interval t found open_still. kept_by (aborted m owner txn t) (rises_same m.slots)
        (λ i b h k all. one_or_other (AllByRecursion (IsAbove s i)) (length t.prepared == 0) _ _ (all_without (IsAbove s i) (is_transaction owner txn) m.transactions all)
        (all_changed (IsAbove s i) (is_transaction owner txn) (with_decision decision.Aborted) (λ u above. above) m.transactions all))
        refl;
    applies = λ owner txn slot interval t slot_state found here accepted. applied_keeps t.decision owner txn slot t;
    advances = λ slot interval slot_state here. kept_by (advanced m slot interval slot_state) (rises_set m.slots slot slot_state (record slot_state { floor = max slot_state.floor interval.latest }) here (omega arith) (λ _ k. k)) (λ i b h k all. all) refl;
    trims = λ slot horizon slot_state here accepted. kept_by (trimmed schema m slot horizon slot_state) (rises_set m.slots slot slot_state (with_horizon horizon slot_state) here (omega arith) (λ _ k. k)) (λ i b h k all. all) refl;
    opens = λ text params bound interval asked is accepted. kept_by (opened schema m text params asked (timestamp_of bound interval)) (rises_same m.slots) (λ i b h k all. all) refl;
    finds_nothing = λ query leaf slot interval. kept_as_is (reply.Nothing, m) refl;
    scans = λ query leaf slot interval q slot_state l part found here at gap above safe.
        kept_by (reply.Scanned, record (with_slot_state m slot (with_risen_floor slot_state q.s interval)) { queries = changed_first (is_query query) (cover leaf part) m.queries }) (rises_risen slot q.s interval slot_state here) (λ i b h k all. all) refl;
    waits = λ query leaf slot interval q slot_state found here. kept_by (Refused refusal.NotYet, with_slot_state m slot (with_risen_floor slot_state q.s interval)) (rises_risen slot q.s interval slot_state here) (λ i b h k all. all) refl;
    finishes = λ query q found covered. kept_as_is (answer_on q.s (meaning schema m q), m) refl;
    closes = λ query q found. kept_by (closed m query q) (rises_same m.slots) (λ i b h k all. all) refl;
    splits = λ table key code slot slot_state keyed home here accepted. kept_from (from_cut (length m.slots) slot) (split_in_two m slot code slot_state) (rises_cut m.slots slot slot_state code here (found_has m.slots code slot slot_state home here))
        (λ i b h k above. above_cut s (length m.slots) slot i m.transactions holding above) refl;
  }

  -- no step changes what is sealed
  pub answer_keeps : (u : Result Statement Refusal) (step : Step) → Keeps schema root s m (answer schema m u step)
  answer_keeps u step = answer_by schema m u (λ x a. Keeps schema root s m a) (keeps_ends u) step
