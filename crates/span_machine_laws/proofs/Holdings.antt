use Rattle.std.proofs.Common.{◌≡◌, ℕ, ◌<◌, ◌≤◌, max, suc, Bool, true, false, cond, not, ◌==◌, List, [], ◌∷◌, ◌++◌, length, Some, None, refl, sym, subst, arith}
use Rattle.std.specs.Prelude.{slice_get, slice_set, filter}
use Rattle.std.specs.List.{AllByRecursion, list_any}
use Rattle.std.proofs.lemmas.Bool.Decides.{nat_tests}
use Rattle.std.proofs.lemmas.Option.{slice_get_within}
use Rattle.std.proofs.lemmas.List.{length-set}
use Rattle.span_machine.specs.declared.slot.SlotState.{SlotState}
use Rattle.span_machine.specs.declared.step.Step.{Step}
use Rattle.span_machine.specs.declared.transaction.OpenTransaction.{OpenTransaction}
use Rattle.span_machine.specs.declared.transaction.Decision.{Decision}
use Rattle.span_machine.specs.declared.transaction.Decision.TheVariants as decision
use Rattle.span_machine.specs.declared.transaction.Prepared.{Prepared}
use Rattle.span_machine.specs.Machine.{Machine, Answer, answer, start, if_some, is_transaction, is_undecided, is_prepared_at, has_conflict, mutations_in, changed_first, without_first, with_last, with_decision, add_prepared, prepare_timestamp, greatest, commit_timestamp, coordinator_slot, without_prepared, applied_at}
use Rattle.span_machine_laws.proofs.Causes.{may_prepare, undecided_is}
use Rattle.span_machine_laws.proofs.Lists.{all_changed, all_without, all_found, all_changed_found}
use Rattle.span_machine_laws.proofs.Splits.{split_length}
use Rattle.span_machine_laws.proofs.Walks.{Ends, answer_by}
use Rattle.span_schema.specs.declared.table.Table.{Table}
use Rattle.span_value.specs.declared.refusal.Refusal.{Refusal}
use Rattle.span_query.specs.declared.query.Statement.{Statement}
use Rattle.std.specs.Prelude.{Result}
use Rattle.std.proofs.lemmas.Bool.{or_parts, or_from}
use Rattle.span_value.proofs.Lists.{all_filter, all_push, all_weaker}

-- ---- how many slots there are

pub last_length : (slots : List SlotState) (slot ts : ℕ) → length (with_last slots slot ts) ≡ length slots
last_length slots slot ts = elim (slice_get slots slot) as (λ o. length (if_some o slots (λ slot_state. slice_set slots slot (record slot_state { last = max slot_state.last ts }))) ≡ length slots) [
  | None ↦ refl
  | Some slot_state ↦ length-set slots slot (record slot_state { last = max slot_state.last ts })
]

slots_applied : (m : Machine) (o : Decision) (owner txn slot : ℕ) (t : OpenTransaction) → length (applied_at o m owner txn slot t).1.slots ≡ length m.slots
slots_applied m decision.Undecided owner txn slot t = refl
slots_applied m decision.Aborted owner txn slot t = refl
slots_applied m (decision.Committed ts) owner txn slot t = last_length m.slots slot ts

slots_ends : (schema : List Table) (m : Machine) (u : Result Statement Refusal) → Ends schema m u (λ step a. length m.slots ≤ length a.1.slots)
slots_ends schema m u = record {
  refuses = λ step why may. omega arith;
  begins = λ owner ms accepted. omega arith;
  prepares = λ owner txn slot t slot_state found here accepted well fits low. as_many (length-set m.slots slot _);
  commits = λ owner txn interval t found accepted. as_many (last_length m.slots (coordinator_slot t.prepared) (commit_timestamp m t interval));
  aborts = λ owner txn interval t found open_still. omega arith;
  applies = λ owner txn slot interval t slot_state found here accepted. as_many (slots_applied m t.decision owner txn slot t);
  advances = λ slot interval slot_state here. as_many (length-set m.slots slot _);
  trims = λ slot h slot_state here accepted. as_many (length-set m.slots slot _);
  opens = λ text params bound interval asked is accepted. omega arith;
  finds_nothing = λ query leaf slot interval. omega arith;
  scans = λ query leaf slot interval q slot_state l part found here at gap above safe. as_many (length-set m.slots slot _);
  waits = λ query leaf slot interval q slot_state found here. as_many (length-set m.slots slot _);
  finishes = λ query q found covered. omega arith;
  closes = λ query q found. omega arith;
  splits = λ table key code slot slot_state keyed home here accepted. one_more (split_length m.slots slot _ _);
}
  where
    as_many : {n k : ℕ} → k ≡ n → n ≤ k
    as_many e = omega (arith, e)

    one_more : {n k : ℕ} → k ≡ suc n → n ≤ k
    one_more e = omega (arith, e)

-- no step removes a slot
pub answer_slots : (schema : List Table) (m : Machine) (u : Result Statement Refusal) (step : Step) → length m.slots ≤ length (answer schema m u step).1.slots
answer_slots schema m u step = answer_by schema m u (λ s a. length m.slots ≤ length a.1.slots) (slots_ends schema m u) step

-- ---- where a transaction is prepared

-- no prepare timestamp is above that of the commit
abbrev pub IsUpto : Decision → List Prepared → Type 0
IsUpto (decision.Committed ts) ps = AllByRecursion (λ p. p.timestamp ≤ ts) ps
IsUpto decision.Undecided ps = Unit {0}
IsUpto decision.Aborted ps = Unit {0}

-- no slot is there twice
abbrev pub AreApart : List Prepared → Type 0
AreApart [] = Unit {0}
AreApart (p ∷ ps) = AllByRecursion (λ q. (p.slot == q.slot) ≡ false) ps × AreApart ps

-- prepared at slots that there are, once at each, and not above its commit
pub record IsHolding (slots : ℕ) (t : OpenTransaction) : Type 0 where
  pub timely : IsUpto t.decision t.prepared
  pub apart : AreApart t.prepared
  pub within : AllByRecursion (λ p. p.slot < slots) t.prepared

-- every open transaction is so
abbrev pub AreHolding : Machine → Type 0
AreHolding m = AllByRecursion (IsHolding (length m.slots)) m.transactions

pub greatest_all : (ps : List Prepared) → AllByRecursion (λ p. p.timestamp ≤ greatest ps) ps
greatest_all [] = tt
greatest_all (p ∷ ps) = (omega arith, all_weaker (λ q. q.timestamp ≤ greatest ps) (λ q. q.timestamp ≤ max p.timestamp (greatest ps)) (λ q low. omega arith) ps (greatest_all ps))

-- not prepared at a slot
pub none_prepared : (slot : ℕ) (ps : List Prepared) → list_any (λ p. p.slot == slot) ps ≡ false → AllByRecursion (λ p. (p.slot == slot) ≡ false) ps
none_prepared slot [] e = tt
none_prepared slot (p ∷ ps) e = ((or_parts (p.slot == slot) (list_any (λ p. p.slot == slot) ps) e).0, none_prepared slot ps (or_parts (p.slot == slot) (list_any (λ p. p.slot == slot) ps) e).1)

pub apart_push : (ps : List Prepared) (p : Prepared) → AreApart ps → AllByRecursion (λ q. (q.slot == p.slot) ≡ false) ps → AreApart (ps ++ p ∷ [])
apart_push [] p apart off = (tt, tt)
apart_push (q ∷ qs) p apart off = (all_push (λ r. (q.slot == r.slot) ≡ false) qs p apart.0 off.0, apart_push qs p apart.1 off.1)

pub apart_filtered : (test : Prepared → Bool) (ps : List Prepared) → AreApart ps → AreApart (filter test ps)
apart_filtered test [] apart = tt
apart_filtered test (p ∷ ps) apart = elim (test p) as (λ b. AreApart (cond b (p ∷ filter test ps) (filter test ps))) [
  | true ↦ (all_filter (λ q. (p.slot == q.slot) ≡ false) test ps apart.0, apart_filtered test ps apart.1)
  | false ↦ apart_filtered test ps apart.1
]

upto_filtered : (o : Decision) (test : Prepared → Bool) (ps : List Prepared) → IsUpto o ps → IsUpto o (filter test ps)
upto_filtered decision.Undecided test ps low = tt
upto_filtered decision.Aborted test ps low = tt
upto_filtered (decision.Committed ts) test ps low = all_filter (λ p. p.timestamp ≤ ts) test ps low

-- where there are more slots
holding_more : (n k : ℕ) → n ≤ k → (t : OpenTransaction) → IsHolding n t → IsHolding k t
holding_more n k low t h = record {
  timely = h.timely;
  apart = h.apart;
  within = all_weaker (λ (p : Prepared). p.slot < n) (λ (p : Prepared). p.slot < k) (λ p within. omega arith) t.prepared h.within;
}

-- nothing is prepared at a slot that there is not
pub none_beyond : (n : ℕ) (ts : List OpenTransaction) → AllByRecursion (IsHolding n) ts → list_any (is_prepared_at n) ts ≡ false
none_beyond n [] all = refl
none_beyond n (t ∷ ts) all = or_from (is_prepared_at n t) (list_any (is_prepared_at n) ts) (not_there t.prepared all.0.within) (none_beyond n ts all.1)
  where
    not_there : (ps : List Prepared) → AllByRecursion (λ (p : Prepared). p.slot < n) ps → list_any (λ p. p.slot == n) ps ≡ false
    not_there [] low = refl
    not_there (p ∷ ps) low = or_from (p.slot == n) (list_any (λ p. p.slot == n) ps) (other p.slot low.0) (not_there ps low.1)
      where
        other : (k : ℕ) → k < n → (k == n) ≡ false
        other k less = grind (arith, nat_tests)

-- ---- the steps

module _ (schema : List Table) (m : Machine) (holding : AreHolding m) where
  abbrev Holds : Step → Answer → Type 0
  Holds step a = AllByRecursion (IsHolding (length m.slots)) a.1.transactions

  left_holding : (slot : ℕ) (t : OpenTransaction) → IsHolding (length m.slots) t → IsHolding (length m.slots) (without_prepared slot t)
  left_holding slot t h = record {
    timely = upto_filtered t.decision (λ p. not (p.slot == slot)) t.prepared h.timely;
    apart = apart_filtered (λ p. not (p.slot == slot)) t.prepared h.apart;
    within = all_filter (λ p. p.slot < length m.slots) (λ p. not (p.slot == slot)) t.prepared h.within;
  }

  one_of : (b : Bool) (test : OpenTransaction → Bool) (change : OpenTransaction → OpenTransaction) → ((t : OpenTransaction) → IsHolding (length m.slots) t → IsHolding (length m.slots) (change t))
      → AllByRecursion (IsHolding (length m.slots)) (cond b (without_first test m.transactions) (changed_first test change m.transactions))
  one_of true test change keeps = all_without (IsHolding (length m.slots)) test m.transactions holding
  one_of false test change keeps = all_changed (IsHolding (length m.slots)) test change keeps m.transactions holding

  holding_applied : (o : Decision) (owner txn slot : ℕ) (t : OpenTransaction) → AllByRecursion (IsHolding (length m.slots)) (applied_at o m owner txn slot t).1.transactions
  holding_applied decision.Undecided owner txn slot t = holding
  holding_applied decision.Aborted owner txn slot t = one_of (length (without_prepared slot t).prepared == 0) (is_transaction owner txn) (without_prepared slot) (left_holding slot)
  holding_applied (decision.Committed ts) owner txn slot t = one_of (length (without_prepared slot t).prepared == 0) (is_transaction owner txn) (without_prepared slot) (left_holding slot)

  holding_ends : (u : Result Statement Refusal) → Ends schema m u Holds
  holding_ends u = record {
    refuses = λ step why may. holding;
    begins = λ owner ms accepted. all_push (IsHolding (length m.slots)) m.transactions (record { owner = owner; number = m.next_transaction; mutations = ms; decision = decision.Undecided; prepared = [] }) holding (record { timely = tt; apart = tt; within = tt });
    prepares = λ owner txn slot t slot_state found here accepted well fits low.
        let may = may_prepare (is_undecided t) (is_prepared_at slot t) (length (mutations_in schema slot_state t.mutations) == 0) (has_conflict schema m slot (mutations_in schema slot_state t.mutations)) accepted in
        let old = all_found (IsHolding (length m.slots)) (is_transaction owner txn) m.transactions t found holding in
        let p : Prepared = record { slot = slot; timestamp = prepare_timestamp slot_state } in
        all_changed_found (IsHolding (length m.slots)) (is_transaction owner txn) (add_prepared slot (prepare_timestamp slot_state)) m.transactions t found (record {
          timely = subst (λ o. IsUpto o (t.prepared ++ (record { slot = slot; timestamp = prepare_timestamp slot_state }) ∷ [])) (sym (undecided_is t.decision may.0)) tt;
          apart = apart_push t.prepared (record { slot = slot; timestamp = prepare_timestamp slot_state }) old.apart (none_prepared slot t.prepared may.1);
          within = all_push (λ p. p.slot < length m.slots) t.prepared (record { slot = slot; timestamp = prepare_timestamp slot_state }) old.within (slice_get_within m.slots slot slot_state here);
        }) holding;
    commits = λ owner txn interval t found accepted.
        let old = all_found (IsHolding (length m.slots)) (is_transaction owner txn) m.transactions t found holding in
        all_changed_found (IsHolding (length m.slots)) (is_transaction owner txn) (with_decision (decision.Committed (commit_timestamp m t interval))) m.transactions t found (record {
          timely = all_weaker (λ p. p.timestamp ≤ greatest t.prepared) (λ p. p.timestamp ≤ commit_timestamp m t interval) (λ p low. omega arith) t.prepared (greatest_all t.prepared);
          apart = old.apart;
          within = old.within;
        }) holding;
    aborts = λ owner txn interval t found open_still. one_of (length t.prepared == 0) (is_transaction owner txn) (with_decision decision.Aborted) (λ u h. record { timely = tt; apart = h.apart; within = h.within });
    applies = λ owner txn slot interval t slot_state found here accepted. holding_applied t.decision owner txn slot t;
    advances = λ slot interval slot_state here. holding;
    trims = λ slot h slot_state here accepted. holding;
    opens = λ text params bound interval asked is accepted. holding;
    finds_nothing = λ query leaf slot interval. holding;
    scans = λ query leaf slot interval q slot_state l part found here at gap above safe. holding;
    waits = λ query leaf slot interval q slot_state found here. holding;
    finishes = λ query q found covered. holding;
    closes = λ query q found. holding;
    splits = λ table key code slot slot_state keyed home here accepted. holding;
  }

-- every step keeps where transactions are prepared
pub answer_holding : (schema : List Table) (m : Machine) (u : Result Statement Refusal) → AreHolding m → (step : Step) → AreHolding (answer schema m u step).1
answer_holding schema m u holding step =
    all_weaker (IsHolding (length m.slots)) (IsHolding (length (answer schema m u step).1.slots)) (holding_more (length m.slots) (length (answer schema m u step).1.slots) (answer_slots schema m u step)) (answer schema m u step).1.transactions
    (answer_by schema m u (λ s a. AllByRecursion (IsHolding (length m.slots)) a.1.transactions) (holding_ends schema m holding u) step)

pub start_holding : AreHolding start
start_holding = tt
