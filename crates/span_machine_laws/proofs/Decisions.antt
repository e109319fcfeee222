-- A transaction is decided once: the log has no commit of its number but the one that its decision says.
use Rattle.std.proofs.Common.{◌≡◌, ◌≢◌, ℕ, ◌<◌, ◌+◌, Bool, true, false, cond, ◌==◌, List, [], ◌∷◌, ◌++◌, length, Some, refl, ap, sym, subst, inl, inr, arith}
use Rattle.std.specs.Prelude.{slice_get, find, nat_le, Result}
use Rattle.std.specs.List.{AllByRecursion}
use Rattle.std.proofs.lemmas.Bool.{both_ways}
use Rattle.span_schema.specs.declared.table.Table.{Table}
use Rattle.span_value.specs.declared.refusal.Refusal.{Refusal}
use Rattle.span_value.proofs.Lists.{all_push, all_weaker}
use Rattle.span_query.specs.declared.query.Statement.{Statement}
use Rattle.span_truetime.specs.Limits.{timestamp_end}
use Rattle.span_machine.specs.declared.step.Step.{Step}
use Rattle.span_machine.specs.declared.step.Reply.{Reply}
use Rattle.span_machine.specs.declared.transaction.Commit.{Commit}
use Rattle.span_machine.specs.declared.transaction.OpenTransaction.{OpenTransaction}
use Rattle.span_machine.specs.declared.transaction.Decision.{Decision}
use Rattle.span_machine.specs.declared.transaction.Decision.TheVariants as decision
use Rattle.span_machine.specs.declared.transaction.Decision.TheVariants.{Committed}
use Rattle.span_machine.specs.Machine.{Machine, Understanding, IsStep, answer, start, changed_first, without_first, is_no_decision, is_undecided, is_transaction, is_all_prepared, with_decision, add_prepared, prepare_timestamp, commit_timestamp, commit_of, committed, without_prepared, applied_at}
use Rattle.span_machine_laws.proofs.Causes.{may_commit}
use Rattle.span_machine_laws.proofs.Lists.{IsIn, all_changed, all_changed_found, all_without, all_found, all_places, all_both, changed_in}
use Rattle.span_machine_laws.proofs.Numbers.{IsNumbered, HaveRisingNumbers, rising_numbers_changed, same_place, answer_numbered, start_numbered}
use Rattle.span_machine_laws.proofs.Walks.{Ends, answer_by}

-- the log's commits of the transaction's number are what its decision says
abbrev pub IsDecidedBy : List Commit → OpenTransaction → Type 0
IsDecidedBy log t = AllByRecursion (λ c. c.number ≡ t.number → t.decision ≡ Committed c.timestamp) log

-- so it is for every open transaction, and no commit has a number that is yet to be given
pub record HasDecisions (m : Machine) : Type 0 where
  pub decided : AllByRecursion (IsDecidedBy m.log) m.transactions
  pub below : AllByRecursion (λ c. c.number < m.next_transaction) m.log

-- the numbers of transactions are each given once, and each is decided once
pub record IsOrderly (m : Machine) : Type 0 where
  pub numbered : IsNumbered m
  pub decisions : HasDecisions m

-- ---- small facts

-- an undecided transaction is not committed
not_committed : (o : Decision) (ts : ℕ) → is_no_decision o ≡ true → o ≡ Committed ts → ⊥
not_committed o ts still is = let e : is_no_decision o ≡ false = ap is_no_decision is in both_ways (is_no_decision o) e still

-- the log has no commit of an undecided transaction
pub none_decided : (log : List Commit) (t : OpenTransaction) → is_undecided t ≡ true → IsDecidedBy log t → AllByRecursion (λ c. c.number ≢ t.number) log
none_decided log t still all = all_weaker (λ (c : Commit). c.number ≡ t.number → t.decision ≡ Committed c.timestamp) (λ c. c.number ≢ t.number) (λ c is e. not_committed t.decision c.timestamp still (is e)) log all

-- with no commit of its number, any decision is as the log says
undecided_by : (log : List Commit) (t : OpenTransaction) (o : Decision) → AllByRecursion (λ c. c.number ≢ t.number) log → IsDecidedBy log (with_decision o t)
undecided_by log t o none = all_weaker (λ (c : Commit). c.number ≢ t.number) (λ c. c.number ≡ t.number → o ≡ Committed c.timestamp) (λ c other e. absurd (other e)) log none

-- ---- the steps

module _ (schema : List Table) (m : Machine) (numbered : IsNumbered m) (has : HasDecisions m) where
  -- the same log, and one transaction changed, but for its number and its decision
  decisions_changed : (n : Machine) (test : OpenTransaction → Bool) (change : OpenTransaction → OpenTransaction) → ((t : OpenTransaction) → IsDecidedBy m.log t → IsDecidedBy m.log (change t))
      → n.transactions ≡ changed_first test change m.transactions → n.log ≡ m.log → n.next_transaction ≡ m.next_transaction → HasDecisions n
  decisions_changed n test change keeps e f g = record {
    decided = subst (λ ts. AllByRecursion (IsDecidedBy n.log) ts) (sym e) (subst (λ l. AllByRecursion (IsDecidedBy l) (changed_first test change m.transactions)) (sym f) (all_changed (IsDecidedBy m.log) test change keeps m.transactions has.decided));
    below = subst (λ l. AllByRecursion (λ c. c.number < n.next_transaction) l) (sym f) (subst (λ k. AllByRecursion (λ c. c.number < k) m.log) (sym g) has.below);
  }

  -- the same log and transactions
  decisions_same : (n : Machine) → n.transactions ≡ m.transactions → n.log ≡ m.log → n.next_transaction ≡ m.next_transaction → HasDecisions n
  decisions_same n e f g = record {
    decided = subst (λ ts. AllByRecursion (IsDecidedBy n.log) ts) (sym e) (subst (λ l. AllByRecursion (IsDecidedBy l) m.transactions) (sym f) has.decided);
    below = subst (λ l. AllByRecursion (λ c. c.number < n.next_transaction) l) (sym f) (subst (λ k. AllByRecursion (λ c. c.number < k) m.log) (sym g) has.below);
  }

  -- one transaction changed or removed
  either_decided : (b : Bool) (test : OpenTransaction → Bool) (change : OpenTransaction → OpenTransaction) (t : OpenTransaction) → find test m.transactions ≡ Some t → IsDecidedBy m.log (change t)
      → AllByRecursion (IsDecidedBy m.log) (cond b (without_first test m.transactions) (changed_first test change m.transactions))
  either_decided true test change t found is = all_without (IsDecidedBy m.log) test m.transactions has.decided
  either_decided false test change t found is = all_changed_found (IsDecidedBy m.log) test change m.transactions t found is has.decided

  decisions_applied : (o : Decision) (owner txn slot : ℕ) (t : OpenTransaction) → find (is_transaction owner txn) m.transactions ≡ Some t → HasDecisions (applied_at o m owner txn slot t).1
  decisions_applied decision.Undecided owner txn slot t found = has
  decisions_applied decision.Aborted owner txn slot t found = record {
    decided = either_decided (length (without_prepared slot t).prepared == 0) (is_transaction owner txn) (without_prepared slot) t found (all_found (IsDecidedBy m.log) (is_transaction owner txn) m.transactions t found has.decided);
    below = has.below;
  }
  decisions_applied (Committed ts) owner txn slot t found = record {
    decided = either_decided (length (without_prepared slot t).prepared == 0) (is_transaction owner txn) (without_prepared slot) t found (all_found (IsDecidedBy m.log) (is_transaction owner txn) m.transactions t found has.decided);
    below = has.below;
  }

  -- what has the number of the transaction that is committed is that transaction
  committed_itself : (owner txn ts : ℕ) (t : OpenTransaction) → find (is_transaction owner txn) m.transactions ≡ Some t → (u : OpenTransaction) → IsIn u (changed_first (is_transaction owner txn) (with_decision (Committed ts)) m.transactions)
      → t.number ≡ u.number → u.decision ≡ Committed ts
  committed_itself owner txn ts t found u at e =
      let us : List OpenTransaction = changed_first (is_transaction owner txn) (with_decision (Committed ts)) m.transactions in
      let up : HaveRisingNumbers us = rising_numbers_changed (is_transaction owner txn) (with_decision (Committed ts)) (λ _. refl) m.transactions numbered.rising in
      let there : IsIn (with_decision (Committed ts) t) us = changed_in (is_transaction owner txn) (with_decision (Committed ts)) m.transactions t found in
      let place : at.0 ≡ there.0 = same_place us at.0 there.0 u (with_decision (Committed ts) t) up at.1 there.1 (sym e) in
      let again : slice_get us there.0 ≡ Some u = subst (λ i. slice_get us i ≡ Some u) place at.1 in
      let same : u ≡ with_decision (Committed ts) t = cc (again, there.1) in
      ap (λ (v : OpenTransaction). v.decision) same

  decisions_committed : (owner txn ts : ℕ) (t : OpenTransaction) → find (is_transaction owner txn) m.transactions ≡ Some t → is_undecided t ≡ true → HasDecisions (committed m owner txn ts t).1
  decisions_committed owner txn ts t found still =
      let us : List OpenTransaction = changed_first (is_transaction owner txn) (with_decision (Committed ts)) m.transactions in
      let none : AllByRecursion (λ (c : Commit). c.number ≢ t.number) m.log = none_decided m.log t still (all_found (IsDecidedBy m.log) (is_transaction owner txn) m.transactions t found has.decided) in
      let old : AllByRecursion (IsDecidedBy m.log) us = all_changed_found (IsDecidedBy m.log) (is_transaction owner txn) (with_decision (Committed ts)) m.transactions t found (undecided_by m.log t (Committed ts) none) has.decided in
      let now : AllByRecursion (λ (u : OpenTransaction). t.number ≡ u.number → u.decision ≡ Committed ts) us = all_places (λ (u : OpenTransaction). t.number ≡ u.number → u.decision ≡ Committed ts) us (committed_itself owner txn ts t found) in
      record {
        decided = all_both (IsDecidedBy m.log) (λ (u : OpenTransaction). t.number ≡ u.number → u.decision ≡ Committed ts) (IsDecidedBy (m.log ++ commit_of ts t ∷ []))
            (λ u before itself. all_push (λ (c : Commit). c.number ≡ u.number → u.decision ≡ Committed c.timestamp) m.log (commit_of ts t) before itself) us old now;
        below = all_push (λ (c : Commit). c.number < m.next_transaction) m.log (commit_of ts t) has.below (all_found (λ (u : OpenTransaction). u.number < m.next_transaction) (is_transaction owner txn) m.transactions t found numbered.below);
      }

  decisions_ends : (u : Result Statement Refusal) → Ends schema m u (λ step a. HasDecisions a.1)
  decisions_ends u = record {
    refuses = λ step why may. has;
    begins = λ owner ms accepted. record {
      decided = all_push (IsDecidedBy m.log) m.transactions (record { owner = owner; number = m.next_transaction; mutations = ms; decision = decision.Undecided; prepared = [] }) has.decided
          (all_weaker (λ (c : Commit). c.number < m.next_transaction) (λ c. c.number ≡ m.next_transaction → decision.Undecided ≡ Committed c.timestamp) (λ c low e. absurd (omega arith)) m.log has.below);
      below = all_weaker (λ (c : Commit). c.number < m.next_transaction) (λ c. c.number < m.next_transaction + 1) (λ c low. omega arith) m.log has.below;
    };
    prepares = λ owner txn slot t slot_state found here accepted well fits low. decisions_changed _ (is_transaction owner txn) (add_prepared slot (prepare_timestamp slot_state)) (λ t is. is) refl refl refl;
    commits = λ owner txn interval t found accepted.
        decisions_committed owner txn (commit_timestamp m t interval) t found (may_commit (is_undecided t) (is_all_prepared schema m t) (nat_le timestamp_end (commit_timestamp m t interval)) accepted).0;
    aborts = λ owner txn interval t found still. record {
      decided = either_decided (length t.prepared == 0) (is_transaction owner txn) (with_decision decision.Aborted) t found
          (undecided_by m.log t decision.Aborted (none_decided m.log t still (all_found (IsDecidedBy m.log) (is_transaction owner txn) m.transactions t found has.decided)));
      below = has.below;
    };
    applies = λ owner txn slot interval t slot_state found here accepted. decisions_applied t.decision owner txn slot t found;
    advances = λ slot interval slot_state here. decisions_same _ refl refl refl;
    trims = λ slot h slot_state here accepted. decisions_same _ refl refl refl;
    opens = λ text params bound interval asked is accepted. decisions_same _ refl refl refl;
    finds_nothing = λ query leaf slot interval. has;
    scans = λ query leaf slot interval q slot_state l part found here at gap above safe. decisions_same _ refl refl refl;
    waits = λ query leaf slot interval q slot_state found here. decisions_same _ refl refl refl;
    finishes = λ query q found covered. has;
    closes = λ query q found. decisions_same _ refl refl refl;
    splits = λ table key code slot slot_state keyed home here accepted. decisions_same _ refl refl refl;
  }

-- every step keeps the decisions
answer_orderly : (schema : List Table) (m : Machine) (u : Result Statement Refusal) → IsOrderly m → (step : Step) → IsOrderly (answer schema m u step).1
answer_orderly schema m u orderly step = record {
  numbered = answer_numbered schema m u orderly.numbered step;
  decisions = answer_by schema m u (λ s a. HasDecisions a.1) (decisions_ends schema m orderly.numbered orderly.decisions u) step;
}

-- one step, out of memory included
pub step_orderly : (understands : Understanding) (schema : List Table) (m : Machine) (step : Step) (r : Reply) (next : Machine) → IsStep understands schema m step r next → IsOrderly m → IsOrderly next
step_orderly understands schema m step r next (inl e) orderly = subst IsOrderly (sym e.2.1) (answer_orderly schema m e.0 orderly step)
step_orderly understands schema m step r next (inr e) orderly = subst IsOrderly (sym e.1.1) orderly

pub start_orderly : IsOrderly start
start_orderly = record { numbered = start_numbered; decisions = record { decided = tt; below = tt } }
