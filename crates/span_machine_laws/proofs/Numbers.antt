use Rattle.std.proofs.Common.{◌≡◌, ℕ, ◌<◌, ◌+◌, zero, suc, Bool, true, false, cond, ◌==◌, List, [], ◌∷◌, ◌++◌, length, Some, refl, ap, sym, subst, arith}
use Rattle.std.specs.Prelude.{slice_get}
use Rattle.std.specs.List.{AllByRecursion}
use Rattle.span_machine.specs.declared.step.Step.{Step}
use Rattle.span_machine.specs.declared.transaction.OpenTransaction.{OpenTransaction}
use Rattle.span_machine.specs.declared.transaction.Decision.{Decision}
use Rattle.span_machine.specs.declared.transaction.Decision.TheVariants as decision
use Rattle.span_machine.specs.Machine.{Machine, answer, start, changed_first, without_first, is_transaction, with_decision, add_prepared, prepare_timestamp, commit_timestamp, without_prepared, applied_at}
use Rattle.span_machine_laws.proofs.Lists.{IsIn, all_changed, all_without}
use Rattle.span_machine_laws.proofs.Walks.{Ends, answer_by}
use Rattle.span_schema.specs.declared.table.Table.{Table}
use Rattle.span_value.specs.declared.refusal.Refusal.{Refusal}
use Rattle.span_query.specs.declared.query.Statement.{Statement}
use Rattle.std.specs.Prelude.{Result}
use Rattle.span_value.proofs.Lists.{all_push, all_weaker, all_found_at}

-- ---- numbers that rise

abbrev pub HaveRisingNumbers : List OpenTransaction → Type 0
HaveRisingNumbers [] = Unit {0}
HaveRisingNumbers (t ∷ ts) = AllByRecursion (λ u. t.number < u.number) ts × HaveRisingNumbers ts

abbrev pub AreBelow : ℕ → List OpenTransaction → Type 0
AreBelow n ts = AllByRecursion (λ t. t.number < n) ts

-- the change leaves the number
abbrev pub KeepsNumber : (OpenTransaction → OpenTransaction) → Type 0
KeepsNumber change = (t : OpenTransaction) → (change t).number ≡ t.number

pub rising_numbers_push : (n : ℕ) (ts : List OpenTransaction) (t : OpenTransaction) → t.number ≡ n → HaveRisingNumbers ts → AreBelow n ts → HaveRisingNumbers (ts ++ t ∷ [])
rising_numbers_push n [] t e up low = (tt, tt)
rising_numbers_push n (u ∷ us) t e up low = (all_push (λ v. u.number < v.number) us t up.0 (let h = low.0 in omega arith), rising_numbers_push n us t e up.1 low.1)

pub rising_numbers_changed : (test : OpenTransaction → Bool) (change : OpenTransaction → OpenTransaction) → KeepsNumber change → (ts : List OpenTransaction) → HaveRisingNumbers ts → HaveRisingNumbers (changed_first test change ts)
rising_numbers_changed test change same [] up = tt
rising_numbers_changed test change same (t ∷ ts) up = elim (test t) as (λ b. HaveRisingNumbers (cond b (change t ∷ ts) (t ∷ changed_first test change ts))) [
  | true ↦ (subst (λ n. AllByRecursion (λ u. n < u.number) ts) (sym (same t)) up.0, up.1)
  | false ↦ (all_changed (λ u. t.number < u.number) test change (λ u low. subst (λ n. t.number < n) (sym (same u)) low) ts up.0, rising_numbers_changed test change same ts up.1)
]

pub rising_numbers_without : (test : OpenTransaction → Bool) (ts : List OpenTransaction) → HaveRisingNumbers ts → HaveRisingNumbers (without_first test ts)
rising_numbers_without test [] up = tt
rising_numbers_without test (t ∷ ts) up = elim (test t) as (λ b. HaveRisingNumbers (cond b ts (t ∷ without_first test ts))) [
  | true ↦ up.1
  | false ↦ (all_without (λ u. t.number < u.number) test ts up.0, rising_numbers_without test ts up.1)
]

-- ---- the invariant

-- the numbers of the open transactions rise along the list, and the next one is above them
pub record IsNumbered (m : Machine) : Type 0 where
  pub rising : HaveRisingNumbers m.transactions
  pub below : AreBelow m.next_transaction m.transactions

-- the place of a number is one
pub same_place : (ts : List OpenTransaction) (i j : ℕ) (t u : OpenTransaction) → HaveRisingNumbers ts → slice_get ts i ≡ Some t → slice_get ts j ≡ Some u → t.number ≡ u.number → i ≡ j
same_place [] i j t u up at there e = cc
same_place (v ∷ vs) zero zero t u up at there e = refl
same_place (v ∷ vs) zero (suc j) t u up at there e =
    let low = all_found_at (λ w. v.number < w.number) vs j u there up.0 in
    let same : v.number ≡ t.number = (let is : v ≡ t = cc in ap (λ (w : OpenTransaction). w.number) is) in
    absurd (omega arith)
same_place (v ∷ vs) (suc i) zero t u up at there e =
    let low = all_found_at (λ w. v.number < w.number) vs i t at up.0 in
    let same : v.number ≡ u.number = (let is : v ≡ u = cc in ap (λ (w : OpenTransaction). w.number) is) in
    absurd (omega arith)
same_place (v ∷ vs) (suc i) (suc j) t u up at there e = ap suc (same_place vs i j t u up.1 at there e)

-- open transactions of one number are one
pub same_number : (m : Machine) → IsNumbered m → (t u : OpenTransaction) → IsIn t m.transactions → IsIn u m.transactions → t.number ≡ u.number → t ≡ u
same_number m numbered t u at there e =
    let same : at.0 ≡ there.0 = same_place m.transactions at.0 there.0 t u numbered.rising at.1 there.1 e in
    let again : slice_get m.transactions there.0 ≡ Some t = subst (λ i. slice_get m.transactions i ≡ Some t) same at.1 in
    cc (again, there.1)

module _ (schema : List Table) (m : Machine) (numbered : IsNumbered m) where
  -- the same transactions and next number
  numbered_same : (n : Machine) → n.transactions ≡ m.transactions → n.next_transaction ≡ m.next_transaction → IsNumbered n
  numbered_same n e f = record {
    rising = subst HaveRisingNumbers (sym e) numbered.rising;
    below = subst (λ ts. AreBelow n.next_transaction ts) (sym e) (subst (λ k. AreBelow k m.transactions) (sym f) numbered.below);
  }

  -- one transaction changed, but for its number
  numbered_changed : (n : Machine) (test : OpenTransaction → Bool) (change : OpenTransaction → OpenTransaction) → KeepsNumber change → n.transactions ≡ changed_first test change m.transactions → n.next_transaction ≡ m.next_transaction → IsNumbered n
  numbered_changed n test change same e f = record {
    rising = subst HaveRisingNumbers (sym e) (rising_numbers_changed test change same m.transactions numbered.rising);
    below = subst (λ ts. AreBelow n.next_transaction ts) (sym e) (subst (λ k. AreBelow k (changed_first test change m.transactions)) (sym f)
        (all_changed (λ t. t.number < m.next_transaction) test change (λ t low. subst (λ k. k < m.next_transaction) (sym (same t)) low) m.transactions numbered.below));
  }

  -- one transaction removed
  numbered_without : (n : Machine) (test : OpenTransaction → Bool) → n.transactions ≡ without_first test m.transactions → n.next_transaction ≡ m.next_transaction → IsNumbered n
  numbered_without n test e f = record {
    rising = subst HaveRisingNumbers (sym e) (rising_numbers_without test m.transactions numbered.rising);
    below = subst (λ ts. AreBelow n.next_transaction ts) (sym e) (subst (λ k. AreBelow k (without_first test m.transactions)) (sym f) (all_without (λ t. t.number < m.next_transaction) test m.transactions numbered.below));
  }

  -- one transaction changed or removed
  numbered_either : (b : Bool) (n : Machine) (test : OpenTransaction → Bool) (change : OpenTransaction → OpenTransaction) → KeepsNumber change
      → n.transactions ≡ cond b (without_first test m.transactions) (changed_first test change m.transactions) → n.next_transaction ≡ m.next_transaction → IsNumbered n
  numbered_either true n test change same e f = numbered_without n test e f
  numbered_either false n test change same e f = numbered_changed n test change same e f

  numbered_applied : (o : Decision) (owner txn slot : ℕ) (t : OpenTransaction) → IsNumbered (applied_at o m owner txn slot t).1
  numbered_applied decision.Undecided owner txn slot t = numbered
  numbered_applied decision.Aborted owner txn slot t = numbered_either (length (without_prepared slot t).prepared == 0) (applied_at decision.Aborted m owner txn slot t).1 (is_transaction owner txn) (without_prepared slot) (λ _. refl) refl refl
  numbered_applied (decision.Committed ts) owner txn slot t = numbered_either (length (without_prepared slot t).prepared == 0) (applied_at (decision.Committed ts) m owner txn slot t).1 (is_transaction owner txn) (without_prepared slot) (λ _. refl) refl refl

  numbered_ends : (u : Result Statement Refusal) → Ends schema m u (λ step a. IsNumbered a.1)
  numbered_ends u = record {
    refuses = λ step why may. numbered;
    begins = λ owner ms accepted. record {
      rising = rising_numbers_push m.next_transaction m.transactions (record { owner = owner; number = m.next_transaction; mutations = ms; decision = decision.Undecided; prepared = [] }) refl numbered.rising numbered.below;
      below = all_push (λ t. t.number < m.next_transaction + 1) m.transactions (record { owner = owner; number = m.next_transaction; mutations = ms; decision = decision.Undecided; prepared = [] })
          (all_weaker (λ t. t.number < m.next_transaction) (λ t. t.number < m.next_transaction + 1) (λ t low. omega arith) m.transactions numbered.below) (omega arith);
    };
    prepares = λ owner txn slot t slot_state found here accepted well fits low. numbered_changed _ (is_transaction owner txn) (add_prepared slot (prepare_timestamp slot_state)) (λ _. refl) refl refl;
    commits = λ owner txn interval t found accepted. numbered_changed _ (is_transaction owner txn) (with_decision (decision.Committed (commit_timestamp m t interval))) (λ _. refl) refl refl;
    aborts = λ owner txn interval t found open_still. numbered_either (length t.prepared == 0) _ (is_transaction owner txn) (with_decision decision.Aborted) (λ _. refl) refl refl;
    applies = λ owner txn slot interval t slot_state found here accepted. numbered_applied t.decision owner txn slot t;
    advances = λ slot interval slot_state here. numbered_same _ refl refl;
    trims = λ slot h slot_state here accepted. numbered_same _ refl refl;
    opens = λ text params bound interval asked is accepted. numbered_same _ refl refl;
    finds_nothing = λ query leaf slot interval. numbered;
    scans = λ query leaf slot interval q slot_state l part found here at gap above safe. numbered_same _ refl refl;
    waits = λ query leaf slot interval q slot_state found here. numbered_same _ refl refl;
    finishes = λ query q found covered. numbered;
    closes = λ query q found. numbered_same _ refl refl;
    splits = λ table key code slot slot_state keyed home here accepted. numbered_same _ refl refl;
  }

-- every step keeps the numbers
pub answer_numbered : (schema : List Table) (m : Machine) (u : Result Statement Refusal) → IsNumbered m → (step : Step) → IsNumbered (answer schema m u step).1
answer_numbered schema m u numbered step = answer_by schema m u (λ s a. IsNumbered a.1) (numbered_ends schema m numbered u) step

pub start_numbered : IsNumbered start
start_numbered = record { rising = tt; below = tt }
