-- What is begun and what is committed was checked against the schema.
use Rattle.std.proofs.Common.{◌≡◌, ℕ, Bool, false, cond, ◌==◌, nat_le, List, [], ◌∷◌, length, refl, sym, subst}
use Rattle.std.specs.Prelude.{filter}
use Rattle.std.specs.List.{AllByRecursion}
use Rattle.span_schema.specs.declared.table.Table.{Table}
use Rattle.span_mutate.specs.declared.mutation.CheckedMutation.{CheckedMutation}
use Rattle.span_value.specs.declared.value.Value.{Value}
use Rattle.span_schema.specs.Numbers.{key_columns}
use Rattle.span_keycode.proofs.LevelLaws.{fit_length}
use Rattle.span_keycode.specs.Keys.{IsCodedKey}
use Rattle.span_mutate.specs.Directories.{IsKeyed, AreKeyed}
use Rattle.span_mutate.specs.Typed.{IsTypedMutation, AreTypedMutations}
use Rattle.span_machine.specs.declared.slot.SlotState.{SlotState}
use Rattle.span_machine.specs.declared.step.Step.{Step}
use Rattle.span_machine.specs.declared.transaction.Commit.{Commit}
use Rattle.span_machine.specs.declared.transaction.OpenTransaction.{OpenTransaction}
use Rattle.span_machine.specs.declared.transaction.Decision.{Decision}
use Rattle.span_machine.specs.declared.transaction.Decision.TheVariants as decision
use Rattle.span_machine.specs.Tables.{is_before, upto, mutations_of}
use Rattle.span_machine.specs.Machine.{Machine, answer, start, is_transaction, root_at, holds, mutations_in, changed_first, without_first, with_decision, add_prepared, prepare_timestamp, commit_timestamp, commit_of, without_prepared, applied_at}
use Rattle.span_machine.specs.Run.{IsOfSchema}
use Rattle.span_machine_laws.proofs.Lists.{all_changed, all_without, all_found, one_or_other}
use Rattle.span_machine_laws.proofs.Walks.{Ends, answer_by}
use Rattle.span_value.specs.declared.refusal.Refusal.{Refusal}
use Rattle.span_query.specs.declared.query.Statement.{Statement}
use Rattle.std.specs.Prelude.{Result}
use Rattle.span_value.proofs.Lists.{all_append, all_filter, all_push}
use Rattle.span_shard.proofs.Touching.{typed_keyed}
use Rattle.span_machine_laws.proofs.Ordered.{all_in_order}

abbrev pub IsBegunBy : List Table → OpenTransaction → Type 0
IsBegunBy schema t = AreTypedMutations schema t.mutations

abbrev pub IsCommitBy : List Table → Commit → Type 0
IsCommitBy schema c = AreTypedMutations schema c.mutations

pub record IsBySchema (schema : List Table) (m : Machine) : Type 0 where
  pub transactions : AllByRecursion (IsBegunBy schema) m.transactions
  pub log : AllByRecursion (IsCommitBy schema) m.log

-- ---- lists

typed_mutations : (schema : List Table) (cs : List Commit) → AllByRecursion (IsCommitBy schema) cs → AreTypedMutations schema (mutations_of cs)
typed_mutations schema [] all = tt
typed_mutations schema (c ∷ cs) all = all_append (IsTypedMutation schema) c.mutations (mutations_of cs) all.0 (typed_mutations schema cs all.1)

-- the mutations of the commits up to s are typed
pub typed_upto : (schema : List Table) (log : List Commit) (s : ℕ) → AllByRecursion (IsCommitBy schema) log → AreTypedMutations schema (mutations_of (upto log s))
typed_upto schema log s all = typed_mutations schema (upto log s) (all_in_order (IsCommitBy schema) is_before (filter (λ c. nat_le c.timestamp s) log) (all_filter (IsCommitBy schema) (λ c. nat_le c.timestamp s) log all))

-- so are those in a slot
pub typed_in : (schema : List Table) (slot_state : SlotState) (ms : List CheckedMutation) → AreTypedMutations schema ms → AreTypedMutations schema (mutations_in schema slot_state ms)
typed_in schema slot_state ms all = all_filter (IsTypedMutation schema) (λ m. holds schema slot_state (root_at schema m)) ms all

-- what is typed has a value for each key column
pub keyed_of : (schema : List Table) (n : ℕ) (key : List Value) → IsCodedKey schema n key → IsKeyed schema n key
keyed_of schema n key coded = (coded.0.0, sym (fit_length (key_columns schema n) key coded.0.1))

pub keyed_upto : (schema : List Table) (log : List Commit) (s : ℕ) → AllByRecursion (IsCommitBy schema) log → AreKeyed schema (mutations_of (upto log s))
keyed_upto schema log s all = typed_keyed schema (mutations_of (upto log s)) (typed_upto schema log s all)

pub keyed_in : (schema : List Table) (slot_state : SlotState) (ms : List CheckedMutation) → AreTypedMutations schema ms → AreKeyed schema (mutations_in schema slot_state ms)
keyed_in schema slot_state ms all = typed_keyed schema (mutations_in schema slot_state ms) (typed_in schema slot_state ms all)

-- ---- the steps

module _ (schema : List Table) (m : Machine) (by : IsBySchema schema m) where
  same_by : (n : Machine) → n.transactions ≡ m.transactions → n.log ≡ m.log → IsBySchema schema n
  same_by n e f = record { transactions = subst (AllByRecursion (IsBegunBy schema)) (sym e) by.transactions; log = subst (AllByRecursion (IsCommitBy schema)) (sym f) by.log }

  either_by : (b : Bool) (n : Machine) (test : OpenTransaction → Bool) (change : OpenTransaction → OpenTransaction) → ((t : OpenTransaction) → IsBegunBy schema t → IsBegunBy schema (change t))
      → n.transactions ≡ cond b (without_first test m.transactions) (changed_first test change m.transactions) → n.log ≡ m.log → IsBySchema schema n
  either_by b n test change keeps e f = record {
    transactions = subst (AllByRecursion (IsBegunBy schema)) (sym e) (one_or_other (AllByRecursion (IsBegunBy schema)) b _ _ (all_without (IsBegunBy schema) test m.transactions by.transactions) (all_changed (IsBegunBy schema) test change keeps m.transactions by.transactions));
    log = subst (AllByRecursion (IsCommitBy schema)) (sym f) by.log;
  }

  applied_by : (o : Decision) (owner txn slot : ℕ) (t : OpenTransaction) → IsBySchema schema (applied_at o m owner txn slot t).1
  applied_by decision.Undecided owner txn slot t = by
  applied_by decision.Aborted owner txn slot t = either_by (length (without_prepared slot t).prepared == 0) _ (is_transaction owner txn) (without_prepared slot) (λ t k. k) refl refl
  applied_by (decision.Committed ts) owner txn slot t = either_by (length (without_prepared slot t).prepared == 0) _ (is_transaction owner txn) (without_prepared slot) (λ t k. k) refl refl

  by_ends : (u : Result Statement Refusal) → Ends schema m u (λ step a. IsOfSchema schema step → IsBySchema schema a.1)
  by_ends u = record {
    refuses = λ step why may of. by;
    begins = λ owner ms accepted of. record {
      transactions = all_push (IsBegunBy schema) m.transactions (record { owner = owner; number = m.next_transaction; mutations = ms; decision = decision.Undecided; prepared = [] }) by.transactions of;
      log = by.log;
    };
    prepares = λ owner txn slot t slot_state found here accepted well fits low of. either_by false _ (is_transaction owner txn) (add_prepared slot (prepare_timestamp slot_state)) (λ t k. k) refl refl;
    commits = λ owner txn interval t found accepted of. record {
      transactions = all_changed (IsBegunBy schema) (is_transaction owner txn) (with_decision (decision.Committed (commit_timestamp m t interval))) (λ t k. k) m.transactions by.transactions;
      log = all_push (IsCommitBy schema) m.log (commit_of (commit_timestamp m t interval) t) by.log (all_found (IsBegunBy schema) (is_transaction owner txn) m.transactions t found by.transactions);
    };
    aborts = λ owner txn interval t found open_still of. either_by (length t.prepared == 0) _ (is_transaction owner txn) (with_decision decision.Aborted) (λ t k. k) refl refl;
    applies = λ owner txn slot interval t slot_state found here accepted of. applied_by t.decision owner txn slot t;
    advances = λ slot interval slot_state here of. same_by _ refl refl;
    trims = λ slot h slot_state here accepted of. same_by _ refl refl;
    opens = λ text params bound interval asked is accepted of. same_by _ refl refl;
    finds_nothing = λ query leaf slot interval of. by;
    scans = λ query leaf slot interval q slot_state l part found here at gap above safe of. same_by _ refl refl;
    waits = λ query leaf slot interval q slot_state found here of. same_by _ refl refl;
    finishes = λ query q found covered of. by;
    closes = λ query q found of. same_by _ refl refl;
    splits = λ table key code slot slot_state keyed home here accepted of. same_by _ refl refl;
  }

-- every step keeps to the schema
pub answer_by_schema : (schema : List Table) (m : Machine) (u : Result Statement Refusal) → IsBySchema schema m → (step : Step) → IsOfSchema schema step → IsBySchema schema (answer schema m u step).1
answer_by_schema schema m u by step of = answer_by schema m u (λ s a. IsOfSchema schema s → IsBySchema schema a.1) (by_ends schema m by u) step of

pub start_by_schema : (schema : List Table) → IsBySchema schema start
start_by_schema schema = record { transactions = tt; log = tt }
