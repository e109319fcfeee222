use Rattle.std.proofs.Common.{◌≡◌, ℕ, ◌<◌, ◌+◌, Bool, true, false, cond, ◌==◌, List, [], ◌∷◌, ◌++◌, length, Some, None, Result, Ok, Err, refl, ap, sym, ◌∙◌, subst, inl, inr, arith}
use Rattle.std.specs.Prelude.{find}
use Rattle.std.proofs.lemmas.Bool.Decides.{nat_tests}
use Rattle.std.proofs.lemmas.List.{append-nil}
use Rattle.std.specs.List.{AllByRecursion, list_all}
use Rattle.std.proofs.lemmas.Bool.{eqb-true, eq-eqb, and_parts}
use Rattle.span_value.specs.declared.refusal.Refusal.{Refusal}
use Rattle.span_value.specs.declared.refusal.Refusal.TheVariants as refusal
use Rattle.span_schema.specs.declared.table.Table.{Table}
use Rattle.span_mutate.specs.declared.mutation.CheckedMutation.{CheckedMutation}
use Rattle.span_value.specs.Results.{and_then}
use Rattle.span_value.proofs.Lists.{all_push, all_weaker}
use Rattle.span_mutate.specs.declared.row.TableRow.{TableRow}
use Rattle.span_truetime.specs.declared.bound.Bound.{Bound}
use Rattle.span_truetime.specs.declared.interval.Interval.{Interval}
use Rattle.span_truetime.specs.Time.{timestamp_of}
use Rattle.span_machine.specs.declared.query.OpenQuery.{OpenQuery}
use Rattle.span_params.specs.declared.params.Parameter.{Parameter}
use Rattle.span_query.specs.declared.query.Statement.{Statement}
use Rattle.span_query.specs.Rows as rows
use Rattle.span_machine.specs.declared.step.Step.{Step}
use Rattle.span_machine.specs.declared.step.Step.TheVariants.{Begin, Prepare, Decide, Apply, Advance, Trim, Open, Scan, Finish, Close, Split}
use Rattle.span_machine.specs.declared.step.Reply.{Reply}
use Rattle.span_machine.specs.declared.step.Reply.TheVariants as reply
use Rattle.span_machine.specs.declared.step.Reply.TheVariants.{Rows, Refused}
use Rattle.span_machine.specs.declared.step.Verdict.TheVariants as verdict
use Rattle.span_machine.specs.declared.transaction.OpenTransaction.{OpenTransaction}
use Rattle.span_machine.specs.declared.transaction.Decision.{Decision}
use Rattle.span_machine.specs.declared.transaction.Decision.TheVariants as decision
use Rattle.span_machine.specs.Tables.{tables}
use Rattle.span_machine.specs.Meaning.{means}
use Rattle.span_machine.specs.Commits.{BegunTransaction, begun_by, commit_by, committed_by, OpenedQuery, opened_by}
use Rattle.span_machine.specs.Run.{IsMeant}
use Rattle.span_machine.specs.Machine as machine
use Rattle.span_machine.specs.Machine.{Machine, Understanding, IsUnderstood, committed, opened, as_opened, is_covered, rows_or_refusal, IsStep, answer, start, is_transaction, is_query, changed_first, without_first, add_prepared, prepare_timestamp, commit_timestamp, commit_of, with_decision, without_prepared, applied_at, cover, answer_on, meaning, statement_plan}
use Rattle.span_machine_laws.proofs.Lists.{found_passes, all_changed, all_without, all_found}
use Rattle.span_machine_laws.proofs.Sealed.{IsSealed}
use Rattle.span_machine_laws.proofs.Walks.{MayRefuse, Ends, answer_by}
use Rattle.span_machine_laws.proofs.Sound.{IsSound, IsPartSealed, IsCoveredSealed}
use Rattle.span_keycode.specs.Parts.{is_within}
use Rattle.span_keycode.specs.declared.range.KeyRange.{KeyRange}
use Rattle.span_machine.specs.Slots.{root_code}
use Rattle.span_machine.specs.declared.query.ScanLeaf.{ScanLeaf}
use Rattle.span_columns.specs.declared.leaf.Leaf.{Leaf}
use Rattle.span_machine_laws.proofs.FamilyRows.{tiles_have}
use Rattle.span_machine_laws.proofs.Pieces.{AllCovered, HasLeaves, AreOpenQueries, leaves_of}

-- ---- the invariant

-- the transaction as it was begun
abbrev pub IsBegun : List BegunTransaction → OpenTransaction → Type 0
IsBegun begun t = find (λ b. b.number == t.number) begun ≡ Some (record { number = t.number; mutations = t.mutations })

-- the query as it was asked: its query text is understood as its statement
pub record IsAsked (understands : Understanding) (asked : List OpenedQuery) (q : OpenQuery) : Type 0 where
  pub question : OpenedQuery
  pub found : find (λ a. a.number == q.number) asked ≡ Some question
  pub number : question.number ≡ q.number
  pub at : question.s ≡ q.s
  pub text : question.text ≡ q.text
  pub params : question.params ≡ q.params
  pub understood : understands question.text question.params (Ok q.statement)

-- the open transactions are as they were begun and the open queries as they were asked, and later ones get higher numbers
pub record IsKnown (understands : Understanding) (begun : List BegunTransaction) (asked : List OpenedQuery) (m : Machine) : Type 0 where
  pub transactions : AllByRecursion (IsBegun begun) m.transactions
  pub begun_below : AllByRecursion (λ b. b.number < m.next_transaction) begun
  pub queries : AllByRecursion (IsAsked understands asked) m.queries
  pub asked_below : AllByRecursion (λ a. a.number < m.next_query) asked

-- the directories of a leaf's range are sealed at s
abbrev pub IsLeafSealed : List Table → Machine → ℕ → Leaf → Type 0
IsLeafSealed schema m s leaf = IsPartSealed schema m s leaf.range

-- What is answered of a query is what it means by the log so far, and no later step changes that: the ranges of the leaves of its plan are
-- sealed.
pub record IsMeantNow (understands : Understanding) (schema : List Table) (m : Machine) (asked : List OpenedQuery) (query s : ℕ) (meant : rows.Rows) : Type 0 where
  pub now : IsMeant understands schema m.log asked query s meant
  pub stays : AllByRecursion (IsLeafSealed schema m s) (statement_plan schema now.statement).leaves

abbrev pub IsRightNow : Understanding → List Table → Machine → List OpenedQuery → Step → Reply → Type 0
IsRightNow understands schema m asked (Finish query) (Rows s found) = IsMeantNow understands schema m asked query s (Some found.rows)
IsRightNow understands schema m asked (Finish query) (Refused why) = why ≡ refusal.ArithmeticFault → (s : ℕ) × IsMeantNow understands schema m asked query s None
IsRightNow understands schema m asked _ _ = Unit {0}

-- what a step owes: the machine is known after it, the log has what the reply commits, and the reply is right
pub record Tells (understands : Understanding) (schema : List Table) (begun : List BegunTransaction) (asked : List OpenedQuery) (m : Machine) (step : Step) (r : Reply) (n : Machine) : Type 0 where
  pub known : IsKnown understands (begun_by step r ++ begun) (opened_by step r ++ asked) n
  pub log : n.log ≡ m.log ++ committed_by begun step r
  pub right : IsRightNow understands schema m asked step r

-- the step and its reply begin, ask and commit nothing
pub record IsQuiet (begun : List BegunTransaction) (step : Step) (r : Reply) : Type 0 where
  pub no_begun : begun_by step r ≡ []
  pub no_asked : opened_by step r ≡ []
  pub no_commit : committed_by begun step r ≡ []

refusal_quiet : (begun : List BegunTransaction) (step : Step) (why : Refusal) → IsQuiet begun step (Refused why)
refusal_quiet begun (Begin owner ms) why = record { no_begun = refl; no_asked = refl; no_commit = refl }
refusal_quiet begun (Prepare owner txn slot) why = record { no_begun = refl; no_asked = refl; no_commit = refl }
refusal_quiet begun (Decide owner txn v interval) why = record { no_begun = refl; no_asked = refl; no_commit = refl }
refusal_quiet begun (Apply owner txn slot interval) why = record { no_begun = refl; no_asked = refl; no_commit = refl }
refusal_quiet begun (Advance slot interval) why = record { no_begun = refl; no_asked = refl; no_commit = refl }
refusal_quiet begun (Trim slot h) why = record { no_begun = refl; no_asked = refl; no_commit = refl }
refusal_quiet begun (Open text params bound interval) why = record { no_begun = refl; no_asked = refl; no_commit = refl }
refusal_quiet begun (Scan query leaf slot interval) why = record { no_begun = refl; no_asked = refl; no_commit = refl }
refusal_quiet begun (Finish query) why = record { no_begun = refl; no_asked = refl; no_commit = refl }
refusal_quiet begun (Close query) why = record { no_begun = refl; no_asked = refl; no_commit = refl }
refusal_quiet begun (Split table key) why = record { no_begun = refl; no_asked = refl; no_commit = refl }

refusal_right : (understands : Understanding) (schema : List Table) (m : Machine) (asked : List OpenedQuery) (step : Step) (why : Refusal) → MayRefuse step why → IsRightNow understands schema m asked step (Refused why)
refusal_right understands schema m asked (Finish query) why may = λ e. absurd (may e)
refusal_right understands schema m asked (Begin owner ms) why may = tt
refusal_right understands schema m asked (Prepare owner txn slot) why may = tt
refusal_right understands schema m asked (Decide owner txn v interval) why may = tt
refusal_right understands schema m asked (Apply owner txn slot interval) why may = tt
refusal_right understands schema m asked (Advance slot interval) why may = tt
refusal_right understands schema m asked (Trim slot h) why may = tt
refusal_right understands schema m asked (Open text params bound interval) why may = tt
refusal_right understands schema m asked (Scan query leaf slot interval) why may = tt
refusal_right understands schema m asked (Close query) why may = tt
refusal_right understands schema m asked (Split table key) why may = tt

-- out of memory is no arithmetic fault
memory_refused : (step : Step) → MayRefuse step refusal.OutOfMemory
memory_refused (Finish query) = λ e. cc
memory_refused (Begin owner ms) = tt
memory_refused (Prepare owner txn slot) = tt
memory_refused (Decide owner txn v interval) = tt
memory_refused (Apply owner txn slot interval) = tt
memory_refused (Advance slot interval) = tt
memory_refused (Trim slot h) = tt
memory_refused (Open text params bound interval) = tt
memory_refused (Scan query leaf slot interval) = tt
memory_refused (Close query) = tt
memory_refused (Split table key) = tt

-- ---- numbers

-- a higher number is another
higher : (n k : ℕ) → n < k → (k == n) ≡ false
higher n k low = grind (arith, nat_tests)

-- a transaction that was begun has a number below the next
begun_low : (begun : List BegunTransaction) (n : ℕ) (t : OpenTransaction) → AllByRecursion (λ b. b.number < n) begun → IsBegun begun t → t.number < n
begun_low begun n t below is = all_found (λ b. b.number < n) (λ b. b.number == t.number) begun (record { number = t.number; mutations = t.mutations }) is below

asked_low : (understands : Understanding) (asked : List OpenedQuery) (n : ℕ) (q : OpenQuery) → AllByRecursion (λ a. a.number < n) asked → IsAsked understands asked q → q.number < n
asked_low understands asked n q below is = subst (λ k. k < n) is.number (all_found (λ a. a.number < n) (λ a. a.number == q.number) asked is.question is.found below)

-- what was begun stays so as more is begun
begun_still : (begun : List BegunTransaction) (b : BegunTransaction) (n : ℕ) (t : OpenTransaction) → b.number ≡ n → t.number < n → IsBegun begun t → IsBegun (b ∷ begun) t
begun_still begun b n t e low is = let off : (b.number == t.number) ≡ false = higher t.number b.number (omega arith) in rw off is

asked_still : (understands : Understanding) (asked : List OpenedQuery) (a : OpenedQuery) (n : ℕ) (q : OpenQuery) → a.number ≡ n → q.number < n → IsAsked understands asked q → IsAsked understands (a ∷ asked) q
asked_still understands asked a n q e low is =
    let off : (a.number == q.number) ≡ false = higher q.number a.number (omega arith) in
    let found : find (λ b. b.number == q.number) (a ∷ asked) ≡ Some is.question = rw off is.found in
    record {
      question = is.question;
      found = found;
      number = is.number;
      at = is.at;
      text = is.text;
      params = is.params;
      understood = is.understood;
    }

-- the one just begun
begun_now : (begun : List BegunTransaction) (t : OpenTransaction) → IsBegun ((record { number = t.number; mutations = t.mutations }) ∷ begun) t
begun_now begun t = rw (eq-eqb t.number t.number refl) refl

asked_now : (asked : List OpenedQuery) (a : OpenedQuery) → find (λ b. b.number == a.number) (a ∷ asked) ≡ Some a
asked_now asked a = rw (eq-eqb a.number a.number refl) refl

-- a query is asked as before once a leaf is covered
asked_covered : (understands : Understanding) (asked : List OpenedQuery) (leaf : ℕ) (part : KeyRange) (q : OpenQuery) → IsAsked understands asked q → IsAsked understands asked (cover leaf part q)
asked_covered understands asked leaf part q is = record {
  question = is.question;
  found = is.found;
  number = is.number;
  at = is.at;
  text = is.text;
  params = is.params;
  understood = is.understood;
}

-- where pieces tile the range of each leaf, it is sealed
all_sealed : (schema : List Table) (m : Machine) (s : ℕ) (leaves : List ScanLeaf) → AllByRecursion (AllCovered (IsPartSealed schema m s)) leaves → list_all is_covered leaves ≡ true → AllByRecursion (IsLeafSealed schema m s) (leaves_of leaves)
all_sealed schema m s [] seals covered = tt
all_sealed schema m s (l ∷ ls) seals covered = (
  λ root is within.
      tiles_have (IsSealed schema root s m) l.leaf.range l.covered (root_code schema root) (and_parts (is_covered l) (list_all is_covered ls) covered).0 within
      (all_weaker (IsPartSealed schema m s) (λ (c : KeyRange). is_within c (root_code schema root) ≡ true → IsSealed schema root s m) (λ c seal. seal root is) l.covered seals.0),
  all_sealed schema m s ls seals.1 (and_parts (is_covered l) (list_all is_covered ls) covered).1,
)

-- what is committed of a transaction that was begun
commit_begun : (begun : List BegunTransaction) (owner txn ts : ℕ) (t : OpenTransaction) → t.owner ≡ owner → t.number ≡ txn → IsBegun begun t → commit_by ts owner txn (find (λ b. b.number == txn) begun) ≡ commit_of ts t ∷ []
commit_begun begun owner txn ts t same_owner same is =
    ap (λ k. commit_by ts owner k (find (λ b. b.number == k) begun)) (sym same)
    ∙ ap (λ o. commit_by ts owner t.number o) is
    ∙ ap (λ o. (record { timestamp = ts; number = t.number; owner = o; mutations = t.mutations }) ∷ []) (sym same_owner)

-- ---- the steps

module _ (understands : Understanding) (schema : List Table) (begun : List BegunTransaction) (asked : List OpenedQuery) (m : Machine) (sound : IsSound schema m) (leaves : AreOpenQueries schema m) (known : IsKnown understands begun asked m) (made : (s : ℕ) → (db : List TableRow) × (tables schema m.log s ≡ Ok db)) where
  -- nothing is begun, asked or committed
  tells_quiet : (step : Step) (r : Reply) (n : Machine) → IsQuiet begun step r → AllByRecursion (IsBegun begun) n.transactions → AllByRecursion (IsAsked understands asked) n.queries
      → n.next_transaction ≡ m.next_transaction → n.next_query ≡ m.next_query → n.log ≡ m.log → IsRightNow understands schema m asked step r → Tells understands schema begun asked m step r n
  tells_quiet step r n quiet ts qs same_transaction same_query same_log right = record {
    known = subst (λ bs. IsKnown understands (bs ++ begun) (opened_by step r ++ asked) n) (sym quiet.no_begun) (subst (λ l. IsKnown understands begun (l ++ asked) n) (sym quiet.no_asked) (record {
      transactions = ts;
      begun_below = subst (λ k. AllByRecursion (λ b. b.number < k) begun) (sym same_transaction) known.begun_below;
      queries = qs;
      asked_below = subst (λ k. AllByRecursion (λ a. a.number < k) asked) (sym same_query) known.asked_below;
    }));
    log = same_log ∙ sym (ap (λ cs. m.log ++ cs) quiet.no_commit ∙ append-nil m.log);
    right = right;
  }

  -- the machine stays as it is
  tells_same : (step : Step) (r : Reply) → IsQuiet begun step r → IsRightNow understands schema m asked step r → Tells understands schema begun asked m step r m
  tells_same step r quiet right = tells_quiet step r m quiet known.transactions known.queries refl refl refl right

  either_begun : (b : Bool) (test : OpenTransaction → Bool) (change : OpenTransaction → OpenTransaction) → ((t : OpenTransaction) → IsBegun begun t → IsBegun begun (change t))
      → AllByRecursion (IsBegun begun) (cond b (without_first test m.transactions) (changed_first test change m.transactions))
  either_begun true test change keeps = all_without (IsBegun begun) test m.transactions known.transactions
  either_begun false test change keeps = all_changed (IsBegun begun) test change keeps m.transactions known.transactions

  tells_applied : (o : Decision) (owner txn slot : ℕ) (interval : Interval) (t : OpenTransaction) → Tells understands schema begun asked m (Apply owner txn slot interval) (applied_at o m owner txn slot t).0 (applied_at o m owner txn slot t).1
  tells_applied decision.Undecided owner txn slot interval t = tells_same (Apply owner txn slot interval) (Refused refusal.WrongState) (record { no_begun = refl; no_asked = refl; no_commit = refl }) tt
  tells_applied decision.Aborted owner txn slot interval t = tells_quiet (Apply owner txn slot interval) reply.Applied (applied_at decision.Aborted m owner txn slot t).1 (record { no_begun = refl; no_asked = refl; no_commit = refl })
      (either_begun (length (without_prepared slot t).prepared == 0) (is_transaction owner txn) (without_prepared slot) (λ u is. is)) known.queries refl refl refl tt
  tells_applied (decision.Committed ts) owner txn slot interval t = tells_quiet (Apply owner txn slot interval) reply.Applied (applied_at (decision.Committed ts) m owner txn slot t).1 (record { no_begun = refl; no_asked = refl; no_commit = refl })
      (either_begun (length (without_prepared slot t).prepared == 0) (is_transaction owner txn) (without_prepared slot) (λ u is. is)) known.queries refl refl refl tt

  tells_begun : (owner : ℕ) (ms : List CheckedMutation) → Tells understands schema begun asked m (Begin owner ms) (reply.Began m.next_transaction) (machine.begun m owner ms).1
  tells_begun owner ms = record {
    known = record {
      transactions = all_push (IsBegun ((record { number = m.next_transaction; mutations = ms }) ∷ begun)) m.transactions (record { owner = owner; number = m.next_transaction; mutations = ms; decision = decision.Undecided; prepared = [] })
          (all_weaker (IsBegun begun) (IsBegun ((record { number = m.next_transaction; mutations = ms }) ∷ begun))
          (λ t is. begun_still begun (record { number = m.next_transaction; mutations = ms }) m.next_transaction t refl (begun_low begun m.next_transaction t known.begun_below is) is) m.transactions known.transactions)
          (begun_now begun (record { owner = owner; number = m.next_transaction; mutations = ms; decision = decision.Undecided; prepared = [] }));
      begun_below = (omega arith, all_weaker (λ b. b.number < m.next_transaction) (λ b. b.number < m.next_transaction + 1) (λ b low. omega arith) begun known.begun_below);
      queries = known.queries;
      asked_below = known.asked_below;
    };
    log = sym (append-nil m.log);
    right = tt;
  }

  tells_opened : (text : List ℕ) (params : List Parameter) (bound : Bound) (interval : Interval) (q : Statement) (s : ℕ) → understands text params (Ok q) → Tells understands schema begun asked m (Open text params bound interval) (opened schema m text params q s).0 (opened schema m text params q s).1
  tells_opened text params bound interval q s understood =
      let a : OpenedQuery = record { number = m.next_query; text = text; params = params; s = s } in
      record {
        known = record {
          transactions = known.transactions;
          begun_below = known.begun_below;
          queries = all_push (IsAsked understands (a ∷ asked)) m.queries (as_opened schema m.next_query s text params q)
              (all_weaker (IsAsked understands asked) (IsAsked understands (a ∷ asked)) (λ o is. asked_still understands asked a m.next_query o refl (asked_low understands asked m.next_query o known.asked_below is) is) m.queries known.queries)
              (record {
                question = a;
                found = asked_now asked a;
                number = refl;
                at = refl;
                text = refl;
                params = refl;
                understood = understood;
              });
          asked_below = (omega arith, all_weaker (λ a. a.number < m.next_query) (λ a. a.number < m.next_query + 1) (λ a low. omega arith) asked known.asked_below);
        };
        log = sym (append-nil m.log);
        right = tt;
      }

  tells_committed : (owner txn ts : ℕ) (interval : Interval) (t : OpenTransaction) → find (is_transaction owner txn) m.transactions ≡ Some t
      → Tells understands schema begun asked m (Decide owner txn verdict.Commit interval) (reply.Decided ts) (committed m owner txn ts t).1
  tells_committed owner txn ts interval t found =
      let is : is_transaction owner txn t ≡ true = found_passes (is_transaction owner txn) m.transactions t found in
      record {
        known = record {
          transactions = all_changed (IsBegun begun) (is_transaction owner txn) (with_decision (decision.Committed ts)) (λ u h. h) m.transactions known.transactions;
          begun_below = known.begun_below;
          queries = known.queries;
          asked_below = known.asked_below;
        };
        log = ap (λ cs. m.log ++ cs) (sym (commit_begun begun owner txn ts t (eqb-true t.owner owner (and_parts (t.owner == owner) (t.number == txn) is).0) (eqb-true t.number txn (and_parts (t.owner == owner) (t.number == txn) is).1)
            (all_found (IsBegun begun) (is_transaction owner txn) m.transactions t found known.transactions)));
        right = tt;
      }

  -- an open query, and what it means on the tables
  meant_now : (query : ℕ) (q : OpenQuery) → q.number ≡ query → IsAsked understands asked q → HasLeaves schema q → IsCoveredSealed schema m q → list_all is_covered q.leaves ≡ true → (db : List TableRow) → tables schema m.log q.s ≡ Ok db
      → IsMeantNow understands schema m asked query q.s (means schema q.statement.query q.statement.leaves db)
  meant_now query q same is has seals covered db e = record {
    now = record {
      question = is.question;
      opened = subst (λ k. find (λ a. a.number == k) asked ≡ Some is.question) same is.found;
      at = sym is.at;
      statement = q.statement;
      understood = is.understood;
      db = db;
      made = e;
      is = refl;
    };
    stays = subst (AllByRecursion (IsLeafSealed schema m q.s)) has.of_plan (all_sealed schema m q.s q.leaves seals covered);
  }

  -- the answer to a Finish, by what the query means on the tables
  right_answer : (query s : ℕ) (meant : rows.Rows) → IsMeantNow understands schema m asked query s meant → IsRightNow understands schema m asked (Finish query) (answer_on s (rows_or_refusal meant))
  right_answer query s (Some found) is = is
  right_answer query s None is = λ e. (s, is)

  right_finish : (query : ℕ) (q : OpenQuery) → q.number ≡ query → IsAsked understands asked q → HasLeaves schema q → IsCoveredSealed schema m q → list_all is_covered q.leaves ≡ true → IsRightNow understands schema m asked (Finish query) (answer_on q.s (meaning schema m q))
  right_finish query q same is has seals covered =
      let there = made q.s in
      let is_made : tables schema m.log q.s ≡ Ok there.0 = there.1 in
      subst (λ (r : Result (List TableRow) Refusal). IsRightNow understands schema m asked (Finish query) (answer_on q.s (and_then r (λ db. rows_or_refusal (means schema q.statement.query q.statement.leaves db))))) (sym is_made)
      (right_answer query q.s (means schema q.statement.query q.statement.leaves there.0) (meant_now query q same is has seals covered there.0 is_made))

  quiet_answer : (query s : ℕ) (r : Result (List rows.Row) Refusal) → IsQuiet begun (Finish query) (answer_on s r)
  quiet_answer query s (Ok found) = record { no_begun = refl; no_asked = refl; no_commit = refl }
  quiet_answer query s (Err why) = record { no_begun = refl; no_asked = refl; no_commit = refl }

  tells_ends : (u : Result Statement Refusal) → Ends schema m u (λ step a. IsUnderstood understands step u → Tells understands schema begun asked m step a.0 a.1)
  tells_ends u = record {
    refuses = λ step why may understood. tells_same step (Refused why) (refusal_quiet begun step why) (refusal_right understands schema m asked step why may);
    begins = λ owner ms accepted understood. tells_begun owner ms;
    prepares = λ owner txn slot t slot_state found here accepted well fits low understood. tells_quiet _ _ _ (record { no_begun = refl; no_asked = refl; no_commit = refl })
        (all_changed (IsBegun begun) (is_transaction owner txn) (add_prepared slot (prepare_timestamp slot_state)) (λ u is. is) m.transactions known.transactions) known.queries refl refl refl tt;
    commits = λ owner txn interval t found accepted understood. tells_committed owner txn (commit_timestamp m t interval) interval t found;
    aborts = λ owner txn interval t found open_still understood. tells_quiet _ _ _ (record { no_begun = refl; no_asked = refl; no_commit = refl })
        (either_begun (length t.prepared == 0) (is_transaction owner txn) (with_decision decision.Aborted) (λ u is. is)) known.queries refl refl refl tt;
    applies = λ owner txn slot interval t slot_state found here accepted understood. tells_applied t.decision owner txn slot interval t;
    advances = λ slot interval slot_state here understood. tells_quiet _ _ _ (record { no_begun = refl; no_asked = refl; no_commit = refl }) known.transactions known.queries refl refl refl tt;
    trims = λ slot h slot_state here accepted understood. tells_quiet _ _ _ (record { no_begun = refl; no_asked = refl; no_commit = refl }) known.transactions known.queries refl refl refl tt;
    opens = λ text params bound interval q is accepted understood. tells_opened text params bound interval q (timestamp_of bound interval) (subst (λ v. understands text params v) is understood);
    finds_nothing = λ query leaf slot interval understood. tells_same _ _ (record { no_begun = refl; no_asked = refl; no_commit = refl }) tt;
    scans = λ query leaf slot interval q slot_state l part found here at gap above safe understood. tells_quiet _ _ _ (record { no_begun = refl; no_asked = refl; no_commit = refl })
        known.transactions (all_changed (IsAsked understands asked) (is_query query) (cover leaf part) (asked_covered understands asked leaf part) m.queries known.queries) refl refl refl tt;
    waits = λ query leaf slot interval q slot_state found here understood. tells_quiet _ _ _ (record { no_begun = refl; no_asked = refl; no_commit = refl }) known.transactions known.queries refl refl refl tt;
    finishes = λ query q found covered understood. tells_same (Finish query) (answer_on q.s (meaning schema m q)) (quiet_answer query q.s (meaning schema m q))
        (right_finish query q (eqb-true q.number query (found_passes (is_query query) m.queries q found)) (all_found (IsAsked understands asked) (is_query query) m.queries q found known.queries)
        (all_found (HasLeaves schema) (is_query query) m.queries q found leaves)
        (all_found (IsCoveredSealed schema m) (is_query query) m.queries q found sound.queries) covered);
    splits = λ table key code slot slot_state keyed home here accepted understood. tells_quiet _ _ _ (record { no_begun = refl; no_asked = refl; no_commit = refl }) known.transactions known.queries refl refl refl tt;
    closes = λ query q found understood. tells_quiet _ _ _ (record { no_begun = refl; no_asked = refl; no_commit = refl })
        known.transactions (all_without (IsAsked understands asked) (is_query query) m.queries known.queries) refl refl refl tt;
  }

-- every step reports what it begins, asks and commits
pub answer_tells : (understands : Understanding) (schema : List Table) (begun : List BegunTransaction) (asked : List OpenedQuery) (m : Machine) (u : Result Statement Refusal) → IsSound schema m → AreOpenQueries schema m → IsKnown understands begun asked m → ((s : ℕ) → (db : List TableRow) × (tables schema m.log s ≡ Ok db))
    → (step : Step) → IsUnderstood understands step u → Tells understands schema begun asked m step (answer schema m u step).0 (answer schema m u step).1
answer_tells understands schema begun asked m u sound leaves known made step understood = answer_by schema m u (λ s a. IsUnderstood understands s u → Tells understands schema begun asked m s a.0 a.1) (tells_ends understands schema begun asked m sound leaves known made u) step understood

-- one step, out of memory included
pub step_tells : (understands : Understanding) (schema : List Table) (begun : List BegunTransaction) (asked : List OpenedQuery) (m : Machine) (step : Step) (r : Reply) (next : Machine) → IsStep understands schema m step r next → IsSound schema m → AreOpenQueries schema m → IsKnown understands begun asked m
    → ((s : ℕ) → (db : List TableRow) × (tables schema m.log s ≡ Ok db)) → Tells understands schema begun asked m step r next
step_tells understands schema begun asked m step r next (inl e) sound leaves known made =
    subst (λ x. Tells understands schema begun asked m step x next) (sym e.2.0) (subst (λ n. Tells understands schema begun asked m step (answer schema m e.0 step).0 n) (sym e.2.1) (answer_tells understands schema begun asked m e.0 sound leaves known made step e.1))
step_tells understands schema begun asked m step r next (inr e) sound leaves known made =
    subst (λ x. Tells understands schema begun asked m step x next) (sym e.1.0) (subst (λ n. Tells understands schema begun asked m step (Refused refusal.OutOfMemory) n) (sym e.1.1)
    (tells_same understands schema begun asked m sound leaves known made step (Refused refusal.OutOfMemory) (refusal_quiet begun step refusal.OutOfMemory) (refusal_right understands schema m asked step refusal.OutOfMemory (memory_refused step))))

pub start_known : (understands : Understanding) → IsKnown understands [] [] start
start_known understands = record { transactions = tt; begun_below = tt; queries = tt; asked_below = tt }
