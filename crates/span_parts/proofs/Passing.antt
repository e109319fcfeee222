-- What steps leave: the log, but for a commit, and what open queries ask.
use Rattle.std.proofs.Common.{◌≡◌, ℕ, Bool, true, false, List, [], ◌∷◌, Option, Some, None, Result, Ok, Err, refl, ap, sym, ◌∙◌, subst, inl, inr}
use Rattle.std.specs.Prelude.{find, if◌then◌else◌, IfOk, IfErr, OnOk, OnErr}
use Rattle.span_value.specs.declared.refusal.Refusal.{Refusal}
use Rattle.span_value.specs.declared.refusal.Refusal.TheVariants as refusal
use Rattle.span_value.proofs.Lists.{all_push}
use Rattle.span_schema.specs.declared.table.Table.{Table}
use Rattle.span_keycode.specs.declared.range.KeyRange.{KeyRange}
use Rattle.span_truetime.specs.declared.bound.Bound.{Bound}
use Rattle.span_truetime.specs.declared.interval.Interval.{Interval}
use Rattle.span_truetime.specs.Time.{timestamp_of}
use Rattle.span_params.specs.declared.params.Parameter.{Parameter}
use Rattle.span_query.specs.declared.query.Statement.{Statement}
use Rattle.span_machine.specs.declared.step.Step.{Step}
use Rattle.span_machine.specs.declared.step.Step.TheVariants as step
use Rattle.span_machine.specs.declared.step.Reply.{Reply}
use Rattle.span_machine.specs.declared.step.Reply.TheVariants as reply
use Rattle.span_machine.specs.declared.step.Verdict.TheVariants as verdict
use Rattle.span_machine.specs.declared.transaction.Decision.{Decision}
use Rattle.span_machine.specs.declared.transaction.Decision.TheVariants as decision
use Rattle.span_machine.specs.declared.transaction.OpenTransaction.{OpenTransaction}
use Rattle.span_machine.specs.declared.query.OpenQuery.{OpenQuery}
use Rattle.span_machine.specs.Machine.{Machine, Answer, Answers, IsAnswer, answer, refused, if_some, unless_refused, is_transaction, is_query, changed_first, cover, as_opened, opened, open_query, open_refusal, applied_at, commit_refusal, commit_timestamp, committed, decide, decide_transaction}
use Rattle.span_machine_laws.proofs.Walks.{Ends, answer_by}
use Rattle.span_machine_laws.proofs.Lists.{all_without}
use Rattle.span_parts.specs.Asked.{Asks, AreAsked}
use Rattle.span_journal.specs.declared.journal.Opened.{Opened}
use Rattle.span_parts.specs.Replies.{as_reply, opened_reply}
use Rattle.span_parts.specs.Whole.{IsCommitted}

-- a step that adds no commit and opens no query
abbrev pub IsQuiet : Step → Type 0
IsQuiet (step.Decide owner txn verdict.Commit interval) = ⊥
IsQuiet (step.Open text params bound interval) = ⊥
IsQuiet _ = Unit {0}

-- the log is the same, and of each open query holds what held of all
pub record IsPassed (asks : Asks) (old new : Machine) : Type 0 where
  pub log : new.log ≡ old.log
  pub asked : AreAsked asks new.queries

module _ (asks : Asks) where
  -- a leaf of a query is covered
  asked_covered : (query leaf : ℕ) (part : KeyRange) (qs : List OpenQuery) → AreAsked asks qs → AreAsked asks (changed_first (is_query query) (cover leaf part) qs)
  asked_covered query leaf part [] all = tt
  asked_covered query leaf part (q ∷ qs) all = elim (is_query query q) as (λ b. AreAsked asks (if b then cover leaf part q ∷ qs else q ∷ changed_first (is_query query) (cover leaf part) qs)) [
    | true ↦ (all.0, all.1)
    | false ↦ (all.0, asked_covered query leaf part qs all.1)
  ]

  module _ (schema : List Table) (m : Machine) (asked : AreAsked asks m.queries) where
    same : (n : Machine) → n.log ≡ m.log → n.queries ≡ m.queries → IsPassed asks m n
    same n log queries = record { log = log; asked = subst (AreAsked asks) (sym queries) asked }

    abbrev Passes : Step → Answer → Type 0
    Passes s a = IsQuiet s → IsPassed asks m a.1

    applies : (owner txn slot : ℕ) (interval : Interval) (t : OpenTransaction) (o : Decision) → Passes (step.Apply owner txn slot interval) (applied_at o m owner txn slot t)
    applies owner txn slot interval t decision.Undecided = λ quiet. same m refl refl
    applies owner txn slot interval t decision.Aborted = λ quiet. same (applied_at decision.Aborted m owner txn slot t).1 refl refl
    applies owner txn slot interval t (decision.Committed ts) = λ quiet. same (applied_at (decision.Committed ts) m owner txn slot t).1 refl refl

    passing_ends : (u : Result Statement Refusal) → Ends schema m u Passes
    passing_ends u = record {
      refuses = λ s why may quiet. same m refl refl;
      begins = λ owner ms accepted quiet. same _ refl refl;
      prepares = λ owner txn slot t slot_state found here accepted well fits low quiet. same _ refl refl;
      commits = λ owner txn interval t found accepted quiet. absurd quiet;
      aborts = λ owner txn interval t found is quiet. same _ refl refl;
      applies = λ owner txn slot interval t slot_state found here accepted. applies owner txn slot interval t t.decision;
      advances = λ slot interval slot_state here quiet. same _ refl refl;
      trims = λ slot h slot_state here accepted quiet. same _ refl refl;
      opens = λ text params bound interval q is accepted quiet. absurd quiet;
      finds_nothing = λ query leaf slot interval quiet. same m refl refl;
      scans = λ query leaf slot interval q slot_state l part found here there gap above safe quiet. record { log = refl; asked = asked_covered query leaf part m.queries asked };
      waits = λ query leaf slot interval q slot_state found here quiet. same _ refl refl;
      finishes = λ query q found covered quiet. same m refl refl;
      closes = λ query q found quiet. record { log = refl; asked = all_without (λ (p : OpenQuery). asks p.text p.params p.statement) (is_query query) m.queries asked };
      splits = λ table key code slot slot_state is home here accepted quiet. same _ refl refl;
    }

    -- the machine's answer, or out of memory in its place
    pub passed : (u : Result Statement Refusal) (s : Step) → IsQuiet s → (r : Reply) (n : Machine) → Answers m (answer schema m u s) r n → IsPassed asks m n
    passed u s quiet r n (inl e) = subst (IsPassed asks m) (sym e.1) (answer_by schema m u Passes (passing_ends u) s quiet)
    passed u s quiet r n (inr e) = subst (IsPassed asks m) (sym e.1) (same m refl refl)

    -- nothing has changed
    pub passed_same : (n : Machine) → n ≡ m → IsPassed asks m n
    passed_same n e = subst (IsPassed asks m) (sym e) (same m refl refl)

    -- where a result is, nothing has changed; else the step is refused
    pub passed_claim : {A : Type 0} (r : Result A Refusal) (u : Result Statement Refusal) (s : Step) → IsQuiet s → (n : Machine) → OnOk r (n ≡ m) → IfErr r (λ why. Answers m (answer schema m u s) (reply.Refused why) n) → IsPassed asks m n
    passed_claim (Ok x) u s quiet n stays is = passed_same n stays
    passed_claim (Err why) u s quiet n stays is = passed u s quiet (reply.Refused why) n is

    -- where a result is, the step is taken; else nothing has changed
    pub passed_take : {A : Type 0} (r : Result A Refusal) (u : Result Statement Refusal) (s : Step) → IsQuiet s → (answered : Reply) (n : Machine) → IfOk r (λ _. IsAnswer (answer schema m u s) answered n) → OnErr r (n ≡ m) → IsPassed asks m n
    passed_take (Ok x) u s quiet answered n is stays = passed u s quiet answered n (inl is)
    passed_take (Err why) u s quiet answered n is stays = passed_same n stays

    -- the step is taken, or nothing has changed, or the step is refused
    pub passed_register : (r : Result Bool Refusal) (u : Result Statement Refusal) (s : Step) → IsQuiet s → (answered : Reply) (n : Machine) → (r ≡ Ok true → IsAnswer (answer schema m u s) answered n) → (r ≡ Ok false → n ≡ m)
        → IfErr r (λ why. Answers m (answer schema m u s) (reply.Refused why) n) → IsPassed asks m n
    passed_register (Ok true) u s quiet answered n is stays refusals = passed u s quiet answered n (inl (is refl))
    passed_register (Ok false) u s quiet answered n is stays refusals = passed_same n (stays refl)
    passed_register (Err why) u s quiet answered n is stays refusals = passed u s quiet (reply.Refused why) n refusals

    -- a query is opened of which it holds
    pub passed_opened : (q : Statement) (text : List ℕ) (params : List Parameter) (bound : Bound) (interval : Interval) → asks text params q → (r : Reply) (n : Machine)
        → Answers m (open_query schema m (Ok q) text params bound interval) r n → IsPassed asks m n
    passed_opened q text params bound interval is r n (inr e) = passed_same n e.1
    passed_opened q text params bound interval is r n (inl e) = subst (IsPassed asks m) (sym e.1) (by_refusal (open_refusal m bound interval))
      where
        by_refusal : (o : Option Refusal) → IsPassed asks m (unless_refused m o (opened schema m text params q (timestamp_of bound interval))).1
        by_refusal None = record { log = refl; asked = all_push (λ (p : OpenQuery). asks p.text p.params p.statement) m.queries (as_opened schema m.next_query (timestamp_of bound interval) text params q) asked is }
        by_refusal (Some why) = same m refl refl

-- replies of different kinds
opened_refused : (a b c : ℕ) (why : Refusal) → reply.Opened a b c ≡ reply.Refused why → ⊥
opened_refused a b c why e = absurd (cc e)

opened_same : (a b c d f g : ℕ) → reply.Opened a b c ≡ reply.Opened d f g → b ≡ f
opened_same a b c d f g e = cc

-- what an Open is answered has the timestamp that the bound chooses
pub opened_at : (schema : List Table) (m : Machine) (q : Statement) (text : List ℕ) (params : List Parameter) (bound : Bound) (interval : Interval) (r : Result Opened Refusal) (n : Machine)
    → Answers m (open_query schema m (Ok q) text params bound interval) (as_reply opened_reply r) n → IfOk r (λ o. o.s ≡ timestamp_of bound interval)
opened_at schema m q text params bound interval (Err why) n is = tt
opened_at schema m q text params bound interval (Ok o) n (inr e) = absurd (opened_refused o.query o.s o.leaves refusal.OutOfMemory e.0)
opened_at schema m q text params bound interval (Ok o) n (inl e) = by_refusal (open_refusal m bound interval) e.0
  where
    by_refusal : (w : Option Refusal) → reply.Opened o.query o.s o.leaves ≡ (unless_refused m w (opened schema m text params q (timestamp_of bound interval))).0 → o.s ≡ timestamp_of bound interval
    by_refusal None f = opened_same o.query o.s o.leaves m.next_query (timestamp_of bound interval) _ f
    by_refusal (Some why) f = absurd (opened_refused o.query o.s o.leaves why f)

-- ---- a commit

module _ (schema : List Table) (m : Machine) (owner txn : ℕ) (interval : Interval) where
  abbrev pub decided : Answer
  decided = decide schema m owner txn verdict.Commit interval

  refused_as : (why : Refusal) (ts : ℕ) → reply.Decided ts ≡ reply.Refused why → ⊥
  refused_as why ts e = absurd (cc e)

  -- what is left of a decision to commit once the transaction is found
  abbrev ends : OpenTransaction → Option Refusal → Answer
  ends t o = unless_refused m o (committed m owner txn (commit_timestamp m t interval) t)

  found_commit : (t : OpenTransaction) → find (is_transaction owner txn) m.transactions ≡ Some t → decided ≡ ends t (commit_refusal schema m t interval)
  found_commit t found = ap (λ (o : Option OpenTransaction). if_some o (refused m refusal.UnknownTransaction) (decide_transaction schema m owner txn verdict.Commit interval)) found

  -- a commit that is answered has joined the log
  pub committed_by : (ts : ℕ) (n : Machine) → IsAnswer decided (reply.Decided ts) n → IsCommitted m owner txn ts n
  committed_by ts n e = elim (find (is_transaction owner txn) m.transactions) as (λ o. find (is_transaction owner txn) m.transactions ≡ o → IsCommitted m owner txn ts n) [
    | None ↦ λ none. absurd (refused_as refusal.UnknownTransaction ts (e.0 ∙ ap (λ (o : Option OpenTransaction). (if_some o (refused m refusal.UnknownTransaction) (decide_transaction schema m owner txn verdict.Commit interval)).0) none))
    | Some t ↦ λ found. by_refusal t found (commit_refusal schema m t interval) (e.0 ∙ ap (λ (a : Answer). a.0) (found_commit t found)) (e.1 ∙ ap (λ (a : Answer). a.1) (found_commit t found))
  ] refl
    where
      decided_same : (a b : ℕ) → reply.Decided a ≡ reply.Decided b → a ≡ b
      decided_same a b e = cc

      by_refusal : (t : OpenTransaction) → find (is_transaction owner txn) m.transactions ≡ Some t → (o : Option Refusal) → reply.Decided ts ≡ (ends t o).0 → n ≡ (ends t o).1 → IsCommitted m owner txn ts n
      by_refusal t found (Some why) is after = absurd (refused_as why ts is)
      by_refusal t found None is after = subst (λ (k : ℕ). IsCommitted m owner txn k n) (sym (decided_same ts (commit_timestamp m t interval) is))
          (subst (IsCommitted m owner txn (commit_timestamp m t interval)) (sym after) record { transaction = t; found = found; log = refl; queries = refl })

  -- a commit that is refused leaves all as it was
  pub uncommitted : (why : Refusal) (n : Machine) → IsAnswer decided (reply.Refused why) n → n ≡ m
  uncommitted why n e = elim (find (is_transaction owner txn) m.transactions) as (λ o. find (is_transaction owner txn) m.transactions ≡ o → n ≡ m) [
    | None ↦ λ none. e.1 ∙ ap (λ (o : Option OpenTransaction). (if_some o (refused m refusal.UnknownTransaction) (decide_transaction schema m owner txn verdict.Commit interval)).1) none
    | Some t ↦ λ found. by_refusal t (commit_refusal schema m t interval) (e.0 ∙ ap (λ (a : Answer). a.0) (found_commit t found)) (e.1 ∙ ap (λ (a : Answer). a.1) (found_commit t found))
  ] refl
    where
      by_refusal : (t : OpenTransaction) (o : Option Refusal) → reply.Refused why ≡ (ends t o).0 → n ≡ (ends t o).1 → n ≡ m
      by_refusal t (Some other) is after = after
      by_refusal t None is after = absurd (refused_as why (commit_timestamp m t interval) (sym is))

  -- a decision to commit aborts nothing
  pub never_aborted : (n : Machine) → IsAnswer decided reply.Aborted n → ⊥
  never_aborted n e = elim (find (is_transaction owner txn) m.transactions) as (λ o. find (is_transaction owner txn) m.transactions ≡ o → ⊥) [
    | None ↦ λ none. refused_aborted refusal.UnknownTransaction (e.0 ∙ ap (λ (o : Option OpenTransaction). (if_some o (refused m refusal.UnknownTransaction) (decide_transaction schema m owner txn verdict.Commit interval)).0) none)
    | Some t ↦ λ found. by_refusal t (commit_refusal schema m t interval) (e.0 ∙ ap (λ (a : Answer). a.0) (found_commit t found))
  ] refl
    where
      refused_aborted : (why : Refusal) → reply.Aborted ≡ reply.Refused why → ⊥
      refused_aborted why e = absurd (cc e)

      decided_aborted : (ts : ℕ) → reply.Aborted ≡ reply.Decided ts → ⊥
      decided_aborted ts e = absurd (cc e)

      by_refusal : (t : OpenTransaction) (o : Option Refusal) → reply.Aborted ≡ (ends t o).0 → ⊥
      by_refusal t (Some why) is = refused_aborted why is
      by_refusal t None is = decided_aborted (commit_timestamp m t interval) is
