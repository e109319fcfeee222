-- Every history is externally consistent under an honest clock.
use Rattle.std.proofs.Common.{◌≡◌, ℕ, ◌<◌, ◌+◌, ◌≤◌, zero, suc, max, Bool, true, false, cond, nat_le, List, [], ◌∷◌, length, Some, Result, refl, ap, sym, ◌∙◌, subst, inl, inr, ◌==◌, arith}
use Rattle.std.specs.Prelude.{slice_get, find, filter}
use Rattle.std.specs.List.{AllByRecursion, Contains}
use Rattle.std.proofs.lemmas.Bool.Decides.{nat_tests}
use Rattle.std.proofs.lemmas.Option.{slice_get_within, get_or_from_slice_get}
use Rattle.std.proofs.lemmas.List.Elements.{All-from_recursion, All-contains}
use Rattle.std.proofs.lemmas.Bool.{both_ways, eqb-true, leb-false, and_parts}
use Rattle.span_schema.specs.declared.table.Table.{Table}
use Rattle.span_value.specs.declared.refusal.Refusal.{Refusal}
use Rattle.span_value.specs.declared.refusal.Refusal.TheVariants as refusal
use Rattle.span_value.proofs.Lists.{all_push, all_weaker}
use Rattle.span_query.specs.declared.query.Statement.{Statement}
use Rattle.span_query.specs.Rows as rows
use Rattle.span_params.specs.declared.params.Parameter.{Parameter}
use Rattle.span_truetime.specs.declared.bound.Bound.{Bound}
use Rattle.span_truetime.specs.declared.bound.Bound.TheVariants as bound_of
use Rattle.span_truetime.specs.declared.interval.Interval.{Interval}
use Rattle.span_truetime.specs.Limits.{timestamp_end}
use Rattle.span_truetime.specs.Time.{timestamp_of}
use Rattle.span_machine.specs.declared.step.Step.{Step}
use Rattle.span_machine.specs.declared.step.Step.TheVariants.{Begin, Prepare, Decide, Apply, Advance, Trim, Open, Scan, Finish, Close, Split}
use Rattle.span_machine.specs.declared.step.Reply.{Reply}
use Rattle.span_machine.specs.declared.step.Reply.TheVariants.{Refused, Decided, Applied, Opened}
use Rattle.span_machine.specs.declared.transaction.Commit.{Commit}
use Rattle.span_machine.specs.declared.transaction.OpenTransaction.{OpenTransaction}
use Rattle.span_machine.specs.declared.transaction.Decision.{Decision}
use Rattle.span_machine.specs.declared.transaction.Decision.TheVariants as decision
use Rattle.span_machine.specs.declared.transaction.Decision.TheVariants.{Committed}
use Rattle.span_machine.specs.Commits.{commits_of}
use Rattle.span_machine.specs.Consistency.{MayBeTakenAt, AreTrueTimes, HonestClock, IsAt, IsAppliedAt, AreDecidedInOrder, AreSeen, IsExternallyConsistent}
use Rattle.span_machine.specs.Machine.{Machine, Understanding, IsStep, answer, start, changed_first, without_first, is_undecided, is_early, is_transaction, is_prepared_at, is_all_prepared, with_decision, add_prepared, greatest, coordinator_slot, if_some, prepare_timestamp, commit_timestamp, commit_of, committed, without_prepared, applied_at, answer_on, meaning, opened}
use Rattle.span_machine.specs.Run.{Run, IsHistory}
use Rattle.span_machine.specs.Sorting.{placed, in_order}
use Rattle.span_machine.specs.Tables.{is_before, upto}
use Rattle.span_machine_laws.proofs.Causes.{may_commit, may_apply}
use Rattle.span_machine_laws.proofs.Numbers.{IsNumbered, same_number}
use Rattle.span_machine_laws.proofs.Lists.{IsIn, found_in, found_passes, kept_after, all_changed, all_without, all_found, all_places}
use Rattle.span_machine_laws.proofs.Decisions.{IsDecidedBy, HasDecisions, IsOrderly, step_orderly, start_orderly}
use Rattle.span_machine_laws.proofs.Walks.{Ends, answer_by}

-- ---- what has surely passed

-- the transaction of this number is decided: its commit, if it has one, is below the timestamp, and it gets no other
pub record IsPast (number ts : ℕ) (m : Machine) : Type 0 where
  pub commits : AllByRecursion (λ (c : Commit). c.number ≡ number → c.timestamp < ts) m.log
  pub decided : AllByRecursion (λ (t : OpenTransaction). t.number ≡ number → is_undecided t ≡ false) m.transactions
  pub below : number < m.next_transaction

module _ (schema : List Table) (number ts : ℕ) (m : Machine) (past : IsPast number ts m) where
  abbrev IsDecided : OpenTransaction → Type 0
  IsDecided t = t.number ≡ number → is_undecided t ≡ false

  -- the same log, with these transactions
  past_with : (n : Machine) → AllByRecursion IsDecided n.transactions → n.log ≡ m.log → n.next_transaction ≡ m.next_transaction → IsPast number ts n
  past_with n all e f = record {
    commits = subst (λ l. AllByRecursion (λ (c : Commit). c.number ≡ number → c.timestamp < ts) l) (sym e) past.commits;
    decided = all;
    below = subst (λ k. number < k) (sym f) past.below;
  }

  -- one transaction changed or removed
  either_past : (b : Bool) (test : OpenTransaction → Bool) (change : OpenTransaction → OpenTransaction) → ((t : OpenTransaction) → IsDecided t → IsDecided (change t))
      → AllByRecursion IsDecided (cond b (without_first test m.transactions) (changed_first test change m.transactions))
  either_past true test change keeps = all_without IsDecided test m.transactions past.decided
  either_past false test change keeps = all_changed IsDecided test change keeps m.transactions past.decided

  past_applied : (o : Decision) (owner txn slot : ℕ) (t : OpenTransaction) → IsPast number ts (applied_at o m owner txn slot t).1
  past_applied decision.Undecided owner txn slot t = past
  past_applied decision.Aborted owner txn slot t = past_with _ (either_past (length (without_prepared slot t).prepared == 0) (is_transaction owner txn) (without_prepared slot) (λ u is. is)) refl refl
  past_applied (Committed at) owner txn slot t = past_with _ (either_past (length (without_prepared slot t).prepared == 0) (is_transaction owner txn) (without_prepared slot) (λ u is. is)) refl refl

  -- what is committed is another transaction
  past_committed : (owner txn at : ℕ) (t : OpenTransaction) → find (is_transaction owner txn) m.transactions ≡ Some t → is_undecided t ≡ true → IsPast number ts (committed m owner txn at t).1
  past_committed owner txn at t found still = record {
    commits = all_push (λ (c : Commit). c.number ≡ number → c.timestamp < ts) m.log (commit_of at t) past.commits
        (λ e. absurd (both_ways (is_undecided t) (all_found IsDecided (is_transaction owner txn) m.transactions t found past.decided e) still));
    decided = all_changed IsDecided (is_transaction owner txn) (with_decision (Committed at)) (λ u is e. refl) m.transactions past.decided;
    below = past.below;
  }

  past_ends : (u : Result Statement Refusal) → Ends schema m u (λ step a. IsPast number ts a.1)
  past_ends u = record {
    refuses = λ step why may. past;
    begins = λ owner ms accepted. record {
      commits = past.commits;
      decided = all_push IsDecided m.transactions (record { owner = owner; number = m.next_transaction; mutations = ms; decision = decision.Undecided; prepared = [] }) past.decided
          (λ e. let low = past.below in absurd (omega arith));
      below = let low = past.below in omega arith;
    };
    prepares = λ owner txn slot t slot_state found here accepted well fits low. past_with _ (all_changed IsDecided (is_transaction owner txn) (add_prepared slot (prepare_timestamp slot_state)) (λ t is. is) m.transactions past.decided) refl refl;
    commits = λ owner txn interval t found accepted.
        past_committed owner txn (commit_timestamp m t interval) t found (may_commit (is_undecided t) (is_all_prepared schema m t) (nat_le timestamp_end (commit_timestamp m t interval)) accepted).0;
    aborts = λ owner txn interval t found still. past_with _ (either_past (length t.prepared == 0) (is_transaction owner txn) (with_decision decision.Aborted) (λ u is e. refl)) refl refl;
    applies = λ owner txn slot interval t slot_state found here accepted. past_applied t.decision owner txn slot t;
    advances = λ slot interval slot_state here. past_with _ past.decided refl refl;
    trims = λ slot h slot_state here accepted. past_with _ past.decided refl refl;
    opens = λ text params bound interval asked is accepted. past_with _ past.decided refl refl;
    finds_nothing = λ query leaf slot interval. past;
    scans = λ query leaf slot interval q slot_state l part found here at gap above safe. past_with _ past.decided refl refl;
    waits = λ query leaf slot interval q slot_state found here. past_with _ past.decided refl refl;
    finishes = λ query q found covered. past;
    closes = λ query q found. past_with _ past.decided refl refl;
    splits = λ table key code slot slot_state keyed home here accepted. past_with _ past.decided refl refl;
  }

-- what has passed stays so to the end of a run
module _ (understands : Understanding) (schema : List Table) (number ts : ℕ) where
  step_past : (m : Machine) (step : Step) (r : Reply) (next : Machine) → IsStep understands schema m step r next → IsPast number ts m → IsPast number ts next
  step_past m step r next (inl e) past = subst (IsPast number ts) (sym e.2.1) (answer_by schema m e.0 (λ s a. IsPast number ts a.1) (past_ends schema number ts m past e.0) step)
  step_past m step r next (inr e) past = subst (IsPast number ts) (sym e.1.1) past

  run_past : (m : Machine) (steps : List Step) (replies : List Reply) (last : Machine) → Run understands schema m steps replies last → IsPast number ts m → IsPast number ts last
  run_past m [] [] last run past = subst (IsPast number ts) (sym run) past
  run_past m [] (r ∷ rs) last run past = absurd run
  run_past m (s ∷ ss) [] last run past = absurd run
  run_past m (s ∷ ss) (r ∷ rs) last run past = run_past run.0 ss rs last run.2 (step_past m s r run.0 run.1 past)

-- ---- what a reply says of time

-- A commit timestamp is after the clock's answer, what is applied has passed by the clock's answer, a strong query reads at its end.
abbrev pub IsTimely : Step → Reply → Machine → Type 0
IsTimely (Decide owner txn v interval) (Decided ts) n = interval.latest < ts
IsTimely (Apply owner txn slot interval) Applied n = IsPast txn interval.earliest n
IsTimely (Open text params bound_of.Strong interval) (Opened query s leaves) n = s ≡ interval.latest
IsTimely _ _ n = Unit {0}

refusal_timely : (step : Step) (why : Refusal) (n : Machine) → IsTimely step (Refused why) n
refusal_timely (Begin owner ms) why n = tt
refusal_timely (Prepare owner txn slot) why n = tt
refusal_timely (Decide owner txn v interval) why n = tt
refusal_timely (Apply owner txn slot interval) why n = tt
refusal_timely (Advance slot interval) why n = tt
refusal_timely (Trim slot h) why n = tt
refusal_timely (Open text params bound_of.Strong interval) why n = tt
refusal_timely (Open text params (bound_of.At s) interval) why n = tt
refusal_timely (Open text params (bound_of.Staleness d) interval) why n = tt
refusal_timely (Scan query leaf slot interval) why n = tt
refusal_timely (Finish query) why n = tt
refusal_timely (Close query) why n = tt
refusal_timely (Split table key) why n = tt

-- the commit of a transaction that is not early has passed
decided_past : (o : Decision) (interval : Interval) (c : Commit) → is_early interval o ≡ false → o ≡ Committed c.timestamp → c.timestamp < interval.earliest
decided_past o interval c early is = leb-false interval.earliest c.timestamp (sym (ap (is_early interval) is) ∙ early)

-- a commit timestamp is above the latest time that it may be now
after_latest : (latest prepared last : ℕ) → latest < max prepared (max (latest + 1) last)
after_latest latest prepared last = omega arith

upto_is : (ts s : ℕ) → ts < s → nat_le ts s ≡ true
upto_is ts s low = grind (arith, nat_tests)

module _ (schema : List Table) (m : Machine) (has : HasDecisions m) where
  -- the transaction that is applied: its commit, if it has one, has passed
  found_past : (owner txn : ℕ) (interval : Interval) (t : OpenTransaction) (n : Machine) → find (is_transaction owner txn) m.transactions ≡ Some t → is_undecided t ≡ false → is_early interval t.decision ≡ false → IsNumbered m
      → IsPast txn interval.earliest m
  found_past owner txn interval t n found done early numbered =
      let is : is_transaction owner txn t ≡ true = found_passes (is_transaction owner txn) m.transactions t found in
      let number : t.number ≡ txn = eqb-true t.number txn (and_parts (t.owner == owner) (t.number == txn) is).1 in
      let by : IsDecidedBy m.log t = all_found (IsDecidedBy m.log) (is_transaction owner txn) m.transactions t found has.decided in
      record {
        commits = all_weaker (λ (c : Commit). c.number ≡ t.number → t.decision ≡ Committed c.timestamp) (λ (c : Commit). c.number ≡ txn → c.timestamp < interval.earliest)
            (λ c decides e. decided_past t.decision interval c early (decides (e ∙ sym number))) m.log by;
        decided = all_places (λ (u : OpenTransaction). u.number ≡ txn → is_undecided u ≡ false) m.transactions
            (λ u at e. subst (λ (v : OpenTransaction). is_undecided v ≡ false) (same_number m numbered t u (found_in (is_transaction owner txn) m.transactions t found) at (number ∙ sym e)) done);
        below = subst (λ k. k < m.next_transaction) number (all_found (λ (u : OpenTransaction). u.number < m.next_transaction) (is_transaction owner txn) m.transactions t found numbered.below);
      }

  module _ (numbered : IsNumbered m) where
    timely_applied : (o : Decision) (owner txn slot : ℕ) (interval : Interval) (t : OpenTransaction) → find (is_transaction owner txn) m.transactions ≡ Some t → IsPast txn interval.earliest m
        → IsTimely (Apply owner txn slot interval) (applied_at o m owner txn slot t).0 (applied_at o m owner txn slot t).1
    timely_applied decision.Undecided owner txn slot interval t found past = tt
    timely_applied decision.Aborted owner txn slot interval t found past = past_applied schema txn interval.earliest m past decision.Aborted owner txn slot t
    timely_applied (Committed ts) owner txn slot interval t found past = past_applied schema txn interval.earliest m past (Committed ts) owner txn slot t

    timely_opened : (text : List ℕ) (params : List Parameter) (bound : Bound) (interval : Interval) (asked : Statement)
        → IsTimely (Open text params bound interval) (opened schema m text params asked (timestamp_of bound interval)).0 (opened schema m text params asked (timestamp_of bound interval)).1
    timely_opened text params bound_of.Strong interval asked = refl
    timely_opened text params (bound_of.At s) interval asked = tt
    timely_opened text params (bound_of.Staleness d) interval asked = tt

    timely_answer : (query s : ℕ) (r : Result (List rows.Row) Refusal) → IsTimely (Finish query) (answer_on s r) m
    timely_answer query s r = tt

    timely_ends : (u : Result Statement Refusal) → Ends schema m u (λ step a. IsTimely step a.0 a.1)
    timely_ends u = record {
      refuses = λ step why may. refusal_timely step why m;
      begins = λ owner ms accepted. tt;
      prepares = λ owner txn slot t slot_state found here accepted well fits low. tt;
      commits = λ owner txn interval t found accepted. after_latest interval.latest (greatest t.prepared) (if_some (slice_get m.slots (coordinator_slot t.prepared)) 0 (λ slot_state. slot_state.last) + 1);
      aborts = λ owner txn interval t found still. tt;
      applies = λ owner txn slot interval t slot_state found here accepted.
          let may = may_apply (is_undecided t) (is_prepared_at slot t) (is_early interval t.decision) accepted in
          timely_applied t.decision owner txn slot interval t found (found_past owner txn interval t m found may.0 may.2 numbered);
      advances = λ slot interval slot_state here. tt;
      trims = λ slot h slot_state here accepted. tt;
      opens = λ text params bound interval asked is accepted. timely_opened text params bound interval asked;
      finds_nothing = λ query leaf slot interval. tt;
      scans = λ query leaf slot interval q slot_state l part found here at gap above safe. tt;
      waits = λ query leaf slot interval q slot_state found here. tt;
      finishes = λ query q found covered. timely_answer query q.s (meaning schema m q);
      closes = λ query q found. tt;
      splits = λ table key code slot slot_state keyed home here accepted. tt;
    }

-- one step, out of memory included
step_timely : (understands : Understanding) (schema : List Table) (m : Machine) (step : Step) (r : Reply) (next : Machine) → IsStep understands schema m step r next → IsOrderly m → IsTimely step r next
step_timely understands schema m step r next (inl e) orderly =
    subst (λ x. IsTimely step x next) (sym e.2.0) (subst (λ n. IsTimely step (answer schema m e.0 step).0 n) (sym e.2.1)
    (answer_by schema m e.0 (λ s a. IsTimely s a.0 a.1) (timely_ends schema m orderly.decisions orderly.numbered e.0) step))
step_timely understands schema m step r next (inr e) orderly = subst (λ x. IsTimely step x next) (sym e.1.0) (refusal_timely step refusal.OutOfMemory next)

-- ---- places of a run

-- the step at a place, and the run after it
pub record Taken (understands : Understanding) (schema : List Table) (last : Machine) (step : Step) (r : Reply) : Type 0 where
  pub next : Machine
  pub timely : IsTimely step r next
  pub steps : List Step
  pub replies : List Reply
  pub rest : Run understands schema next steps replies last

module _ (understands : Understanding) (schema : List Table) where
  taken_at : (m : Machine) (steps : List Step) (replies : List Reply) (last : Machine) → Run understands schema m steps replies last → IsOrderly m → (place : ℕ) (step : Step) (r : Reply) → IsAt steps replies place step r
      → Taken understands schema last step r
  taken_at m [] replies last run orderly place step r at = absurd (cc (at.0))
  taken_at m (s ∷ ss) [] last run orderly place step r at = absurd run
  taken_at m (s ∷ ss) (x ∷ xs) last run orderly zero step r at =
      let same : s ≡ step = (let e = at.0 in cc) in
      let alike : x ≡ r = (let e = at.1 in cc) in
      record {
        next = run.0;
        timely = subst (λ y. IsTimely step y run.0) alike (subst (λ y. IsTimely y x run.0) same (step_timely understands schema m s x run.0 run.1 orderly));
        steps = ss;
        replies = xs;
        rest = run.2;
      }
  taken_at m (s ∷ ss) (x ∷ xs) last run orderly (suc place) step r at = taken_at run.0 ss xs last run.2 (step_orderly understands schema m s x run.0 run.1 orderly) place step r at

-- ---- true times

-- a true time of a step, from another one on
abbrev pub HasTimeFrom : ℕ → Step → Type 0
HasTimeFrom from step = (time : ℕ) × (from ≤ time) × MayBeTakenAt step time

time_at : (from : ℕ) (steps : List Step) (times : List ℕ) → AreTrueTimes from steps times → (j : ℕ) (step : Step) → slice_get steps j ≡ Some step → HasTimeFrom from step
time_at from [] times all j step at = absurd (cc (at))
time_at from (s ∷ ss) [] all j step at = absurd all
time_at from (s ∷ ss) (t ∷ ts) all zero step at = let same : s ≡ step = cc in (t, all.0, subst (λ y. MayBeTakenAt y t) same all.1)
time_at from (s ∷ ss) (t ∷ ts) all (suc j) step at =
    let rest = time_at t ss ts all.2 j step at in
    (rest.0, let first = all.0 in let then_on = rest.1 in omega arith, rest.2)

-- the true time of a step, and that of a later one
times_at : (from : ℕ) (steps : List Step) (times : List ℕ) → AreTrueTimes from steps times → (i j : ℕ) (a b : Step) → i < j → slice_get steps i ≡ Some a → slice_get steps j ≡ Some b
    → (time : ℕ) × MayBeTakenAt a time × HasTimeFrom time b
times_at from [] times all i j a b low at there = absurd (cc (at))
times_at from (s ∷ ss) [] all i j a b low at there = absurd all
times_at from (s ∷ ss) (t ∷ ts) all i zero a b low at there = absurd (omega arith)
times_at from (s ∷ ss) (t ∷ ts) all zero (suc j) a b low at there = let same : s ≡ a = cc in (t, subst (λ y. MayBeTakenAt y t) same all.1, time_at t ss ts all.2 j b there)
times_at from (s ∷ ss) (t ∷ ts) all (suc i) (suc j) a b low at there = times_at t ss ts all.2 i j a b (omega arith) at there

-- ---- the commits that a query sees

in_from_contains : {A : Type 0} (xs : List A) (x : A) → Contains xs x → (P : A → Type 0) → AllByRecursion P xs → P x
in_from_contains xs x is P all = All-contains P xs x (All-from_recursion P xs all) is

contains_from_in : {A : Type 0} (xs : List A) (x : A) → IsIn x xs → Contains xs x
contains_from_in xs x is = (is.0, slice_get_within xs is.0 x is.1, get_or_from_slice_get xs is.0 x x is.1)

in_after : {A : Type 0} (xs : List A) (x y : A) → IsIn x xs → IsIn x (y ∷ xs)
in_after xs x y is = (suc is.0, is.1)

-- what was placed, and what was there
in_placed : {A : Type 0} (before : A → A → Bool) (y : A) (xs : List A) → IsIn y (placed before y xs)
in_placed before y [] = (0, refl)
in_placed before y (x ∷ xs) = elim (before y x) as (λ b. IsIn y (cond b (y ∷ x ∷ xs) (x ∷ placed before y xs))) [
  | true ↦ (0, refl)
  | false ↦ in_after (placed before y xs) y x (in_placed before y xs)
]

still_placed : {A : Type 0} (before : A → A → Bool) (y : A) (xs : List A) (x : A) → IsIn x xs → IsIn x (placed before y xs)
still_placed before y [] x is = absurd (cc (is.1))
still_placed before y (z ∷ zs) x is = elim (before y z) as (λ b. IsIn x (cond b (y ∷ z ∷ zs) (z ∷ placed before y zs))) [
  | true ↦ in_after (z ∷ zs) x y is
  | false ↦ kept_after zs (placed before y zs) x z (still_placed before y zs x) is.0 is.1
]

in_sorted : {A : Type 0} (before : A → A → Bool) (xs : List A) (x : A) → IsIn x xs → IsIn x (in_order before xs)
in_sorted before [] x is = is
in_sorted before (y ∷ ys) x (zero, e) = let same : y ≡ x = cc in subst (λ z. IsIn z (placed before y (in_order before ys))) same (in_placed before y (in_order before ys))
in_sorted before (y ∷ ys) x (suc i, e) = still_placed before y (in_order before ys) x (in_sorted before ys x (i, e))

pub in_filtered : {A : Type 0} (test : A → Bool) (xs : List A) (x : A) → test x ≡ true → IsIn x xs → IsIn x (filter test xs)
in_filtered test [] x passes is = is
in_filtered test (y ∷ ys) x passes (zero, e) = let same : x ≡ y = cc in let first : test y ≡ true = ap test (sym same) ∙ passes in rw first (0, ap (λ z. Some z) (sym same))
in_filtered test (y ∷ ys) x passes (suc i, e) = elim (test y) as (λ b. IsIn x (cond b (y ∷ filter test ys) (filter test ys))) [
  | true ↦ in_after (filter test ys) x y (in_filtered test ys x passes (i, e))
  | false ↦ in_filtered test ys x passes (i, e)
]

-- a commit at s or earlier is among those that make the tables at s
seen_at : (log : List Commit) (c : Commit) (s : ℕ) → Contains log c → c.timestamp < s → Contains (upto log s) c
seen_at log c s is low =
    in_from_contains log c is (λ d. nat_le d.timestamp s ≡ true → Contains (upto log s) d)
    (all_places (λ d. nat_le d.timestamp s ≡ true → Contains (upto log s) d) log
    (λ d at upto_s. contains_from_in (upto log s) d (in_sorted is_before (filter (λ e. nat_le e.timestamp s) log) d (in_filtered (λ e. nat_le e.timestamp s) log d upto_s at))))
    (upto_is c.timestamp s low)

-- ---- the law

module _ (understands : Understanding) (schema : List Table) (steps : List Step) (replies : List Reply) (history : IsHistory understands schema steps replies) (honest : HonestClock steps) where
  here : (place : ℕ) (step : Step) (r : Reply) → IsAt steps replies place step r → Taken understands schema history.last step r
  here place step r at = taken_at understands schema start steps replies history.last history.run start_orderly place step r at

  -- what is applied has passed by the clock's answer
  has_passed : (i : ℕ) (c : Commit) → Contains (commits_of steps replies) c → (at : IsAppliedAt steps replies i c) → c.timestamp < at.1.earliest
  has_passed i c is at =
      let taken = here i (Apply c.owner c.number at.0 at.1) Applied at.2 in
      let past : IsPast c.number at.1.earliest history.last = run_past understands schema c.number at.1.earliest taken.next taken.steps taken.replies history.last taken.rest taken.timely in
      in_from_contains (commits_of steps replies) c is (λ (d : Commit). d.number ≡ c.number → d.timestamp < at.1.earliest)
      (subst (λ l. AllByRecursion (λ (d : Commit). d.number ≡ c.number → d.timestamp < at.1.earliest) l) history.log past.commits) refl

  -- the clock's answer at a later step ends after the earlier one's began
  in_turn : (i j : ℕ) (a b : Step) → i < j → slice_get steps i ≡ Some a → slice_get steps j ≡ Some b → (time : ℕ) × MayBeTakenAt a time × HasTimeFrom time b
  in_turn i j a b low at there = times_at 0 steps honest.0 honest.1 i j a b low at there

  in_order_of_time : AreDecidedInOrder steps replies
  in_order_of_time j a b is before there =
      let i = before.0 in
      let at : IsAppliedAt steps replies i a = before.2 in
      let passed : a.timestamp < at.1.earliest = has_passed i a is at in
      let taken = here j (Decide b.owner b.number there.0 there.1) (Decided b.timestamp) there.2 in
      let timely : there.1.latest < b.timestamp = taken.timely in
      let times = in_turn i j (Apply a.owner a.number at.0 at.1) (Decide b.owner b.number there.0 there.1) before.1 at.2.0 there.2.0 in
      let first : at.1.earliest ≤ times.0 = times.1.0 in
      let later = times.2 in
      let rises : times.0 ≤ later.0 = later.1 in
      let ends : later.0 ≤ there.1.latest = later.2.1 in
      omega arith

  all_seen : AreSeen steps replies
  all_seen j c s is before there =
      let i = before.0 in
      let at : IsAppliedAt steps replies i c = before.2 in
      let passed : c.timestamp < at.1.earliest = has_passed i c is at in
      let taken = here j (Open there.0 there.1 bound_of.Strong there.2) (Opened there.3 s there.4) there.5 in
      let timely : s ≡ there.2.latest = taken.timely in
      let times = in_turn i j (Apply c.owner c.number at.0 at.1) (Open there.0 there.1 bound_of.Strong there.2) before.1 at.2.0 there.5.0 in
      let first : at.1.earliest ≤ times.0 = times.1.0 in
      let later = times.2 in
      let rises : times.0 ≤ later.0 = later.1 in
      let ends : later.0 ≤ there.2.latest = later.2.1 in
      let low : c.timestamp < s = omega arith in
      (low, seen_at (commits_of steps replies) c s is low)

-- every history is externally consistent under an honest clock
pub history_consistent : (understands : Understanding) (schema : List Table) (steps : List Step) (replies : List Reply) → IsHistory understands schema steps replies → HonestClock steps → IsExternallyConsistent steps replies
history_consistent understands schema steps replies history honest = record {
  ordered = in_order_of_time understands schema steps replies history honest;
  seen = all_seen understands schema steps replies history honest;
}
