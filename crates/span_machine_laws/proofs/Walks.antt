use Rattle.std.proofs.Common.{◌≡◌, ◌≢◌, ℕ, nat_lt, Bool, true, false, cond, not, nat_le, List, [], ◌∷◌, Option, Some, None, Result, Ok, Err, refl}
use Rattle.std.specs.Prelude.{slice_get, find}
use Rattle.std.specs.List.{list_all}
use Rattle.span_schema.specs.declared.table.Table.{Table}
use Rattle.span_mutate.specs.declared.mutation.CheckedMutation.{CheckedMutation}
use Rattle.span_value.specs.declared.refusal.Refusal.{Refusal}
use Rattle.span_value.specs.declared.refusal.Refusal.TheVariants as refusal
use Rattle.span_truetime.specs.declared.bound.Bound.{Bound}
use Rattle.span_truetime.specs.declared.interval.Interval.{Interval}
use Rattle.span_truetime.specs.Limits.{timestamp_end}
use Rattle.span_truetime.specs.Time.{timestamp_of}
use Rattle.span_params.specs.declared.params.Parameter.{Parameter}
use Rattle.span_query.specs.declared.query.Statement.{Statement}
use Rattle.span_machine.specs.declared.query.OpenQuery.{OpenQuery}
use Rattle.span_machine.specs.declared.query.ScanLeaf.{ScanLeaf}
use Rattle.span_keycode.specs.declared.range.KeyRange.{KeyRange}
use Rattle.span_value.specs.declared.value.Value.{Value}
use Rattle.span_checking.specs.RootKeys.{root_key}
use Rattle.span_machine.specs.declared.slot.SlotState.{SlotState}
use Rattle.span_machine.specs.declared.step.Step.{Step}
use Rattle.span_machine.specs.declared.step.Step.TheVariants.{Begin, Prepare, Decide, Apply, Advance, Trim, Open, Scan, Finish, Close, Split}
use Rattle.span_machine.specs.declared.step.Reply.TheVariants as reply
use Rattle.span_machine.specs.declared.step.Reply.TheVariants.{Refused}
use Rattle.span_machine.specs.declared.step.Verdict.{Verdict}
use Rattle.span_machine.specs.declared.step.Verdict.TheVariants as verdict
use Rattle.span_machine.specs.declared.transaction.OpenTransaction.{OpenTransaction}
use Rattle.span_value.specs.Results.{first_cause}
use Rattle.span_machine.specs.Machine.{Machine, Answer, answer, refused, if_some, unless_refused, for_transaction, for_slot, for_query, is_transaction, is_query, is_safe, is_undecided, begin_refusal, begun, mutations_refusal, capacity_refusal, prepare_timestamp, prepare_refusal, prepared, prepare_transaction, prepare, mutations_in, commit_timestamp, commit_refusal, committed, aborted, decide_transaction, decide, applied_at, apply_refusal, apply_transaction, apply_step, advanced, trim_refusal, trimmed, trim_slot, open_refusal, opened, open_query, with_risen_floor, with_slot_state, is_covered, cover, gap_in, changed_first, scanned, scan_gap, scan_leaf, scan_query, scan, answer_on, meaning, finish_query, finish, closed, slot_of, split_refusal, split_in_two, split_slot, split_at, split}
use Rattle.span_machine_laws.proofs.Causes.{may_abort}

-- a Finish is refused for an arithmetic fault only by what its query means
abbrev pub MayRefuse : Step → Refusal → Type 0
MayRefuse (Finish query) why = why ≢ refusal.ArithmeticFault
MayRefuse _ why = Unit {0}

-- what a fact about a step and its answer owes at each way that a step can end, where the query text of an Open is understood as u
pub record Ends (schema : List Table) (m : Machine) (u : Result Statement Refusal) (P : Step → Answer → Type 0) : Type 0 where
  pub refuses : (step : Step) (why : Refusal) → MayRefuse step why → P step (refused m why)
  pub begins : (owner : ℕ) (ms : List CheckedMutation) → begin_refusal m ≡ None → P (Begin owner ms) (begun m owner ms)
  pub prepares : (owner txn slot : ℕ) (t : OpenTransaction) (slot_state : SlotState) → find (is_transaction owner txn) m.transactions ≡ Some t → slice_get m.slots slot ≡ Some slot_state
      → prepare_refusal schema m slot t slot_state ≡ None → mutations_refusal schema m (mutations_in schema slot_state t.mutations) ≡ None → capacity_refusal schema m slot slot_state (mutations_in schema slot_state t.mutations) ≡ None → first_cause ((nat_le timestamp_end (prepare_timestamp slot_state), refusal.TimestampRange) ∷ []) ≡ None
      → P (Prepare owner txn slot) (prepared m owner txn slot slot_state)
  pub commits : (owner txn : ℕ) (interval : Interval) (t : OpenTransaction) → find (is_transaction owner txn) m.transactions ≡ Some t → commit_refusal schema m t interval ≡ None
      → P (Decide owner txn verdict.Commit interval) (committed m owner txn (commit_timestamp m t interval) t)
  pub aborts : (owner txn : ℕ) (interval : Interval) (t : OpenTransaction) → find (is_transaction owner txn) m.transactions ≡ Some t → is_undecided t ≡ true
      → P (Decide owner txn verdict.Abort interval) (aborted m owner txn t)
  pub applies : (owner txn slot : ℕ) (interval : Interval) (t : OpenTransaction) (slot_state : SlotState) → find (is_transaction owner txn) m.transactions ≡ Some t → slice_get m.slots slot ≡ Some slot_state
      → apply_refusal slot t interval ≡ None → P (Apply owner txn slot interval) (applied_at t.decision m owner txn slot t)
  pub advances : (slot : ℕ) (interval : Interval) (slot_state : SlotState) → slice_get m.slots slot ≡ Some slot_state → P (Advance slot interval) (advanced m slot interval slot_state)
  pub trims : (slot h : ℕ) (slot_state : SlotState) → slice_get m.slots slot ≡ Some slot_state → trim_refusal m slot h slot_state ≡ None → P (Trim slot h) (trimmed schema m slot h slot_state)
  pub opens : (text : List ℕ) (params : List Parameter) (bound : Bound) (interval : Interval) (asked : Statement) → u ≡ Ok asked → open_refusal m bound interval ≡ None
      → P (Open text params bound interval) (opened schema m text params asked (timestamp_of bound interval))
  pub finds_nothing : (query leaf slot : ℕ) (interval : Interval) → P (Scan query leaf slot interval) (reply.Nothing, m)
  pub scans : (query leaf slot : ℕ) (interval : Interval) (q : OpenQuery) (slot_state : SlotState) (l : ScanLeaf) (part : KeyRange) → find (is_query query) m.queries ≡ Some q → slice_get m.slots slot ≡ Some slot_state
      → slice_get q.leaves leaf ≡ Some l → gap_in slot_state l ≡ Some part → nat_lt q.s slot_state.horizon ≡ false → is_safe m slot (with_risen_floor slot_state q.s interval) q.s ≡ true
      → P (Scan query leaf slot interval) (reply.Scanned, record (with_slot_state m slot (with_risen_floor slot_state q.s interval)) { queries = changed_first (is_query query) (cover leaf part) m.queries })
  pub waits : (query leaf slot : ℕ) (interval : Interval) (q : OpenQuery) (slot_state : SlotState) → find (is_query query) m.queries ≡ Some q → slice_get m.slots slot ≡ Some slot_state
      → P (Scan query leaf slot interval) (Refused refusal.NotYet, with_slot_state m slot (with_risen_floor slot_state q.s interval))
  pub finishes : (query : ℕ) (q : OpenQuery) → find (is_query query) m.queries ≡ Some q → list_all is_covered q.leaves ≡ true → P (Finish query) (answer_on q.s (meaning schema m q), m)
  pub closes : (query : ℕ) (q : OpenQuery) → find (is_query query) m.queries ≡ Some q → P (Close query) (closed m query q)
  pub splits : (table : List ℕ) (key : List Value) (code : List ℕ) (slot : ℕ) (slot_state : SlotState) → root_key schema table key ≡ Some code → slot_of m.slots code ≡ Some slot → slice_get m.slots slot ≡ Some slot_state
      → split_refusal m slot code slot_state ≡ None → P (Split table key) (split_in_two m slot code slot_state)

module _ (schema : List Table) (m : Machine) (u : Result Statement Refusal) (P : Step → Answer → Type 0) (ends : Ends schema m u P) where
  by_cond : (step : Step) (b : Bool) (x y : Answer) → (b ≡ true → P step x) → (b ≡ false → P step y) → P step (cond b x y)
  by_cond step b x y p q = elim b as (λ v. b ≡ v → P step (cond v x y)) [ true ↦ p | false ↦ q ] refl

  by_refusal : (step : Step) → ((why : Refusal) → MayRefuse step why) → (o : Option Refusal) (a : Answer) → (o ≡ None → P step a) → P step (unless_refused m o a)
  by_refusal step may o a p = elim o as (λ v. o ≡ v → P step (unless_refused m v a)) [ None ↦ p | Some why ↦ λ e. ends.refuses step why (may why) ] refl

  by_some : {A : Type 0} (step : Step) (o : Option A) (why : Refusal) → MayRefuse step why → (make : A → Answer) → ((x : A) → o ≡ Some x → P step (make x)) → P step (if_some o (refused m why) make)
  by_some step o why may make p = elim o as (λ v. o ≡ v → P step (if_some v (refused m why) make)) [ None ↦ λ e. ends.refuses step why may | Some x ↦ p x ] refl

  by_transaction : (step : Step) → MayRefuse step refusal.UnknownTransaction → (owner number : ℕ) (make : OpenTransaction → Answer) → ((t : OpenTransaction) → find (is_transaction owner number) m.transactions ≡ Some t → P step (make t)) → P step (for_transaction m owner number make)
  by_transaction step may owner number make p = by_some step (find (is_transaction owner number) m.transactions) refusal.UnknownTransaction may make p

  by_slot : (step : Step) → MayRefuse step refusal.NoSlot → (slot : ℕ) (make : SlotState → Answer) → ((b : SlotState) → slice_get m.slots slot ≡ Some b → P step (make b)) → P step (for_slot m slot make)
  by_slot step may slot make p = by_some step (slice_get m.slots slot) refusal.NoSlot may make p

  by_query : (step : Step) → MayRefuse step refusal.UnknownQuery → (number : ℕ) (make : OpenQuery → Answer) → ((q : OpenQuery) → find (is_query number) m.queries ≡ Some q → P step (make q)) → P step (for_query m number make)
  by_query step may number make p = by_some step (find (is_query number) m.queries) refusal.UnknownQuery may make p

  -- what is left to check of a Prepare
  abbrev stamped : ℕ → ℕ → ℕ → SlotState → Answer
  stamped owner txn slot slot_state = unless_refused m (first_cause ((nat_le timestamp_end (prepare_timestamp slot_state), refusal.TimestampRange) ∷ [])) (prepared m owner txn slot slot_state)

  abbrev crowded : ℕ → ℕ → ℕ → OpenTransaction → SlotState → Answer
  crowded owner txn slot t slot_state = unless_refused m (capacity_refusal schema m slot slot_state (mutations_in schema slot_state t.mutations)) (stamped owner txn slot slot_state)

  abbrev faulted : ℕ → ℕ → ℕ → OpenTransaction → SlotState → Answer
  faulted owner txn slot t slot_state = unless_refused m (mutations_refusal schema m (mutations_in schema slot_state t.mutations)) (crowded owner txn slot t slot_state)

  prepare_by : (owner txn slot : ℕ) → P (Prepare owner txn slot) (prepare schema m owner txn slot)
  prepare_by owner txn slot =
      by_transaction (Prepare owner txn slot) tt owner txn (λ t. for_slot m slot (prepare_transaction schema m owner txn slot t)) (λ t found.
      by_slot (Prepare owner txn slot) tt slot (prepare_transaction schema m owner txn slot t) (λ slot_state here.
      by_refusal (Prepare owner txn slot) (λ why. tt) (prepare_refusal schema m slot t slot_state) (faulted owner txn slot t slot_state) (λ accepted.
      by_refusal (Prepare owner txn slot) (λ why. tt) (mutations_refusal schema m (mutations_in schema slot_state t.mutations)) (crowded owner txn slot t slot_state) (λ well.
      by_refusal (Prepare owner txn slot) (λ why. tt) (capacity_refusal schema m slot slot_state (mutations_in schema slot_state t.mutations)) (stamped owner txn slot slot_state) (λ fits.
      by_refusal (Prepare owner txn slot) (λ why. tt) (first_cause ((nat_le timestamp_end (prepare_timestamp slot_state), refusal.TimestampRange) ∷ [])) (prepared m owner txn slot slot_state) (λ low.
      ends.prepares owner txn slot t slot_state found here accepted well fits low))))))

  decide_by : (owner txn : ℕ) (v : Verdict) (interval : Interval) → P (Decide owner txn v interval) (decide schema m owner txn v interval)
  decide_by owner txn verdict.Commit interval = by_transaction (Decide owner txn verdict.Commit interval) tt owner txn (decide_transaction schema m owner txn verdict.Commit interval) (λ t found.
      by_refusal (Decide owner txn verdict.Commit interval) (λ why. tt) (commit_refusal schema m t interval) (committed m owner txn (commit_timestamp m t interval) t) (λ accepted. ends.commits owner txn interval t found accepted))
  decide_by owner txn verdict.Abort interval = by_transaction (Decide owner txn verdict.Abort interval) tt owner txn (decide_transaction schema m owner txn verdict.Abort interval) (λ t found.
      by_refusal (Decide owner txn verdict.Abort interval) (λ why. tt) (first_cause ((not (is_undecided t), refusal.WrongState) ∷ [])) (aborted m owner txn t) (λ accepted. ends.aborts owner txn interval t found (may_abort (is_undecided t) accepted)))

  apply_by : (owner txn slot : ℕ) (interval : Interval) → P (Apply owner txn slot interval) (apply_step m owner txn slot interval)
  apply_by owner txn slot interval =
      by_transaction (Apply owner txn slot interval) tt owner txn (λ t. for_slot m slot (apply_transaction m owner txn slot interval t)) (λ t found.
      by_slot (Apply owner txn slot interval) tt slot (apply_transaction m owner txn slot interval t) (λ slot_state here.
      by_refusal (Apply owner txn slot interval) (λ why. tt) (apply_refusal slot t interval) (applied_at t.decision m owner txn slot t) (λ accepted. ends.applies owner txn slot interval t slot_state found here accepted)))

  -- what is left of a Scan whose leaf has an uncovered part in the slot
  scan_gap_by : (query leaf slot : ℕ) (interval : Interval) (q : OpenQuery) (l : ScanLeaf) (slot_state : SlotState) (part : KeyRange) → find (is_query query) m.queries ≡ Some q → slice_get q.leaves leaf ≡ Some l → slice_get m.slots slot ≡ Some slot_state
      → gap_in slot_state l ≡ Some part → P (Scan query leaf slot interval) (scan_gap m query leaf slot interval q slot_state part)
  scan_gap_by query leaf slot interval q l slot_state part found at here gap =
      by_cond (Scan query leaf slot interval) (nat_lt q.s slot_state.horizon) (refused m refusal.Trimmed) (scanned m query leaf part slot (with_risen_floor slot_state q.s interval) q.s) (λ _. ends.refuses (Scan query leaf slot interval) refusal.Trimmed tt) (λ above.
      by_cond (Scan query leaf slot interval) (is_safe m slot (with_risen_floor slot_state q.s interval) q.s) (reply.Scanned, record (with_slot_state m slot (with_risen_floor slot_state q.s interval)) { queries = changed_first (is_query query) (cover leaf part) m.queries }) (Refused refusal.NotYet, with_slot_state m slot (with_risen_floor slot_state q.s interval))
      (λ safe. ends.scans query leaf slot interval q slot_state l part found here at gap above safe)
      (λ _. ends.waits query leaf slot interval q slot_state found here))

  -- what is left of a Scan whose query is found
  scan_leaf_by : (query leaf slot : ℕ) (interval : Interval) (q : OpenQuery) (l : ScanLeaf) → find (is_query query) m.queries ≡ Some q → slice_get q.leaves leaf ≡ Some l → P (Scan query leaf slot interval) (for_slot m slot (scan_leaf m query leaf slot interval q l))
  scan_leaf_by query leaf slot interval q l found at = by_slot (Scan query leaf slot interval) tt slot (scan_leaf m query leaf slot interval q l) (λ slot_state here.
      by_part (gap_in slot_state l) (reply.Nothing, m) (scan_gap m query leaf slot interval q slot_state) (λ _. ends.finds_nothing query leaf slot interval) (λ part gap. scan_gap_by query leaf slot interval q l slot_state part found at here gap))
    where
      by_part : (o : Option KeyRange) (miss : Answer) (make : KeyRange → Answer) → (o ≡ None → P (Scan query leaf slot interval) miss) → ((part : KeyRange) → o ≡ Some part → P (Scan query leaf slot interval) (make part)) → P (Scan query leaf slot interval) (if_some o miss make)
      by_part None miss make p r = p refl
      by_part (Some part) miss make p r = r part refl

  scan_by : (query leaf slot : ℕ) (interval : Interval) → P (Scan query leaf slot interval) (scan m query leaf slot interval)
  scan_by query leaf slot interval = by_query (Scan query leaf slot interval) tt query (scan_query m query leaf slot interval) (λ q found.
      by_some (Scan query leaf slot interval) (slice_get q.leaves leaf) refusal.UnknownQuery tt (λ (l : ScanLeaf). for_slot m slot (scan_leaf m query leaf slot interval q l)) (λ l at. scan_leaf_by query leaf slot interval q l found at))

  finish_by : (query : ℕ) → P (Finish query) (finish schema m query)
  finish_by query = by_query (Finish query) (λ e. cc) query (finish_query schema m) (λ q found.
      by_cond (Finish query) (list_all is_covered q.leaves) (answer_on q.s (meaning schema m q), m) (refused m refusal.Incomplete) (λ covered. ends.finishes query q found covered) (λ _. ends.refuses (Finish query) refusal.Incomplete (λ e. cc)))

  open_by : (text : List ℕ) (params : List Parameter) (bound : Bound) (interval : Interval) → P (Open text params bound interval) (open_query schema m u text params bound interval)
  open_by text params bound interval = elim u as (λ v. u ≡ v → P (Open text params bound interval) (open_query schema m v text params bound interval)) [
    | Err why ↦ λ e. ends.refuses (Open text params bound interval) why tt
    | Ok asked ↦ λ e. by_refusal (Open text params bound interval) (λ why. tt) (open_refusal m bound interval) (opened schema m text params asked (timestamp_of bound interval)) (λ accepted. ends.opens text params bound interval asked e accepted)
  ] refl

  split_by : (table : List ℕ) (key : List Value) → P (Split table key) (split schema m table key)
  split_by table key =
      by_some (Split table key) (root_key schema table key) refusal.BadSplit tt (split_at m) (λ code is.
      by_some (Split table key) (slot_of m.slots code) refusal.BadSplit tt (λ slot. for_slot m slot (split_slot m slot code)) (λ slot home.
      by_slot (Split table key) tt slot (split_slot m slot code) (λ slot_state here.
      by_refusal (Split table key) (λ why. tt) (split_refusal m slot code slot_state) (split_in_two m slot code slot_state) (λ accepted. ends.splits table key code slot slot_state is home here accepted))))

  -- what holds at each end of a step holds of the step
  pub answer_by : (step : Step) → P step (answer schema m u step)
  answer_by (Begin owner ms) = by_refusal (Begin owner ms) (λ why. tt) (begin_refusal m) (begun m owner ms) (λ accepted. ends.begins owner ms accepted)
  answer_by (Prepare owner txn slot) = prepare_by owner txn slot
  answer_by (Decide owner txn v interval) = decide_by owner txn v interval
  answer_by (Apply owner txn slot interval) = apply_by owner txn slot interval
  answer_by (Advance slot interval) = by_slot (Advance slot interval) tt slot (advanced m slot interval) (λ slot_state here. ends.advances slot interval slot_state here)
  answer_by (Trim slot h) = by_slot (Trim slot h) tt slot (trim_slot schema m slot h) (λ slot_state here.
      by_refusal (Trim slot h) (λ why. tt) (trim_refusal m slot h slot_state) (trimmed schema m slot h slot_state) (λ accepted. ends.trims slot h slot_state here accepted))
  answer_by (Open text params bound interval) = open_by text params bound interval
  answer_by (Scan query leaf slot interval) = scan_by query leaf slot interval
  answer_by (Finish query) = finish_by query
  answer_by (Close query) = by_query (Close query) tt query (closed m query) (λ q found. ends.closes query q found)
  answer_by (Split table key) = split_by table key
