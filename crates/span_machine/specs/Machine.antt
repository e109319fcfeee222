use Rattle.std.specs.Prelude.{◌≡◌, ℕ, ◌+◌, ◌-◌, max, Bool, true, false, ◌==◌, ◌&&◌, ◌||◌, not, nat_lt, nat_le, List, [], ◌∷◌, ◌++◌, length, map, filter, find, insert, count_by, slice_get, slice_set, Option, Some, None, Result, Ok, Err, if◌then◌else◌, ◌⊎◌}
use Rattle.std.specs.List.{list_any, list_all}
use Rattle.std.specs.Str.{bytes_eq}
use Rattle.span_schema.specs.declared.table.Table.{Table}
use Rattle.span_keycode.specs.declared.range.KeyRange.{KeyRange}
use Rattle.span_keycode.specs.Parts.{part_between, lowest_gap, tiles, place_among}
use Rattle.span_mutate.specs.declared.mutation.CheckedMutation.{CheckedMutation}
use Rattle.span_checking.specs.RootKeys.{root_key}
use Rattle.span_value.specs.declared.value.Value.{Value}
use Rattle.span_machine.specs.declared.transaction.Commit.{Commit}
use Rattle.span_value.specs.Results.{first_cause, and_then}
use Rattle.span_value.specs.declared.refusal.Refusal.{Refusal}
use Rattle.span_value.specs.declared.refusal.Refusal.TheVariants as refusal
use Rattle.span_machine.specs.declared.step.Step.{Step}
use Rattle.span_machine.specs.declared.step.Step.TheVariants.{Begin, Prepare, Decide, Apply, Advance, Trim, Open, Scan, Finish, Close, Split}
use Rattle.span_machine.specs.declared.step.Reply.{Reply}
use Rattle.span_machine.specs.declared.step.Reply.TheVariants as reply
use Rattle.span_machine.specs.declared.step.Reply.TheVariants.{Refused}
use Rattle.span_machine.specs.declared.step.Verdict.{Verdict}
use Rattle.span_machine.specs.declared.step.Verdict.TheVariants as verdict
use Rattle.span_truetime.specs.declared.bound.Bound.{Bound}
use Rattle.span_params.specs.declared.params.Parameter.{Parameter}
use Rattle.span_query.specs.declared.query.Statement.{Statement}
use Rattle.span_columns.specs.declared.leaf.Leaf.{Leaf}
use Rattle.span_columns.specs.declared.leaf.Plan.{Plan}
use Rattle.span_planner.specs.Plans.{plan_of}
use Rattle.span_query.specs.Rows.{Row, Rows}
use Rattle.span_machine.specs.Limits.{most_transactions, most_commits, most_queries, most_slots, number_end}
use Rattle.span_truetime.specs.Limits.{timestamp_end}
use Rattle.span_truetime.specs.Time.{timestamp_of, is_out_of_range}
use Rattle.span_truetime.specs.declared.interval.Interval.{Interval}
use Rattle.span_machine.specs.declared.transaction.Prepared.{Prepared}
use Rattle.span_machine.specs.declared.transaction.Decision.{Decision}
use Rattle.span_machine.specs.declared.transaction.Decision.TheVariants as decision
use Rattle.span_machine.specs.declared.transaction.Decision.TheVariants.{Undecided, Committed}
use Rattle.span_machine.specs.declared.transaction.OpenTransaction.{OpenTransaction}
use Rattle.span_machine.specs.declared.slot.SlotState.{SlotState}
use Rattle.span_machine.specs.declared.query.ScanLeaf.{ScanLeaf}
use Rattle.span_machine.specs.declared.query.OpenQuery.{OpenQuery}
use Rattle.span_mutate.specs.Database.{apply}
pub use Rattle.span_machine.specs.Slots.{root_at, is_at, has_key, holds, slot_of, mutations_in}
use Rattle.span_machine.specs.Tables.{tables}
use Rattle.span_machine.specs.Meaning.{means}
use Rattle.span_machine.specs.Kept as kept

-- the state of the journal: no versions and no rows
pub record Machine : Type 0 where
  pub slots : List SlotState
  pub transactions : List OpenTransaction
  pub log : List Commit
  pub queries : List OpenQuery
  pub next_transaction : ℕ
  pub next_query : ℕ

-- a reply, and the machine after it
abbrev pub Answer : Type 0
Answer = Reply × Machine

abbrev pub refused : Machine → Refusal → Answer
refused m why = (Refused why, m)

-- ---- finding, checking and changing

-- what is made of the value, if there is one
abbrev pub if_some : {A B : Type 0} → Option A → B → (A → B) → B
if_some None miss make = miss
if_some (Some x) miss make = make x

-- why there is nothing, if so
abbrev pub refusal_of : {A : Type 0} → Result A Refusal → Option Refusal
refusal_of (Ok x) = None
refusal_of (Err why) = Some why

-- the answer, unless there is a refusal, which leaves the machine
abbrev pub unless_refused : Machine → Option Refusal → Answer → Answer
unless_refused m None a = a
unless_refused m (Some why) a = refused m why

abbrev pub is_transaction : ℕ → ℕ → OpenTransaction → Bool
is_transaction owner number t = (t.owner == owner) && (t.number == number)

abbrev pub is_query : ℕ → OpenQuery → Bool
is_query number q = q.number == number

-- the answer for the transaction of this owner and number
abbrev pub for_transaction : Machine → ℕ → ℕ → (OpenTransaction → Answer) → Answer
for_transaction m owner number make =
    if_some (find (is_transaction owner number) m.transactions) (refused m refusal.UnknownTransaction) make

abbrev pub for_slot : Machine → ℕ → (SlotState → Answer) → Answer
for_slot m slot make = if_some (slice_get m.slots slot) (refused m refusal.NoSlot) make

abbrev pub for_query : Machine → ℕ → (OpenQuery → Answer) → Answer
for_query m number make = if_some (find (is_query number) m.queries) (refused m refusal.UnknownQuery) make

-- the first that passes, changed
abbrev pub changed_first : {A : Type 0} → (A → Bool) → (A → A) → List A → List A
changed_first test change [] = []
changed_first test change (x ∷ xs) = if test x then change x ∷ xs else x ∷ changed_first test change xs

-- without the first that passes
abbrev pub without_first : {A : Type 0} → (A → Bool) → List A → List A
without_first test [] = []
without_first test (x ∷ xs) = if test x then xs else x ∷ without_first test xs

-- ---- slots

abbrev pub is_prepared_at : ℕ → OpenTransaction → Bool
is_prepared_at slot t = list_any (λ p. p.slot == slot) t.prepared

-- a directory has mutations of both lists
abbrev pub have_common_root : List Table → List CheckedMutation → List CheckedMutation → Bool
have_common_root schema ms ns = list_any (λ m. list_any (is_at schema (root_at schema m)) ns) ms

-- s is at most the safe time of the slot
abbrev pub is_safe : Machine → ℕ → SlotState → ℕ → Bool
is_safe m slot slot_state s =
    nat_le s slot_state.floor
    && list_all (λ t. list_all (λ p. not (p.slot == slot) || nat_lt s p.timestamp) t.prepared) m.transactions

-- ---- steps

abbrev pub is_no_decision : Decision → Bool
is_no_decision Undecided = true
is_no_decision (Committed ts) = false
is_no_decision decision.Aborted = false

abbrev pub is_undecided : OpenTransaction → Bool
is_undecided t = is_no_decision t.decision

abbrev pub begin_refusal : Machine → Option Refusal
begin_refusal m = first_cause ((
  nat_le most_transactions (length m.transactions)
      || nat_le number_end m.next_transaction,
  refusal.TransactionTableFull,
)
    ∷ (nat_le most_commits (length m.log + count_by is_undecided m.transactions), refusal.LogFull) ∷ [])

abbrev pub begun : Machine → ℕ → List CheckedMutation → Answer
begun m owner ms = (
  reply.Began m.next_transaction,
  record m {
    transactions =
        m.transactions ++ (record {
          owner = owner;
          number = m.next_transaction;
          mutations = ms;
          decision = Undecided;
          prepared = [];
        }) ∷ [];
    next_transaction = m.next_transaction + 1;
  },
)

abbrev pub begin : Machine → ℕ → List CheckedMutation → Answer
begin m owner ms = unless_refused m (begin_refusal m) (begun m owner ms)

-- the fault that the mutations meet on the tables as they are, if any
abbrev pub mutations_refusal : List Table → Machine → List CheckedMutation → Option Refusal
mutations_refusal schema m ms =
    refusal_of (and_then (tables schema m.log (timestamp_end - 1)) (λ db. apply schema db ms))

abbrev pub has_conflict : List Table → Machine → ℕ → List CheckedMutation → Bool
has_conflict schema m slot ms =
    list_any (λ t. is_prepared_at slot t && have_common_root schema ms t.mutations) m.transactions

abbrev pub add_prepared : ℕ → ℕ → OpenTransaction → OpenTransaction
add_prepared slot ts t = record t { prepared = t.prepared ++ (record { slot = slot; timestamp = ts }) ∷ [] }

abbrev pub prepare_timestamp : SlotState → ℕ
prepare_timestamp slot_state = max slot_state.last slot_state.floor + 1

-- why a Prepare is refused before its mutations are checked
abbrev pub prepare_refusal : List Table → Machine → ℕ → OpenTransaction → SlotState → Option Refusal
prepare_refusal schema m slot t slot_state = first_cause ((
  not (is_undecided t) || is_prepared_at slot t
      || (length (mutations_in schema slot_state t.mutations) == 0),
  refusal.WrongState,
)
    ∷ (has_conflict schema m slot (mutations_in schema slot_state t.mutations), refusal.Conflict) ∷ [])

-- the slot would keep more versions than it may
abbrev pub capacity_refusal : List Table → Machine → ℕ → SlotState → List CheckedMutation → Option Refusal
capacity_refusal schema m slot slot_state ms =
    first_cause ((
      nat_lt kept.most_versions (kept.live_with schema m.log m.transactions slot slot_state ms),
      refusal.ShardFull,
    ) ∷ [])

abbrev pub prepared : Machine → ℕ → ℕ → ℕ → SlotState → Answer
prepared m owner txn slot slot_state = (
  reply.Prepared (prepare_timestamp slot_state),
  record m {
    slots = slice_set m.slots slot (record slot_state { last = prepare_timestamp slot_state });
    transactions =
        changed_first (is_transaction owner txn) (add_prepared slot (prepare_timestamp slot_state)) m.transactions;
  },
)

abbrev pub prepare_transaction : List Table → Machine → ℕ → ℕ → ℕ → OpenTransaction → SlotState → Answer
prepare_transaction schema m owner txn slot t slot_state =
    unless_refused m (prepare_refusal schema m slot t slot_state)
    (unless_refused m (mutations_refusal schema m (mutations_in schema slot_state t.mutations))
    (unless_refused m (capacity_refusal schema m slot slot_state (mutations_in schema slot_state t.mutations))
    (unless_refused m (first_cause ((nat_le timestamp_end (prepare_timestamp slot_state), refusal.TimestampRange) ∷ []))
    (prepared m owner txn slot slot_state))))

abbrev pub prepare : List Table → Machine → ℕ → ℕ → ℕ → Answer
prepare schema m owner txn slot =
    for_transaction m owner txn (λ t. for_slot m slot (prepare_transaction schema m owner txn slot t))

-- every mutation is of a slot where the transaction is prepared
abbrev pub is_prepared_for : List Table → Machine → OpenTransaction → CheckedMutation → Bool
is_prepared_for schema m t mutation =
    list_any (λ p. if_some (slice_get m.slots p.slot) false
    (λ slot_state. holds schema slot_state (root_at schema mutation))) t.prepared

abbrev pub is_all_prepared : List Table → Machine → OpenTransaction → Bool
is_all_prepared schema m t = not (length t.prepared == 0) && list_all (is_prepared_for schema m t) t.mutations

-- the greatest prepare timestamp
abbrev pub greatest : List Prepared → ℕ
greatest [] = 0
greatest (p ∷ ps) = max p.timestamp (greatest ps)

-- the slot of the lowest number
abbrev pub lowest_slot : ℕ → List Prepared → ℕ
lowest_slot slot [] = slot
lowest_slot slot (p ∷ ps) = if nat_lt p.slot slot then lowest_slot p.slot ps else lowest_slot slot ps

abbrev pub coordinator_slot : List Prepared → ℕ
coordinator_slot [] = 0
coordinator_slot (p ∷ ps) = lowest_slot p.slot ps

abbrev pub with_last : List SlotState → ℕ → ℕ → List SlotState
with_last slots slot ts =
    if_some (slice_get slots slot) slots
    (λ slot_state. slice_set slots slot (record slot_state { last = max slot_state.last ts }))

abbrev pub commit_timestamp : Machine → OpenTransaction → Interval → ℕ
commit_timestamp m t interval =
    max (greatest t.prepared)
    (max (interval.latest + 1)
    (if_some (slice_get m.slots (coordinator_slot t.prepared)) 0 (λ slot_state. slot_state.last) + 1))

abbrev pub with_decision : Decision → OpenTransaction → OpenTransaction
with_decision o t = record t { decision = o }

abbrev pub commit_refusal : List Table → Machine → OpenTransaction → Interval → Option Refusal
commit_refusal schema m t interval = first_cause (
    (not (is_undecided t) || not (is_all_prepared schema m t), refusal.WrongState)
    ∷ (nat_le timestamp_end (commit_timestamp m t interval), refusal.TimestampRange) ∷ [])

abbrev pub commit_of : ℕ → OpenTransaction → Commit
commit_of ts t = record { timestamp = ts; number = t.number; owner = t.owner; mutations = t.mutations }

abbrev pub committed : Machine → ℕ → ℕ → ℕ → OpenTransaction → Answer
committed m owner txn ts t = (
  reply.Decided ts,
  record m {
    slots = with_last m.slots (coordinator_slot t.prepared) ts;
    log = m.log ++ commit_of ts t ∷ [];
    transactions = changed_first (is_transaction owner txn) (with_decision (Committed ts)) m.transactions;
  },
)

abbrev pub aborted : Machine → ℕ → ℕ → OpenTransaction → Answer
aborted m owner txn t = (
  reply.Aborted,
  record m {
    transactions = if length t.prepared == 0 then without_first (is_transaction owner txn) m.transactions
        else changed_first (is_transaction owner txn) (with_decision decision.Aborted) m.transactions;
  },
)

abbrev pub decide_transaction : List Table → Machine → ℕ → ℕ → Verdict → Interval → OpenTransaction → Answer
decide_transaction schema m owner txn verdict.Commit interval t =
    unless_refused m (commit_refusal schema m t interval) (committed m owner txn (commit_timestamp m t interval) t)
decide_transaction schema m owner txn verdict.Abort interval t =
    unless_refused m (first_cause ((not (is_undecided t), refusal.WrongState) ∷ [])) (aborted m owner txn t)

abbrev pub decide : List Table → Machine → ℕ → ℕ → Verdict → Interval → Answer
decide schema m owner txn v interval = for_transaction m owner txn (decide_transaction schema m owner txn v interval)

abbrev pub without_prepared : ℕ → OpenTransaction → OpenTransaction
without_prepared slot t = record t { prepared = filter (λ p. not (p.slot == slot)) t.prepared }

-- the transaction is prepared at the slot no more, and leaves once it is prepared nowhere
abbrev pub applied : Machine → ℕ → ℕ → ℕ → OpenTransaction → List OpenTransaction
applied m owner txn slot t =
    if length (without_prepared slot t).prepared == 0
    then without_first (is_transaction owner txn) m.transactions
    else changed_first (is_transaction owner txn) (without_prepared slot) m.transactions

abbrev pub applied_at : Decision → Machine → ℕ → ℕ → ℕ → OpenTransaction → Answer
applied_at Undecided m owner txn slot t = refused m refusal.WrongState
applied_at decision.Aborted m owner txn slot t = (reply.Applied, record m { transactions = applied m owner txn slot t })
applied_at (Committed ts) m owner txn slot t = (
  reply.Applied,
  record m {
    slots = with_last m.slots slot ts;
    transactions = applied m owner txn slot t;
  },
)

-- a commit whose timestamp has not surely passed
abbrev pub is_early : Interval → Decision → Bool
is_early interval Undecided = false
is_early interval decision.Aborted = false
is_early interval (Committed ts) = nat_le interval.earliest ts

abbrev pub apply_refusal : ℕ → OpenTransaction → Interval → Option Refusal
apply_refusal slot t interval = first_cause (
    (is_undecided t || not (is_prepared_at slot t), refusal.WrongState)
    ∷ (is_early interval t.decision, refusal.TooEarly) ∷ [])

abbrev pub apply_transaction : Machine → ℕ → ℕ → ℕ → Interval → OpenTransaction → SlotState → Answer
apply_transaction m owner txn slot interval t slot_state =
    unless_refused m (apply_refusal slot t interval) (applied_at t.decision m owner txn slot t)

abbrev pub apply_step : Machine → ℕ → ℕ → ℕ → Interval → Answer
apply_step m owner txn slot interval =
    for_transaction m owner txn (λ t. for_slot m slot (apply_transaction m owner txn slot interval t))

abbrev pub advanced : Machine → ℕ → Interval → SlotState → Answer
advanced m slot interval slot_state = (
  reply.Floor (max slot_state.floor interval.latest),
  record m {
    slots = slice_set m.slots slot (record slot_state { floor = max slot_state.floor interval.latest });
  },
)

abbrev pub advance : Machine → ℕ → Interval → Answer
advance m slot interval = for_slot m slot (advanced m slot interval)

-- the horizon may rise to h, which is at most safe time
abbrev pub trim_refusal : Machine → ℕ → ℕ → SlotState → Option Refusal
trim_refusal m slot h slot_state = first_cause (
    (nat_lt h slot_state.horizon, refusal.TrimBackward)
    ∷ (not (is_safe m slot slot_state h), refusal.TrimTooNew) ∷ [])

-- the slot with the horizon h
abbrev pub with_horizon : ℕ → SlotState → SlotState
with_horizon h slot_state = record slot_state { horizon = h }

abbrev pub trimmed : List Table → Machine → ℕ → ℕ → SlotState → Answer
trimmed schema m slot h slot_state = (
  reply.Trimmed (kept.live schema m.log m.transactions slot (with_horizon h slot_state)),
  record m {
    slots = slice_set m.slots slot (with_horizon h slot_state);
  },
)

abbrev pub trim_slot : List Table → Machine → ℕ → ℕ → SlotState → Answer
trim_slot schema m slot h slot_state =
    unless_refused m (trim_refusal m slot h slot_state) (trimmed schema m slot h slot_state)

abbrev pub trim : List Table → Machine → ℕ → ℕ → Answer
trim schema m slot h = for_slot m slot (trim_slot schema m slot h)

abbrev pub open_refusal : Machine → Bound → Interval → Option Refusal
open_refusal m bound interval = first_cause (
    (is_out_of_range bound interval, refusal.TimestampRange)
    ∷ (nat_le most_queries (length m.queries) || nat_le number_end m.next_query, refusal.QueryTableFull) ∷ [])

-- a leaf that no piece covers
abbrev pub uncovered : Leaf → ScanLeaf
uncovered leaf = record { leaf = leaf; covered = [] }

-- the plan of a statement's query
abbrev pub statement_plan : List Table → Statement → Plan
statement_plan schema q = plan_of schema q.leaves q.query

-- a query text with its parameters, understood as a statement, as an open query
abbrev pub as_opened : List Table → ℕ → ℕ → List ℕ → List Parameter → Statement → OpenQuery
as_opened schema number s text params q = record {
  number = number;
  text = text;
  params = params;
  statement = q;
  s = s;
  leaves = map uncovered (statement_plan schema q).leaves;
  top = (statement_plan schema q).top;
}

abbrev pub opened : List Table → Machine → List ℕ → List Parameter → Statement → ℕ → Answer
opened schema m text params q s = (
  reply.Opened m.next_query s (length (statement_plan schema q).leaves),
  record m {
    queries = m.queries ++ as_opened schema m.next_query s text params q ∷ [];
    next_query = m.next_query + 1;
  },
)

-- where the query text is understood as this; the refusal of a query text comes first
abbrev pub open_query : List Table → Machine → Result Statement Refusal → List ℕ → List Parameter → Bound → Interval
    → Answer
open_query schema m (Err why) text params bound interval = refused m why
open_query schema m (Ok q) text params bound interval =
    unless_refused m (open_refusal m bound interval) (opened schema m text params q (timestamp_of bound interval))

-- the floor rises to s where the clock has passed it
abbrev pub with_risen_floor : SlotState → ℕ → Interval → SlotState
with_risen_floor slot_state s interval =
    if nat_lt slot_state.floor s && nat_le s interval.latest then record slot_state { floor = s } else slot_state

abbrev pub with_slot_state : Machine → ℕ → SlotState → Machine
with_slot_state m slot slot_state = record m { slots = slice_set m.slots slot slot_state }

-- pieces tile the leaf's range
abbrev pub is_covered : ScanLeaf → Bool
is_covered l = tiles l.leaf.range l.covered

-- with a piece at its place among the others
abbrev pub add_piece : KeyRange → ScanLeaf → ScanLeaf
add_piece part l = record l { covered = insert l.covered (place_among l.covered part) part }

abbrev pub with_piece : List ScanLeaf → ℕ → KeyRange → List ScanLeaf
with_piece leaves leaf part = if_some (slice_get leaves leaf) leaves (λ l. slice_set leaves leaf (add_piece part l))

-- with a piece of the leaf at a place, and no other change
abbrev pub cover : ℕ → KeyRange → OpenQuery → OpenQuery
cover leaf part q = record q { leaves = with_piece q.leaves leaf part }

-- the lowest uncovered part of a leaf's range in the slot
abbrev pub gap_in : SlotState → ScanLeaf → Option KeyRange
gap_in slot_state l = lowest_gap (part_between slot_state.lo slot_state.hi l.leaf.range) l.covered

-- with the floor risen
abbrev pub scanned : Machine → ℕ → ℕ → KeyRange → ℕ → SlotState → ℕ → Answer
scanned m query leaf part slot slot_state s =
    if is_safe m slot slot_state s
    then (
      reply.Scanned,
      record (with_slot_state m slot slot_state) {
        queries = changed_first (is_query query)
            (cover leaf part) m.queries;
      },
    )
    else (Refused refusal.NotYet, with_slot_state m slot slot_state)

-- below the horizon nothing is read, and the floor stays
abbrev pub scan_gap : Machine → ℕ → ℕ → ℕ → Interval → OpenQuery → SlotState → KeyRange → Answer
scan_gap m query leaf slot interval q slot_state part =
    if nat_lt q.s slot_state.horizon then refused m refusal.Trimmed
    else scanned m query leaf part slot (with_risen_floor slot_state q.s interval) q.s

abbrev pub scan_leaf : Machine → ℕ → ℕ → ℕ → Interval → OpenQuery → ScanLeaf → SlotState → Answer
scan_leaf m query leaf slot interval q l slot_state =
    if_some (gap_in slot_state l) (reply.Nothing, m) (scan_gap m query leaf slot interval q slot_state)

-- leaves are counted from 0
abbrev pub scan_query : Machine → ℕ → ℕ → ℕ → Interval → OpenQuery → Answer
scan_query m query leaf slot interval q =
    if_some (slice_get q.leaves leaf) (refused m refusal.UnknownQuery)
    (λ l. for_slot m slot (scan_leaf m query leaf slot interval q l))

abbrev pub scan : Machine → ℕ → ℕ → ℕ → Interval → Answer
scan m query leaf slot interval = for_query m query (scan_query m query leaf slot interval)

-- the rows at s, or why there are none
abbrev pub answer_on : ℕ → Result (List Row) Refusal → Reply
answer_on s (Ok rows) = reply.Rows s (record { rows = rows })
answer_on s (Err why) = Refused why

-- rows, or the refusal that the fault is
abbrev pub rows_or_refusal : Rows → Result (List Row) Refusal
rows_or_refusal None = Err refusal.ArithmeticFault
rows_or_refusal (Some rows) = Ok rows

-- what the query means on the tables at its timestamp, by the log so far
abbrev pub meaning : List Table → Machine → OpenQuery → Result (List Row) Refusal
meaning schema m q =
    and_then (tables schema m.log q.s) (λ db. rows_or_refusal (means schema q.statement.query q.statement.leaves db))

abbrev pub finish_query : List Table → Machine → OpenQuery → Answer
finish_query schema m q =
    if list_all is_covered q.leaves then (answer_on q.s (meaning schema m q), m) else refused m refusal.Incomplete

abbrev pub finish : List Table → Machine → ℕ → Answer
finish schema m query = for_query m query (finish_query schema m)

abbrev pub closed : Machine → ℕ → OpenQuery → Answer
closed m query q = (reply.Closed, record m { queries = without_first (is_query query) m.queries })

abbrev pub close : Machine → ℕ → Answer
close m query = for_query m query (closed m query)

-- ---- splits

-- the slot's range begins at the key
abbrev pub begins_at : List ℕ → SlotState → Bool
begins_at key slot_state = if_some slot_state.lo false (bytes_eq key)

-- why the slot is not cut: at the key it begins already, something is prepared in it, or no slot is left
abbrev pub split_refusal : Machine → ℕ → List ℕ → SlotState → Option Refusal
split_refusal m slot key slot_state = first_cause (
    (begins_at key slot_state, refusal.BadSplit)
    ∷ (list_any (is_prepared_at slot) m.transactions, refusal.SplitBusy)
    ∷ (nat_le most_slots (length m.slots), refusal.NoSlot) ∷ [])

-- the keys from this one on go to a new slot, with the same timestamps
abbrev pub split_in_two : Machine → ℕ → List ℕ → SlotState → Answer
split_in_two m slot key slot_state = (
  reply.Split (length m.slots),
  record m {
    slots = slice_set m.slots slot (record slot_state { hi = Some key })
        ++ (record slot_state { lo = Some key }) ∷ [];
  },
)

abbrev pub split_slot : Machine → ℕ → List ℕ → SlotState → Answer
split_slot m slot key slot_state =
    unless_refused m (split_refusal m slot key slot_state) (split_in_two m slot key slot_state)

-- in the slot whose range has the key
abbrev pub split_at : Machine → List ℕ → Answer
split_at m key =
    if_some (slot_of m.slots key) (refused m refusal.BadSplit) (λ slot. for_slot m slot (split_slot m slot key))

-- at the key of a root table with these values
abbrev pub split : List Table → Machine → List ℕ → List Value → Answer
split schema m table key = if_some (root_key schema table key) (refused m refusal.BadSplit) (split_at m)

-- the reply where memory suffices, and the machine after it, where an Open's query text is understood as u
abbrev pub answer : List Table → Machine → Result Statement Refusal → Step → Answer
answer schema m u (Begin owner transaction) = begin m owner transaction
answer schema m u (Prepare owner txn slot) = prepare schema m owner txn slot
answer schema m u (Decide owner txn v interval) = decide schema m owner txn v interval
answer schema m u (Apply owner txn slot interval) = apply_step m owner txn slot interval
answer schema m u (Advance slot interval) = advance m slot interval
answer schema m u (Trim slot h) = trim schema m slot h
answer schema m u (Open text params bound interval) = open_query schema m u text params bound interval
answer schema m u (Scan query leaf slot interval) = scan m query leaf slot interval
answer schema m u (Finish query) = finish schema m query
answer schema m u (Close query) = close m query
answer schema m u (Split table key) = split schema m table key

-- the step may run out of memory
abbrev pub may_take_memory : Step → Bool
may_take_memory (Begin owner transaction) = true
may_take_memory (Prepare owner txn slot) = true
may_take_memory (Decide owner txn v interval) = false
may_take_memory (Apply owner txn slot interval) = false
may_take_memory (Advance slot interval) = false
may_take_memory (Trim slot h) = false
may_take_memory (Open text params bound interval) = true
may_take_memory (Scan query leaf slot interval) = true
may_take_memory (Finish query) = true
may_take_memory (Close query) = false
may_take_memory (Split table key) = true

-- Which query texts, with which parameters, are understood as which statements, and which are refused why. The
-- definitions below are for any such relation.
abbrev pub Understanding : Type 1
Understanding = List ℕ → List Parameter → Result Statement Refusal → Type 0

-- the query text of an Open is understood as u; no other step has one
abbrev pub IsUnderstood : Understanding → Step → Result Statement Refusal → Type 0
IsUnderstood understands (Open text params bound interval) u = understands text params u
IsUnderstood understands _ u = Unit {0}

-- the reply and the machine after it are those of the answer
abbrev pub IsAnswer : Answer → Reply → Machine → Type 0
IsAnswer a r next = (r ≡ a.0) × (next ≡ a.1)

-- out of memory: that refusal takes the place of the reply, and nothing changes
abbrev pub MayRunOutOfMemory : Machine → Reply → Machine → Type 0
MayRunOutOfMemory m r next = (r ≡ Refused refusal.OutOfMemory) × (next ≡ m)

-- the answer, or out of memory in its place
abbrev pub Answers : Machine → Answer → Reply → Machine → Type 0
Answers m a r next = IsAnswer a r next ⊎ MayRunOutOfMemory m r next

-- from m, the reply to the step and the machine after it: the machine's answer, or out of memory where the step may run
-- out of it
abbrev pub IsStep : Understanding → List Table → Machine → Step → Reply → Machine → Type 0
IsStep understands schema m s r next =
    ((u : Result Statement Refusal) × IsUnderstood understands s u × IsAnswer (answer schema m u s) r next)
    ⊎ ((may_take_memory s ≡ true) × MayRunOutOfMemory m r next)

-- a slot that has every key, with no timestamp yet
abbrev pub first_slot : SlotState
first_slot = record { lo = None; hi = None; last = 0; floor = 0; horizon = 0 }

abbrev pub start : Machine
start =
    record { slots = first_slot ∷ []; transactions = []; log = []; queries = []; next_transaction = 1; next_query = 1 }
