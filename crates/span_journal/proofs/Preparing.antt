use Rattle.std.proofs.Common.{◌≡◌, ℕ, ◌<◌, ◌≤◌, ◌^◌, Bool, true, false, cond, not, ◌&&◌, ◌||◌, ◌==◌, nat_le, List, [], ◌∷◌, length, Option, Some, None, refl, ap, sym, ◌∙◌, arith}
use Rattle.std.specs.Prelude.{filter, find, slice_get}
use Rattle.std.specs.List.{list_any}
use Rattle.std.proofs.lemmas.Bool.Decides.{nat_tests}
use Rattle.std.proofs.lemmas.Bool.{not-true, not-false}
use Rattle.span_value.specs.declared.refusal.Refusal.{Refusal}
use Rattle.span_value.specs.declared.refusal.Refusal.TheVariants as refusal
use Rattle.span_schema.specs.declared.table.Table.{Table}
use Rattle.span_mutate.specs.declared.mutation.CheckedMutation.{CheckedMutation}
use Rattle.span_truetime.specs.Limits.{timestamp_end}
use Rattle.span_machine.specs.declared.slot.SlotState.{SlotState}
use Rattle.span_machine.specs.declared.transaction.OpenTransaction.{OpenTransaction}
use Rattle.span_value.specs.Results.{first_cause}
use Rattle.span_value.proofs.Lists.{list_any-filter}
use Rattle.span_machine.specs.Machine.{Machine, refused, unless_refused, if_some, is_transaction, is_prepared_at, has_conflict, have_common_root, mutations_in, mutations_refusal, prepare, prepare_transaction, prepare_refusal, prepare_timestamp, prepared, for_slot, capacity_refusal}
use Rattle.span_machine.specs.Slots.{holds, root_at, is_at}
use Rattle.span_transactions.specs.Places.{share_directory_in}
use Rattle.span_transactions.specs.States.{has_wrong_state}
use Rattle.span_journal.specs.Judged.{MayPrepare, note_cause, note_refusal}

-- the refusal `TimestampRange`, if there is no prepare timestamp left
abbrev pub timestamp_refusal : SlotState → Option Refusal
timestamp_refusal slot_state = first_cause ((nat_le timestamp_end (prepare_timestamp slot_state), refusal.TimestampRange) ∷ [])

-- ---- lists that are filtered

module _ {A : Type 0} (h g : A → Bool) where
  -- two tests that agree
  any_same : ((x : A) → h x ≡ g x) → (xs : List A) → list_any h xs ≡ list_any g xs
  any_same same [] = refl
  any_same same (x ∷ xs) = ap (λ b. b || list_any h xs) (same x) ∙ ap (λ b. g x || b) (any_same same xs)

  -- nothing passes just where nothing is left
  none_left : (xs : List A) → (length (filter h xs) == 0) ≡ not (list_any h xs)
  none_left [] = refl
  none_left (x ∷ xs) = elim (h x) as (λ b. (length (cond b (x ∷ filter h xs) (filter h xs)) == 0) ≡ not (b || list_any h xs)) [
    | true ↦ some_length (filter h xs)
    | false ↦ none_left xs
  ]
    where
      some_length : (ys : List A) → (length (x ∷ ys) == 0) ≡ false
      some_length ys = grind (arith, nat_tests)

-- the mutations of two lists share a directory that lies in the slot
shared : (schema : List Table) (slot_state : SlotState) (ms ns : List CheckedMutation) → share_directory_in schema slot_state ms ns ≡ have_common_root schema (mutations_in schema slot_state ms) ns
shared schema slot_state ms ns = list_any-filter (λ m. holds schema slot_state (root_at schema m)) (λ m. list_any (is_at schema (root_at schema m)) ns) ms

-- a transaction that is prepared at the slot shares a directory there
pub conflict_is : (schema : List Table) (m : Machine) (slot : ℕ) (slot_state : SlotState) (ms : List CheckedMutation)
    → list_any (λ t. is_prepared_at slot t && share_directory_in schema slot_state ms t.mutations) m.transactions ≡ has_conflict schema m slot (mutations_in schema slot_state ms)
conflict_is schema m slot slot_state ms =
    any_same (λ (t : OpenTransaction). is_prepared_at slot t && share_directory_in schema slot_state ms t.mutations) (λ (t : OpenTransaction). is_prepared_at slot t && have_common_root schema (mutations_in schema slot_state ms) t.mutations)
    (λ t. ap (λ b. is_prepared_at slot t && b) (shared schema slot_state ms t.mutations)) m.transactions

-- ---- what keeps a transaction from being prepared

module _ (schema : List Table) (m : Machine) (owner txn slot : ℕ) (t : OpenTransaction) (slot_state : SlotState) (found : find (is_transaction owner txn) m.transactions ≡ Some t) (here : slice_get m.slots slot ≡ Some slot_state) where
  prepare_is : prepare schema m owner txn slot ≡ prepare_transaction schema m owner txn slot t slot_state
  prepare_is = ap (λ (o : Option OpenTransaction). if_some o (refused m refusal.UnknownTransaction) (λ t. for_slot m slot (prepare_transaction schema m owner txn slot t))) found
      ∙ ap (λ (o : Option SlotState). if_some o (refused m refusal.NoSlot) (prepare_transaction schema m owner txn slot t)) here

  refused_by : (why : Refusal) → prepare_refusal schema m slot t slot_state ≡ Some why → prepare schema m owner txn slot ≡ refused m why
  refused_by why e = prepare_is ∙ ap (λ (o : Option Refusal). unless_refused m o
      (unless_refused m (mutations_refusal schema m (mutations_in schema slot_state t.mutations)) (unless_refused m (capacity_refusal schema m slot slot_state (mutations_in schema slot_state t.mutations)) (unless_refused m (timestamp_refusal slot_state) (prepared m owner txn slot slot_state))))) e

  -- some mutation lies in the slot
  abbrev has_some : Bool
  has_some = list_any (λ u. holds schema slot_state (root_at schema u)) t.mutations

  abbrev in_conflict : Bool
  in_conflict = list_any (λ u. is_prepared_at slot u && share_directory_in schema slot_state t.mutations u.mutations) m.transactions

  -- the refusal by what was looked at
  refusal_is : (wrong some conflict : Bool) → has_wrong_state slot t ≡ wrong → has_some ≡ some → in_conflict ≡ conflict
      → prepare_refusal schema m slot t slot_state ≡ first_cause ((wrong || not some, refusal.WrongState) ∷ (conflict, refusal.Conflict) ∷ [])
  refusal_is wrong some conflict is_wrong is_some is_conflict =
      ap (λ b. first_cause ((b, refusal.WrongState) ∷ (has_conflict schema m slot (mutations_in schema slot_state t.mutations), refusal.Conflict) ∷ []))
      (ap (λ b. b || (length (mutations_in schema slot_state t.mutations) == 0)) is_wrong
      ∙ ap (λ b. wrong || b) (none_left (λ u. holds schema slot_state (root_at schema u)) (λ u. true) t.mutations ∙ ap not is_some))
      ∙ ap (λ b. first_cause ((wrong || not some, refusal.WrongState) ∷ (b, refusal.Conflict) ∷ [])) (sym (conflict_is schema m slot slot_state t.mutations) ∙ is_conflict)

  pub refused_wrong : not (has_wrong_state slot t) ≡ false → prepare schema m owner txn slot ≡ refused m refusal.WrongState
  refused_wrong wrong = refused_by refusal.WrongState (refusal_is true has_some in_conflict (not-false (has_wrong_state slot t) wrong) refl refl)

  pub refused_none : not (has_wrong_state slot t) ≡ true → has_some ≡ false → prepare schema m owner txn slot ≡ refused m refusal.WrongState
  refused_none right none = refused_by refusal.WrongState (refusal_is false false in_conflict (not-true (has_wrong_state slot t) right) none refl)

  pub refused_conflict : not (has_wrong_state slot t) ≡ true → has_some ≡ true → in_conflict ≡ true → prepare schema m owner txn slot ≡ refused m refusal.Conflict
  refused_conflict right some conflict = refused_by refusal.Conflict (refusal_is false true true (not-true (has_wrong_state slot t) right) some conflict)

  pub may_prepare : not (has_wrong_state slot t) ≡ true → has_some ≡ true → in_conflict ≡ false → (ms : List CheckedMutation) → ms ≡ mutations_in schema slot_state t.mutations → MayPrepare schema m owner txn slot ms
  may_prepare right some apart ms are = record {
    transaction = t;
    slot_state = slot_state;
    found = found;
    here = here;
    accepted = refusal_is false true false (not-true (has_wrong_state slot t) right) some apart;
    mutations = are;
  }

-- a transaction that is not there, or a slot that is not there
pub refused_unknown : (schema : List Table) (m : Machine) (owner txn slot : ℕ) → find (is_transaction owner txn) m.transactions ≡ None → prepare schema m owner txn slot ≡ refused m refusal.UnknownTransaction
refused_unknown schema m owner txn slot none = ap (λ (o : Option OpenTransaction). if_some o (refused m refusal.UnknownTransaction) (λ t. for_slot m slot (prepare_transaction schema m owner txn slot t))) none

pub refused_slot : (schema : List Table) (m : Machine) (owner txn slot : ℕ) (t : OpenTransaction) → find (is_transaction owner txn) m.transactions ≡ Some t → slice_get m.slots slot ≡ None → prepare schema m owner txn slot ≡ refused m refusal.NoSlot
refused_slot schema m owner txn slot t found none =
    ap (λ (o : Option OpenTransaction). if_some o (refused m refusal.UnknownTransaction) (λ t. for_slot m slot (prepare_transaction schema m owner txn slot t))) found
    ∙ ap (λ (o : Option SlotState). if_some o (refused m refusal.NoSlot) (prepare_transaction schema m owner txn slot t)) none

late_test : (n : ℕ) → 2 ^ 62 ≤ n → nat_le timestamp_end n ≡ true
late_test n h = grind (arith, nat_tests)

early_test : (n : ℕ) → n < 2 ^ 62 → nat_le timestamp_end n ≡ false
early_test n h = grind (arith, nat_tests)

-- a transaction that is in no wrong state is noted where there is a timestamp left
pub may_note : (slot : ℕ) (t : OpenTransaction) (slot_state : SlotState) → has_wrong_state slot t ≡ false → prepare_timestamp slot_state < 2 ^ 62 → note_cause slot t slot_state ≡ None
may_note slot t slot_state right early =
    ap (λ b. first_cause ((b, refusal.WrongState) ∷ (nat_le timestamp_end (prepare_timestamp slot_state), refusal.TimestampRange) ∷ [])) right
    ∙ ap (λ b. first_cause ((b, refusal.TimestampRange) ∷ [])) (early_test (prepare_timestamp slot_state) early)

-- a transaction that is not there is not noted
pub unnoted_transaction : (m : Machine) (owner txn slot : ℕ) → find (is_transaction owner txn) m.transactions ≡ None → note_refusal m owner txn slot ≡ Some refusal.UnknownTransaction
unnoted_transaction m owner txn slot none = ap (λ (o : Option OpenTransaction). if_some o (Some refusal.UnknownTransaction) (λ t. if_some (slice_get m.slots slot) (Some refusal.NoSlot) (note_cause slot t))) none

module _ (m : Machine) (owner txn slot : ℕ) (t : OpenTransaction) (found : find (is_transaction owner txn) m.transactions ≡ Some t) where
  note_at : (o : Option SlotState) → slice_get m.slots slot ≡ o → note_refusal m owner txn slot ≡ if_some o (Some refusal.NoSlot) (note_cause slot t)
  note_at o is =
      ap (λ (p : Option OpenTransaction). if_some p (Some refusal.UnknownTransaction) (λ t. if_some (slice_get m.slots slot) (Some refusal.NoSlot) (note_cause slot t))) found
      ∙ ap (λ (p : Option SlotState). if_some p (Some refusal.NoSlot) (note_cause slot t)) is

  pub unnoted_slot : slice_get m.slots slot ≡ None → note_refusal m owner txn slot ≡ Some refusal.NoSlot
  unnoted_slot none = note_at None none

  module _ (slot_state : SlotState) (here : slice_get m.slots slot ≡ Some slot_state) where
    -- the refusal by whether the state is wrong
    note_by : (wrong : Bool) → has_wrong_state slot t ≡ wrong → note_refusal m owner txn slot ≡ first_cause ((wrong, refusal.WrongState) ∷ (nat_le timestamp_end (prepare_timestamp slot_state), refusal.TimestampRange) ∷ [])
    note_by wrong is = note_at (Some slot_state) here ∙ ap (λ b. first_cause ((b, refusal.WrongState) ∷ (nat_le timestamp_end (prepare_timestamp slot_state), refusal.TimestampRange) ∷ [])) is

    pub unnoted_state : has_wrong_state slot t ≡ true → note_refusal m owner txn slot ≡ Some refusal.WrongState
    unnoted_state wrong = note_by true wrong

    -- what is left where the state is right
    pub note_stamp : has_wrong_state slot t ≡ false → note_refusal m owner txn slot ≡ timestamp_refusal slot_state
    note_stamp right = note_by false right

    pub unnoted_late : has_wrong_state slot t ≡ false → 2 ^ 62 ≤ prepare_timestamp slot_state → note_refusal m owner txn slot ≡ Some refusal.TimestampRange
    unnoted_late right late = note_stamp right ∙ ap (λ b. first_cause ((b, refusal.TimestampRange) ∷ [])) (late_test (prepare_timestamp slot_state) late)
