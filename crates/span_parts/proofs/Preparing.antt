-- Prepare at a slot, in the slot's shard and in the journal.
use Rattle.std.proofs.Common.{◌≡◌, ℕ, ◌<◌, ◌≤◌, ◌==◌, Bool, true, false, length, nat_lt, nat_le, arith, [], ◌∷◌, List, Option, Some, None, refl, ap, sym, ◌∙◌, subst, inl, inr}
use Rattle.std.specs.Prelude.{slice_get, slice_set, Ok, Err, ◌⊎◌}
use Rattle.std.specs.List.{AllByRecursion}
use Rattle.std.proofs.lemmas.Bool.Decides.{nat_tests}
use Rattle.std.proofs.lemmas.Option.{same_Some}
use Rattle.span_value.specs.declared.refusal.Refusal.{Refusal}
use Rattle.span_value.specs.declared.refusal.Refusal.TheVariants as refusal
use Rattle.span_truetime.specs.Limits.{timestamp_end}
use Rattle.span_schema.specs.declared.table.Table.{Table}
use Rattle.span_mutate.specs.declared.mutation.CheckedMutation.{CheckedMutation}
use Rattle.span_mutate.specs.declared.row.TableRow.{TableRow}
use Rattle.span_mutate.specs.Database.{apply}
use Rattle.span_mutate.specs.Directories.{IsDatabase}
use Rattle.span_mutate.specs.Typed.{AreTyped, AreTypedMutations}
use Rattle.span_store.specs.declared.write.Write.{Write}
use Rattle.span_shard.specs.KeyVersions.{KeyVersions}
use Rattle.span_shard.specs.Rows.{is_touched, AreChanges}
use Rattle.span_shard.specs.Reading.{IsFault, IsFull}
use Rattle.span_shard.specs.Shard.{with_writes, applied, live, IsFree, HasNoneOf, IsNow}
use Rattle.span_shard.proofs.Undo.{given_back}
use Rattle.span_value.specs.Results.{first_cause}
use Rattle.span_machine.specs.declared.step.Step.TheVariants as step
use Rattle.span_machine.specs.declared.step.Reply.TheVariants as reply
use Rattle.span_machine.specs.declared.slot.SlotState.{SlotState}
use Rattle.span_machine.specs.declared.transaction.OpenTransaction.{OpenTransaction}
use Rattle.span_machine.specs.Machine.{Machine, Answer, Answers, IsAnswer, refused, unless_refused, if_some, for_slot, mutations_in, mutations_refusal, prepare, prepare_transaction, prepare_timestamp, capacity_refusal, prepared, is_undecided, is_prepared_at, has_conflict}
use Rattle.span_machine.specs.Kept.{most_versions, live_with}
use Rattle.span_machine.specs.Pieces.{Journaled, machine_of}
use Rattle.span_machine_laws.proofs.Causes.{may_prepare}
use Rattle.span_version_laws.specs.Kept.{AreKept}
use Rattle.span_version_laws.proofs.AllKept.{slots_stay, all_kept_set}
use Rattle.span_version_laws.proofs.Steps.{kept_prepare_elsewhere}
use Rattle.span_version_laws.proofs.Preparing.{its_typed, prepare_free, prepare_new, prepare_fault, prepare_well, kept_prepared, live_prepared}
use Rattle.span_transactions.specs.States.{has_wrong_state}
use Rattle.span_journal.specs.Judged.{MayPrepare, IsNoted, IsUnnoted, note_cause}
use Rattle.span_journal.proofs.Preparing.{timestamp_refusal, note_stamp}
use Rattle.span_parts.specs.Whole.{Shards, IsWhole}
use Rattle.span_parts.proofs.Wholes.{no_text, goes_to, pieces_same}

above : (n k : ℕ) → n ≡ k → most_versions < n → nat_lt most_versions k ≡ true
above n k same many = grind (arith, nat_tests)

not_above : (n k : ℕ) → n ≡ k → n ≤ most_versions → nat_lt most_versions k ≡ false
not_above n k same few = grind (arith, nat_tests)

module _ (schema : List Table) (j : Journaled) (shards : Shards) (w : IsWhole schema j shards) (owner txn slot : ℕ) (ms : List CheckedMutation) (may : MayPrepare schema (machine_of j) owner txn slot ms) (cs : List KeyVersions) (there : slice_get shards slot ≡ Some cs) where
  abbrev m : Machine
  m = machine_of j

  abbrev its : List CheckedMutation
  its = mutations_in schema may.slot_state may.transaction.mutations

  here_kept : AreKept schema m slot cs
  here_kept = w.kept.each slot cs there

  -- nothing is prepared at the keys of the mutations, nor of the transaction
  pub free : IsFree schema ms cs
  free = subst (λ (l : List CheckedMutation). IsFree schema l cs) (sym may.mutations) (prepare_free schema w.rules m w.reached cs here_kept owner txn may.transaction may.slot_state may.found may.here may.accepted)

  pub new : HasNoneOf txn cs
  new = prepare_new schema w.rules m w.reached cs here_kept owner txn may.transaction may.slot_state may.found may.here may.accepted

  pub typed : AreTypedMutations schema ms
  typed = subst (AreTypedMutations schema) (sym may.mutations) (its_typed schema w.rules m w.reached cs here_kept owner txn may.transaction may.slot_state may.found may.here may.accepted)

  -- nor is its state wrong
  right : has_wrong_state slot may.transaction ≡ false
  right =
      let p = may_prepare (is_undecided may.transaction) (is_prepared_at slot may.transaction) (length its == 0) (has_conflict schema m slot its) may.accepted in
      rw (p.0, p.1) refl

  -- what is left to check: the capacity, and then the timestamp
  abbrev stamped : Answer
  stamped = unless_refused m (timestamp_refusal may.slot_state) (prepared m owner txn slot may.slot_state)

  abbrev tail : Answer
  tail = unless_refused m (capacity_refusal schema m slot may.slot_state its) stamped

  prepare_is : prepare schema m owner txn slot ≡ unless_refused m (mutations_refusal schema m its) tail
  prepare_is =
      ap (λ (o : Option OpenTransaction). if_some o (refused m refusal.UnknownTransaction) (λ t. for_slot m slot (prepare_transaction schema m owner txn slot t))) may.found
      ∙ ap (λ (o : Option SlotState). if_some o (refused m refusal.NoSlot) (prepare_transaction schema m owner txn slot may.transaction)) may.here
      ∙ ap (λ (o : Option Refusal). unless_refused m o (unless_refused m (mutations_refusal schema m its) tail)) may.accepted

  -- the machine's answer is this one
  answer_is : (a : Answer) → prepare schema m owner txn slot ≡ a → IsAnswer (prepare schema m owner txn slot) a.0 a.1
  answer_is a e = (sym (ap (λ (b : Answer). b.0) e), sym (ap (λ (b : Answer). b.1) e))

  -- what the shard says of every database whose rows it has
  abbrev OfEach : List CheckedMutation → (List TableRow → Type 0) → Type 0
  OfEach l P = (db : List TableRow) → IsDatabase schema db → AreTyped schema db → IsNow schema l db cs → P db

  -- the fault of the mutations is the reply
  fault_answer : (why : Refusal) → IsFault schema ms cs why → Answers m (prepare schema m owner txn slot) (reply.Refused why) m
  fault_answer why says = elim (prepare_fault schema w.rules m w.reached cs here_kept owner txn may.transaction may.slot_state may.found may.here may.accepted why
      (subst (λ (l : List CheckedMutation). OfEach l (λ db. (why ≡ refusal.OutOfMemory) ⊎ (apply schema db l ≡ Err why))) may.mutations says)) [
        | inl memory ↦ inr (ap reply.Refused memory, refl)
        | inr is ↦ inl (answer_is (refused m why) (prepare_is ∙ ap (λ (o : Option Refusal). unless_refused m o tail) is))
      ]

  abbrev Changes : List CheckedMutation → List Write → Type 0
  Changes l ws = OfEach l (λ db. (after : List TableRow) × (apply schema db l ≡ Ok after) × AreChanges schema db after ws)

  module _ (ws : List Write) (are : Changes ms ws) where
    are_in : Changes its ws
    are_in = subst (λ (l : List CheckedMutation). Changes l ws) may.mutations are

    to_capacity : prepare schema m owner txn slot ≡ tail
    to_capacity = prepare_is ∙ ap (λ (o : Option Refusal). unless_refused m o tail) (prepare_well schema w.rules m w.reached cs here_kept owner txn may.transaction may.slot_state may.found may.here may.accepted ws are_in)

    -- with the writes there are as many versions as the machine counts
    number : live (with_writes txn ws cs) ≡ live_with schema m.log m.transactions slot may.slot_state its
    number = live_prepared schema w.rules m w.reached cs here_kept owner txn may.transaction may.slot_state may.found may.here may.accepted ws are_in

  -- where there are too many, that is the reply
  full_answer : (why : Refusal) → IsFull schema ms txn cs why → Answers m (prepare schema m owner txn slot) (reply.Refused why) m
  full_answer why full =
      let many = above (live (with_writes txn full.writes cs)) _ (number full.writes full.of.changes) full.over in
      let e = to_capacity full.writes full.of.changes ∙ ap (λ (b : Bool). unless_refused m (first_cause ((b, refusal.ShardFull) ∷ [])) stamped) many in
      subst (λ (r : Refusal). Answers m (prepare schema m owner txn slot) (reply.Refused r) m) (sym full.full) (inl (answer_is (refused m refusal.ShardFull) e))

  -- why the shard refuses is the reply
  pub unwritten_answer : (why : Refusal) → IsFault schema ms cs why ⊎ IsFull schema ms txn cs why → Answers m (prepare schema m owner txn slot) (reply.Refused why) m
  unwritten_answer why (inl fault) = fault_answer why fault
  unwritten_answer why (inr full) = full_answer why full

  module _ (ws : List Write) (are : Changes ms ws) (few : live (with_writes txn ws cs) ≤ most_versions) where
    judged : prepare schema m owner txn slot ≡ stamped
    judged = to_capacity ws are ∙ ap (λ (b : Bool). unless_refused m (first_cause ((b, refusal.ShardFull) ∷ [])) stamped) (not_above (live (with_writes txn ws cs)) _ (number ws are) few)

    -- a transaction that is noted is prepared
    prepared_is : (ts : ℕ) (n : Machine) → (d : IsNoted m owner txn slot ts n) → prepare schema m owner txn slot ≡ prepared m owner txn slot d.slot_state
    prepared_is ts n d =
        let same : d.slot_state ≡ may.slot_state = same_Some d.slot_state may.slot_state (sym d.here ∙ may.here) in
        let one : d.transaction ≡ may.transaction = same_Some d.transaction may.transaction (sym d.found ∙ may.found) in
        let stamp : timestamp_refusal d.slot_state ≡ None =
        sym (ap (λ b. first_cause ((b, refusal.WrongState) ∷ (nat_le timestamp_end (prepare_timestamp d.slot_state), refusal.TimestampRange) ∷ [])) right)
        ∙ ap (λ (t : OpenTransaction). note_cause slot t d.slot_state) (sym one) ∙ d.accepted in
        judged ∙ ap (λ (b : SlotState). unless_refused m (timestamp_refusal b) (prepared m owner txn slot b)) (sym same)
        ∙ ap (λ (o : Option Refusal). unless_refused m o (prepared m owner txn slot d.slot_state)) stamp

    pub noted_answer : (ts : ℕ) (n : Machine) → IsNoted m owner txn slot ts n → IsAnswer (prepare schema m owner txn slot) (reply.Prepared ts) n
    noted_answer ts n d =
        let e = prepared_is ts n d in
        (ap reply.Prepared d.at ∙ sym (ap (λ (a : Answer). a.0) e), d.after ∙ sym (ap (λ (a : Answer). a.1) e))

    pub noted_whole : (ts : ℕ) (k : Journaled) → IsNoted m owner txn slot ts (machine_of k) → k.queries ≡ j.queries → IsWhole schema k (slice_set shards slot (with_writes txn ws cs))
    noted_whole ts k d queries =
        let e = prepared_is ts (machine_of k) d in
        let is : machine_of k ≡ (prepare schema m owner txn slot).1 = d.after ∙ sym (ap (λ (a : Answer). a.1) e) in
        let same : may.slot_state ≡ d.slot_state = same_Some may.slot_state d.slot_state (sym may.here ∙ d.here) in
        let kept = kept_prepared schema w.rules m w.reached cs here_kept owner txn may.transaction may.slot_state may.found may.here may.accepted ws (are_in ws are) in
        let after : AreKept schema (prepare schema m owner txn slot).1 slot (with_writes txn ws cs) =
        subst (λ (a : Answer). AreKept schema a.1 slot (with_writes txn ws cs)) (sym e) (subst (λ (b : SlotState). AreKept schema (prepared m owner txn slot b).1 slot (with_writes txn ws cs)) same kept) in
        goes_to schema j k no_text (step.Prepare owner txn slot) tt is (pieces_same schema j.queries k.queries queries) shards (slice_set shards slot (with_writes txn ws cs)) w
        (all_kept_set schema m (prepare schema m owner txn slot).1 shards slot (with_writes txn ws cs) (slots_stay schema m no_text (step.Prepare owner txn slot) (λ table key f. cc)) after
        (λ i c off kept_there. kept_prepare_elsewhere schema m w.reached c kept_there owner txn slot off) w.kept)

    -- why it is not noted is the reply: no timestamp is left
    pub unnoted_answer : (why : Refusal) → IsUnnoted m owner txn slot why → IsAnswer (prepare schema m owner txn slot) (reply.Refused why) m
    unnoted_answer why is =
        let late : timestamp_refusal may.slot_state ≡ Some why = sym (note_stamp m owner txn slot may.transaction may.found may.slot_state may.here right) ∙ is in
        answer_is (refused m why) (judged ∙ ap (λ (o : Option Refusal). unless_refused m o (prepared m owner txn slot may.slot_state)) late)

  -- the writes are given back
  pub taken_back : (ws : List Write) → AllByRecursion (λ (x : Write). is_touched schema ms x.key ≡ true) ws → applied txn None (with_writes txn ws cs) ≡ cs
  taken_back ws touched = given_back txn schema ms ws cs (with_writes txn ws cs) here_kept.used new free touched (record { front = []; rest = ws; whole = refl; put = refl })
