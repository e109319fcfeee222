-- A Prepare: the shard holds what the machine says, and the writes that it prepares are kept.
use Rattle.std.proofs.Common.{◌≡◌, ◌≢◌, ℕ, nat_le, ◌-◌, ◌+◌, arith, not, true, false, cond, ◌&&◌, ◌||◌, ◌==◌, Bool, List, [], ◌∷◌, ◌++◌, length, Option, Some, None, Ok, Err, refl, ap, sym, ◌∙◌, subst, inl, inr, ◌⊎◌}
use Rattle.std.specs.Prelude.{slice_get, find, filter, is_some}
use Rattle.std.specs.List.{list_any, AllByRecursion}
use Rattle.span_value.specs.declared.refusal.Refusal.{Refusal}
use Rattle.span_value.specs.declared.refusal.Refusal.TheVariants.{OutOfMemory}
use Rattle.span_value.specs.declared.refusal.Refusal.TheVariants as refusal
use Rattle.span_schema.specs.declared.table.Table.{Table}
use Rattle.span_schema.specs.Lineages.{MeetsRules}
use Rattle.span_truetime.specs.Limits.{timestamp_end}
use Rattle.span_mutate.specs.declared.mutation.CheckedMutation.{CheckedMutation}
use Rattle.span_mutate.specs.declared.row.TableRow.{TableRow}
use Rattle.span_value.specs.Results.{and_then, first_cause}
use Rattle.span_mutate.specs.Database.{apply}
use Rattle.span_mutate.specs.Directories.{Root, directory, IsDatabase, AreKeyed}
use Rattle.span_mutate.specs.Typed.{AreTyped, AreTypedMutations}
use Rattle.span_mutate.proofs.TypedRows.{typed_stay}
use Rattle.span_maderows.specs.Made.{begins_with}
use Rattle.span_store.specs.declared.chain.PreparedWrite.{PreparedWrite}
use Rattle.span_store.specs.declared.write.Write.{Write}
use Rattle.span_shard.specs.KeyVersions.{KeyVersions}
use Rattle.span_shard.specs.Rows.{row_coded, root_code, is_touched, AreChanges}
use Rattle.span_shard.specs.Writes.{IsWrite, is_of}
use Rattle.std.specs.declared.cmp.Ordering.TheVariants.{Less, Equal, Greater}
use Rattle.span_keycode.specs.Order.{byte_order}
use Rattle.span_shard.specs.Versions.{with_prepared}
use Rattle.span_shard.specs.Shard.{is_key, versions_at, prepared_at, prepared_of, by_order, new_key, prepared_write, with_write, with_writes, live, IsNotOf, HasNoneOf, IsFree, IsNow}
use Rattle.span_shard.proofs.InOrder.{in_order_with_writes}
use Rattle.span_shard.proofs.Undo.{used_with_writes}
use Rattle.span_machine.specs.declared.slot.SlotState.{SlotState}
use Rattle.span_machine.specs.declared.transaction.OpenTransaction.{OpenTransaction}
use Rattle.span_machine.specs.declared.transaction.Prepared.{Prepared}
use Rattle.span_machine.specs.declared.transaction.Commit.{Commit}
use Rattle.span_machine.specs.Sorting.{in_order}
use Rattle.span_machine.specs.Tables.{is_before, upto, mutations_of, tables}
use Rattle.span_machine.specs.Kept.{Change, changes_between, database_of, count_changes, live_with, live as slot_live}
use Rattle.span_machine.specs.Machine.{Machine, root_at, is_at, has_key, holds, is_transaction, is_undecided, is_prepared_at, mutations_in, has_conflict, prepare_refusal, prepare_timestamp, prepared, add_prepared, changed_first, mutations_refusal, refusal_of}
use Rattle.span_machine_laws.proofs.Causes.{may_prepare, undecided_is}
use Rattle.span_machine_laws.proofs.Lists.{found_passes, all_found}
use Rattle.span_machine_laws.proofs.Locality.{is_at-itself, apply-directory, apply-database, empty_database, ok_same}
use Rattle.span_machine_laws.proofs.Stability.{changes_at, touches, is_some_of, none_of}
use Rattle.span_machine_laws.proofs.InPlace.{commits_at, claims, changes_at-upto}
use Rattle.span_machine_laws.proofs.Claims.{unclaimed, all_held, all_kept, under_filter}
use Rattle.span_machine_laws.proofs.Schemas.{IsBegunBy, keyed_upto, typed_upto, keyed_in, typed_in}
use Rattle.span_machine_laws.proofs.Reached.{IsReached, reached_tables}
use Rattle.span_version_laws.specs.Kept.{IsCodedRoot, IsCodedCoding, is_under, HasRows, IsPut, IsKeptUnder, IsKeptBy, IsKeptAt, AreKept}
use Rattle.span_version_laws.proofs.Slots.{HasRoot, held_of_some, none_held, still_set, state_is}
use Rattle.span_version_laws.proofs.Cuts.{held_by_key, key_by_held}
use Rattle.span_version_laws.proofs.Keys.{all_by_key, prepared_by, versions_at-with_writes, prepared_at-with_writes}
use Rattle.span_version_laws.proofs.Claimers.{claimers_of}
use Rattle.std.proofs.lemmas.Bool.{and_left, and_right, or_left, or_right, eq-eqb, eqb-true, and_parts}
use Rattle.span_version_laws.proofs.Roots.{coded_root, coded_root_at, root_of_coding, coding_of_row, coded_in_directory}
use Rattle.span_version_laws.proofs.Steps.{kept_still}
use Rattle.span_version_laws.proofs.Trimming.{not_same_of}
use Rattle.span_version_laws.proofs.Counting.{is_at_key}
use Rattle.span_version_laws.proofs.Changes.{change_at, change_none, changes_at_key, IsTypedDatabase, apart_of, typed_after, after_is, log_made}
use Rattle.span_version_laws.proofs.Live.{IsOfKey, coded_between, live_by_keys, counted_changes, count_at, all_coded, counted_length}
use Rattle.std.proofs.lemmas.List.{length-append}
use Rattle.std.proofs.lemmas.List.Elements.{filter-append}
use Rattle.span_value.proofs.Lists.{all_append, all_weaker}
use Rattle.span_keycode.proofs.Order.{bytes_same}
use Rattle.span_version_laws.proofs.Rows.{row_now_of_tables, not_of_others, others_apart}

-- ---- tests

prepared_here : (slot ts : ℕ) (ps : List Prepared) → list_any (λ p. p.slot == slot) (ps ++ (record { slot = slot; timestamp = ts }) ∷ []) ≡ true
prepared_here slot ts [] = or_left (slot == slot) false (eq-eqb slot slot refl)
prepared_here slot ts (p ∷ ps) = or_right (p.slot == slot) _ (prepared_here slot ts ps)

-- a touched key is under the root row of one of the mutations
pub touched_root : (schema : List Table) → MeetsRules schema → (k : List ℕ) (ms : List CheckedMutation) → AreTypedMutations schema ms → is_touched schema ms k ≡ true
    → (root : Root) × IsCodedRoot schema root × (is_under schema root k ≡ true) × (is_some_of (filter (is_at schema root) ms) ≡ true)
touched_root schema rules k [] typed e = absurd (let f : false ≡ true = e in cc)
touched_root schema rules k (m ∷ ms) typed e = cases (begins_with k (root_code schema m)) refl (λ f. touched_root schema rules k ms typed.1 f)
  where
    here : is_some_of (filter (is_at schema (root_at schema m)) (m ∷ ms)) ≡ true
    here = ap (λ b. is_some_of (cond b (m ∷ filter (is_at schema (root_at schema m)) ms) (filter (is_at schema (root_at schema m)) ms))) (is_at-itself schema m)

    more : (root : Root) → is_some_of (filter (is_at schema root) ms) ≡ true → is_some_of (filter (is_at schema root) (m ∷ ms)) ≡ true
    more root f = elim (is_at schema root m) as (λ b. is_some_of (cond b (m ∷ filter (is_at schema root) ms) (filter (is_at schema root) ms)) ≡ true) [ true ↦ refl | false ↦ f ]

    cases : (b : Bool) → begins_with k (root_code schema m) ≡ b
        → (is_touched schema ms k ≡ true → (root : Root) × IsCodedRoot schema root × (is_under schema root k ≡ true) × (is_some_of (filter (is_at schema root) ms) ≡ true))
        → (root : Root) × IsCodedRoot schema root × (is_under schema root k ≡ true) × (is_some_of (filter (is_at schema root) (m ∷ ms)) ≡ true)
    cases true f again = (root_at schema m, coded_root_at schema rules m typed.0, f, here)
    cases false f again =
        let rest = again (sym (ap (λ b. b || list_any (λ (n : CheckedMutation). begins_with k (root_code schema n)) ms) f) ∙ e) in
        (rest.0, rest.1, rest.2, more rest.0 rest.3)

-- ---- writes

put_of : (k : List ℕ) (n txn : ℕ) (before after : Option (List ℕ)) (found : Option Write) (p : Option PreparedWrite) → p ≡ None → txn ≡ n → IsWrite k before after found → IsPut n before after (prepared_by txn found p)
put_of k n txn before after None p none same write = subst (IsPut n before after) (sym none) write
put_of k n txn before after (Some w) p none same write = (same, write.1, write.2)

-- where nothing changes nothing is written
no_write : (k : List ℕ) (before after : Option (List ℕ)) (found : Option Write) → after ≡ before → IsWrite k before after found → found ≡ None
no_write k before after None same write = refl
no_write k before after (Some w) same write = absurd (write.2 same)

-- where the row of a key changes, the key is the coding of one
changed_coding : (schema : List Table) (k : List ℕ) (db after : List TableRow) → AreTyped schema db → AreTyped schema after → row_coded schema after k ≢ row_coded schema db k → IsCodedCoding schema k
changed_coding schema k db after typed typed_after off = cases (row_coded schema db k) (row_coded schema after k) refl refl
  where
    cases : (a b : Option (List ℕ)) → row_coded schema db k ≡ a → row_coded schema after k ≡ b → IsCodedCoding schema k
    cases (Some row) b e f = coding_of_row schema k db row typed e
    cases None (Some row) e f = coding_of_row schema k after row typed_after f
    cases None None e f = absurd (off (f ∙ sym e))

some_more : (p : Write → Bool) (w : Write) (ws : List Write) → is_some (find p ws) ≡ true → is_some (find p (w ∷ ws)) ≡ true
some_more p w ws e = elim (p w) as (λ b. is_some (cond b (Some w) (find p ws)) ≡ true) [ true ↦ refl | false ↦ e ]

some_found : (ws : List Write) → AllByRecursion (λ w. is_some (find (is_of w.key) ws) ≡ true) ws
some_found [] = tt
some_found (w ∷ ws) = (
  ap (λ b. is_some (cond b (Some w) (find (is_of w.key) ws))) (bytes_same w.key w.key refl),
  all_weaker (λ v. is_some (find (is_of v.key) ws) ≡ true) (λ v. is_some (find (is_of v.key) (w ∷ ws)) ≡ true) (λ v e. some_more (is_of v.key) w ws e) ws (some_found ws),
)

-- what holds of every key, and of the keys that are written, still does
keys_with_write : (P : List ℕ → Type 0) (txn : ℕ) (w : Write) (cs : List KeyVersions) → P w.key → AllByRecursion (λ (c : KeyVersions). P c.key) cs → AllByRecursion (λ (c : KeyVersions). P c.key) (with_write txn w cs)
keys_with_write P txn w [] here all = (here, tt)
keys_with_write P txn w (c ∷ cs) here all =
    elim (byte_order w.key c.key) as (λ o. AllByRecursion (λ (d : KeyVersions). P d.key) (by_order o (new_key txn w ∷ c ∷ cs) (with_prepared (prepared_write txn w) c ∷ cs) (c ∷ with_write txn w cs))) [
      | Less ↦ (here, all)
      | Equal ↦ (all.0, all.1)
      | Greater ↦ (all.0, keys_with_write P txn w cs here all.1)
    ]

keys_with_writes : (P : List ℕ → Type 0) (txn : ℕ) (ws : List Write) (cs : List KeyVersions) → AllByRecursion (λ (w : Write). P w.key) ws → AllByRecursion (λ (c : KeyVersions). P c.key) cs → AllByRecursion (λ (c : KeyVersions). P c.key) (with_writes txn ws cs)
keys_with_writes P txn [] cs each all = all
keys_with_writes P txn (w ∷ ws) cs each all = keys_with_write P txn w (with_writes txn ws cs) each.0 (keys_with_writes P txn ws cs each.1 all)

-- a key that is written changes
written_changes : (k : List ℕ) (before after : Option (List ℕ)) (found : Option Write) → IsWrite k before after found → is_some found ≡ true → after ≢ before
written_changes k before after None write some = absurd (let f : false ≡ true = some in cc)
written_changes k before after (Some w) write some = write.2

-- a transaction that may be prepared has a mutation of the slot
has_some : (u p c z : Bool) → first_cause ((not u || p || z, refusal.WrongState) ∷ (c, refusal.Conflict) ∷ []) ≡ None → z ≡ true → ⊥
has_some true false c true e is = absurd (cc)
has_some true true c true e is = absurd (cc)
has_some false p c true e is = absurd (cc)
has_some u p c false e is = absurd (cc)

-- ---- Prepare at the slot

module _ (schema : List Table) (rules : MeetsRules schema) (m : Machine) (reached : IsReached schema m) {slot : ℕ} (cs : List KeyVersions) (kept : AreKept schema m slot cs) (owner txn : ℕ) (t : OpenTransaction) (slot_state : SlotState)
    (found : find (is_transaction owner txn) m.transactions ≡ Some t) (here : slice_get m.slots slot ≡ Some slot_state) (accepted : prepare_refusal schema m slot t slot_state ≡ None) where
  abbrev its : List CheckedMutation
  its = mutations_in schema slot_state t.mutations

  may : (is_undecided t ≡ true) × (is_prepared_at slot t ≡ false) × (has_conflict schema m slot (mutations_in schema slot_state t.mutations) ≡ false)
  may = may_prepare (is_undecided t) (is_prepared_at slot t) (length (mutations_in schema slot_state t.mutations) == 0) (has_conflict schema m slot (mutations_in schema slot_state t.mutations)) accepted

  txn_is : t.number ≡ txn
  txn_is = eqb-true t.number txn (and_parts (t.owner == owner) (t.number == txn) (found_passes (is_transaction owner txn) m.transactions t found)).1

  pub its_typed : AreTypedMutations schema (mutations_in schema slot_state t.mutations)
  its_typed = typed_in schema slot_state t.mutations (all_found (IsBegunBy schema) (is_transaction owner txn) m.transactions t found reached.by_schema.transactions)

  its_keyed : AreKeyed schema (mutations_in schema slot_state t.mutations)
  its_keyed = keyed_in schema slot_state t.mutations (all_found (IsBegunBy schema) (is_transaction owner txn) m.transactions t found reached.by_schema.transactions)

  -- the state that the shard is kept by is the slot's
  same_state : kept.slot_state ≡ slot_state
  same_state = state_is schema m cs kept slot_state here

  -- what is kept, by that state
  kept_at : (root : Root) → IsCodedRoot schema root → holds schema slot_state root ≡ true → (k : List ℕ) → is_under schema root k ≡ true → IsKeptAt schema m slot slot_state.horizon cs root k
  kept_at root is held k under = subst (λ (b : SlotState). IsKeptAt schema m slot b.horizon cs root k) same_state (kept.kept root is (subst (λ (b : SlotState). holds schema b root ≡ true) (sym same_state) held) k under)

  inside_at : AllByRecursion (λ (c : KeyVersions). has_key slot_state c.key ≡ true) cs
  inside_at = subst (λ (b : SlotState). AllByRecursion (λ (c : KeyVersions). has_key b c.key ≡ true) cs) same_state kept.inside

  -- a directory of the mutations is one of the slot
  its_held : (root : Root) → IsCodedRoot schema root → is_some_of (filter (is_at schema root) (mutations_in schema slot_state t.mutations)) ≡ true → holds schema slot_state root ≡ true
  its_held root is some = held_of_some schema root (coded_root schema root is) slot_state t.mutations some

  has_root : (root : Root) → holds schema slot_state root ≡ true → HasRoot schema m slot root
  has_root root held = record { slot_state = slot_state; here = here; held = held }

  -- no transaction claims a directory of the mutations
  none_claims : (root : Root) → IsCodedRoot schema root → is_some_of (filter (is_at schema root) (mutations_in schema slot_state t.mutations)) ≡ true → filter (claims schema root slot) m.transactions ≡ []
  none_claims root is some = unclaimed schema root (coded_root schema root is) slot (mutations_in schema slot_state t.mutations) m.transactions some may.2

  not_yet : (root : Root) → claims schema root slot t ≡ false
  not_yet root = and_left (is_prepared_at slot t) (is_some_of (filter (is_at schema root) t.mutations)) may.1

  none_kept : (root : Root) (is : IsCodedRoot schema root) (k : List ℕ) (under : is_under schema root k ≡ true) → is_some_of (filter (is_at schema root) (mutations_in schema slot_state t.mutations)) ≡ true
      → (prepared_at cs k ≡ None) × HasRows schema root k slot_state.horizon (commits_at schema root m.log) (versions_at cs k)
  none_kept root is k under some = subst (IsKeptBy schema root k slot_state.horizon (commits_at schema root m.log) (versions_at cs k) (prepared_at cs k)) (none_claims root is some) (kept_at root is (its_held root is some) k under)

  -- nothing is prepared at a key that the mutations touch
  pub prepare_free : IsFree schema (mutations_in schema slot_state t.mutations) cs
  prepare_free = all_by_key (λ (c : KeyVersions). is_touched schema (mutations_in schema slot_state t.mutations) c.key ≡ true → c.prepared ≡ None) cs kept.keys
      (λ c at touched. let at_root = touched_root schema rules c.key (mutations_in schema slot_state t.mutations) its_typed touched in
      sym (ap prepared_of at) ∙ (none_kept at_root.0 at_root.1 c.key at_root.2 at_root.3).0)

  -- nothing of the transaction is prepared: what is prepared at a coded key is of the transaction that claims its directory
  pub prepare_new : HasNoneOf txn cs
  prepare_new = all_by_key (λ (c : KeyVersions). IsNotOf txn c.prepared) cs kept.keys (λ c at.
      let root = root_of_coding schema rules c.key (all_found (λ (d : KeyVersions). IsCodedCoding schema d.key) (is_key c.key) cs c at kept.coded) in
      let inside : has_key slot_state c.key ≡ true = all_found (λ (d : KeyVersions). has_key slot_state d.key ≡ true) (is_key c.key) cs c at inside_at in
      let held = held_by_key schema rules m reached slot slot_state here root.0 root.1 c.key root.2 inside in
      subst (IsNotOf txn) (ap prepared_of at) (subst (λ n. IsNotOf n (prepared_at cs c.key)) txn_is
      (not_of_others schema root.0 c.key slot_state.horizon (commits_at schema root.0 m.log) (versions_at cs c.key) (prepared_at cs c.key) (filter (claims schema root.0 slot) m.transactions) t.number (kept_at root.0 root.1 held c.key root.2)
      (others_apart schema m reached root.0 slot (is_transaction owner txn) t found (not_yet root.0)))))

  -- the tables as they are
  made : (db : List TableRow) × (tables schema m.log (timestamp_end - 1) ≡ Ok db)
  made = reached_tables schema rules m (timestamp_end - 1) reached

  made_database : IsDatabase schema made.0
  made_database = apply-database schema rules (mutations_of (upto m.log (timestamp_end - 1))) [] made.0 (empty_database schema) (keyed_upto schema m.log (timestamp_end - 1) reached.by_schema.log) made.1

  made_typed : AreTyped schema made.0
  made_typed = typed_stay schema [] (mutations_of (upto m.log (timestamp_end - 1))) made.0 tt (typed_upto schema m.log (timestamp_end - 1) reached.by_schema.log) made.1

  -- at the touched keys the shard's rows are those of the tables
  made_now : IsNow schema (mutations_in schema slot_state t.mutations) made.0 cs
  made_now k touched =
      let at_root = touched_root schema rules k (mutations_in schema slot_state t.mutations) its_typed touched in
      row_now_of_tables schema rules m slot cs kept at_root.0 at_root.1 (subst (λ (b : SlotState). holds schema b at_root.0 ≡ true) (sym same_state) (its_held at_root.0 at_root.1 at_root.3)) k at_root.2 made.0 reached made_typed (none_claims at_root.0 at_root.1 at_root.3) made.1

  faults_on : mutations_refusal schema m (mutations_in schema slot_state t.mutations) ≡ refusal_of (apply schema made.0 (mutations_in schema slot_state t.mutations))
  faults_on = ap (λ r. refusal_of (and_then r (λ d. apply schema d (mutations_in schema slot_state t.mutations)))) made.1

  -- what the mutations make of every database that the shard's rows are of
  abbrev pub Outcome_of : (List TableRow → Type 0) → Type 0
  Outcome_of P = (db : List TableRow) → IsDatabase schema db → AreTyped schema db → IsNow schema (mutations_in schema slot_state t.mutations) db cs → P db

  -- the fault that the shard answers is the machine's
  pub prepare_fault : (why : Refusal) → Outcome_of (λ db. (why ≡ OutOfMemory) ⊎ (apply schema db (mutations_in schema slot_state t.mutations) ≡ Err why)) → (why ≡ OutOfMemory) ⊎ (mutations_refusal schema m (mutations_in schema slot_state t.mutations) ≡ Some why)
  prepare_fault why says = elim (says made.0 made_database made_typed made_now) [
    | inl memory ↦ inl memory
    | inr bad ↦ inr (faults_on ∙ ap refusal_of bad)
  ]

  abbrev pub Changes : List Write → Type 0
  Changes ws = Outcome_of (λ db. (after : List TableRow) × (apply schema db (mutations_in schema slot_state t.mutations) ≡ Ok after) × AreChanges schema db after ws)

  -- mutations that make their writes meet no fault
  pub prepare_well : (ws : List Write) → Changes ws → mutations_refusal schema m (mutations_in schema slot_state t.mutations) ≡ None
  prepare_well ws says = faults_on ∙ ap refusal_of (says made.0 made_database made_typed made_now).1

  whole : (root : Root) → IsCodedRoot schema root → holds schema slot_state root ≡ true → filter (is_at schema root) (mutations_in schema slot_state t.mutations) ≡ filter (is_at schema root) t.mutations
  whole root is held = all_held schema root (coded_root schema root is) slot_state t.mutations held

  module _ (ws : List Write) (says : Changes ws) where
    abbrev after : List TableRow
    after = (says made.0 made_database made_typed made_now).0

    applies : apply schema made.0 (mutations_in schema slot_state t.mutations) ≡ Ok after
    applies = (says made.0 made_database made_typed made_now).1

    are : AreChanges schema made.0 after ws
    are = (says made.0 made_database made_typed made_now).2

    after_typed : AreTyped schema after
    after_typed = typed_stay schema made.0 (mutations_in schema slot_state t.mutations) after made_typed its_typed applies

    -- what the mutations make of one directory
    in_one : (root : Root) → IsCodedRoot schema root → apply schema (directory schema root made.0) (filter (is_at schema root) (mutations_in schema slot_state t.mutations)) ≡ Ok (directory schema root after)
    in_one root is = apply-directory schema rules (mutations_in schema slot_state t.mutations) made.0 after root (coded_root schema root is) made_database its_keyed applies

    -- a directory of no mutation stays
    row_stays : (root : Root) (is : IsCodedRoot schema root) (k : List ℕ) (under : is_under schema root k ≡ true) → filter (is_at schema root) (mutations_in schema slot_state t.mutations) ≡ [] → row_coded schema after k ≡ row_coded schema made.0 k
    row_stays root is k under none =
        let same : directory schema root made.0 ≡ directory schema root after = ok_same (sym (ap (apply schema (directory schema root made.0)) none) ∙ in_one root is) in
        sym (coded_in_directory schema rules root is k under after after_typed) ∙ ap (λ (l : List TableRow). row_coded schema l k) (sym same) ∙ coded_in_directory schema rules root is k under made.0 made_typed

    -- the directory after its commits
    now_is : (root : Root) → IsCodedRoot schema root → apply schema [] (changes_at schema root (commits_at schema root m.log)) ≡ Ok (directory schema root made.0)
    now_is root is =
        let place = (reached.placed root (coded_root schema root is)).1 in
        sym (ap (apply schema []) (changes_at-upto schema root m.log (timestamp_end - 1) place.rising
        ∙ ap (changes_at schema root) (all_kept (timestamp_end - 1) (commits_at schema root m.log) (under_filter timestamp_end (touches schema root) m.log place.in_range) refl)))
        ∙ apply-directory schema rules (mutations_of (upto m.log (timestamp_end - 1))) [] made.0 root (coded_root schema root is) (empty_database schema) (keyed_upto schema m.log (timestamp_end - 1) reached.by_schema.log) made.1

    -- what is kept at a key with its write prepared
    prepared_key : (root : Root) (is_root : IsCodedRoot schema root) (held : holds schema slot_state root ≡ true) (k : List ℕ) (under : is_under schema root k ≡ true)
        → IsKeptBy schema root k slot_state.horizon (commits_at schema root m.log) (versions_at cs k) (prepared_by txn (find (is_of k) ws) (prepared_at cs k)) (filter (claims schema root slot) (changed_first (is_transaction owner txn) (add_prepared slot (prepare_timestamp slot_state)) m.transactions))
    prepared_key root is_root held k under =
        let them = claimers_of schema m reached root (coded_root schema root is_root) slot (has_root root held) (is_transaction owner txn) t found in
        elim (is_some_of (filter (is_at schema root) t.mutations)) as (λ v. is_some_of (filter (is_at schema root) t.mutations) ≡ v
        → IsKeptBy schema root k slot_state.horizon (commits_at schema root m.log) (versions_at cs k) (prepared_by txn (find (is_of k) ws) (prepared_at cs k)) (filter (claims schema root slot) (changed_first (is_transaction owner txn) (add_prepared slot (prepare_timestamp slot_state)) m.transactions))) [
          | false ↦ λ e.
              let none : filter (is_at schema root) (mutations_in schema slot_state t.mutations) ≡ [] = whole root is_root held ∙ none_of (filter (is_at schema root) t.mutations) e in
              let nothing : find (is_of k) ws ≡ None = no_write k (row_coded schema made.0 k) (row_coded schema after k) (find (is_of k) ws) (row_stays root is_root k under none) (are k) in
              let still : filter (claims schema root slot) (changed_first (is_transaction owner txn) (add_prepared slot (prepare_timestamp slot_state)) m.transactions) ≡ filter (claims schema root slot) m.transactions =
              them.away (add_prepared slot (prepare_timestamp slot_state)) (not_yet root) (and_right (is_prepared_at slot (add_prepared slot (prepare_timestamp slot_state) t)) (is_some_of (filter (is_at schema root) t.mutations)) e) in
              subst (IsKeptBy schema root k slot_state.horizon (commits_at schema root m.log) (versions_at cs k) (prepared_by txn (find (is_of k) ws) (prepared_at cs k))) (sym still)
              (subst (λ f. IsKeptBy schema root k slot_state.horizon (commits_at schema root m.log) (versions_at cs k) (prepared_by txn f (prepared_at cs k)) (filter (claims schema root slot) m.transactions)) (sym nothing) (kept_at root is_root held k under))
          | true ↦ λ e.
              let some : is_some_of (filter (is_at schema root) (mutations_in schema slot_state t.mutations)) ≡ true = ap is_some_of (whole root is_root held) ∙ e in
              let old = none_kept root is_root k under some in
              let is : claims schema root slot (add_prepared slot (prepare_timestamp slot_state) t) ≡ true = ap (λ b. b && is_some_of (filter (is_at schema root) t.mutations)) (prepared_here slot (prepare_timestamp slot_state) t.prepared) ∙ e in
              let write : IsWrite k (row_coded schema (directory schema root made.0) k) (row_coded schema (directory schema root after) k) (find (is_of k) ws) =
              subst (λ (b : Option (List ℕ)). IsWrite k b (row_coded schema (directory schema root after) k) (find (is_of k) ws)) (sym (coded_in_directory schema rules root is_root k under made.0 made_typed))
              (subst (λ (a : Option (List ℕ)). IsWrite k (row_coded schema made.0 k) a (find (is_of k) ws)) (sym (coded_in_directory schema rules root is_root k under after after_typed)) (are k)) in
              subst (IsKeptBy schema root k slot_state.horizon (commits_at schema root m.log) (versions_at cs k) (prepared_by txn (find (is_of k) ws) (prepared_at cs k)))
              (sym (them.comes (add_prepared slot (prepare_timestamp slot_state)) (not_yet root) is (none_claims root is_root some)))
              (subst (IsKeptUnder schema root k slot_state.horizon (commits_at schema root m.log) (versions_at cs k) (prepared_by txn (find (is_of k) ws) (prepared_at cs k)) (add_prepared slot (prepare_timestamp slot_state) t)) (sym (undecided_is t.decision may.0)) (
                record {
                  before = directory schema root made.0;
                  after = directory schema root after;
                  now = now_is root is_root;
                  through = subst (λ l. apply schema (directory schema root made.0) l ≡ Ok (directory schema root after)) (whole root is_root held) (in_one root is_root);
                  put = put_of k t.number txn (row_coded schema (directory schema root made.0) k) (row_coded schema (directory schema root after) k) (find (is_of k) ws) (prepared_at cs k) old.0 (sym txn_is) write;
                },
                old.1,
              ))
        ] refl

    -- a key that changes is the coding of a key in the slot's range
    changed_inside : (k : List ℕ) → row_coded schema after k ≢ row_coded schema made.0 k → IsCodedCoding schema k × (has_key slot_state k ≡ true)
    changed_inside k off =
        let coding = changed_coding schema k made.0 after made_typed after_typed off in
        let root = root_of_coding schema rules k coding in
        (coding, key_by_held schema rules m reached slot slot_state here root.0 root.1 k root.2 (by_held root.0 root.1 root.2 (holds schema slot_state root.0) refl))
      where
        by_held : (root : Root) (is : IsCodedRoot schema root) → is_under schema root k ≡ true → (b : Bool) → holds schema slot_state root ≡ b → b ≡ true
        by_held root is under true e = refl
        by_held root is under false e = absurd (off (row_stays root is k under (none_held schema root (coded_root schema root is) slot_state t.mutations e)))

    -- the keys of the writes are such
    writes_inside : AllByRecursion (λ (w : Write). IsCodedCoding schema w.key × (has_key slot_state w.key ≡ true)) ws
    writes_inside = all_weaker (λ (w : Write). is_some (find (is_of w.key) ws) ≡ true) (λ (w : Write). IsCodedCoding schema w.key × (has_key slot_state w.key ≡ true))
        (λ w some. changed_inside w.key (written_changes w.key (row_coded schema made.0 w.key) (row_coded schema after w.key) (find (is_of w.key) ws) (are w.key) some)) ws (some_found ws)

    with_coded : AllByRecursion (λ (c : KeyVersions). IsCodedCoding schema c.key) (with_writes txn ws cs)
    with_coded = keys_with_writes (IsCodedCoding schema) txn ws cs (all_weaker (λ (w : Write). IsCodedCoding schema w.key × (has_key slot_state w.key ≡ true)) (λ (w : Write). IsCodedCoding schema w.key) (λ w is. is.0) ws writes_inside) kept.coded

    with_inside : AllByRecursion (λ (c : KeyVersions). has_key slot_state c.key ≡ true) (with_writes txn ws cs)
    with_inside = keys_with_writes (λ key. has_key slot_state key ≡ true) txn ws cs
        (all_weaker (λ (w : Write). IsCodedCoding schema w.key × (has_key slot_state w.key ≡ true)) (λ (w : Write). has_key slot_state w.key ≡ true) (λ w is. is.1) ws writes_inside) inside_at

    -- the writes of the transaction are prepared
    pub kept_prepared : AreKept schema (prepared m owner txn slot slot_state).1 slot (with_writes txn ws cs)
    kept_prepared = kept_still schema (prepared m owner txn slot slot_state).1 slot slot_state (with_writes txn ws cs) (still_set m.slots slot slot slot_state slot_state (record slot_state { last = prepare_timestamp slot_state }) here here refl refl)
        (in_order_with_writes txn ws cs kept.keys) (used_with_writes txn ws cs kept.used) with_coded with_inside (λ root is_root held k under.
        subst (λ vs. IsKeptBy schema root k slot_state.horizon (commits_at schema root m.log) vs (prepared_at (with_writes txn ws cs) k) (filter (claims schema root slot) (changed_first (is_transaction owner txn) (add_prepared slot (prepare_timestamp slot_state)) m.transactions))) (sym (versions_at-with_writes txn ws cs k kept.keys))
        (subst (λ p. IsKeptBy schema root k slot_state.horizon (commits_at schema root m.log) (versions_at cs k) p (filter (claims schema root slot) (changed_first (is_transaction owner txn) (add_prepared slot (prepare_timestamp slot_state)) m.transactions))) (sym (prepared_at-with_writes txn ws cs k kept.keys))
        (prepared_key root is_root held k under)))

    -- ---- how many versions there are then

    -- there is a mutation
    some_mutation : (l : List CheckedMutation) → mutations_in schema slot_state t.mutations ≡ l → (l ≡ [] → ⊥) → AreTypedMutations schema l → (root : Root) × IsCodedRoot schema root
    some_mutation [] e none typed = absurd (none refl)
    some_mutation (c ∷ l) e none typed = (root_at schema c, coded_root_at schema rules c typed.0)

    not_none : mutations_in schema slot_state t.mutations ≡ [] → ⊥
    not_none e = has_some (is_undecided t) (is_prepared_at slot t) (has_conflict schema m slot (mutations_in schema slot_state t.mutations)) (length (mutations_in schema slot_state t.mutations) == 0) accepted (ap (λ (l : List CheckedMutation). length l == 0) e)

    some_root : (root : Root) × IsCodedRoot schema root
    some_root = some_mutation (mutations_in schema slot_state t.mutations) refl not_none its_typed

    -- the tables as they are have all commits of the log
    all_made : made.0 ≡ database_of schema m.log
    all_made =
        let root = some_root in
        let all : filter (λ (c : Commit). nat_le c.timestamp (timestamp_end - 1)) m.log ≡ m.log = all_kept (timestamp_end - 1) m.log (reached.placed root.0 (coded_root schema root.0 root.1)).1.in_range refl in
        ok_same (sym made.1 ∙ ap (λ (l : List Commit). apply schema [] (mutations_of (in_order is_before l))) all ∙ (log_made schema rules m reached root.0 root.1).made)

    -- what the mutations change of them
    abbrev its_changes : List Change
    its_changes = changes_between schema 0 made.0 after

    before_is : IsTypedDatabase schema made.0
    before_is = record { database = made_database; typed = made_typed }

    after_is_one : IsTypedDatabase schema after
    after_is_one = typed_after schema rules made.0 after (mutations_in schema slot_state t.mutations) before_is its_typed applies

    at_key : (k : List ℕ) → filter (is_at_key k) its_changes ≡ change_at k 0 (row_coded schema made.0 k) (row_coded schema after k)
    at_key k = changes_at_key schema k 0 made.0 after (apart_of schema rules made.0 before_is) (apart_of schema rules after after_is_one)

    -- a key that changes is of a directory of the mutations, where nothing is prepared
    none_there : (k : List ℕ) → IsCodedCoding schema k → row_coded schema after k ≢ row_coded schema made.0 k → prepared_at cs k ≡ None
    none_there k coding off =
        let root = root_of_coding schema rules k coding in
        elim (is_some_of (filter (is_at schema root.0) (mutations_in schema slot_state t.mutations))) as (λ b. is_some_of (filter (is_at schema root.0) (mutations_in schema slot_state t.mutations)) ≡ b → prepared_at cs k ≡ None) [
          | true ↦ λ some. (none_kept root.0 root.1 k root.2 some).0
          | false ↦ λ none. absurd (off (row_stays root.0 root.1 k root.2 (none_of (filter (is_at schema root.0) (mutations_in schema slot_state t.mutations)) none)))
        ] refl

    -- at a key as many are prepared with the writes as without them, and as the mutations change there
    more_prepared : (k : List ℕ) → IsCodedCoding schema k → (found : Option Write) → IsWrite k (row_coded schema made.0 k) (row_coded schema after k) found
        → cond (is_some (prepared_by txn found (prepared_at cs k))) 1 0 ≡ cond (is_some (prepared_at cs k)) 1 0 + length (change_at k 0 (row_coded schema made.0 k) (row_coded schema after k))
    more_prepared k coding None same =
        let none : length (change_at k 0 (row_coded schema made.0 k) (row_coded schema after k)) ≡ 0 = ap (λ (row : Option (List ℕ)). length (change_at k 0 (row_coded schema made.0 k) row)) same ∙ ap length (change_none k 0 (row_coded schema made.0 k)) in
        omega arith
    more_prepared k coding (Some w) write =
        let none : cond {A = ℕ} (is_some (prepared_at cs k)) 1 0 ≡ 0 = ap (λ (p : Option PreparedWrite). cond {A = ℕ} (is_some p) 1 0) (none_there k coding write.2) in
        let one : length (change_at k 0 (row_coded schema made.0 k) (row_coded schema after k)) ≡ 1 =
        ap (λ (b : Bool). length {A = Change} (cond b [] ((record { key = k; timestamp = 0; row = row_coded schema after k }) ∷ []))) (not_same_of (row_coded schema made.0 k) (row_coded schema after k) write.2) in
        omega arith

    -- with the writes prepared there are at each key as many as are counted, and as the mutations change
    each_prepared : (k : List ℕ) → IsCodedCoding schema k
        → length (versions_at (with_writes txn ws cs) k) + cond (is_some (prepared_at (with_writes txn ws cs) k)) 1 0 ≡ length (filter (is_at_key k) (counted_changes schema rules m cs reached kept ++ its_changes))
    each_prepared k coding =
        let versions : length (versions_at (with_writes txn ws cs) k) ≡ length (versions_at cs k) = ap length (versions_at-with_writes txn ws cs k kept.keys) in
        let prepared_now : cond (is_some (prepared_at (with_writes txn ws cs) k)) 1 0 ≡ cond (is_some (prepared_at cs k)) 1 0 + length (change_at k 0 (row_coded schema made.0 k) (row_coded schema after k)) =
        ap (λ (p : Option PreparedWrite). cond (is_some p) 1 0) (prepared_at-with_writes txn ws cs k kept.keys) ∙ more_prepared k coding (find (is_of k) ws) (are k) in
        let before = count_at schema rules m cs reached kept k coding in
        let both : length (filter (is_at_key k) (counted_changes schema rules m cs reached kept ++ its_changes)) ≡ length (filter (is_at_key k) (counted_changes schema rules m cs reached kept)) + length (change_at k 0 (row_coded schema made.0 k) (row_coded schema after k)) =
        ap length (filter-append (is_at_key k) (counted_changes schema rules m cs reached kept) its_changes)
        ∙ length-append (filter (is_at_key k) (counted_changes schema rules m cs reached kept)) (filter (is_at_key k) its_changes)
        ∙ ap (λ (l : List Change). length (filter (is_at_key k) (counted_changes schema rules m cs reached kept)) + length l) (at_key k) in
        omega arith

    -- with the writes prepared there are as many versions as the machine counts
    pub live_prepared : live (with_writes txn ws cs) ≡ live_with schema m.log m.transactions slot slot_state (mutations_in schema slot_state t.mutations)
    live_prepared =
        let its : count_changes schema (database_of schema m.log) (mutations_in schema slot_state t.mutations) ≡ length its_changes =
        ap (λ (db : List TableRow). count_changes schema db (mutations_in schema slot_state t.mutations)) (sym all_made)
        ∙ ap (λ (db : List TableRow). length (changes_between schema 0 made.0 db)) (after_is schema made.0 after (mutations_in schema slot_state t.mutations) applies) in
        let counted : length (counted_changes schema rules m cs reached kept) ≡ slot_live schema m.log m.transactions slot slot_state = counted_length schema rules m cs reached kept ∙ ap (slot_live schema m.log m.transactions slot) same_state in
        live_by_keys schema (with_writes txn ws cs) (in_order_with_writes txn ws cs kept.keys) with_coded (counted_changes schema rules m cs reached kept ++ its_changes)
        (all_append (IsOfKey schema) (counted_changes schema rules m cs reached kept) its_changes (all_coded schema rules m cs reached kept) (coded_between schema 0 made.0 after made_typed after_typed)) each_prepared
        ∙ length-append (counted_changes schema rules m cs reached kept) its_changes
        ∙ omega arith
