-- How many versions a shard has.
use Rattle.std.proofs.Common.{◌≡◌, ◌≢◌, ℕ, ◌+◌, ◌-◌, ◌<◌, Bool, true, false, cond, not, ◌&&◌, List, [], ◌∷◌, ◌++◌, map, length, Option, Some, None, Result, Ok, Err, refl, ap, sym, ◌∙◌, subst, inl, inr, ◌⊎◌, arith}
use Rattle.std.specs.Prelude.{find, filter, sum_by, is_some, slice_get}
use Rattle.std.specs.List.{AllByRecursion, list_any}
use Rattle.std.proofs.lemmas.List.{append-nil, length-append}
use Rattle.std.proofs.lemmas.List.Elements.{filter-append}
use Rattle.std.proofs.lemmas.List.Sums.{sum_by-cons}
use Rattle.std.proofs.lemmas.Bool.{and_from, lt-leb, and_parts}
use Rattle.span_value.specs.declared.refusal.Refusal.{Refusal}
use Rattle.span_value.proofs.Lists.{all_append, all_weaker, filter_none, all_filter}
use Rattle.span_schema.specs.declared.table.Table.{Table}
use Rattle.span_schema.specs.Lineages.{MeetsRules}
use Rattle.span_keycode.specs.Keys.{key_code}
use Rattle.span_truetime.specs.Limits.{timestamp_end}
use Rattle.span_keycode.proofs.Order.{same_bytes, bytes_same}
use Rattle.span_mutate.specs.declared.mutation.CheckedMutation.{CheckedMutation}
use Rattle.span_mutate.specs.declared.row.TableRow.{TableRow}
use Rattle.span_mutate.specs.Database.{apply}
use Rattle.span_mutate.specs.Directories.{Root, AreKeyed, directory}
use Rattle.span_mutate.specs.Typed.{IsTyped, AreTyped, IsTypedMutation, AreTypedMutations}
use Rattle.span_mutate.proofs.TypedRows.{typed_stay}
use Rattle.span_maderows.specs.Made.{begins_with}
use Rattle.span_maderows.proofs.Bytes.{front_begins}
use Rattle.span_maderows.proofs.Lists.{all_filter_itself}
use Rattle.span_store.specs.declared.chain.Version.{Version}
use Rattle.span_store.specs.declared.chain.PreparedWrite.{PreparedWrite}
use Rattle.span_shard.specs.KeyVersions.{KeyVersions}
use Rattle.span_shard.specs.Rows.{code_of, row_coded}
use Rattle.span_shard.specs.Reading.{is_same_row}
use Rattle.span_shard.specs.Versions.{kept_version, kept_upto}
use Rattle.span_shard.specs.Shard.{AreInOrder, is_key, versions_of, prepared_of, versions_at, prepared_at, kept_of, live}
use Rattle.span_store.proofs.Lists.{any_all, none_any}
use Rattle.span_shard.proofs.Touching.{typed_keyed}
use Rattle.span_machine.specs.declared.slot.SlotState.{SlotState}
use Rattle.span_machine.specs.declared.transaction.Commit.{Commit}
use Rattle.span_machine.specs.declared.transaction.OpenTransaction.{OpenTransaction}
use Rattle.span_machine.specs.declared.transaction.Decision.{Decision}
use Rattle.span_machine.specs.declared.transaction.Decision.TheVariants as decision
use Rattle.span_machine.specs.Sorting.{in_order}
use Rattle.span_machine.specs.Tables.{is_before, mutations_of}
use Rattle.span_machine.specs.Machine.{Machine, is_at, has_key, holds, mutations_in, is_prepared_at, commit_of}
use Rattle.span_machine.specs.Kept.{Change, put_at, deletion_at, is_same, has_same_key, changes_between, ok_or, after_mutations, changes_from, changes_of, database_after, database_of, is_kept, kept, is_committed, changes_in, count_prepared_changes, live as slot_live}
use Rattle.span_machine_laws.proofs.Lists.{IsIn, found_passes, kept_in, all_in, all_found, all_places}
use Rattle.span_machine_laws.proofs.Locality.{IsRoot, own_root, apply-succeeds, apply-directory, empty_database, ok_same}
use Rattle.span_machine_laws.proofs.Ordered.{filter-in_order, all_in_order}
use Rattle.span_machine_laws.proofs.Stability.{is_before-order, touches, is_some_of, none_of, changes_at, changes_at-cons, changes_at-filter}
use Rattle.span_machine_laws.proofs.InPlace.{commits_at, claims, IsClaim, front_through, in_order_rising}
use Rattle.span_machine_laws.proofs.Claims.{some_any, all_held, all_kept}
use Rattle.span_machine_laws.proofs.Schemas.{IsBegunBy, IsCommitBy, keyed_upto, typed_in}
use Rattle.span_machine_laws.proofs.Reached.{IsReached}
use Rattle.span_machine_laws.proofs.Consistent.{in_filtered}
use Rattle.span_version_laws.specs.Kept.{IsCodedRoot, IsCodedCoding, is_under, with_change, directory_after, made_from, made, HasRows, IsPut, IsPreparedBy, IsPending, IsKeptUnder, IsKeptBy, AreKept}
use Rattle.span_version_laws.proofs.Slots.{HasRoot, held_of_some, none_held, home, state_is}
use Rattle.span_version_laws.proofs.Cuts.{has_as_root}
use Rattle.span_version_laws.proofs.Keys.{all_by_key}
use Rattle.span_version_laws.proofs.Claimers.{claim_here, above_horizon}
use Rattle.span_version_laws.proofs.Roots.{coded_root, coded_root_at, root_of_coding, coded_in_directory}
use Rattle.span_version_laws.proofs.Sorted.{in_cons}
use Rattle.span_version_laws.proofs.Counting.{kept_at_key, kept_count, count_by_keys, sum_alike, is_at_key}
use Rattle.span_version_laws.proofs.Changes.{same_row_is, change_at, change_none, changes_at_key, changes_made, changes_rise, made_is, IsTypedDatabase, apart_of, typed_after, after_is, row_untouched, in_directory, IsLogMade, log_made, changes_of_key}

-- ---- the versions of one commit more

module _ (schema : List Table) (root : Root) (k : List ℕ) (c : Commit) (before after : List TableRow) (through : apply schema before (filter (is_at schema root) c.mutations) ≡ Ok after) where
  -- the last of a directory's commits makes its version of a key last
  made_from_more : (db : List TableRow) (cs : List Commit) (vs : List Version) → apply schema db (changes_at schema root cs) ≡ Ok before
      → made_from schema root k db (cs ++ c ∷ []) vs ≡ with_change c.timestamp (row_coded schema before k) (row_coded schema after k) (made_from schema root k db cs vs)
  made_from_more db [] vs e =
      let same : db ≡ before = ok_same e in
      ap (λ (rows : List TableRow). with_change c.timestamp (row_coded schema rows k) (row_coded schema (directory_after schema root rows c) k) vs) same
      ∙ ap (λ (rows : List TableRow). with_change c.timestamp (row_coded schema before k) (row_coded schema rows k) vs) (after_is schema before after (filter (is_at schema root) c.mutations) through)
  made_from_more db (d ∷ cs) vs e =
      let own : List CheckedMutation = filter (is_at schema root) d.mutations in
      let parts = front_through schema own (changes_at schema root cs) db before (subst (λ (l : List CheckedMutation). apply schema db l ≡ Ok before) (changes_at-cons schema root d cs) e) in
      let next : directory_after schema root db d ≡ parts.0 = after_is schema db parts.0 own parts.1 in
      made_from_more (directory_after schema root db d) cs (with_change d.timestamp (row_coded schema db k) (row_coded schema (directory_after schema root db d) k) vs)
      (subst (λ (rows : List TableRow). apply schema rows (changes_at schema root cs) ≡ Ok before) (sym next) parts.2)

  -- and so it does from no row on
  pub made_more : (cs : List Commit) → apply schema [] (changes_at schema root cs) ≡ Ok before
      → made schema root k (cs ++ c ∷ []) ≡ with_change c.timestamp (row_coded schema before k) (row_coded schema after k) (made schema root k cs)
  made_more cs e = made_from_more [] cs [] e

-- a version, and a change, as a row is left
abbrev a_version : ℕ → Option (List ℕ) → Version
a_version ts row = record { timestamp = ts; row = row }

abbrev a_change : List ℕ → ℕ → Option (List ℕ) → Change
a_change k ts row = record { key = k; timestamp = ts; row = row }

-- a version above the horizon is one version more
upto_more : (k : List ℕ) (h ts : ℕ) (before after : Option (List ℕ)) (vs : List Version) → h < ts → length (kept_upto h (with_change ts before after vs)) ≡ length (kept_upto h vs) + length (change_at k ts before after)
upto_more k h ts before after vs late = cases (is_same_row before after)
  where
    cases : (b : Bool) → length (kept_upto h (cond b vs (a_version ts after ∷ vs))) ≡ length (kept_upto h vs) + length (cond b [] (a_change k ts after ∷ []))
    cases true = omega arith
    cases false = ap (λ (b : Bool). length (cond b (kept_version (a_version ts after) after) (a_version ts after ∷ kept_upto h vs))) (lt-leb ts h late) ∙ omega arith

-- what is prepared is counted as what changes
put_count : (k : List ℕ) (ts txn : ℕ) (before after : Option (List ℕ)) (p : Option PreparedWrite) → IsPut txn before after p → length (change_at k ts before after) ≡ cond (is_some p) 1 0
put_count k ts txn before after None put = ap (λ (row : Option (List ℕ)). length (change_at k ts before row)) put ∙ ap length (change_none k ts before)
put_count k ts txn before after (Some w) put = cases (is_same_row before after) refl
  where
    cases : (b : Bool) → is_same_row before after ≡ b → length (cond b [] (a_change k ts after ∷ [])) ≡ 1
    cases true e = absurd (put.2 (sym (same_row_is before after e)))
    cases false e = refl

-- ---- what is prepared

-- the changes that a transaction has prepared in the slot, where it is not committed
abbrev pub changes_prepared : List Table → List TableRow → ℕ → SlotState → OpenTransaction → List Change
changes_prepared schema db slot slot_state t = cond (is_prepared_at slot t && not (is_committed t.decision)) (changes_between schema 0 db (after_mutations schema db (mutations_in schema slot_state t.mutations))) []

-- those of all transactions
abbrev pub all_prepared : List Table → List TableRow → ℕ → SlotState → List OpenTransaction → List Change
all_prepared schema db slot slot_state [] = []
all_prepared schema db slot slot_state (t ∷ ts) = changes_prepared schema db slot slot_state t ++ all_prepared schema db slot slot_state ts

-- they are as many as are counted
prepared_length : (schema : List Table) (db : List TableRow) (slot : ℕ) (slot_state : SlotState) (ts : List OpenTransaction) → length (all_prepared schema db slot slot_state ts) ≡ sum_by (count_prepared_changes schema db slot slot_state) ts
prepared_length schema db slot slot_state [] = refl
prepared_length schema db slot slot_state (t ∷ ts) =
    length-append (changes_prepared schema db slot slot_state t) (all_prepared schema db slot slot_state ts)
    ∙ ap (λ (n : ℕ). n + length (all_prepared schema db slot slot_state ts)) (one (is_prepared_at slot t && not (is_committed t.decision)))
    ∙ ap (λ (n : ℕ). count_prepared_changes schema db slot slot_state t + n) (prepared_length schema db slot slot_state ts)
    ∙ sym (sum_by-cons (count_prepared_changes schema db slot slot_state) t ts)
  where
    one : (b : Bool) → length (cond b (changes_between schema 0 db (after_mutations schema db (mutations_in schema slot_state t.mutations))) [])
        ≡ cond b (length (changes_between schema 0 db (after_mutations schema db (mutations_in schema slot_state t.mutations)))) 0
    one true = refl
    one false = refl

-- of a key the prepared changes are those of the transactions that pass, where the others have prepared none there
prepared_claimed : (schema : List Table) (db : List TableRow) (slot : ℕ) (slot_state : SlotState) (k : List ℕ) (test : OpenTransaction → Bool) (ts : List OpenTransaction)
    → AllByRecursion (λ t. test t ≡ false → filter (is_at_key k) (changes_prepared schema db slot slot_state t) ≡ []) ts
    → filter (is_at_key k) (all_prepared schema db slot slot_state ts) ≡ filter (is_at_key k) (all_prepared schema db slot slot_state (filter test ts))
prepared_claimed schema db slot slot_state k test [] none = refl
prepared_claimed schema db slot slot_state k test (t ∷ ts) none =
    filter-append (is_at_key k) (changes_prepared schema db slot slot_state t) (all_prepared schema db slot slot_state ts)
    ∙ ap (λ (l : List Change). filter (is_at_key k) (changes_prepared schema db slot slot_state t) ++ l) (prepared_claimed schema db slot slot_state k test ts none.1)
    ∙ cases (test t) refl
  where
    cases : (b : Bool) → test t ≡ b → filter (is_at_key k) (changes_prepared schema db slot slot_state t) ++ filter (is_at_key k) (all_prepared schema db slot slot_state (filter test ts))
        ≡ filter (is_at_key k) (all_prepared schema db slot slot_state (cond b (t ∷ filter test ts) (filter test ts)))
    cases true e = sym (filter-append (is_at_key k) (changes_prepared schema db slot slot_state t) (all_prepared schema db slot slot_state (filter test ts)))
    cases false e = ap (λ (l : List Change). l ++ filter (is_at_key k) (all_prepared schema db slot slot_state (filter test ts))) (none.0 e)

-- where no transaction has prepared a change at the key there is none
prepared_nowhere : (schema : List Table) (db : List TableRow) (slot : ℕ) (slot_state : SlotState) (k : List ℕ) (ts : List OpenTransaction)
    → AllByRecursion (λ t. filter (is_at_key k) (changes_prepared schema db slot slot_state t) ≡ []) ts → filter (is_at_key k) (all_prepared schema db slot slot_state ts) ≡ []
prepared_nowhere schema db slot slot_state k [] none = refl
prepared_nowhere schema db slot slot_state k (t ∷ ts) none =
    filter-append (is_at_key k) (changes_prepared schema db slot slot_state t) (all_prepared schema db slot slot_state ts)
    ∙ ap (λ (l : List Change). l ++ filter (is_at_key k) (all_prepared schema db slot slot_state ts)) none.0
    ∙ prepared_nowhere schema db slot slot_state k ts none.1

-- ---- the changes in a range

-- of a key in the range they are all the changes of the key
changes_inside : (slot_state : SlotState) (k : List ℕ) → has_key slot_state k ≡ true → (cs : List Change) → filter (is_at_key k) (changes_in slot_state cs) ≡ filter (is_at_key k) cs
changes_inside slot_state k has [] = refl
changes_inside slot_state k has (c ∷ cs) = cases (has_key slot_state c.key) (is_at_key k c) refl refl (changes_inside slot_state k has cs)
  where
    cases : (a b : Bool) → has_key slot_state c.key ≡ a → is_at_key k c ≡ b → filter (is_at_key k) (changes_in slot_state cs) ≡ filter (is_at_key k) cs
        → filter (is_at_key k) (cond a (c ∷ changes_in slot_state cs) (changes_in slot_state cs)) ≡ cond (is_at_key k c) (c ∷ filter (is_at_key k) cs) (filter (is_at_key k) cs)
    cases true b e f again = ap (λ (l : List Change). cond (is_at_key k c) (c ∷ l) l) again
    cases false true e f again = absurd (let bad : true ≡ false = sym (subst (λ (l : List ℕ). has_key slot_state l ≡ true) (same_bytes k c.key f) has) ∙ e in cc)
    cases false false e f again = again ∙ sym (ap (λ (b : Bool). cond b (c ∷ filter (is_at_key k) cs) (filter (is_at_key k) cs)) f)

-- another key has none
outside_apart : (slot_state : SlotState) (k : List ℕ) (c : Change) → has_key slot_state k ≡ false → has_key slot_state c.key ≡ true → is_at_key k c ≡ false
outside_apart slot_state k c off has = cases (is_at_key k c) refl
  where
    cases : (b : Bool) → is_at_key k c ≡ b → b ≡ false
    cases false e = refl
    cases true e = absurd (let bad : true ≡ false = sym (subst (λ (l : List ℕ). has_key slot_state l ≡ true) (sym (same_bytes k c.key e)) has) ∙ off in cc)

changes_outside : (slot_state : SlotState) (k : List ℕ) → has_key slot_state k ≡ false → (cs : List Change) → filter (is_at_key k) (changes_in slot_state cs) ≡ []
changes_outside slot_state k off cs = filter_none (is_at_key k) (changes_in slot_state cs)
    (all_weaker (λ (c : Change). has_key slot_state c.key ≡ true) (λ (c : Change). is_at_key k c ≡ false) (λ c has. outside_apart slot_state k c off has) (changes_in slot_state cs) (all_filter_itself (λ (c : Change). has_key slot_state c.key) cs))

-- a key outside the range is not in a shard that has none
find_outside : (slot_state : SlotState) (k : List ℕ) (cs : List KeyVersions) → AllByRecursion (λ (c : KeyVersions). has_key slot_state c.key ≡ true) cs → has_key slot_state k ≡ false → find (is_key k) cs ≡ None
find_outside slot_state k cs inside off = cases (find (is_key k) cs) refl
  where
    cases : (o : Option KeyVersions) → find (is_key k) cs ≡ o → o ≡ None
    cases None e = refl
    cases (Some c) e =
        let same : k ≡ c.key = same_bytes k c.key (found_passes (is_key k) cs c e) in
        let has : has_key slot_state c.key ≡ true = all_found (λ (d : KeyVersions). has_key slot_state d.key ≡ true) (is_key k) cs c e inside in
        absurd (let bad : true ≡ false = sym (subst (λ (l : List ℕ). has_key slot_state l ≡ true) (sym same) has) ∙ off in cc)

-- ---- lists

-- a list that has an element is not empty
not_empty : {X : Type 0} (xs : List X) (x : X) → IsIn x xs → length xs ≢ 0
not_empty [] x at e = let bad = at.1 in cc
not_empty (y ∷ ys) x at e = omega arith

-- ---- transactions that claim a directory

-- the log's mutations have whole keys
log_keyed : (schema : List Table) (m : Machine) → IsReached schema m → (root : Root) → IsRoot schema root → AreKeyed schema (mutations_of (in_order is_before m.log))
log_keyed schema m reached root is_root =
    subst (λ (l : List Commit). AreKeyed schema (mutations_of (in_order is_before l))) (all_kept (timestamp_end - 1) m.log (reached.placed root is_root).1.in_range refl) (keyed_upto schema m.log (timestamp_end - 1) reached.by_schema.log)

-- one that claims it is the only one
one_claims : (schema : List Table) (m : Machine) → IsReached schema m → (root : Root) → IsRoot schema root → (slot : ℕ) → HasRoot schema m slot root → (t : OpenTransaction) → IsIn t m.transactions → claims schema root slot t ≡ true → filter (claims schema root slot) m.transactions ≡ t ∷ []
one_claims schema m reached root is_root slot has t at is =
    let claim = claim_here schema m reached root is_root slot has in
    alone (filter (claims schema root slot) m.transactions) claim.0 claim.1 (in_filtered (claims schema root slot) m.transactions t is at)
  where
    alone : (us : List OpenTransaction) (n : ℕ) → IsClaim schema root n (commits_at schema root m.log) us → IsIn t us → us ≡ t ∷ []
    alone [] n claim here = absurd (let bad = here.1 in cc)
    alone (u ∷ us) n claim here = by_place (in_cons t u us here)
      where
        by_place : (t ≡ u) ⊎ IsIn t us → u ∷ us ≡ t ∷ []
        by_place (inl same) = ap (λ (l : List OpenTransaction). u ∷ l) claim.0 ∙ ap (λ (v : OpenTransaction). v ∷ []) (sym same)
        by_place (inr later) = absurd (let bad : IsIn t [] = subst (IsIn t) claim.0 later in let none = bad.1 in cc)

-- what is kept under one that is not committed
prepared_under : (schema : List Table) (root : Root) (k : List ℕ) (h : ℕ) (commits : List Commit) (vs : List Version) (p : Option PreparedWrite) (t : OpenTransaction) (o : Decision) → is_committed o ≡ false
    → IsKeptUnder schema root k h commits vs p t o → IsPreparedBy schema root k commits t.number t.mutations p × HasRows schema root k h commits vs
prepared_under schema root k h commits vs p t decision.Undecided open_still kept = kept
prepared_under schema root k h commits vs p t decision.Aborted open_still kept = kept
prepared_under schema root k h commits vs p t (decision.Committed ts) open_still kept = absurd (let bad : true ≡ false = open_still in cc)

-- bytes begin with themselves
begins_itself : (k : List ℕ) → begins_with k k ≡ true
begins_itself k = ap (λ (l : List ℕ). begins_with l k) (sym (append-nil k)) ∙ front_begins k []

module _ (schema : List Table) (rules : MeetsRules schema) (m : Machine) {slot : ℕ} (cs : List KeyVersions) (reached : IsReached schema m) (are_kept : AreKept schema m slot cs) where
  -- the slot's state, and its horizon
  abbrev state : SlotState
  state = are_kept.slot_state

  abbrev horizon : ℕ
  horizon = are_kept.slot_state.horizon

  -- the mutations of a transaction in the slot's range
  abbrev its : OpenTransaction → List CheckedMutation
  its t = mutations_in schema are_kept.slot_state t.mutations

  -- the database of all commits
  abbrev now : List TableRow
  now = database_of schema m.log

  -- what the directory's commits make of it is the directory of the database
  directory_now : (root : Root) → IsCodedRoot schema root → apply schema [] (changes_at schema root (commits_at schema root m.log)) ≡ Ok (directory schema root now)
  directory_now root is_root =
      let log = log_made schema rules m reached root is_root in
      let order : filter (touches schema root) (in_order is_before m.log) ≡ commits_at schema root m.log =
      filter-in_order is_before is_before-order (touches schema root) m.log ∙ in_order_rising (commits_at schema root m.log) (reached.placed root (coded_root schema root is_root)).1.rising in
      ap (apply schema []) (ap (changes_at schema root) (sym order) ∙ changes_at-filter schema root (in_order is_before m.log))
      ∙ apply-directory schema rules (mutations_of (in_order is_before m.log)) [] now root (coded_root schema root is_root) (empty_database schema) (log_keyed schema m reached root (coded_root schema root is_root)) log.made

  -- what a transaction that claims a directory has prepared at a key there
  claimed_at : (root : Root) (is_root : IsCodedRoot schema root) → holds schema state root ≡ true → (k : List ℕ) → is_under schema root k ≡ true → (t : OpenTransaction) → IsIn t m.transactions → claims schema root slot t ≡ true
      → IsKeptUnder schema root k horizon (commits_at schema root m.log) (versions_at cs k) (prepared_at cs k) t t.decision
  claimed_at root is_root held k under t at is =
      subst (IsKeptBy schema root k horizon (commits_at schema root m.log) (versions_at cs k) (prepared_at cs k)) (one_claims schema m reached root (coded_root schema root is_root) slot (home schema m cs are_kept root held) t at is) (are_kept.kept root is_root held k under)

  -- what was begun is typed
  its_typed : (t : OpenTransaction) → IsIn t m.transactions → AreTypedMutations schema (its t)
  its_typed t at = typed_in schema state t.mutations (all_in (IsBegunBy schema) m.transactions t at reached.by_schema.transactions)

  -- of a directory of the slot all mutations are in its range
  all_its : (root : Root) → IsRoot schema root → holds schema state root ≡ true → (t : OpenTransaction) → filter (is_at schema root) (its t) ≡ filter (is_at schema root) t.mutations
  all_its root is_root held t = all_held schema root is_root state t.mutations held

  module _ (t : OpenTransaction) (at : IsIn t m.transactions) (prepared : is_prepared_at slot t ≡ true) (open_still : is_committed t.decision ≡ false) where
    -- the root row of a directory that the transaction touches has a coding
    touched_root : (root : Root) → IsRoot schema root → is_some_of (filter (is_at schema root) (its t)) ≡ true → IsCodedRoot schema root
    touched_root root is_root touched =
        let found = any_all (IsTypedMutation schema) (is_at schema root) (its t) (its_typed t at) (some_any schema root (its t) touched) in
        subst (IsCodedRoot schema) (sym (own_root schema root found.0 is_root found.2)) (coded_root_at schema rules found.0 found.1)

    -- so its mutations go through in each directory
    through_each : (root : Root) → IsRoot schema root → (rows : List TableRow) × (apply schema (directory schema root now) (filter (is_at schema root) (its t)) ≡ Ok rows)
    through_each root is_root = cases (is_some_of (filter (is_at schema root) (its t))) refl
      where
        cases : (b : Bool) → is_some_of (filter (is_at schema root) (its t)) ≡ b → (rows : List TableRow) × (apply schema (directory schema root now) (filter (is_at schema root) (its t)) ≡ Ok rows)
        cases false none = (directory schema root now, ap (apply schema (directory schema root now)) (none_of (filter (is_at schema root) (its t)) none))
        cases true some =
            let coded : IsCodedRoot schema root = touched_root root is_root some in
            let held : holds schema state root ≡ true = held_of_some schema root is_root state t.mutations some in
            let whole : filter (is_at schema root) (its t) ≡ filter (is_at schema root) t.mutations = all_its root is_root held t in
            let k : List ℕ = key_code schema root.table root.key in
            let under = claimed_at root coded held k (begins_itself k) t at (and_from (is_prepared_at slot t) (is_some_of (filter (is_at schema root) t.mutations)) prepared (sym (ap is_some_of whole) ∙ some)) in
            let by = (prepared_under schema root k horizon (commits_at schema root m.log) (versions_at cs k) (prepared_at cs k) t t.decision open_still under).0 in
            let same : directory schema root now ≡ by.before = ok_same (sym (directory_now root coded) ∙ by.now) in
            (by.after, ap (apply schema (directory schema root now)) whole ∙ ap (λ (rows : List TableRow). apply schema rows (filter (is_at schema root) t.mutations)) same ∙ by.through)

    -- and in the whole database
    through_now : IsLogMade schema m now → (out : List TableRow) × (apply schema now (its t) ≡ Ok out)
    through_now log = apply-succeeds schema rules (its t) now log.is.database (typed_keyed schema (its t) (its_typed t at)) through_each

  -- ---- one key

  module _ (root : Root) (is_root : IsCodedRoot schema root) (k : List ℕ) (under : is_under schema root k ≡ true) where
    -- the log has no fault
    log : IsLogMade schema m now
    log = log_made schema rules m reached root is_root

    -- the changes that a transaction has prepared at the key, by what its mutations make of the database
    prepared_here : (t : OpenTransaction) → AreTypedMutations schema (its t) → (out : List TableRow) → apply schema now (its t) ≡ Ok out
        → filter (is_at_key k) (changes_between schema 0 now (after_mutations schema now (its t))) ≡ change_at k 0 (row_coded schema now k) (row_coded schema out k)
    prepared_here t typed out e =
        ap (λ (after : List TableRow). filter (is_at_key k) (changes_between schema 0 now after)) (after_is schema now out (its t) e)
        ∙ changes_at_key schema k 0 now out (apart_of schema rules now log.is) (apart_of schema rules out (typed_after schema rules now out (its t) log.is typed e))

    -- a transaction that does not touch the directory in the slot has prepared none there
    untouched_none : (t : OpenTransaction) → IsIn t m.transactions → filter (is_at schema root) (its t) ≡ [] → filter (is_at_key k) (changes_prepared schema now slot state t) ≡ []
    untouched_none t at none = cases (is_prepared_at slot t) (is_committed t.decision) refl refl
      where
        cases : (a b : Bool) → is_prepared_at slot t ≡ a → is_committed t.decision ≡ b → filter (is_at_key k) (cond (a && not b) (changes_between schema 0 now (after_mutations schema now (its t))) []) ≡ []
        cases false b e f = refl
        cases true true e f = refl
        cases true false e f =
            let through = through_now t at e f log in
            let typed : AreTypedMutations schema (its t) = its_typed t at in
            let same = row_untouched schema rules root is_root k under now through.0 (its t) log.is typed through.1 none in
            prepared_here t typed through.0 through.1
            ∙ ap (λ (row : Option (List ℕ)). change_at k 0 row (row_coded schema through.0 k)) same.1
            ∙ change_none k 0 (row_coded schema through.0 k)

    -- what the key has: its versions, and the prepared one
    abbrev has_count : ℕ
    has_count = length (versions_at cs k) + cond (is_some (prepared_at cs k)) 1 0

    -- all that is counted: the changes of the log in the slot's range that are kept, and those that are prepared
    abbrev all_counted : List Change
    all_counted = kept horizon (changes_in state (changes_of schema m.log)) ++ all_prepared schema now slot state m.transactions

    -- a key outside the slot's range has nothing, and nothing is counted there
    pub count_outside : has_key state k ≡ false → holds schema state root ≡ false → has_count ≡ length (filter (is_at_key k) all_counted)
    count_outside off away =
        let nothing : has_count ≡ 0 = ap (λ (o : Option KeyVersions). length (versions_of o) + cond (is_some (prepared_of o)) 1 0) (find_outside state k cs are_kept.inside off) in
        let of_log : filter (is_at_key k) (kept horizon (changes_in state (changes_of schema m.log))) ≡ [] = kept_at_key horizon k (changes_in state (changes_of schema m.log)) ∙ ap (kept horizon) (changes_outside state k off (changes_of schema m.log)) in
        let of_open : filter (is_at_key k) (all_prepared schema now slot state m.transactions) ≡ [] =
        prepared_nowhere schema now slot state k m.transactions (all_places (λ t. filter (is_at_key k) (changes_prepared schema now slot state t) ≡ []) m.transactions
        (λ t at. untouched_none t at (none_held schema root (coded_root schema root is_root) state t.mutations away))) in
        nothing ∙ sym (ap length (
        filter-append (is_at_key k) (kept horizon (changes_in state (changes_of schema m.log))) (all_prepared schema now slot state m.transactions)
        ∙ ap (λ (l : List Change). l ++ filter (is_at_key k) (all_prepared schema now slot state m.transactions)) of_log
        ∙ of_open
        ))

    module _ (held : holds schema state root ≡ true) (has : has_key state k ≡ true) where
      -- a transaction that does not claim the directory has prepared none there
      unclaimed_none : (t : OpenTransaction) → IsIn t m.transactions → claims schema root slot t ≡ false → filter (is_at_key k) (changes_prepared schema now slot state t) ≡ []
      unclaimed_none t at off = cases (is_prepared_at slot t) refl
        where
          cases : (a : Bool) → is_prepared_at slot t ≡ a → filter (is_at_key k) (changes_prepared schema now slot state t) ≡ []
          cases false e = ap (λ (b : Bool). filter (is_at_key k) (cond (b && not (is_committed t.decision)) (changes_between schema 0 now (after_mutations schema now (its t))) [])) e
          cases true e =
              let none : is_some_of (filter (is_at schema root) t.mutations) ≡ false = sym (ap (λ (b : Bool). b && is_some_of (filter (is_at schema root) t.mutations)) e) ∙ off in
              untouched_none t at (all_its root (coded_root schema root is_root) held t ∙ none_of (filter (is_at schema root) t.mutations) none)

      -- one that claims it and is not committed has prepared one change where a write is prepared at the key, and otherwise none
      claimed_one : (t : OpenTransaction) → IsIn t m.transactions → is_prepared_at slot t ≡ true → is_committed t.decision ≡ false → (p : Option PreparedWrite) → IsPreparedBy schema root k (commits_at schema root m.log) t.number t.mutations p
          → length (filter (is_at_key k) (changes_prepared schema now slot state t)) ≡ cond (is_some p) 1 0
      claimed_one t at prepared open_still p by =
          let through = through_now t at prepared open_still log in
          let out : List TableRow = through.0 in
          let typed : AreTypedMutations schema (its t) = its_typed t at in
          let is_out : IsTypedDatabase schema out = typed_after schema rules now out (its t) log.is typed through.1 in
          let before : by.before ≡ directory schema root now = ok_same (sym by.now ∙ directory_now root is_root) in
          let after : by.after ≡ directory schema root out =
          ok_same (sym by.through ∙ ap (λ (rows : List TableRow). apply schema rows (filter (is_at schema root) t.mutations)) before
          ∙ ap (apply schema (directory schema root now)) (sym (all_its root (coded_root schema root is_root) held t))
          ∙ in_directory schema rules root is_root k under now out (its t) log.is typed through.1) in
          let row_before : row_coded schema by.before k ≡ row_coded schema now k = ap (λ (rows : List TableRow). row_coded schema rows k) before ∙ coded_in_directory schema rules root is_root k under now log.is.typed in
          let row_after : row_coded schema by.after k ≡ row_coded schema out k = ap (λ (rows : List TableRow). row_coded schema rows k) after ∙ coded_in_directory schema rules root is_root k under out is_out.typed in
          ap (λ (b : Bool). length (filter (is_at_key k) (cond b (changes_between schema 0 now (after_mutations schema now (its t))) []))) (and_from (is_prepared_at slot t) (not (is_committed t.decision)) prepared (ap not open_still))
          ∙ ap length (prepared_here t typed out through.1)
          ∙ ap (λ (row : Option (List ℕ)). length (change_at k 0 row (row_coded schema out k))) (sym row_before)
          ∙ ap (λ (row : Option (List ℕ)). length (change_at k 0 (row_coded schema by.before k) row)) (sym row_after)
          ∙ put_count k 0 t.number (row_coded schema by.before k) (row_coded schema by.after k) p by.put

      -- the changes of the log that are kept at the key are as many as the versions that its directory's commits make
      kept_of_log : length (filter (is_at_key k) (kept horizon (changes_in state (changes_of schema m.log)))) ≡ length (kept_upto horizon (made schema root k (commits_at schema root m.log)))
      kept_of_log =
          ap length (kept_at_key horizon k (changes_in state (changes_of schema m.log)))
          ∙ ap (λ (l : List Change). length (kept horizon l)) (changes_inside state k has (changes_of schema m.log) ∙ changes_of_key schema rules m reached root is_root k under)
          ∙ kept_count horizon (changes_made schema root k (commits_at schema root m.log)) (changes_rise schema root k [] (commits_at schema root m.log) (reached.placed root (coded_root schema root is_root)).1.rising)
          ∙ ap (λ (vs : List Version). length (kept_upto horizon vs)) (sym (made_is schema root k (commits_at schema root m.log)))

      -- the changes prepared at the key
      abbrev prepared_count : ℕ
      prepared_count = length (filter (is_at_key k) (all_prepared schema now slot state m.transactions))

      -- the versions that the directory's commits make, trimmed at the horizon
      abbrev made_count : ℕ
      made_count = length (kept_upto horizon (made schema root k (commits_at schema root m.log)))

      -- where all commits are applied, they are in the shard
      versions_count : HasRows schema root k horizon (commits_at schema root m.log) (versions_at cs k) → length (versions_at cs k) ≡ made_count
      versions_count has_rows = ap length has_rows.versions

      -- where the last commit is not applied yet, its version is prepared
      pending_count : (t : OpenTransaction) (ts : ℕ) → horizon < ts → IsPending schema root k horizon (commits_at schema root m.log) (versions_at cs k) (prepared_at cs k) t ts → made_count ≡ has_count
      pending_count t ts late pending =
          let c : Commit = commit_of ts t in
          let by = pending.put in
          let old : Option (List ℕ) = row_coded schema by.before k in
          let new : Option (List ℕ) = row_coded schema by.after k in
          let front : List Version = made schema root k pending.front in
          ap (λ (l : List Commit). length (kept_upto horizon (made schema root k l))) pending.whole
          ∙ ap (λ (vs : List Version). length (kept_upto horizon vs)) (made_more schema root k c by.before by.after by.through pending.front by.now)
          ∙ upto_more k horizon ts old new front late
          ∙ ap (λ (vs : List Version). length vs + length (change_at k ts old new)) (sym pending.rows.versions)
          ∙ ap (λ (n : ℕ). length (versions_at cs k) + n) (put_count k ts t.number old new (prepared_at cs k) by.put)

      -- at each key of the directory there are as many as are counted
      pub count_at_key : has_count ≡ length (filter (is_at_key k) all_counted)
      count_at_key =
          by_claims (filter (claims schema root slot) m.transactions) refl (are_kept.kept root is_root held k under)
          ∙ ap (λ (n : ℕ). n + prepared_count) (sym kept_of_log)
          ∙ sym (length-append (filter (is_at_key k) (kept horizon (changes_in state (changes_of schema m.log)))) (filter (is_at_key k) (all_prepared schema now slot state m.transactions)))
          ∙ ap length (sym (filter-append (is_at_key k) (kept horizon (changes_in state (changes_of schema m.log))) (all_prepared schema now slot state m.transactions)))
        where
          claimed_alone : prepared_count ≡ length (filter (is_at_key k) (all_prepared schema now slot state (filter (claims schema root slot) m.transactions)))
          claimed_alone = ap length (prepared_claimed schema now slot state k (claims schema root slot) m.transactions
              (all_places (λ t. claims schema root slot t ≡ false → filter (is_at_key k) (changes_prepared schema now slot state t) ≡ []) m.transactions (λ t at off. unclaimed_none t at off)))

          one_alone : (t : OpenTransaction) → filter (claims schema root slot) m.transactions ≡ t ∷ [] → prepared_count ≡ length (filter (is_at_key k) (changes_prepared schema now slot state t))
          one_alone t e =
              claimed_alone
              ∙ ap (λ (ts : List OpenTransaction). length (filter (is_at_key k) (all_prepared schema now slot state ts))) e
              ∙ ap (λ (l : List Change). length (filter (is_at_key k) l)) (append-nil (changes_prepared schema now slot state t))

          by_open : (t : OpenTransaction) → IsIn t m.transactions → claims schema root slot t ≡ true → filter (claims schema root slot) m.transactions ≡ t ∷ [] → is_committed t.decision ≡ false
              → IsPreparedBy schema root k (commits_at schema root m.log) t.number t.mutations (prepared_at cs k) × HasRows schema root k horizon (commits_at schema root m.log) (versions_at cs k) → has_count ≡ made_count + prepared_count
          by_open t at is one open_still rows =
              let prepared : is_prepared_at slot t ≡ true = (and_parts (is_prepared_at slot t) (is_some_of (filter (is_at schema root) t.mutations)) is).0 in
              let count : prepared_count ≡ cond (is_some (prepared_at cs k)) 1 0 = one_alone t one ∙ claimed_one t at prepared open_still (prepared_at cs k) rows.0 in
              ap (λ (n : ℕ). n + cond (is_some (prepared_at cs k)) 1 0) (versions_count rows.1) ∙ ap (λ (n : ℕ). made_count + n) (sym count)

          by_decision : (t : OpenTransaction) (o : Decision) → t.decision ≡ o → IsIn t m.transactions → claims schema root slot t ≡ true → filter (claims schema root slot) m.transactions ≡ t ∷ []
              → IsKeptUnder schema root k horizon (commits_at schema root m.log) (versions_at cs k) (prepared_at cs k) t o → has_count ≡ made_count + prepared_count
          by_decision t (decision.Committed ts) e at is one rows =
              let prepared : is_prepared_at slot t ≡ true = (and_parts (is_prepared_at slot t) (is_some_of (filter (is_at schema root) t.mutations)) is).0 in
              let late : horizon < ts = above_horizon schema m reached root (coded_root schema root is_root) slot (home schema m cs are_kept root held) t ts at prepared e in
              let none : prepared_count ≡ 0 =
              one_alone t one
              ∙ ap (λ (o : Decision). length (filter (is_at_key k) (cond (is_prepared_at slot t && not (is_committed o)) (changes_between schema 0 now (after_mutations schema now (its t))) []))) e
              ∙ ap (λ (b : Bool). length (filter (is_at_key k) (cond (b && false) (changes_between schema 0 now (after_mutations schema now (its t))) []))) prepared in
              let whole : made_count ≡ has_count = pending_count t ts late rows in
              omega arith
          by_decision t decision.Undecided e at is one rows = by_open t at is one (ap is_committed e) rows
          by_decision t decision.Aborted e at is one rows = by_open t at is one (ap is_committed e) rows

          by_claims : (us : List OpenTransaction) → filter (claims schema root slot) m.transactions ≡ us → IsKeptBy schema root k horizon (commits_at schema root m.log) (versions_at cs k) (prepared_at cs k) us → has_count ≡ made_count + prepared_count
          by_claims [] e rows =
              let none : prepared_count ≡ 0 = claimed_alone ∙ ap (λ (ts : List OpenTransaction). length (filter (is_at_key k) (all_prepared schema now slot state ts))) e in
              ap (λ (p : Option PreparedWrite). length (versions_at cs k) + cond (is_some p) 1 0) rows.0
              ∙ ap (λ (n : ℕ). n + 0) (versions_count rows.1)
              ∙ ap (λ (n : ℕ). made_count + n) (sym none)
          by_claims (t ∷ us) e rows =
              let at : IsIn t m.transactions = kept_in (claims schema root slot) m.transactions t (0, ap (λ (l : List OpenTransaction). slice_get l 0) e) in
              let is : claims schema root slot t ≡ true = (subst (AllByRecursion (λ u. claims schema root slot u ≡ true)) e (all_filter_itself (claims schema root slot) m.transactions)).0 in
              by_decision t t.decision refl at is (one_claims schema m reached root (coded_root schema root is_root) slot (home schema m cs are_kept root held) t at is) rows

-- ---- the keys of changes

-- the change is of a coded key
abbrev pub IsOfKey : List Table → Change → Type 0
IsOfKey schema d = IsCodedCoding schema d.key

-- the key of a typed row is coded
row_coding : (schema : List Table) (r : TableRow) → IsTyped schema r → IsCodedCoding schema (code_of schema r)
row_coding schema r typed = record { is = record { table = r.table; values = r.key; is = typed.0.0; code = refl }; short = typed.0.1 }

-- so are those of changes that are made of typed rows
of_rows : (schema : List Table) (change : TableRow → Change) → ((r : TableRow) → (change r).key ≡ code_of schema r) → (db : List TableRow) → AreTyped schema db → AllByRecursion (IsOfKey schema) (map change db)
of_rows schema change same [] typed = tt
of_rows schema change same (r ∷ rs) typed = (subst (IsCodedCoding schema) (sym (same r)) (row_coding schema r typed.0), of_rows schema change same rs typed.1)

-- the keys that change between two typed databases are coded
pub coded_between : (schema : List Table) (ts : ℕ) (before after : List TableRow) → AreTyped schema before → AreTyped schema after → AllByRecursion (IsOfKey schema) (changes_between schema ts before after)
coded_between schema ts before after typed_before typed_after =
    all_append (IsOfKey schema) (map (put_at schema ts) (filter (λ r. not (list_any (is_same schema r) before)) after)) (map (deletion_at schema ts) (filter (λ r. not (list_any (has_same_key schema r) after)) before))
    (of_rows schema (put_at schema ts) (λ r. refl) (filter (λ r. not (list_any (is_same schema r) before)) after) (all_filter (IsTyped schema) (λ r. not (list_any (is_same schema r) before)) after typed_after))
    (of_rows schema (deletion_at schema ts) (λ r. refl) (filter (λ r. not (list_any (has_same_key schema r) after)) before) (all_filter (IsTyped schema) (λ r. not (list_any (has_same_key schema r) after)) before typed_before))

-- mutations leave typed rows, also where they have a fault
typed_mutated : (schema : List Table) (db : List TableRow) (ms : List CheckedMutation) → AreTyped schema db → AreTypedMutations schema ms → AreTyped schema (after_mutations schema db ms)
typed_mutated schema db ms typed typed_ms = cases (apply schema db ms) refl
  where
    cases : (r : Result (List TableRow) Refusal) → apply schema db ms ≡ r → AreTyped schema (ok_or r db)
    cases (Ok after) e = typed_stay schema db ms after typed typed_ms e
    cases (Err why) e = typed

-- the keys that commits change are coded
coded_from : (schema : List Table) (db : List TableRow) (cs : List Commit) → AreTyped schema db → AllByRecursion (IsCommitBy schema) cs → AllByRecursion (IsOfKey schema) (changes_from schema db cs)
coded_from schema db [] typed by = tt
coded_from schema db (c ∷ cs) typed by =
    let next : AreTyped schema (after_mutations schema db c.mutations) = typed_mutated schema db c.mutations typed by.0 in
    all_append (IsOfKey schema) (changes_between schema c.timestamp db (after_mutations schema db c.mutations)) (changes_from schema (after_mutations schema db c.mutations) cs)
    (coded_between schema c.timestamp db (after_mutations schema db c.mutations) typed next) (coded_from schema (after_mutations schema db c.mutations) cs next by.1)

-- commits leave typed rows
typed_database : (schema : List Table) (db : List TableRow) (cs : List Commit) → AreTyped schema db → AllByRecursion (IsCommitBy schema) cs → AreTyped schema (database_after schema db cs)
typed_database schema db [] typed by = typed
typed_database schema db (c ∷ cs) typed by = typed_database schema (after_mutations schema db c.mutations) cs (typed_mutated schema db c.mutations typed by.0) by.1

-- the keys of what is prepared are coded
coded_prepared : (schema : List Table) (db : List TableRow) (slot : ℕ) (slot_state : SlotState) (ts : List OpenTransaction) → AreTyped schema db → AllByRecursion (IsBegunBy schema) ts → AllByRecursion (IsOfKey schema) (all_prepared schema db slot slot_state ts)
coded_prepared schema db slot slot_state [] typed by = tt
coded_prepared schema db slot slot_state (t ∷ ts) typed by =
    all_append (IsOfKey schema) (changes_prepared schema db slot slot_state t) (all_prepared schema db slot slot_state ts) (cases (is_prepared_at slot t && not (is_committed t.decision))) (coded_prepared schema db slot slot_state ts typed by.1)
  where
    cases : (b : Bool) → AllByRecursion (IsOfKey schema) (cond b (changes_between schema 0 db (after_mutations schema db (mutations_in schema slot_state t.mutations))) [])
    cases true = coded_between schema 0 db (after_mutations schema db (mutations_in schema slot_state t.mutations)) typed (typed_mutated schema db (mutations_in schema slot_state t.mutations) typed (typed_in schema slot_state t.mutations by.0))
    cases false = tt

-- ---- all keys

-- a shard that has at each coded key as many versions, the prepared one included, as there are of these changes, has as many as changes
module _ (schema : List Table) (cs : List KeyVersions) (up : AreInOrder cs) (coded : AllByRecursion (λ (c : KeyVersions). IsCodedCoding schema c.key) cs) (ds : List Change) (of_keys : AllByRecursion (IsOfKey schema) ds)
    (each : (k : List ℕ) → IsCodedCoding schema k → length (versions_at cs k) + cond (is_some (prepared_at cs k)) 1 0 ≡ length (filter (is_at_key k) ds)) where
  -- each key of the shard has as many as are counted there
  each_key : AllByRecursion (λ (c : KeyVersions). kept_of c ≡ length (filter (is_at_key c.key) ds)) cs
  each_key = all_by_key (λ (c : KeyVersions). kept_of c ≡ length (filter (is_at_key c.key) ds)) cs up (λ c found.
      sym (ap (λ (o : Option KeyVersions). length (versions_of o) + cond (is_some (prepared_of o)) 1 0) found)
      ∙ each c.key (all_found (λ (d : KeyVersions). IsCodedCoding schema d.key) (is_key c.key) cs c found coded))

  -- the keys of the changes are in the shard
  all_there : AllByRecursion (λ (d : Change). list_any (is_key d.key) cs ≡ true) ds
  all_there = all_places (λ (d : Change). list_any (is_key d.key) cs ≡ true) ds there
    where
      there : (d : Change) → IsIn d ds → list_any (is_key d.key) cs ≡ true
      there d at = cases (list_any (is_key d.key) cs) refl
        where
          cases : (b : Bool) → list_any (is_key d.key) cs ≡ b → b ≡ true
          cases true e = refl
          cases false e =
              let none : find (is_key d.key) cs ≡ None = none_any (is_key d.key) cs e in
              let count = each d.key (all_in (IsOfKey schema) ds d at of_keys) in
              let nothing : length (versions_at cs d.key) + cond (is_some (prepared_at cs d.key)) 1 0 ≡ 0 = ap (λ (o : Option KeyVersions). length (versions_of o) + cond (is_some (prepared_of o)) 1 0) none in
              absurd (not_empty (filter (is_at_key d.key) ds) d (in_filtered (is_at_key d.key) ds d (bytes_same d.key d.key refl) at) (sym count ∙ nothing))

  pub live_by_keys : live cs ≡ length ds
  live_by_keys = sum_alike kept_of (λ (c : KeyVersions). length (filter (is_at_key c.key) ds)) cs each_key ∙ count_by_keys cs up ds all_there

module _ (schema : List Table) (rules : MeetsRules schema) (m : Machine) {slot : ℕ} (cs : List KeyVersions) (reached : IsReached schema m) (are_kept : AreKept schema m slot cs) where
  -- the changes of the log in the slot's range that are kept at its horizon
  abbrev kept_changes : List Change
  kept_changes = kept are_kept.slot_state.horizon (changes_in are_kept.slot_state (changes_of schema m.log))

  -- those that are prepared there
  abbrev open_changes : List Change
  open_changes = all_prepared schema (database_of schema m.log) slot are_kept.slot_state m.transactions

  -- all that is counted
  abbrev pub counted_changes : List Change
  counted_changes = kept are_kept.slot_state.horizon (changes_in are_kept.slot_state (changes_of schema m.log)) ++ all_prepared schema (database_of schema m.log) slot are_kept.slot_state m.transactions

  -- at each coded key there are as many as are counted
  pub count_at : (k : List ℕ) → IsCodedCoding schema k → length (versions_at cs k) + cond (is_some (prepared_at cs k)) 1 0 ≡ length (filter (is_at_key k) counted_changes)
  count_at k coding = cases (has_key are_kept.slot_state k) refl
    where
      found : (root : Root) × IsCodedRoot schema root × (is_under schema root k ≡ true)
      found = root_of_coding schema rules k coding

      alike : has_key are_kept.slot_state k ≡ holds schema are_kept.slot_state found.0
      alike = has_as_root schema rules m reached slot are_kept.slot_state are_kept.here found.0 found.1 k found.2

      cases : (b : Bool) → has_key are_kept.slot_state k ≡ b → length (versions_at cs k) + cond (is_some (prepared_at cs k)) 1 0 ≡ length (filter (is_at_key k) counted_changes)
      cases true e = count_at_key schema rules m cs reached are_kept found.0 found.1 k found.2 (sym alike ∙ e) e
      cases false e = count_outside schema rules m cs reached are_kept found.0 found.1 k found.2 e (sym alike ∙ e)

  -- the log's commits in their order are typed
  in_order_by : AllByRecursion (IsCommitBy schema) (in_order is_before m.log)
  in_order_by = all_in_order (IsCommitBy schema) is_before m.log reached.by_schema.log

  -- the keys of all that is counted are coded
  pub all_coded : AllByRecursion (IsOfKey schema) counted_changes
  all_coded = all_append (IsOfKey schema) kept_changes open_changes
      (all_filter (IsOfKey schema) (is_kept are_kept.slot_state.horizon (changes_in are_kept.slot_state (changes_of schema m.log))) (changes_in are_kept.slot_state (changes_of schema m.log))
      (all_filter (IsOfKey schema) (λ (c : Change). has_key are_kept.slot_state c.key) (changes_of schema m.log) (coded_from schema [] (in_order is_before m.log) tt in_order_by)))
      (coded_prepared schema (database_of schema m.log) slot are_kept.slot_state m.transactions (typed_database schema [] (in_order is_before m.log) tt in_order_by) reached.by_schema.transactions)

  -- how many they are
  pub counted_length : length counted_changes ≡ slot_live schema m.log m.transactions slot are_kept.slot_state
  counted_length =
      length-append kept_changes open_changes
      ∙ ap (λ (n : ℕ). length (kept are_kept.slot_state.horizon (changes_in are_kept.slot_state (changes_of schema m.log))) + n) (prepared_length schema (database_of schema m.log) slot are_kept.slot_state m.transactions)

  -- so both counts are the same
  pub live_count : live cs ≡ slot_live schema m.log m.transactions slot are_kept.slot_state
  live_count = live_by_keys schema cs are_kept.keys are_kept.coded counted_changes all_coded count_at ∙ counted_length

-- The versions in the shard, prepared ones included, are as many as the changes of the log in the slot's range that are kept at its horizon
-- and those that transactions have prepared there which are not committed.
pub live_is_kept : (schema : List Table) → MeetsRules schema → (m : Machine) (slot : ℕ) (slot_state : SlotState) (cs : List KeyVersions) → IsReached schema m → AreKept schema m slot cs → slice_get m.slots slot ≡ Some slot_state
    → live cs ≡ slot_live schema m.log m.transactions slot slot_state
live_is_kept schema rules m slot slot_state cs reached are_kept here =
    live_count schema rules m cs reached are_kept
    ∙ ap (slot_live schema m.log m.transactions slot) (state_is schema m cs are_kept slot_state here)
