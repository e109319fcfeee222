-- A snapshot at a sealed timestamp has the rows of the tables.
use Rattle.std.proofs.Common.{◌≡◌, ◌≢◌, ℕ, suc, ◌<◌, ◌≤◌, Bool, true, false, cond, not, ◌||◌, ◌==◌, nat_lt, nat_le, List, [], ◌∷◌, ◌++◌, map, Option, Some, None, Ok, refl, ap, sym, ◌∙◌, subst, inl, inr, ◌⊎◌}
use Rattle.std.specs.Prelude.{slice_get, find, filter, option_map}
use Rattle.std.specs.List.{AllByRecursion, list_all, filter_map, cons_option}
use Rattle.std.specs.Ordering.{nat_cmp, ordering_then}
use Rattle.std.specs.declared.cmp.Ordering.TheVariants.{Less, Equal}
use Rattle.std.specs.Cmp.{tied_itself}
use Rattle.std.proofs.lemmas.List.{append-nil}
use Rattle.std.proofs.lemmas.List.Elements.{filter-append}
use Rattle.std.proofs.lemmas.Bool.{lt-leb, and_parts}
use Rattle.span_schema.specs.declared.table.Table.{Table}
use Rattle.span_schema.specs.Lineages.{MeetsRules}
use Rattle.span_schema.specs.Numbers.{key_columns}
use Rattle.span_keycode.specs.Order.{byte_order}
use Rattle.span_keycode.proofs.KeyLaws.{one_key}
use Rattle.span_rowcode.specs.Rows.{row_code}
use Rattle.span_mutate.specs.declared.row.TableRow.{TableRow}
use Rattle.span_mutate.specs.Database.{apply, rows_of}
use Rattle.span_mutate.specs.Rows.{key_order}
use Rattle.span_mutate.specs.Directories.{Root, rows_cmp, IsRising, IsDatabase}
use Rattle.span_mutate.specs.Typed.{IsTyped, AreTyped}
use Rattle.span_mutate.proofs.Orders.{rows_total}
use Rattle.span_mutate.proofs.Placing.{rising_filter}
use Rattle.span_maderows.proofs.Bytes.{bytes_total}
use Rattle.span_maderows.proofs.Lists.{all_filter_itself}
use Rattle.span_shard.specs.KeyVersions.{KeyVersions}
use Rattle.span_shard.specs.Rows.{code_of, is_coded, row_coded}
use Rattle.span_shard.specs.Versions.{row_at}
use Rattle.span_shard.specs.Shard.{KeyRow, AreInOrder, is_key, versions_of, versions_at, prepared_at, seen_at, is_within, snapshot}
use Rattle.span_machine.specs.declared.slot.SlotState.{SlotState}
use Rattle.span_machine.specs.declared.transaction.OpenTransaction.{OpenTransaction}
use Rattle.span_machine.specs.declared.transaction.Decision.{Decision}
use Rattle.span_machine.specs.declared.transaction.Decision.TheVariants as decision
use Rattle.span_machine.specs.declared.transaction.Prepared.{Prepared}
use Rattle.span_machine.specs.Tables.{upto, mutations_of, tables}
use Rattle.span_mutate.proofs.TypedRows.{typed_stay}
use Rattle.span_machine_laws.proofs.Locality.{apply-database, empty_database}
use Rattle.span_machine_laws.proofs.Schemas.{keyed_upto, typed_upto}
use Rattle.span_machine.specs.Machine.{Machine, has_key, holds, is_prepared_at, is_safe, commit_of}
use Rattle.span_machine_laws.proofs.Lists.{IsIn, found_in, found_passes, kept_in, all_in, all_found, all_true}
use Rattle.span_machine_laws.proofs.Stability.{changes_at, is_some_of}
use Rattle.span_machine_laws.proofs.InPlace.{commits_at, claims}
use Rattle.span_machine_laws.proofs.Sealed.{IsAbove}
use Rattle.span_machine_laws.proofs.Holdings.{IsHolding, IsUpto}
use Rattle.span_machine_laws.proofs.Reached.{IsReached}
use Rattle.span_version_laws.specs.Kept.{IsCodedRoot, IsCodedCoding, is_under, IsKeptUnder, IsKeptBy, AreKept, key_row, HasRowsOf, HasRows, has_row, row_within}
use Rattle.span_version_laws.specs.Kept as versions
use Rattle.span_machine.specs.declared.transaction.Commit.{Commit}
use Rattle.span_store.specs.declared.chain.Version.{Version}
use Rattle.span_version_laws.proofs.Slots.{state_is}
use Rattle.span_version_laws.proofs.Cuts.{held_by_key}
use Rattle.span_version_laws.proofs.Claimers.{late}
use Rattle.span_version_laws.proofs.Keys.{IsUnderAll, all_by_key}
use Rattle.span_machine_laws.proofs.TableOrder.{code_cmp, IsOfTable, of_table, table_rises}
use Rattle.span_keycode.specs.declared.range.KeyRange.{KeyRange}
use Rattle.span_keycode.proofs.Order.{same_bytes, bytes_same}
use Rattle.span_shard.proofs.Horizons.{row_kept_above}
use Rattle.span_machine_laws.proofs.Consistent.{in_filtered}
use Rattle.span_machine_laws.proofs.Sound.{above_by}
use Rattle.span_version_laws.proofs.Roots.{coding_of_row, root_of_coding}
use Rattle.span_version_laws.proofs.Rows.{row_of_tables}
use Rattle.span_version_laws.proofs.Sorted.{in_cons, same_rising}

-- ---- lists

in_filter_map : {A B : Type 0} (f : A → Option B) (xs : List A) (x : A) (y : B) → IsIn x xs → f x ≡ Some y → IsIn y (filter_map f xs)
in_filter_map f [] x y at e = absurd (let bad = at.1 in cc)
in_filter_map {A} {B} f (z ∷ zs) x y at e = by_place (in_cons x z zs at) (λ rest. in_filter_map f zs x y rest e)
  where
    later : (o : Option B) → IsIn y (filter_map f zs) → IsIn y (cons_option o (filter_map f zs))
    later None is = is
    later (Some w) is = (suc is.0, is.1)

    by_place : (x ≡ z) ⊎ IsIn x zs → (IsIn x zs → IsIn y (filter_map f zs)) → IsIn y (filter_map f (z ∷ zs))
    by_place (inl same) again = subst (λ (o : Option B). IsIn y (cons_option o (filter_map f zs))) (sym (ap f (sym same) ∙ e)) (0, refl)
    by_place (inr rest) again = later (f z) (again rest)

-- ---- rows by their codings

never_less : (schema : List Table) (r : TableRow) → code_cmp schema r r ≢ Less
never_less schema r e = let same : byte_order (code_of schema r) (code_of schema r) ≡ Equal = tied_itself bytes_total (code_of schema r) in cc

-- a row of the database is found by its coding
found_itself : (schema : List Table) → MeetsRules schema → (db : List TableRow) → IsRising (rows_cmp schema) db → AreTyped schema db → (r : TableRow) → IsTyped schema r → IsIn r db → find (is_coded schema (code_of schema r)) db ≡ Some r
found_itself schema rules [] up typed r is_typed at = absurd (let bad = at.1 in cc)
found_itself schema rules (x ∷ xs) up typed r is_typed at = by_place (in_cons r x xs at) (λ rest. found_itself schema rules xs up.1 typed.1 r is_typed rest)
  where
    tied : r.table ≡ x.table → r.key ≡ x.key → rows_cmp schema x r ≡ Equal
    tied e f =
        ap (λ (n : ℕ). ordering_then (nat_cmp n r.table) (key_order (key_columns schema r.table) x.key r.key)) (sym e)
        ∙ ap (λ (key : _). ordering_then (nat_cmp r.table r.table) (key_order (key_columns schema r.table) key r.key)) (sym f)
        ∙ tied_itself (rows_total schema) r

    by_test : (b : Bool) → is_coded schema (code_of schema r) x ≡ b → rows_cmp schema x r ≡ Less → find (is_coded schema (code_of schema r)) xs ≡ Some r → cond b (Some x) (find (is_coded schema (code_of schema r)) xs) ≡ Some r
    by_test false e less again = again
    by_test true e less again =
        let same = one_key schema rules r.table x.table r.key x.key is_typed.0.0 typed.0.0.0 (same_bytes (code_of schema r) (code_of schema x) e) in
        let equal : rows_cmp schema x r ≡ Equal = tied same.0 same.1 in
        absurd (cc)

    by_place : (r ≡ x) ⊎ IsIn r xs → (IsIn r xs → find (is_coded schema (code_of schema r)) xs ≡ Some r) → find (is_coded schema (code_of schema r)) (x ∷ xs) ≡ Some r
    by_place (inl same) again =
        ap (λ (b : Bool). cond b (Some x) (find (is_coded schema (code_of schema r)) xs)) (bytes_same (code_of schema r) (code_of schema x) (ap (code_of schema) same)) ∙ ap Some (sym same)
    by_place (inr rest) again = by_test (is_coded schema (code_of schema r) x) refl (all_in (λ (y : TableRow). rows_cmp schema x y ≡ Less) xs r rest up.0) (again rest)

-- ---- the tables

module _ (schema : List Table) (rules : MeetsRules schema) (m : Machine) {slot : ℕ} (cs : List KeyVersions) (s : ℕ) (reached : IsReached schema m) (kept : AreKept schema m slot cs) (above : AllByRecursion (IsAbove s slot) m.transactions) (high : kept.slot_state.horizon ≤ s)
    (db : List TableRow) (is_db : IsDatabase schema db) (typed : AreTyped schema db) (made : tables schema m.log s ≡ Ok db) where
  -- at s the versions have the row that the commits up to s make
  row_seen : (root : Root) (is_root : IsCodedRoot schema root) (k : List ℕ) (under : is_under schema root k ≡ true) (commits : List Commit) → HasRows schema root k kept.slot_state.horizon commits (versions_at cs k)
      → filter (λ d. nat_le d.timestamp s) (commits_at schema root m.log) ≡ filter (λ d. nat_le d.timestamp s) commits → row_at (versions_at cs k) s ≡ row_coded schema db k
  row_seen root is_root k under commits has same =
      let now = has.makes.rows s in
      ap (λ (vs : List Version). row_at vs s) has.versions ∙ row_kept_above kept.slot_state.horizon s (versions.made schema root k commits) high
      ∙ row_of_tables schema rules m reached root is_root k under s (row_at (versions.made schema root k commits) s) db typed (now.0, ap (λ l. apply schema [] (changes_at schema root l)) same ∙ now.1, now.2) made

  row_under : (root : Root) (is_root : IsCodedRoot schema root) (k : List ℕ) (under : is_under schema root k ≡ true) (u : OpenTransaction) (o : Decision) → u.decision ≡ o → IsIn u m.transactions → claims schema root slot u ≡ true
      → IsKeptUnder schema root k kept.slot_state.horizon (commits_at schema root m.log) (versions_at cs k) (prepared_at cs k) u o → row_at (versions_at cs k) s ≡ row_coded schema db k
  row_under root is_root k under u decision.Undecided e at is h = row_seen root is_root k under (commits_at schema root m.log) h.1 refl
  row_under root is_root k under u decision.Aborted e at is h = row_seen root is_root k under (commits_at schema root m.log) h.1 refl
  row_under root is_root k under u (decision.Committed ts) e at is h =
      let upto_ts : AllByRecursion (λ (p : Prepared). p.timestamp ≤ ts) u.prepared = subst (λ o. IsUpto o u.prepared) e (all_in (IsHolding _) m.transactions u at reached.holding).timely in
      let later : s < ts = late slot s ts u.prepared (and_parts (is_prepared_at slot u) (is_some_of _) is).0 (all_in (IsAbove s slot) m.transactions u at above) upto_ts in
      row_seen root is_root k under h.front h.rows
      (ap (filter (λ d. nat_le d.timestamp s)) h.whole ∙ filter-append (λ d. nat_le d.timestamp s) h.front (commit_of ts u ∷ [])
      ∙ ap (λ b. filter (λ d. nat_le d.timestamp s) h.front ++ cond b (commit_of ts u ∷ []) []) (lt-leb ts s later) ∙ append-nil _)

  -- the newest version at or below s is the row of the tables at s
  row_in_root : (root : Root) (is_root : IsCodedRoot schema root) (held : holds schema kept.slot_state root ≡ true) (k : List ℕ) (under : is_under schema root k ≡ true) → row_at (versions_at cs k) s ≡ row_coded schema db k
  row_in_root root is_root held k under = elim (filter (claims schema root slot) m.transactions) as (λ us. filter (claims schema root slot) m.transactions ≡ us
      → IsKeptBy schema root k kept.slot_state.horizon (commits_at schema root m.log) (versions_at cs k) (prepared_at cs k) us → row_at (versions_at cs k) s ≡ row_coded schema db k) [
        | [] ↦ λ e h. row_seen root is_root k under (commits_at schema root m.log) h.1 refl
        | u ∷ us ↦ λ e h.
            let pass : AllByRecursion (λ x. claims schema root slot x ≡ true) (u ∷ us) = subst (AllByRecursion (λ x. claims schema root slot x ≡ true)) e (all_filter_itself (claims schema root slot) m.transactions) in
            row_under root is_root k under u u.decision refl (kept_in (claims schema root slot) m.transactions u (0, ap (λ l. slice_get l 0) e)) pass.0 h
      ] refl (kept.kept root is_root held k under)

  row_is_tables : (k : List ℕ) → IsCodedCoding schema k → has_key kept.slot_state k ≡ true → row_at (versions_at cs k) s ≡ row_coded schema db k
  row_is_tables k coding has =
      let root = root_of_coding schema rules k coding in
      row_in_root root.0 root.1 (held_by_key schema rules m reached slot kept.slot_state kept.here root.0 root.1 k root.2 has) k root.2

  -- the slot's range has the key of each that is found
  inside_found : (k : List ℕ) (c : KeyVersions) → find (is_key k) cs ≡ Some c → has_key kept.slot_state c.key ≡ true
  inside_found k c at = all_found (λ (d : KeyVersions). has_key kept.slot_state d.key ≡ true) (is_key k) cs c at kept.inside

  -- each key of the shard has the row of the tables
  abbrev IsSeen : KeyVersions → Type 0
  IsSeen c = row_at c.versions s ≡ row_coded schema db c.key

  all_seen : AllByRecursion IsSeen cs
  all_seen = all_by_key IsSeen cs kept.keys (λ c at.
      sym (ap (λ o. row_at (versions_of o) s) at) ∙ row_is_tables c.key (all_found (λ (d : KeyVersions). IsCodedCoding schema d.key) (is_key c.key) cs c at kept.coded) (inside_found c.key c at))

  -- ---- the rows of a range

  module _ (range : KeyRange) where
    row_if : List ℕ → Option (List ℕ) → Option TableRow
    row_if k None = None
    row_if k (Some row) = find (is_coded schema k) db

    -- the row of the tables at a key of the range
    abbrev row_from : KeyVersions → Option TableRow
    row_from c = cond (is_within range c.key) (row_if c.key (row_at c.versions s)) None

    abbrev rows_from : List KeyVersions → List TableRow
    rows_from ds = filter_map row_from ds

    abbrev entries_from : List KeyVersions → List KeyRow
    entries_from ds = filter_map (seen_at s) (filter (λ (c : KeyVersions). is_within range c.key) ds)

    -- what is found at a key with a row
    found_at : (k row : List ℕ) → row_coded schema db k ≡ Some row → (r : TableRow) × (find (is_coded schema k) db ≡ Some r) × (k ≡ code_of schema r) × (row ≡ row_code r.cells)
    found_at k row e = by_find (find (is_coded schema k) db) refl
      where
        by_find : (o : Option TableRow) → find (is_coded schema k) db ≡ o → (r : TableRow) × (find (is_coded schema k) db ≡ Some r) × (k ≡ code_of schema r) × (row ≡ row_code r.cells)
        by_find None f = absurd (let none : row_coded schema db k ≡ None = ap (option_map (λ (r : TableRow). row_code r.cells)) f in cc)
        by_find (Some r) f =
            let some : row_coded schema db k ≡ Some (row_code r.cells) = ap (option_map (λ (r : TableRow). row_code r.cells)) f in
            (r, f, same_bytes k (code_of schema r) (found_passes (is_coded schema k) db r f), cc)

    entry_of : (c : KeyVersions) (ds : List KeyVersions) → IsSeen c → entries_from ds ≡ map (key_row schema) (rows_from ds) → entries_from (c ∷ ds) ≡ map (key_row schema) (rows_from (c ∷ ds))
    unfolding row_if
    entry_of c ds seen again = elim (is_within range c.key) as (λ b. filter_map (seen_at s) (cond b (c ∷ filter (λ (d : KeyVersions). is_within range d.key) ds) (filter (λ (d : KeyVersions). is_within range d.key) ds))
        ≡ map (key_row schema) (cons_option (cond b (row_if c.key (row_at c.versions s)) None) (rows_from ds))) [
          | false ↦ again
          | true ↦ by_row (row_at c.versions s) refl
        ]
      where
        by_row : (o : Option (List ℕ)) → row_at c.versions s ≡ o → cons_option (option_map (λ (row : List ℕ). record { key = c.key; row = row }) o) (entries_from ds) ≡ map (key_row schema) (cons_option (row_if c.key o) (rows_from ds))
        by_row None e = again
        by_row (Some row) e =
            let at = found_at c.key row (sym seen ∙ e) in
            let same : (record { key = c.key; row = row }) ≡ key_row schema at.0 = cc (at.2, at.3) in
            ap (λ (x : KeyRow). x ∷ entries_from ds) same ∙ ap (λ (l : List KeyRow). key_row schema at.0 ∷ l) again ∙ ap (λ (o : Option TableRow). map (key_row schema) (cons_option o (rows_from ds))) (sym at.1)

    entries_are : (ds : List KeyVersions) → AllByRecursion IsSeen ds → entries_from ds ≡ map (key_row schema) (rows_from ds)
    entries_are [] all = refl
    entries_are (c ∷ ds) all = entry_of c ds all.0 (entries_are ds all.1)

    -- a row that is there is one of the database, at that key
    row_from_is : (c : KeyVersions) (r : TableRow) → row_from c ≡ Some r → (find (is_coded schema c.key) db ≡ Some r) × (is_within range c.key ≡ true)
    unfolding row_if
    row_from_is c r e = by_range (is_within range c.key) refl e
      where
        by_row : (o : Option (List ℕ)) → row_if c.key o ≡ Some r → find (is_coded schema c.key) db ≡ Some r
        by_row None f = absurd cc
        by_row (Some row) f = f

        by_range : (b : Bool) → is_within range c.key ≡ b → cond b (row_if c.key (row_at c.versions s)) None ≡ Some r → (find (is_coded schema c.key) db ≡ Some r) × (is_within range c.key ≡ true)
        by_range false f g = absurd cc
        by_range true f g = (by_row (row_at c.versions s) g, f)

    all_from : (P : TableRow → Type 0) (ds : List KeyVersions) → ((c : KeyVersions) (r : TableRow) → row_from c ≡ Some r → P r) → AllByRecursion P (rows_from ds)
    all_from P [] each = tt
    all_from P (c ∷ ds) each = by_row (row_from c) refl (all_from P ds each)
      where
        by_row : (o : Option TableRow) → row_from c ≡ o → AllByRecursion P (rows_from ds) → AllByRecursion P (cons_option o (rows_from ds))
        by_row None e all = all
        by_row (Some r) e all = (each c r e, all)

    rows_typed : (ds : List KeyVersions) → AreTyped schema (rows_from ds)
    rows_typed ds = all_from (IsTyped schema) ds (λ c r e. all_found (IsTyped schema) (is_coded schema c.key) db r (row_from_is c r e).0 typed)

    rows_of_database : (ds : List KeyVersions) → AllByRecursion (λ r. IsIn r db) (rows_from ds)
    rows_of_database ds = all_from (λ r. IsIn r db) ds (λ c r e. found_in (is_coded schema c.key) db r (row_from_is c r e).0)

    code_is : (c : KeyVersions) (r : TableRow) → row_from c ≡ Some r → c.key ≡ code_of schema r
    code_is c r e = same_bytes c.key (code_of schema r) (found_passes (is_coded schema c.key) db r (row_from_is c r e).0)

    -- and one in the slot's range
    rows_inside : (ds : List KeyVersions) → AllByRecursion (λ (c : KeyVersions). has_key kept.slot_state c.key ≡ true) ds → AllByRecursion (λ r. has_row schema kept.slot_state r ≡ true) (rows_from ds)
    rows_inside [] inside = tt
    rows_inside (c ∷ ds) inside = by_row (row_from c) refl (rows_inside ds inside.1)
      where
        by_row : (o : Option TableRow) → row_from c ≡ o → AllByRecursion (λ r. has_row schema kept.slot_state r ≡ true) (rows_from ds) → AllByRecursion (λ r. has_row schema kept.slot_state r ≡ true) (cons_option o (rows_from ds))
        by_row None e all = all
        by_row (Some r) e all = (ap (has_key kept.slot_state) (sym (code_is c r e)) ∙ inside.0, all)

    rows_in_range : (ds : List KeyVersions) → AllByRecursion (λ r. row_within schema range r ≡ true) (rows_from ds)
    rows_in_range ds = all_from (λ r. row_within schema range r ≡ true) ds (λ c r e. ap (is_within range) (sym (code_is c r e)) ∙ (row_from_is c r e).1)

    rows_under : (k : List ℕ) (ds : List KeyVersions) → IsUnderAll k ds → AllByRecursion (λ r. byte_order k (code_of schema r) ≡ Less) (rows_from ds)
    rows_under k [] under = tt
    rows_under k (c ∷ ds) under = by_row (row_from c) refl (rows_under k ds under.1)
      where
        by_row : (o : Option TableRow) → row_from c ≡ o → AllByRecursion (λ r. byte_order k (code_of schema r) ≡ Less) (rows_from ds) → AllByRecursion (λ r. byte_order k (code_of schema r) ≡ Less) (cons_option o (rows_from ds))
        by_row None e all = all
        by_row (Some r) e all = (ap (byte_order k) (sym (code_is c r e)) ∙ under.0, all)

    rows_rise : (ds : List KeyVersions) → AreInOrder ds → IsRising (code_cmp schema) (rows_from ds)
    rows_rise [] up = tt
    rows_rise (c ∷ ds) up = by_row (row_from c) refl (rows_rise ds up.1)
      where
        by_row : (o : Option TableRow) → row_from c ≡ o → IsRising (code_cmp schema) (rows_from ds) → IsRising (code_cmp schema) (cons_option o (rows_from ds))
        by_row None e rest = rest
        by_row (Some r) e rest = (subst (λ (k : List ℕ). AllByRecursion (λ q. byte_order k (code_of schema q) ≡ Less) (rows_from ds)) (code_is c r e) (rows_under c.key ds up.0), rest)

    -- every row of the range in the slot's range is there
    row_is_there : (r : TableRow) → IsTyped schema r → has_row schema kept.slot_state r ≡ true → IsIn r db → row_within schema range r ≡ true → IsIn r (rows_from cs)
    unfolding row_if
    row_is_there r is_typed has at within =
        let found : find (is_coded schema (code_of schema r)) db ≡ Some r = found_itself schema rules db is_db.0 typed r is_typed at in
        let coded : row_coded schema db (code_of schema r) ≡ Some (row_code r.cells) = ap (option_map (λ (q : TableRow). row_code q.cells)) found in
        let seen : row_at (versions_at cs (code_of schema r)) s ≡ Some (row_code r.cells) =
        row_is_tables (code_of schema r) (coding_of_row schema (code_of schema r) db (row_code r.cells) typed coded) has ∙ coded in
        by_find found (find (is_key (code_of schema r)) cs) refl seen
      where
        none_seen : row_at [] s ≡ None
        none_seen = refl

        by_find : find (is_coded schema (code_of schema r)) db ≡ Some r → (o : Option KeyVersions) → find (is_key (code_of schema r)) cs ≡ o → row_at (versions_of o) s ≡ Some (row_code r.cells) → IsIn r (rows_from cs)
        by_find found None e seen = absurd (let bad : None ≡ Some (row_code r.cells) = sym none_seen ∙ seen in cc)
        by_find found (Some c) e seen =
            let same : code_of schema r ≡ c.key = same_bytes (code_of schema r) c.key (found_passes (is_key (code_of schema r)) cs c e) in
            in_filter_map row_from cs c r (found_in (is_key (code_of schema r)) cs c e)
            (ap (λ (b : Bool). cond b (row_if c.key (row_at c.versions s)) None) (ap (is_within range) (sym same) ∙ within)
            ∙ ap (row_if c.key) seen ∙ ap (λ (k : List ℕ). find (is_coded schema k) db) (sym same) ∙ found)

    -- of one table they are the database's, in its order
    rows_there : (n : ℕ) → rows_of n (rows_from cs) ≡ filter (row_within schema range) (filter (has_row schema kept.slot_state) (rows_of n db))
    rows_there n = same_rising (code_cmp schema) (never_less schema) (λ x y z e f. bytes_total.trans (code_of schema x) (code_of schema y) (code_of schema z) e f) (rows_of n (rows_from cs)) (filter (row_within schema range) (filter (has_row schema kept.slot_state) (rows_of n db)))
        (rising_filter (code_cmp schema) (λ (r : TableRow). r.table == n) (rows_from cs) (rows_rise cs kept.keys))
        (rising_filter (code_cmp schema) (row_within schema range) (filter (has_row schema kept.slot_state) (rows_of n db)) (rising_filter (code_cmp schema) (has_row schema kept.slot_state) (rows_of n db) (table_rises schema rules db is_db typed n)))
        (λ r at.
        let from : IsIn r (rows_from cs) = kept_in (λ (q : TableRow). q.table == n) (rows_from cs) r at in
        let of_n : IsIn r (rows_of n db) = in_filtered (λ (q : TableRow). q.table == n) db r (all_in (λ (q : TableRow). (q.table == n) ≡ true) (rows_of n (rows_from cs)) r at (all_filter_itself (λ (q : TableRow). q.table == n) (rows_from cs))) (all_in (λ q. IsIn q db) (rows_from cs) r from (rows_of_database cs)) in
        in_filtered (row_within schema range) (filter (has_row schema kept.slot_state) (rows_of n db)) r (all_in (λ (q : TableRow). row_within schema range q ≡ true) (rows_from cs) r from (rows_in_range cs)) (in_filtered (has_row schema kept.slot_state) (rows_of n db) r (all_in (λ (q : TableRow). has_row schema kept.slot_state q ≡ true) (rows_from cs) r from (rows_inside cs kept.inside)) of_n))
        (λ r at.
        let held : IsIn r (filter (has_row schema kept.slot_state) (rows_of n db)) = kept_in (row_within schema range) (filter (has_row schema kept.slot_state) (rows_of n db)) r at in
        let there : IsIn r (rows_of n db) = kept_in (has_row schema kept.slot_state) (rows_of n db) r held in
        let within : row_within schema range r ≡ true = all_in (λ (q : TableRow). row_within schema range q ≡ true) (filter (row_within schema range) (filter (has_row schema kept.slot_state) (rows_of n db))) r at (all_filter_itself (row_within schema range) (filter (has_row schema kept.slot_state) (rows_of n db))) in
        let has : has_row schema kept.slot_state r ≡ true = all_in (λ (q : TableRow). has_row schema kept.slot_state q ≡ true) (filter (has_row schema kept.slot_state) (rows_of n db)) r held (all_filter_itself (has_row schema kept.slot_state) (rows_of n db)) in
        let is = all_in (IsOfTable schema n) (rows_of n db) r there (of_table schema n db typed) in
        in_filtered (λ (q : TableRow). q.table == n) (rows_from cs) r (all_in (λ (q : TableRow). (q.table == n) ≡ true) (rows_of n db) r there (all_filter_itself (λ (q : TableRow). q.table == n) db)) (row_is_there r is.0 has (kept_in (λ (q : TableRow). q.table == n) db r there) within))

    -- what a snapshot of the range has
    pub snapshot_rows : HasRowsOf schema kept.slot_state range db (snapshot range s cs)
    snapshot_rows = record { rows = rows_from cs; typed = rows_typed cs; entries_are = entries_are cs all_seen; of_table = rows_there }

-- A snapshot that a scan makes at a safe timestamp, not below the horizon, has the rows of the tables that the range and the slot's range
-- have. The floor may have risen before.
pub snapshot_when_safe : (schema : List Table) → MeetsRules schema → (m : Machine) (slot : ℕ) (slot_state risen : SlotState) (cs : List KeyVersions) (s : ℕ) → IsReached schema m → AreKept schema m slot cs → slice_get m.slots slot ≡ Some slot_state
    → is_safe m slot risen s ≡ true → slot_state.horizon ≤ s → (db : List TableRow) → tables schema m.log s ≡ Ok db → (range : KeyRange) → HasRowsOf schema slot_state range db (snapshot range s cs)
snapshot_when_safe schema rules m slot slot_state risen cs s reached kept here safe high db made range =
    let same : kept.slot_state ≡ slot_state = state_is schema m cs kept slot_state here in
    let above : AllByRecursion (IsAbove s slot) m.transactions =
    all_true (IsAbove s slot) (λ t. list_all (λ p. not (p.slot == slot) || nat_lt s p.timestamp) t.prepared)
    (λ t e. all_true (λ (p : Prepared). p.slot ≡ slot → s < p.timestamp) (λ p. not (p.slot == slot) || nat_lt s p.timestamp) (λ p e same. above_by p.slot slot s p.timestamp e same) t.prepared e)
    m.transactions (and_parts (nat_le s risen.floor) _ safe).1 in
    let is_db : IsDatabase schema db = apply-database schema rules (mutations_of (upto m.log s)) [] db (empty_database schema) (keyed_upto schema m.log s reached.by_schema.log) made in
    let typed : AreTyped schema db = typed_stay schema [] (mutations_of (upto m.log s)) db tt (typed_upto schema m.log s reached.by_schema.log) made in
    subst (λ (b : SlotState). HasRowsOf schema b range db (snapshot range s cs)) same
    (snapshot_rows schema rules m cs s reached kept above (subst (λ (b : SlotState). b.horizon ≤ s) (sym same) high) db is_db typed made range)
