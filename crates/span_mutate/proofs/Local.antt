-- What a mutation does is decided by the rows of its directory, and leaves the others alone.
use Rattle.std.proofs.Common.{◌≡◌, ℕ, ◌≤◌, Bool, true, false, ◌==◌, ◌&&◌, not, cond, List, [], ◌∷◌, Option, Some, None, is_some, is_none, Result, Ok, Err, length, take, refl, sym, ap, subst, ◌∙◌, arith}
use Rattle.std.specs.Prelude.{nat_lt}
use Rattle.std.specs.List.{list_any, AllByRecursion}
use Rattle.std.specs.declared.cmp.Ordering.TheVariants.{Equal}
use Rattle.std.proofs.lemmas.Map.Views.{any-filter_same}
use Rattle.span_value.specs.declared.value.Value.{Value}
use Rattle.span_value.specs.declared.refusal.Refusal.{Refusal}
use Rattle.span_value.specs.declared.refusal.Refusal.TheVariants.{Exists, Missing, ParentMissing, HasChildren, RowTooLong}
use Rattle.span_schema.specs.declared.table.Table.{Table}
use Rattle.span_schema.specs.Lineages.{MeetsRules}
use Rattle.span_value.specs.Results.{first_cause}
use Rattle.span_schema.specs.Numbers.{IsTable, table_at, parent_of, key_columns, root_of}
use Rattle.span_rowcode.specs.Rows.{row_code}
use Rattle.span_rowcode.specs.Limits.{longest_row}
use Rattle.span_mutate.specs.declared.mutation.CheckedMutation.{CheckedMutation}
use Rattle.span_mutate.specs.declared.row.TableRow.{TableRow}
use Rattle.span_mutate.specs.Kinds.{is_delete}
use Rattle.span_mutate.specs.Database.{unless}
use Rattle.span_mutate.specs.Rows.{begins, is_same_key, is_at, row_at, with_row}
use Rattle.span_mutate.specs.Database.{is_at_or_below, cascades, blocks_delete, tables_under, tables_blocking_delete, all_tables, is_in, is_under, is_delete_blocked, lacks_parent, is_insert, is_update, cells_after, causes, row_after, without_rows, changed, apply_to, apply_one}
use Rattle.span_mutate.specs.Directories.{Root, is_in_directory, directory, key_len, IsKeyed, rows_cmp, IsInOrder, IsDatabase}
use Rattle.span_mutate.proofs.Begins.{same_key, front_on, front_of_front, front_of_taken}
use Rattle.std.proofs.lemmas.Bool.{and_from, and_parts, eqb-true, eq-eqb}
use Rattle.span_value.proofs.Lists.{all_filter, filter_swap}
use Rattle.span_mutate.proofs.Families.{parent_family, below_root, root_short}
use Rattle.span_mutate.proofs.Filters.{filter_within, find_kept, found_passes}
use Rattle.span_mutate.proofs.Orders.{rows_equal, rows_total}
use Rattle.span_mutate.proofs.Placing.{put_kept, put_lost, put_in_order, put_all, rising_filter}

abbrev AreKeyedRows : List Table → List TableRow → Type 0
AreKeyedRows tables db = AllByRecursion (λ (r : TableRow). IsKeyed tables r.table r.key) db

-- keys of one family and with one front are of one directory
moved : (tables : List Table) (root : Root) (n m : ℕ) (vs ws : List Value) → is_in_directory tables root n vs ≡ true → root_of tables m ≡ root_of tables n → begins root.key ws ≡ true → is_in_directory tables root m ws ≡ true
moved tables root n m vs ws h same front =
    and_from _ _ (ap (λ (t : ℕ). t == root.table) same ∙ (and_parts (root_of tables n == root.table) (begins root.key vs) h).0) front

-- a row at a key of the directory is of it
at_is_of : (tables : List Table) (root : Root) (n : ℕ) (key : List Value) → is_in_directory tables root n key ≡ true → (q : TableRow) → is_at n key q ≡ true → is_in_directory tables root q.table q.key ≡ true
at_is_of tables root n key h q at =
    let parts = and_parts (q.table == n) (is_same_key key q.key) at in
    let table : n ≡ q.table = sym (eqb-true q.table n parts.0) in
    ap (λ (m : ℕ). is_in_directory tables root m q.key) (sym table) ∙ ap (is_in_directory tables root n) (sym (same_key key q.key parts.1)) ∙ h

pub row_same : (tables : List Table) (root : Root) (n : ℕ) (key : List Value) → is_in_directory tables root n key ≡ true → (db : List TableRow) → row_at n key (directory tables root db) ≡ row_at n key db
row_same tables root n key h db = find_kept (is_at n key) (λ (q : TableRow). is_in_directory tables root q.table q.key) (at_is_of tables root n key h) db

parent_same : (tables : List Table) → MeetsRules tables → (root : Root) → length root.key ≡ key_len tables root.table → (n : ℕ) (key : List Value) → IsTable tables n → is_in_directory tables root n key ≡ true
    → (o : Option ℕ) → parent_of tables n ≡ o → (db : List TableRow) → lacks_parent tables o key (directory tables root db) ≡ lacks_parent tables o key db
parent_same tables rules root len n key is h None e db = refl
parent_same tables rules root len n key is h (Some q) e db =
    let above = parent_family tables n q is e in
    let parts = and_parts (root_of tables n == root.table) (begins root.key key) h in
    let named : root_of tables q ≡ root.table = above.1 ∙ eqb-true (root_of tables n) root.table parts.0 in
    let short : length root.key ≤ key_len tables q = omega (arith, len, ap (key_len tables) named, root_short tables rules q above.0) in
    ap (λ (r : Option TableRow). is_none r)
    (row_same tables root q (take (key_len tables q) key)
    (moved tables root n q key (take (key_len tables q) key) h above.1 (front_of_taken root.key key (key_len tables q) parts.1 short)) db)

-- a row of a table below, whose key begins with one of the directory, is of it
pub under_is_of : (tables : List Table) (root : Root) (n : ℕ) (key : List Value) → is_in_directory tables root n key ≡ true → (q : TableRow) → root_of tables q.table ≡ root_of tables n → begins key q.key ≡ true → is_in_directory tables root q.table q.key ≡ true
under_is_of tables root n key h q same front =
    moved tables root n q.table key q.key h same (front_on root.key key q.key (and_parts (root_of tables n == root.table) (begins root.key key) h).1 front)

holding_root : (tables : List Table) (n m : ℕ) → blocks_delete tables n m ≡ true → root_of tables m ≡ root_of tables n
holding_root tables n m h =
    below_root tables n m (and_parts (is_at_or_below tables n m) (not (m == n)) (and_parts (is_at_or_below tables n m && not (m == n)) (not (cascades (table_at tables m))) h).0).0

held_same : (tables : List Table) (root : Root) (n : ℕ) (key : List Value) → is_in_directory tables root n key ≡ true → (db : List TableRow) → is_delete_blocked tables n key (directory tables root db) ≡ is_delete_blocked tables n key db
held_same tables root n key h db =
    any-filter_same (is_in (tables_blocking_delete tables n) key) (λ (q : TableRow). is_in_directory tables root q.table q.key) true
    (λ q t.
    let parts = and_parts (list_any (λ (k : ℕ). k == q.table) (tables_blocking_delete tables n)) (begins key q.key) t in
    under_is_of tables root n key h q (holding_root tables n q.table (found_passes (blocks_delete tables n) q.table (all_tables tables) parts.0)) parts.1) db

-- the first cause, by whether the parent row is absent and whether a row below holds
abbrev cause_by : CheckedMutation → Option TableRow → Bool → Bool → Option Refusal
cause_by m before orphan held = first_cause (
    (is_insert m.kind && is_some before, Exists)
    ∷ (is_update m.kind && is_none before, Missing)
    ∷ (not (is_delete m.kind) && orphan, ParentMissing)
    ∷ (is_delete m.kind && is_some before && held, HasChildren)
    ∷ (not (is_delete m.kind) && nat_lt longest_row (length (row_code (cells_after m before))), RowTooLong)
    ∷ []
    )

-- the causes are the same on the directory
causes_same : (tables : List Table) → MeetsRules tables → (root : Root) → length root.key ≡ key_len tables root.table → (m : CheckedMutation) → IsTable tables m.table → is_in_directory tables root m.table m.key ≡ true
    → (db : List TableRow) (before : Option TableRow) → first_cause (causes tables (directory tables root db) m before) ≡ first_cause (causes tables db m before)
causes_same tables rules root len m is h db before =
    ap (λ (b : Bool). cause_by m before b (is_delete_blocked tables m.table m.key (directory tables root db))) (parent_same tables rules root len m.table m.key is h (parent_of tables m.table) refl db)
    ∙ ap (cause_by m before (lacks_parent tables (parent_of tables m.table) m.key db)) (held_same tables root m.table m.key h db)

-- what a mutation of the directory makes of it is the directory of what it makes of all rows
changed_same : (tables : List Table) (root : Root) (m : CheckedMutation) → is_in_directory tables root m.table m.key ≡ true → (db : List TableRow) (before : Option TableRow)
    → changed tables (directory tables root db) m before ≡ directory tables root (changed tables db m before)
changed_same tables root m h db before = pick (is_delete m.kind)
  where
    removed : (o : Option TableRow) → without_rows tables m.table m.key o (directory tables root db) ≡ directory tables root (without_rows tables m.table m.key o db)
    removed None = refl
    removed (Some r) = filter_swap (λ (q : TableRow). not (is_under tables m.table m.key q)) (λ (q : TableRow). is_in_directory tables root q.table q.key) db

    pick : (b : Bool) → cond b (without_rows tables m.table m.key before (directory tables root db)) (with_row (key_columns tables m.table) (row_after m before) (directory tables root db))
        ≡ directory tables root (cond b (without_rows tables m.table m.key before db) (with_row (key_columns tables m.table) (row_after m before) db))
    pick true = removed before
    pick false = sym (put_kept (rows_cmp tables) (λ (q : TableRow). is_in_directory tables root q.table q.key) (row_after m before) db h)

-- a mutation of another directory leaves this one alone
changed_apart : (tables : List Table) → MeetsRules tables → (root : Root) → length root.key ≡ key_len tables root.table → (m : CheckedMutation) → IsKeyed tables m.table m.key → is_in_directory tables root m.table m.key ≡ false
    → (db : List TableRow) → IsInOrder tables db → (before : Option TableRow) → directory tables root (changed tables db m before) ≡ directory tables root db
changed_apart tables rules root len m keyed h db sorted before = pick (is_delete m.kind)
  where
    other : (q : TableRow) → is_in_directory tables root q.table q.key ≡ true → (b : Bool) → is_under tables m.table m.key q ≡ b → not b ≡ true
    other q t false e = refl
    other q t true e =
        let parts = and_parts (list_any (λ (k : ℕ). k == q.table) (tables_under tables m.table)) (begins m.key q.key) e in
        let family : root_of tables q.table ≡ root_of tables m.table = below_root tables m.table q.table (found_passes (is_at_or_below tables m.table) q.table (all_tables tables) parts.0) in
        let mine = and_parts (root_of tables q.table == root.table) (begins root.key q.key) t in
        let named : root_of tables m.table ≡ root.table = sym family ∙ eqb-true (root_of tables q.table) root.table mine.0 in
        let short : length root.key ≤ length m.key = omega (arith, len, ap (key_len tables) named, root_short tables rules m.table keyed.0, keyed.1) in
        let inside : is_in_directory tables root m.table m.key ≡ true = and_from _ _ (eq-eqb (root_of tables m.table) root.table named) (front_of_front root.key m.key q.key mine.1 parts.1 short) in
        absurd (let g : false ≡ true = sym h ∙ inside in cc)

    removed : (o : Option TableRow) → directory tables root (without_rows tables m.table m.key o db) ≡ directory tables root db
    removed None = refl
    removed (Some r) = filter_within (λ (q : TableRow). is_in_directory tables root q.table q.key) (λ (q : TableRow). not (is_under tables m.table m.key q)) (λ q t. other q t (is_under tables m.table m.key q) refl) db

    lost : (q : TableRow) → rows_cmp tables q (row_after m before) ≡ Equal → is_in_directory tables root q.table q.key ≡ false
    lost q e =
        let same = rows_equal tables q (row_after m before) e in
        ap (λ (n : ℕ). is_in_directory tables root n q.key) same.0 ∙ ap (is_in_directory tables root m.table) same.1 ∙ h

    pick : (b : Bool) → directory tables root (cond b (without_rows tables m.table m.key before db) (with_row (key_columns tables m.table) (row_after m before) db)) ≡ directory tables root db
    pick true = removed before
    pick false = put_lost (rows_cmp tables) (rows_total tables) (λ (q : TableRow). is_in_directory tables root q.table q.key) (row_after m before) h lost db sorted

-- the rows stay in order
changed_in_order : (tables : List Table) (m : CheckedMutation) (db : List TableRow) → IsInOrder tables db → (before : Option TableRow) → IsInOrder tables (changed tables db m before)
changed_in_order tables m db sorted before = pick (is_delete m.kind)
  where
    removed : (o : Option TableRow) → IsInOrder tables (without_rows tables m.table m.key o db)
    removed None = sorted
    removed (Some r) = rising_filter (rows_cmp tables) (λ (q : TableRow). not (is_under tables m.table m.key q)) db sorted

    pick : (b : Bool) → IsInOrder tables (cond b (without_rows tables m.table m.key before db) (with_row (key_columns tables m.table) (row_after m before) db))
    pick true = removed before
    pick false = put_in_order (rows_cmp tables) (rows_total tables) (row_after m before) db sorted

-- the outcome, with something done to its rows
abbrev pub with_rows : (List TableRow → List TableRow) → Result (List TableRow) Refusal → Result (List TableRow) Refusal
with_rows f (Ok rows) = Ok (f rows)
with_rows f (Err why) = Err why

-- a mutation of the directory has the same outcome on it
pub step_same : (tables : List Table) → MeetsRules tables → (root : Root) → length root.key ≡ key_len tables root.table → (m : CheckedMutation) → IsTable tables m.table → is_in_directory tables root m.table m.key ≡ true
    → (db : List TableRow) → apply_one tables (directory tables root db) m ≡ with_rows (directory tables root) (apply_one tables db m)
step_same tables rules root len m is h db =
    ap (apply_to tables (directory tables root db) m) (row_same tables root m.table m.key h db) ∙ at (row_at m.table m.key db)
  where
    through : (w : Option Refusal) (rows : List TableRow) → unless w (directory tables root rows) ≡ with_rows (directory tables root) (unless w rows)
    through None rows = refl
    through (Some why) rows = refl

    at : (before : Option TableRow) → apply_to tables (directory tables root db) m before ≡ with_rows (directory tables root) (apply_to tables db m before)
    at before =
        ap (λ (w : Option Refusal). unless w (changed tables (directory tables root db) m before)) (causes_same tables rules root len m is h db before)
        ∙ ap (unless (first_cause (causes tables db m before))) (changed_same tables root m h db before)
        ∙ through (first_cause (causes tables db m before)) (changed tables db m before)

pub unless_ok : {A : Type 0} (w : Option Refusal) (x y : A) → unless w x ≡ Ok y → x ≡ y
unless_ok None x y e = cc
unless_ok (Some why) x y e = absurd cc

-- a mutation of another directory changes nothing here
pub step_apart : (tables : List Table) → MeetsRules tables → (root : Root) → length root.key ≡ key_len tables root.table → (m : CheckedMutation) → IsKeyed tables m.table m.key → is_in_directory tables root m.table m.key ≡ false
    → (db : List TableRow) → IsInOrder tables db → (next : List TableRow) → apply_one tables db m ≡ Ok next → directory tables root db ≡ directory tables root next
step_apart tables rules root len m keyed h db sorted next e =
    sym (changed_apart tables rules root len m keyed h db sorted (row_at m.table m.key db))
    ∙ ap (directory tables root) (unless_ok (first_cause (causes tables db m (row_at m.table m.key db))) _ next e)

-- the rows stay in order
step_in_order : (tables : List Table) (m : CheckedMutation) (db : List TableRow) → IsInOrder tables db → (next : List TableRow) → apply_one tables db m ≡ Ok next → IsInOrder tables next
step_in_order tables m db sorted next e =
    subst (IsInOrder tables) (unless_ok (first_cause (causes tables db m (row_at m.table m.key db))) _ next e) (changed_in_order tables m db sorted (row_at m.table m.key db))

-- each row has a whole key
changed_keyed : (tables : List Table) (m : CheckedMutation) → IsKeyed tables m.table m.key → (db : List TableRow) → AreKeyedRows tables db → (before : Option TableRow) → AreKeyedRows tables (changed tables db m before)
changed_keyed tables m keyed db each before = pick (is_delete m.kind)
  where
    removed : (o : Option TableRow) → AreKeyedRows tables (without_rows tables m.table m.key o db)
    removed None = each
    removed (Some r) = all_filter (λ (r : TableRow). IsKeyed tables r.table r.key) (λ (q : TableRow). not (is_under tables m.table m.key q)) db each

    pick : (b : Bool) → AreKeyedRows tables (cond b (without_rows tables m.table m.key before db) (with_row (key_columns tables m.table) (row_after m before) db))
    pick true = removed before
    pick false = put_all (λ (r : TableRow). IsKeyed tables r.table r.key) (rows_cmp tables) (row_after m before) db keyed each

-- the rows are a database again
pub step_database : (tables : List Table) (m : CheckedMutation) → IsKeyed tables m.table m.key → (db : List TableRow) → IsDatabase tables db → (next : List TableRow) → apply_one tables db m ≡ Ok next → IsDatabase tables next
step_database tables m keyed db is next e = (
  step_in_order tables m db is.0 next e,
  subst (AreKeyedRows tables) (unless_ok (first_cause (causes tables db m (row_at m.table m.key db))) _ next e) (changed_keyed tables m keyed db is.1 (row_at m.table m.key db)),
)
