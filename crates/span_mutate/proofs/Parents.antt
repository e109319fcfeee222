-- Each row keeps its parent row.
use Rattle.std.proofs.Common.{◌≡◌, ℕ, zero, suc, ◌+◌, ◌-◌, ◌<◌, ◌≤◌, Bool, true, false, ◌==◌, ◌||◌, ◌&&◌, not, cond, List, [], ◌∷◌, Option, Some, None, is_some, is_none, Result, Ok, Err, length, take, refl, sym, ap, subst, ◌∙◌, arith, add-sub_cancel}
use Rattle.std.specs.Prelude.{nat_lt}
use Rattle.span_rowcode.specs.Rows.{row_code}
use Rattle.span_rowcode.specs.Limits.{longest_row}
use Rattle.std.specs.List.{filter, find, list_any, range_with_len, AllByRecursion}
use Rattle.std.specs.declared.cmp.Ordering.{Ordering}
use Rattle.std.specs.declared.cmp.Ordering.TheVariants.{Less, Equal, Greater}
use Rattle.std.specs.Ordering.{is_lt, is_gt}
use Rattle.std.proofs.lemmas.Bool.Decides.{nat_tests}
use Rattle.std.proofs.lemmas.List.Folds.{list_any-append}
use Rattle.span_value.specs.declared.value.Value.{Value}
use Rattle.span_value.specs.declared.refusal.Refusal.{Refusal}
use Rattle.span_value.specs.declared.refusal.Refusal.TheVariants.{Exists, Missing, ParentMissing, HasChildren, RowTooLong}
use Rattle.span_schema.specs.declared.table.Table.{Table}
use Rattle.span_schema.specs.Lineages.{parent_at, path_at}
use Rattle.span_value.specs.Results.{first_cause}
use Rattle.span_schema.specs.Numbers.{IsTable, parent_of, key_columns}
use Rattle.span_keycode.proofs.LevelLaws.{path_child}
use Rattle.span_mutate.specs.declared.mutation.CheckedMutation.{CheckedMutation}
use Rattle.span_mutate.specs.declared.row.TableRow.{TableRow}
use Rattle.span_mutate.specs.Kinds.{is_delete}
use Rattle.span_mutate.specs.Rows.{begins, is_same_key, is_at, row_at, with_row}
use Rattle.span_mutate.specs.Database.{is_at_or_below, all_tables, tables_under, is_under, is_delete_blocked, lacks_parent, is_insert, is_update, cells_after, causes, row_after, without_rows, changed, apply_one, apply}
use Rattle.span_mutate.specs.Directories.{key_len, IsKeyed, rows_cmp, IsDatabase, HasParents, ParentsStay}
use Rattle.span_mutate.proofs.Begins.{same_key, front_on, taken_begins}
use Rattle.std.proofs.lemmas.Bool.{and_from, not-true, and_parts, eqb-true, not-false}
use Rattle.std.proofs.Math.Bool.{or-true}
use Rattle.span_value.proofs.Lists.{all_weaker}
use Rattle.span_mutate.proofs.Families.{number_here}
use Rattle.span_mutate.proofs.Filters.{filter_yes, filter_no, find_kept, found_passes}
use Rattle.span_mutate.proofs.Orders.{rows_equal}
use Rattle.span_mutate.proofs.Placing.{put, put_all}
use Rattle.span_mutate.proofs.Local.{step_database}
use Rattle.span_mutate.proofs.Runs.{run_on, run_faults}
use Rattle.span_mutate.proofs.Causes.{unless_none}

-- a number of a range is found in it
pub in_range : (a n t : ℕ) → a ≤ t → t < a + n → list_any (λ (k : ℕ). k == t) (range_with_len a n) ≡ true
in_range a zero t h g = absurd (omega arith)
in_range a (suc n) t h g = cases (a == t) refl (λ more. in_range (a + 1) n t more (omega arith))
  where
    above : (a t : ℕ) → a ≤ t → (a == t) ≡ false → a + 1 ≤ t
    above a t h e = grind (arith, nat_tests)

    cases : (b : Bool) → (a == t) ≡ b → (a + 1 ≤ t → list_any (λ (k : ℕ). k == t) (range_with_len (a + 1) n) ≡ true) → list_any (λ (k : ℕ). k == t) (range_with_len a (suc n)) ≡ true
    cases true e again = ap (λ (b : Bool). b || list_any (λ (k : ℕ). k == t) (range_with_len (a + 1) n)) e
    cases false e again = ap (λ (b : Bool). b || list_any (λ (k : ℕ). k == t) (range_with_len (a + 1) n)) e ∙ again (above a t h e)

-- what is found and passes is found among what passes
passes_found : (p : ℕ → Bool) (n : ℕ) (ns : List ℕ) → p n ≡ true → list_any (λ (k : ℕ). k == n) ns ≡ true → list_any (λ (k : ℕ). k == n) (filter p ns) ≡ true
passes_found p n [] h g = g
passes_found p n (k ∷ ns) h g = cases (k == n) (p k) refl refl (λ f. passes_found p n ns h f)
  where
    cases : (a b : Bool) → (k == n) ≡ a → p k ≡ b → (list_any (λ (k : ℕ). k == n) ns ≡ true → list_any (λ (k : ℕ). k == n) (filter p ns) ≡ true) → list_any (λ (k : ℕ). k == n) (filter p (k ∷ ns)) ≡ true
    cases true b e f again =
        ap (list_any (λ (k : ℕ). k == n)) (filter_yes p k ns (ap p (eqb-true k n e) ∙ h)) ∙ ap (λ (x : Bool). x || list_any (λ (k : ℕ). k == n) (filter p ns)) e
    cases false true e f again =
        ap (list_any (λ (k : ℕ). k == n)) (filter_yes p k ns f) ∙ ap (λ (x : Bool). x || list_any (λ (k : ℕ). k == n) (filter p ns)) e
        ∙ again (sym (ap (λ (x : Bool). x || list_any (λ (k : ℕ). k == n) ns) e) ∙ g)
    cases false false e f again =
        ap (list_any (λ (k : ℕ). k == n)) (filter_no p k ns f) ∙ again (sym (ap (λ (x : Bool). x || list_any (λ (k : ℕ). k == n) ns) e) ∙ g)

-- what is at or above the parent is above the child
below_child : (tables : List Table) (n m q : ℕ) → parent_of tables m ≡ Some q → is_at_or_below tables n q ≡ true → is_at_or_below tables n m ≡ true
below_child tables n m q e h =
    let found = number_here (parent_at tables (m - 1)) q e in
    let p = found.0 in
    let above : list_any (λ (k : ℕ). k == n) (path_at tables p) ≡ true =
    ap (λ (i : ℕ). list_any (λ (k : ℕ). k == n) (path_at tables i)) (sym (ap (λ (k : ℕ). k - 1) found.2 ∙ add-sub_cancel p 1)) ∙ h in
    ap (list_any (λ (k : ℕ). k == n)) (path_child tables (m - 1) p found.1)
    ∙ list_any-append (λ (k : ℕ). k == n) (path_at tables p) ((m - 1 + 1) ∷ [])
    ∙ ap (λ (b : Bool). b || list_any (λ (k : ℕ). k == n) ((m - 1 + 1) ∷ [])) above

-- a child of a row at or below one is below it
under_child : (tables : List Table) (n : ℕ) (key : List Value) (r x : TableRow) (q : ℕ) → IsTable tables r.table → parent_of tables r.table ≡ Some q → is_at q (take (key_len tables q) r.key) x ≡ true
    → is_under tables n key x ≡ true → is_under tables n key r ≡ true
under_child tables n key r x q is e at under =
    let here = and_parts (x.table == q) (is_same_key (take (key_len tables q) r.key) x.key) at in
    let parts = and_parts (list_any (λ (k : ℕ). k == x.table) (tables_under tables n)) (begins key x.key) under in
    let table : x.table ≡ q = eqb-true x.table q here.0 in
    let above : is_at_or_below tables n q ≡ true = ap (is_at_or_below tables n) (sym table) ∙ found_passes (is_at_or_below tables n) x.table (all_tables tables) parts.0 in
    let front : begins key (take (key_len tables q) r.key) ≡ true = ap (begins key) (same_key (take (key_len tables q) r.key) x.key here.1) ∙ parts.1 in
    and_from _ _
    (passes_found (is_at_or_below tables n) r.table (all_tables tables) (below_child tables n r.table q e above) (in_range 1 (length tables) r.table is.0 (omega (arith, is.1))))
    (front_on key (take (key_len tables q) r.key) r.key front (taken_begins r.key (key_len tables q)))

-- the parent row of what stays stays
parent_left : (tables : List Table) (n : ℕ) (key : List Value) (db : List TableRow) (r : TableRow) → IsTable tables r.table → is_under tables n key r ≡ false → (o : Option ℕ) → parent_of tables r.table ≡ o
    → lacks_parent tables o r.key (filter (λ (q : TableRow). not (is_under tables n key q)) db) ≡ lacks_parent tables o r.key db
parent_left tables n key db r is out None e = refl
parent_left tables n key db r is out (Some q) e =
    ap (λ (o : Option TableRow). is_none o)
    (find_kept (is_at q (take (key_len tables q) r.key)) (λ (x : TableRow). not (is_under tables n key x)) (λ x at. stays x at (is_under tables n key x) refl) db)
  where
    stays : (x : TableRow) → is_at q (take (key_len tables q) r.key) x ≡ true → (b : Bool) → is_under tables n key x ≡ b → not b ≡ true
    stays x at false f = refl
    stays x at true f = absurd (let g : true ≡ false = sym (under_child tables n key r x q is e at f) ∙ out in cc)

-- what holds of each item holds so of what is kept
kept_all : {X : Type 0} (P Q Z : X → Type 0) (p : X → Bool) → ((x : X) → P x → Q x → p x ≡ true → Z x) → (xs : List X) → AllByRecursion P xs → AllByRecursion Q xs → AllByRecursion Z (filter p xs)
kept_all P Q Z p f [] a b = tt
kept_all {X} P Q Z p f (x ∷ xs) a b = cases (kept_all P Q Z p f xs a.1 b.1) (p x) refl
  where
    cases : AllByRecursion Z (filter p xs) → (c : Bool) → p x ≡ c → AllByRecursion Z (filter p (x ∷ xs))
    cases again true e = subst (AllByRecursion Z) (sym (filter_yes p x xs e)) (f x a.0 b.0 e, again)
    cases again false e = subst (AllByRecursion Z) (sym (filter_no p x xs e)) again

some_found : {X : Type 0} (p : X → Bool) (xs : List X) → is_none (find p xs) ≡ not (list_any p xs)
some_found p [] = refl
some_found {X} p (x ∷ xs) = cases (some_found p xs) (p x) refl
  where
    cases : is_none (find p xs) ≡ not (list_any p xs) → (b : Bool) → p x ≡ b → is_none (find p (x ∷ xs)) ≡ not (list_any p (x ∷ xs))
    cases again true e = ap (λ (b : Bool). is_none (cond b (Some x) (find p xs))) e ∙ sym (ap (λ (b : Bool). not (b || list_any p xs)) e)
    cases again false e = ap (λ (b : Bool). is_none (cond b (Some x) (find p xs))) e ∙ again ∙ sym (ap (λ (b : Bool). not (b || list_any p xs)) e)

-- found before an item, at it or after it
abbrev there : {X : Type 0} → (X → X → Ordering) → (X → Bool) → X → List X → Bool
there R p r l = list_any p (filter (λ x. is_lt (R x r)) l) || (p r || list_any p (filter (λ x. is_gt (R x r)) l))

-- what is found among items is found where one is put among them
found_put : {X : Type 0} (R : X → X → Ordering) (p : X → Bool) (r : X) → ((x : X) → R x r ≡ Equal → p x ≡ true → p r ≡ true) → (xs : List X) → list_any p xs ≡ true → there R p r xs ≡ true
found_put R p r same [] g = absurd (let e : false ≡ true = g in cc)
found_put {X} R p r same (x ∷ xs) g = cases (R x r) (p x) refl refl (λ f. found_put R p r same xs f)
  where
    rest : p x ≡ false → list_any p xs ≡ true
    rest f = sym (ap (λ (b : Bool). b || list_any p xs) f) ∙ g

    split : (l m : List X) → filter (λ x. is_lt (R x r)) (x ∷ xs) ≡ l → filter (λ x. is_gt (R x r)) (x ∷ xs) ≡ m → there R p r (x ∷ xs) ≡ (list_any p l || (p r || list_any p m))
    split l m e f =
        ap (λ (k : List X). list_any p k || (p r || list_any p (filter (λ x. is_gt (R x r)) (x ∷ xs)))) e
        ∙ ap (λ (k : List X). list_any p l || (p r || list_any p k)) f

    before : R x r ≡ Less → there R p r (x ∷ xs) ≡ ((p x || list_any p (filter (λ x. is_lt (R x r)) xs)) || (p r || list_any p (filter (λ x. is_gt (R x r)) xs)))
    before e = split (x ∷ filter (λ x. is_lt (R x r)) xs) (filter (λ x. is_gt (R x r)) xs) (filter_yes (λ x. is_lt (R x r)) x xs (ap is_lt e)) (filter_no (λ x. is_gt (R x r)) x xs (ap is_gt e))

    at : R x r ≡ Equal → there R p r (x ∷ xs) ≡ there R p r xs
    at e = split (filter (λ x. is_lt (R x r)) xs) (filter (λ x. is_gt (R x r)) xs) (filter_no (λ x. is_lt (R x r)) x xs (ap is_lt e)) (filter_no (λ x. is_gt (R x r)) x xs (ap is_gt e))

    later : R x r ≡ Greater → there R p r (x ∷ xs) ≡ (list_any p (filter (λ x. is_lt (R x r)) xs) || (p r || (p x || list_any p (filter (λ x. is_gt (R x r)) xs))))
    later e = split (filter (λ x. is_lt (R x r)) xs) (x ∷ filter (λ x. is_gt (R x r)) xs) (filter_no (λ x. is_lt (R x r)) x xs (ap is_lt e)) (filter_yes (λ x. is_gt (R x r)) x xs (ap is_gt e))

    cases : (o : Ordering) (b : Bool) → R x r ≡ o → p x ≡ b → (list_any p xs ≡ true → there R p r xs ≡ true) → there R p r (x ∷ xs) ≡ true
    cases Less true e f again =
        before e ∙ ap (λ (b : Bool). (b || list_any p (filter (λ x. is_lt (R x r)) xs)) || (p r || list_any p (filter (λ x. is_gt (R x r)) xs))) f
    cases Less false e f again =
        before e ∙ ap (λ (b : Bool). (b || list_any p (filter (λ x. is_lt (R x r)) xs)) || (p r || list_any p (filter (λ x. is_gt (R x r)) xs))) f ∙ again (rest f)
    cases Equal true e f again =
        at e ∙ ap (λ (b : Bool). list_any p (filter (λ x. is_lt (R x r)) xs) || (b || list_any p (filter (λ x. is_gt (R x r)) xs))) (same x e f)
        ∙ or-true (list_any p (filter (λ x. is_lt (R x r)) xs))
    cases Equal false e f again = at e ∙ again (rest f)
    cases Greater true e f again =
        later e ∙ ap (λ (b : Bool). list_any p (filter (λ x. is_lt (R x r)) xs) || (p r || (b || list_any p (filter (λ x. is_gt (R x r)) xs)))) f
        ∙ ap (λ (b : Bool). list_any p (filter (λ x. is_lt (R x r)) xs) || b) (or-true (p r)) ∙ or-true (list_any p (filter (λ x. is_lt (R x r)) xs))
    cases Greater false e f again =
        later e ∙ ap (λ (b : Bool). list_any p (filter (λ x. is_lt (R x r)) xs) || (p r || (b || list_any p (filter (λ x. is_gt (R x r)) xs)))) f ∙ again (rest f)

-- a row that was there, or another at its key, is there once a row is placed
still_there : (tables : List Table) (q : ℕ) (key : List Value) (r : TableRow) (db : List TableRow) → list_any (is_at q key) db ≡ true → list_any (is_at q key) (put (rows_cmp tables) r db) ≡ true
still_there tables q key r db h =
    list_any-append (is_at q key) (filter (λ x. is_lt (rows_cmp tables x r)) db) (r ∷ filter (λ x. is_gt (rows_cmp tables x r)) db)
    ∙ found_put (rows_cmp tables) (is_at q key) r same db h
  where
    same : (x : TableRow) → rows_cmp tables x r ≡ Equal → is_at q key x ≡ true → is_at q key r ≡ true
    same x e f =
        let equal = rows_equal tables x r e in
        ap (λ (n : ℕ). (n == q) && is_same_key key r.key) (sym equal.0) ∙ ap (λ (vs : List Value). (x.table == q) && is_same_key key vs) (sym equal.1) ∙ f

-- a parent row that was there is there once a row is placed
parent_placed : (tables : List Table) (o : Option ℕ) (key : List Value) (r : TableRow) (db : List TableRow) → lacks_parent tables o key db ≡ false → lacks_parent tables o key (put (rows_cmp tables) r db) ≡ false
parent_placed tables None key r db h = refl
parent_placed tables (Some q) key r db h =
    let p : TableRow → Bool = is_at q (take (key_len tables q) key) in
    let was : list_any p db ≡ true = not-false (list_any p db) (sym (some_found p db) ∙ h) in
    some_found p (put (rows_cmp tables) r db) ∙ ap not (still_there tables q (take (key_len tables q) key) r db was)

third : (a b c : Bool) (u v w : Refusal) (rest : List (Bool × Refusal)) → first_cause ((a, u) ∷ (b, v) ∷ (c, w) ∷ rest) ≡ None → c ≡ false
third true b c u v w rest e = absurd cc
third false true c u v w rest e = absurd cc
third false false true u v w rest e = absurd cc
third false false false u v w rest e = refl

abbrev Has : List Table → List TableRow → TableRow → Type 0
Has tables db r = lacks_parent tables (parent_of tables r.table) r.key db ≡ false

-- what a mutation that has no fault makes has the parent rows
changed_parents : (tables : List Table) (m : CheckedMutation) (db : List TableRow) → IsDatabase tables db → HasParents tables db → (before : Option TableRow) → (is_delete m.kind ≡ false → lacks_parent tables (parent_of tables m.table) m.key db ≡ false)
    → HasParents tables (changed tables db m before)
changed_parents tables m db is has before own = pick (is_delete m.kind) refl
  where
    removed : (o : Option TableRow) → HasParents tables (without_rows tables m.table m.key o db)
    removed None = has
    removed (Some r) =
        kept_all (λ (r : TableRow). IsKeyed tables r.table r.key) (Has tables db) (Has tables (without_rows tables m.table m.key (Some r) db)) (λ (q : TableRow). not (is_under tables m.table m.key q))
        (λ x keyed h out. parent_left tables m.table m.key db x keyed.0 (not-true (is_under tables m.table m.key x) out) (parent_of tables x.table) refl ∙ h) db is.1 has

    pick : (b : Bool) → is_delete m.kind ≡ b → HasParents tables (cond b (without_rows tables m.table m.key before db) (with_row (key_columns tables m.table) (row_after m before) db))
    pick true e = removed before
    pick false e =
        let r = row_after m before in
        put_all (Has tables (put (rows_cmp tables) r db)) (rows_cmp tables) r db (parent_placed tables (parent_of tables m.table) m.key r db (own e))
        (all_weaker (Has tables db) (Has tables (put (rows_cmp tables) r db)) (λ x h. parent_placed tables (parent_of tables x.table) x.key r db h) db has)

step_parents : (tables : List Table) (m : CheckedMutation) (db next : List TableRow) → IsDatabase tables db → HasParents tables db → apply_one tables db m ≡ Ok next → HasParents tables next
step_parents tables m db next is has e =
    let before = row_at m.table m.key db in
    let parts = unless_none (first_cause (causes tables db m before)) (changed tables db m before) next e in
    let orphan = third (is_insert m.kind && is_some before) (is_update m.kind && is_none before) (not (is_delete m.kind) && lacks_parent tables (parent_of tables m.table) m.key db) Exists Missing ParentMissing (
    (is_delete m.kind && is_some before && is_delete_blocked tables m.table m.key db, HasChildren)
    ∷ (not (is_delete m.kind) && nat_lt longest_row (length (row_code (cells_after m before))), RowTooLong)
    ∷ []
    ) parts.0 in
    subst (HasParents tables) parts.1
    (changed_parents tables m db is has before (λ k. sym (ap (λ (b : Bool). not b && lacks_parent tables (parent_of tables m.table) m.key db) k) ∙ orphan))

pub parents_stay : ParentsStay
parents_stay tables db [] after is keyed has e = subst (HasParents tables) (let f : db ≡ after = cc in f) has
parents_stay tables db (m ∷ ms) after is keyed has e =
    cases (apply_one tables db m) refl (λ next one two f. parents_stay tables next ms after one keyed.1 two f)
  where
    cases : (r : Result (List TableRow) Refusal) → apply_one tables db m ≡ r
        → ((next : List TableRow) → IsDatabase tables next → HasParents tables next → apply tables next ms ≡ Ok after → HasParents tables after) → HasParents tables after
    cases (Ok next) f again = again next (step_database tables m keyed.0 db is next f) (step_parents tables m db next is has f) (sym (run_on tables db m ms next f) ∙ e)
    cases (Err why) f again = absurd (let g : Err why ≡ Ok after = sym (run_faults tables db m ms why f) ∙ e in cc)
