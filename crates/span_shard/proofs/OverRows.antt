-- What a mutation does to the rows of a database, by their coded keys.
use Rattle.std.proofs.Common.{◌≡◌, ℕ, ◌+◌, ◌-◌, ◌<◌, Bool, true, false, ◌==◌, not, ◌||◌, ◌&&◌, cond, List, [], ◌∷◌, ◌++◌, Option, Some, None, length, take, drop, refl, sym, ap, subst, ◌∙◌, arith, add-sub_cancel}
use Rattle.std.specs.List.{filter, find, list_any, AllByRecursion}
use Rattle.std.specs.Option.{option_map}
use Rattle.std.specs.Cmp.{tied_itself}
use Rattle.std.specs.Ordering.{eq_by_cmp, is_eq, is_lt, is_gt}
use Rattle.span_value.proofs.Total.{value_order_total}
use Rattle.std.specs.declared.cmp.Ordering.{Ordering}
use Rattle.std.specs.declared.cmp.Ordering.TheVariants.{Equal}
use Rattle.std.proofs.lemmas.List.{length-append}
use Rattle.span_value.specs.declared.value.Value.{Value}
use Rattle.span_schema.specs.declared.table.Table.{Table}
use Rattle.span_schema.specs.Lineages.{parent_at, MeetsRules}
use Rattle.span_schema.specs.declared.layout.KeyPart.{KeyPart}
use Rattle.span_schema.specs.Numbers.{key_at, own_key_at, key_columns, parent_of, table_at}
use Rattle.span_keycode.specs.Coding.{AreFit, tuple_code}
use Rattle.span_keycode.specs.Order.{byte_order}
use Rattle.span_keycode.specs.Keys.{code_of as bytes_of, key_code, IsKey, IsCodedKey}
use Rattle.span_keycode.proofs.KeyLaws.{one_key}
use Rattle.span_keycode.proofs.Levels.{key_split, levels_at}
use Rattle.span_keycode.proofs.LevelLaws.{code_child, fit_split}
use Rattle.span_rowcode.specs.Rows.{row_code}
use Rattle.span_mutate.specs.declared.row.TableRow.{TableRow}
use Rattle.span_mutate.specs.Rows.{begins, is_same_key, is_at, row_at, with_row}
use Rattle.span_mutate.specs.Database.{is_at_or_below, is_in, is_under, blocks_delete, cascades, tables_blocking_delete, is_delete_blocked}
use Rattle.span_mutate.specs.Directories.{IsInOrder, rows_cmp}
use Rattle.span_mutate.specs.Typed.{IsTyped, AreTyped}
use Rattle.span_mutate.proofs.Begins.{same_key}
use Rattle.std.proofs.lemmas.Bool.{and_from, and_parts, eqb-true, eq-eqb, or_right}
use Rattle.span_value.proofs.Lists.{all_weaker, all_both}
use Rattle.span_keycode.proofs.Order.{same_bytes, bytes_same}
use Rattle.span_mutate.proofs.Families.{number_here, parent_family}
use Rattle.span_mutate.proofs.Filters.{filter_yes, filter_no}
use Rattle.span_mutate.proofs.Orders.{rows_equal, rows_total}
use Rattle.span_mutate.proofs.Placing.{put, put_kept, put_lost}
use Rattle.span_maderows.specs.Made.{begins_with}
use Rattle.span_shard.specs.Rows.{code_of, is_coded, row_coded}
use Rattle.span_store.proofs.Lists.{any_none}
use Rattle.span_shard.proofs.Touching.{same_truth}
use Rattle.span_shard.proofs.Databases.{one_code, keyed_equal, own_row, row_there, find_kept, find_lost}
use Rattle.span_shard.proofs.Under.{begins_under, under_code, blocks_code}

abbrev pub cells : Option TableRow → Option (List ℕ)
cells o = option_map (λ (r : TableRow). row_code r.cells) o

-- ---- a row at a key

same_itself_key : (vs : List Value) → is_same_key vs vs ≡ true
same_itself_key vs = and_from _ _ (eq-eqb (length vs) (length vs) refl) (fronts vs)
  where
    fronts : (us : List Value) → begins us us ≡ true
    fronts [] = refl
    fronts (u ∷ us) = and_from _ _ (ap is_eq (tied_itself value_order_total u)) (fronts us)

find_same : {X : Type 0} (p q : X → Bool) (xs : List X) → AllByRecursion (λ x. p x ≡ q x) xs → find p xs ≡ find q xs
find_same p q [] h = refl
find_same {X} p q (x ∷ xs) h = ap (λ (b : Bool). cond b (Some x) (find p xs)) h.0 ∙ ap (λ (o : Option X). cond (q x) (Some x) o) (find_same p q xs h.1)

at_code : (tables : List Table) → MeetsRules tables → (n : ℕ) (key : List Value) → IsKey tables n key → (r : TableRow) → IsTyped tables r → is_at n key r ≡ is_coded tables (key_code tables n key) r
at_code tables rules n key k r typed = same_truth (is_at n key r) (is_coded tables (key_code tables n key) r) there back_again
  where
    there : is_at n key r ≡ true → is_coded tables (key_code tables n key) r ≡ true
    there e =
        let parts = and_parts (r.table == n) (is_same_key key r.key) e in
        let named : n ≡ r.table = sym (eqb-true r.table n parts.0) in
        bytes_same (key_code tables n key) (code_of tables r) (ap (key_code tables n) (same_key key r.key parts.1) ∙ ap (λ (m : ℕ). key_code tables m r.key) named)

    back_again : is_coded tables (key_code tables n key) r ≡ true → is_at n key r ≡ true
    back_again e =
        let same = one_key tables rules n r.table key r.key k typed.0.0 (same_bytes (key_code tables n key) (code_of tables r) e) in
        and_from _ _ (eq-eqb r.table n (sym same.0)) (ap (is_same_key key) (sym same.1) ∙ same_itself_key key)

-- the row at a key is the one at its coding
pub row_at_code : (tables : List Table) → MeetsRules tables → (n : ℕ) (key : List Value) → IsKey tables n key → (db : List TableRow) → AreTyped tables db → cells (row_at n key db) ≡ row_coded tables db (key_code tables n key)
row_at_code tables rules n key k db typed =
    ap cells (find_same (is_at n key) (is_coded tables (key_code tables n key)) db
    (all_weaker (IsTyped tables) (λ (r : TableRow). is_at n key r ≡ is_coded tables (key_code tables n key) r) (λ r t. at_code tables rules n key k r t) db typed))

-- ---- a row that is put

abbrev first : {X : Type 0} → List X → Option X
first [] = None
first (x ∷ xs) = Some x

found_first : {X : Type 0} (p : X → Bool) (xs : List X) → find p xs ≡ first (filter p xs)
found_first p [] = refl
found_first {X} p (x ∷ xs) = cases (p x) refl (found_first p xs)
  where
    cases : (b : Bool) → p x ≡ b → find p xs ≡ first (filter p xs) → cond (p x) (Some x) (find p xs) ≡ first (filter p (x ∷ xs))
    cases true e again = ap (λ (c : Bool). cond c (Some x) (find p xs)) e ∙ sym (ap first (filter_yes p x xs e))
    cases false e again = ap (λ (c : Bool). cond c (Some x) (find p xs)) e ∙ again ∙ sym (ap first (filter_no p x xs e))

-- of items that are equal to it one is left
put_equal : {X : Type 0} (R : X → X → Ordering) (r : X) (xs : List X) → AllByRecursion (λ x. R x r ≡ Equal) xs → put R r xs ≡ r ∷ []
put_equal {X} R r xs h = ap (λ (l : List X). l ++ r ∷ filter (λ x. is_gt (R x r)) xs) (none (λ x. is_lt (R x r)) (λ x e. ap is_lt e) xs h) ∙ ap (λ (l : List X). r ∷ l) (none (λ x. is_gt (R x r)) (λ x e. ap is_gt e) xs h)
  where
    none : (p : X → Bool) → ((x : X) → R x r ≡ Equal → p x ≡ false) → (ys : List X) → AllByRecursion (λ x. R x r ≡ Equal) ys → filter p ys ≡ []
    none p f [] g = refl
    none p f (y ∷ ys) g = filter_no p y ys (f y g.0) ∙ none p f ys g.1

all_passed : {X : Type 0} (P Q : X → Type 0) (p : X → Bool) → ((x : X) → P x → p x ≡ true → Q x) → (xs : List X) → AllByRecursion P xs → AllByRecursion Q (filter p xs)
all_passed P Q p f [] h = tt
all_passed {X} P Q p f (x ∷ xs) h = cases (p x) refl (all_passed P Q p f xs h.1)
  where
    cases : (b : Bool) → p x ≡ b → AllByRecursion Q (filter p xs) → AllByRecursion Q (filter p (x ∷ xs))
    cases true e again = subst (AllByRecursion Q) (sym (filter_yes p x xs e)) (f x h.0 e, again)
    cases false e again = subst (AllByRecursion Q) (sym (filter_no p x xs e)) again

-- it is found at its coding
pub put_there : (tables : List Table) → MeetsRules tables → (r : TableRow) → IsTyped tables r → (db : List TableRow) → AreTyped tables db → (k : List ℕ) → is_coded tables k r ≡ true
    → row_coded tables (with_row (key_columns tables r.table) r db) k ≡ Some (row_code r.cells)
put_there tables rules r typed db all k e =
    ap cells (found_first (is_coded tables k) (put (rows_cmp tables) r db)
    ∙ ap first (put_kept (rows_cmp tables) (is_coded tables k) r db e ∙ put_equal (rows_cmp tables) r (filter (is_coded tables k) db) (all_passed (IsTyped tables) (λ (q : TableRow). rows_cmp tables q r ≡ Equal) (is_coded tables k) equal db all)))
  where
    equal : (q : TableRow) → IsTyped tables q → is_coded tables k q ≡ true → rows_cmp tables q r ≡ Equal
    equal q tq f =
        let same = one_code tables rules q r tq typed (sym (same_bytes k (code_of tables q) f) ∙ same_bytes k (code_of tables r) e) in
        keyed_equal tables q r same.0 same.1

-- at other codings all is as before
pub put_elsewhere : (tables : List Table) (r : TableRow) (db : List TableRow) → IsInOrder tables db → (k : List ℕ) → is_coded tables k r ≡ false
    → row_coded tables (with_row (key_columns tables r.table) r db) k ≡ row_coded tables db k
put_elsewhere tables r db sorted k e =
    ap cells (found_first (is_coded tables k) (put (rows_cmp tables) r db)
    ∙ ap first (put_lost (rows_cmp tables) (rows_total tables) (is_coded tables k) r e equal db sorted)
    ∙ sym (found_first (is_coded tables k) db))
  where
    equal : (q : TableRow) → rows_cmp tables q r ≡ Equal → is_coded tables k q ≡ false
    equal q f =
        let same = rows_equal tables q r f in
        let code : code_of tables q ≡ code_of tables r = ap (λ (n : ℕ). key_code tables n q.key) same.0 ∙ ap (key_code tables r.table) same.1 in
        ap (eq_by_cmp byte_order k) code ∙ e

-- ---- rows that are deleted

abbrev kept : List Table → ℕ → List Value → TableRow → Bool
kept tables n key q = not (is_under tables n key q)

pub deleted_there : (tables : List Table) → MeetsRules tables → (n : ℕ) (key : List Value) → IsKey tables n key → (db : List TableRow) → AreTyped tables db → (k : List ℕ) → begins_with k (key_code tables n key) ≡ true
    → row_coded tables (filter (kept tables n key) db) k ≡ None
deleted_there tables rules n key is db typed k e = ap cells (find_lost (is_coded tables k) (kept tables n key) db
    (all_weaker (IsTyped tables) (λ (q : TableRow). is_coded tables k q ≡ true → kept tables n key q ≡ false)
    (λ q tq f. ap not (under_code tables rules n key is q tq ∙ ap (λ (l : List ℕ). begins_with l (key_code tables n key)) (sym (same_bytes k (code_of tables q) f)) ∙ e)) db typed))

pub deleted_elsewhere : (tables : List Table) → MeetsRules tables → (n : ℕ) (key : List Value) → IsKey tables n key → (db : List TableRow) → AreTyped tables db → (k : List ℕ) → begins_with k (key_code tables n key) ≡ false
    → row_coded tables (filter (kept tables n key) db) k ≡ row_coded tables db k
deleted_elsewhere tables rules n key is db typed k e = ap cells (find_kept (is_coded tables k) (kept tables n key) db
    (all_weaker (IsTyped tables) (λ (q : TableRow). is_coded tables k q ≡ true → kept tables n key q ≡ true)
    (λ q tq f. ap not (under_code tables rules n key is q tq ∙ ap (λ (l : List ℕ). begins_with l (key_code tables n key)) (sym (same_bytes k (code_of tables q) f)) ∙ e)) db typed))

-- ---- the row above

-- the key of a parent row is a key, and its coding begins the child's
pub record IsParentKey (tables : List Table) (n p : ℕ) (key : List Value) : Type 0 where
  pub is : IsCodedKey tables p (take (length (key_columns tables p)) key)
  pub rest : List ℕ
  pub code : key_code tables n key ≡ key_code tables p (take (length (key_columns tables p)) key) ++ rest

pub parent_key : (tables : List Table) → MeetsRules tables → (n : ℕ) (key : List Value) → IsCodedKey tables n key → (p : ℕ) → parent_of tables n ≡ Some p → IsParentKey tables n p key
parent_key tables rules n key k p e =
    let found = number_here (parent_at tables (n - 1)) p e in
    let q = found.0 in
    let at : p - 1 ≡ q = ap (λ (m : ℕ). m - 1) found.2 ∙ add-sub_cancel q 1 in
    let within : n - 1 < length tables = omega (arith, k.0.0.0, k.0.0.1) in
    let split = key_split tables rules (n - 1) q within found.1 in
    let F : ℕ → Type 0 = λ i. AreFit (key_at tables i) (take (length (key_at tables i)) key) in
    let W : List KeyPart → Type 0 = λ cs. AreFit cs key in
    let fit = subst F (sym at) (fit_split (key_at tables q) (own_key_at tables (n - 1)) key (subst W split k.0.1)).0 in
    let rest = (n - 1 + 1) ∷ tuple_code (own_key_at tables (n - 1)) (drop (length (key_at tables q)) key) in
    let C : ℕ → Type 0 = λ i. key_code tables n key ≡ bytes_of tables (levels_at tables i (take (length (key_at tables i)) key)) ++ rest in
    let code = subst C (sym at) (code_child tables rules (n - 1) q within found.1 key k.0.1) in
    let front = key_code tables p (take (length (key_columns tables p)) key) in
    let whole : length (key_code tables n key) ≡ length front + length rest = ap (λ (l : List ℕ). length l) code ∙ length-append front rest in
    record { is = (((parent_family tables n p k.0.0 e).0, fit), omega (arith, k.1, whole)); rest = rest; code = code }

-- ---- rows that hold one

-- a row that passes is among those that have one that passes
passes_any : {X : Type 0} (p : X → Bool) (xs : List X) → AllByRecursion (λ x. p x ≡ true → list_any p xs ≡ true) xs
passes_any p [] = tt
passes_any {X} p (x ∷ xs) = (
  λ e. ap (λ (b : Bool). b || list_any p xs) e,
  all_weaker (λ y. p y ≡ true → list_any p xs ≡ true) (λ y. p y ≡ true → list_any p (x ∷ xs) ≡ true) (λ y h e. or_right (p x) (list_any p xs) (h e)) xs (passes_any p xs),
)

-- a row of a blocking table at a coded key below holds the row
pub held_by : (tables : List Table) → MeetsRules tables → (n : ℕ) (key : List Value) → IsKey tables n key → (db : List TableRow) → AreTyped tables db → (k row : List ℕ) → begins_with k (key_code tables n key) ≡ true
    → row_coded tables db k ≡ Some row → ((m : ℕ) (ws : List Value) → IsCodedKey tables m ws → k ≡ key_code tables m ws → blocks_delete tables n m ≡ true) → is_delete_blocked tables n key db ≡ true
held_by tables rules n key is db typed k row under there blocks =
    let P : TableRow → Type 0 = λ r. IsTyped tables r × (is_in (tables_blocking_delete tables n) key r ≡ true → is_delete_blocked tables n key db ≡ true) in
    let found = row_there tables P db k row (all_both (IsTyped tables) (λ (r : TableRow). is_in (tables_blocking_delete tables n) key r ≡ true → is_delete_blocked tables n key db ≡ true) db typed (passes_any (is_in (tables_blocking_delete tables n) key) db)) there in
    let r = found.0 in
    let tr = found.1.0 in
    let below : begins_with (code_of tables r) (key_code tables n key) ≡ true = ap (λ (l : List ℕ). begins_with l (key_code tables n key)) found.2 ∙ under in
    let front = (and_parts (is_at_or_below tables n r.table) (begins key r.key) (sym (begins_under tables rules n key is r.table r.key tr.0.0) ∙ below)).1 in
    found.1.1 (blocks_code tables n key r tr ∙ and_from _ _ (blocks r.table r.key tr.0 (sym found.2)) front)

-- where no row below is of a blocking table, none holds the row
pub held_not : (tables : List Table) → MeetsRules tables → (n : ℕ) (key : List Value) → IsKey tables n key → (db : List TableRow) → IsInOrder tables db → AreTyped tables db
    → ((r : TableRow) → IsTyped tables r → begins_with (code_of tables r) (key_code tables n key) ≡ true → row_coded tables db (code_of tables r) ≡ Some (row_code r.cells) → blocks_delete tables n r.table ≡ false)
    → is_delete_blocked tables n key db ≡ false
held_not tables rules n key is db sorted typed free =
    any_none (is_in (tables_blocking_delete tables n) key) db
    (all_weaker (λ (r : TableRow). IsTyped tables r × (row_coded tables db (code_of tables r) ≡ Some (row_code r.cells))) (λ (r : TableRow). is_in (tables_blocking_delete tables n) key r ≡ false) out db
    (all_both (IsTyped tables) (λ (r : TableRow). row_coded tables db (code_of tables r) ≡ Some (row_code r.cells)) db typed (own_row tables rules db sorted typed)))
  where
    out : (r : TableRow) → IsTyped tables r × (row_coded tables db (code_of tables r) ≡ Some (row_code r.cells)) → is_in (tables_blocking_delete tables n) key r ≡ false
    out r h = blocks_code tables n key r h.0 ∙ cases (blocks_delete tables n r.table) (begins key r.key) refl refl
      where
        cases : (a b : Bool) → blocks_delete tables n r.table ≡ a → begins key r.key ≡ b → (a && b) ≡ false
        cases false b e f = refl
        cases true false e f = refl
        cases true true e f =
            let below = (and_parts (is_at_or_below tables n r.table) (not (r.table == n)) (and_parts (is_at_or_below tables n r.table && not (r.table == n)) (not (cascades (table_at tables r.table))) e).0).0 in
            let under = begins_under tables rules n key is r.table r.key h.0.0.0 ∙ and_from _ _ below f in
            absurd (let g : true ≡ false = sym e ∙ free r h.0 under h.1 in cc)
