-- Databases of typed rows, by what is at coded keys.
use Rattle.std.proofs.Common.{◌≡◌, ◌≢◌, ℕ, Bool, true, false, not, cond, List, [], ◌∷◌, Option, Some, None, refl, sym, ap, subst, ◌∙◌}
use Rattle.std.specs.List.{filter, find, AllByRecursion}
use Rattle.std.specs.Option.{option_map}
use Rattle.std.specs.declared.cmp.Ordering.TheVariants.{Less, Equal}
use Rattle.std.specs.Cmp.{tied_itself}
use Rattle.span_value.specs.declared.value.Value.{Value}
use Rattle.span_value.proofs.Lists.{all_weaker, all_both}
use Rattle.span_schema.specs.declared.table.Table.{Table}
use Rattle.span_schema.specs.Lineages.{MeetsRules}
use Rattle.span_keycode.proofs.KeyLaws.{one_key}
use Rattle.span_keycode.proofs.Order.{same_bytes, bytes_same}
use Rattle.span_rowcode.specs.Rows.{row_code}
use Rattle.span_mutate.specs.declared.mutation.CheckedMutation.{CheckedMutation}
use Rattle.span_mutate.specs.declared.row.TableRow.{TableRow}
use Rattle.span_mutate.specs.Directories.{IsInOrder, rows_cmp}
use Rattle.span_mutate.specs.Touched as rows
use Rattle.span_mutate.specs.Typed.{IsTyped, AreTyped, AreTypedMutations}
use Rattle.span_mutate.proofs.Filters.{filter_yes, filter_no}
use Rattle.span_mutate.proofs.Orders.{rows_total}
use Rattle.span_shard.specs.Rows.{code_of, is_coded, row_coded, is_touched}
use Rattle.span_store.proofs.Lists.{found_all}
use Rattle.span_shard.proofs.Touching.{touched_code}

itself : (tables : List Table) (r : TableRow) → is_coded tables (code_of tables r) r ≡ true
itself tables r = bytes_same (code_of tables r) (code_of tables r) refl

abbrev cells : Option TableRow → Option (List ℕ)
cells o = option_map (λ (r : TableRow). row_code r.cells) o

-- rows of one coded key have one table and one key
pub one_code : (tables : List Table) → MeetsRules tables → (q r : TableRow) → IsTyped tables q → IsTyped tables r → code_of tables q ≡ code_of tables r → (q.table ≡ r.table) × (q.key ≡ r.key)
one_code tables rules q r tq tr e = one_key tables rules q.table r.table q.key r.key tq.0.0 tr.0.0 e

pub keyed_equal : (tables : List Table) (q r : TableRow) → q.table ≡ r.table → q.key ≡ r.key → rows_cmp tables q r ≡ Equal
keyed_equal tables q r e f =
    let P : ℕ → List Value → Type 0 = λ n vs. rows_cmp tables (record { table = n; key = vs; cells = q.cells }) r ≡ Equal in
    let first : P r.table r.key = tied_itself (rows_total tables) r in
    subst (λ (n : ℕ). P n q.key) (sym e) (subst (λ (vs : List Value). P r.table vs) (sym f) first)

-- rows that are before another have another coded key
apart : (tables : List Table) → MeetsRules tables → (q r : TableRow) → IsTyped tables q → IsTyped tables r → rows_cmp tables q r ≡ Less → code_of tables r ≢ code_of tables q
apart tables rules q r tq tr less e =
    let same = one_code tables rules q r tq tr (sym e) in
    let f : Less ≡ Equal = sym less ∙ keyed_equal tables q r same.0 same.1 in
    absurd (cc)

pub not_coded : (tables : List Table) (k : List ℕ) (r : TableRow) → (code_of tables r ≡ k → ⊥) → is_coded tables k r ≡ false
not_coded tables k r h = cases (is_coded tables k r) refl
  where
    cases : (b : Bool) → is_coded tables k r ≡ b → b ≡ false
    cases true e = absurd (h (sym (same_bytes k (code_of tables r) e)))
    cases false e = refl

-- each row is found under its coded key
pub own_row : (tables : List Table) → MeetsRules tables → (db : List TableRow) → IsInOrder tables db → AreTyped tables db → AllByRecursion (λ (r : TableRow). row_coded tables db (code_of tables r) ≡ Some (row_code r.cells)) db
own_row tables rules [] sorted typed = tt
own_row tables rules (x ∷ xs) sorted typed = (
  ap (λ (b : Bool). cells (cond b (Some x) (find (is_coded tables (code_of tables x)) xs))) (itself tables x),
  all_weaker Q (λ (r : TableRow). row_coded tables (x ∷ xs) (code_of tables r) ≡ Some (row_code r.cells))
      (λ r g. ap (λ (b : Bool). cells (cond b (Some x) (find (is_coded tables (code_of tables r)) xs))) (not_coded tables (code_of tables r) x (λ e. apart tables rules x r typed.0 g.0 g.1.0 (sym e))) ∙ g.1.1) xs
      (all_both (IsTyped tables) (λ (r : TableRow). (rows_cmp tables x r ≡ Less) × (row_coded tables xs (code_of tables r) ≡ Some (row_code r.cells))) xs typed.1
      (all_both (λ (r : TableRow). rows_cmp tables x r ≡ Less) (λ (r : TableRow). row_coded tables xs (code_of tables r) ≡ Some (row_code r.cells)) xs sorted.0 (own_row tables rules xs sorted.1 typed.1))),
)
  where
    Q : TableRow → Type 0
    Q r = IsTyped tables r × ((rows_cmp tables x r ≡ Less) × (row_coded tables xs (code_of tables r) ≡ Some (row_code r.cells)))

-- what is found has the coded key
pub row_there : (tables : List Table) (P : TableRow → Type 0) (db : List TableRow) (k row : List ℕ) → AllByRecursion P db → row_coded tables db k ≡ Some row
    → (r : TableRow) × P r × (code_of tables r ≡ k) × (row_code r.cells ≡ row)
row_there tables P db k row all e = cases (find (is_coded tables k) db) refl e
  where
    cases : (o : Option TableRow) → find (is_coded tables k) db ≡ o → cells o ≡ Some row → (r : TableRow) × P r × (code_of tables r ≡ k) × (row_code r.cells ≡ row)
    cases None f g = absurd (cc)
    cases (Some r) f g =
        let found = found_all P (is_coded tables k) db r all f in
        (r, found.0, sym (same_bytes k (code_of tables r) found.1), cc)

-- ---- the rows that pass a test

pub find_kept : {X : Type 0} (test p : X → Bool) (xs : List X) → AllByRecursion (λ x. test x ≡ true → p x ≡ true) xs → find test (filter p xs) ≡ find test xs
find_kept test p [] h = refl
find_kept {X} test p (x ∷ xs) h = cases (p x) (test x) (find_kept test p xs h.1) refl refl
  where
    cases : (a b : Bool) → find test (filter p xs) ≡ find test xs → p x ≡ a → test x ≡ b → find test (filter p (x ∷ xs)) ≡ find test (x ∷ xs)
    cases true b again e f = ap (find test) (filter_yes p x xs e) ∙ ap (λ (o : Option X). cond (test x) (Some x) o) again
    cases false true again e f = absurd (let g : false ≡ true = sym e ∙ h.0 f in cc)
    cases false false again e f = ap (find test) (filter_no p x xs e) ∙ again ∙ sym (ap (λ (b : Bool). cond b (Some x) (find test xs)) f)

pub find_lost : {X : Type 0} (test p : X → Bool) (xs : List X) → AllByRecursion (λ x. test x ≡ true → p x ≡ false) xs → find test (filter p xs) ≡ None
find_lost test p [] h = refl
find_lost {X} test p (x ∷ xs) h = cases (p x) (test x) (find_lost test p xs h.1) refl refl
  where
    cases : (a b : Bool) → find test (filter p xs) ≡ None → p x ≡ a → test x ≡ b → find test (filter p (x ∷ xs)) ≡ None
    cases false b again e f = ap (find test) (filter_no p x xs e) ∙ again
    cases true true again e f = absurd (let g : false ≡ true = sym (h.0 f) ∙ e in cc)
    cases true false again e f = ap (find test) (filter_yes p x xs e) ∙ ap (λ (b : Bool). cond b (Some x) (find test (filter p xs))) f ∙ again

-- the row of a coded key is touched where the key is
touched_row : (tables : List Table) → MeetsRules tables → (ms : List CheckedMutation) → AreTypedMutations tables ms → (k : List ℕ) (r : TableRow) → IsTyped tables r → is_coded tables k r ≡ true → rows.is_touched tables ms r.table r.key ≡ is_touched tables ms k
touched_row tables rules ms typed k r tr e =
    sym (touched_code tables rules ms typed r.table r.key tr.0.0) ∙ ap (is_touched tables ms) (sym (same_bytes k (code_of tables r) e))

pub untouched_there : (tables : List Table) → MeetsRules tables → (ms : List CheckedMutation) → AreTypedMutations tables ms → (db : List TableRow) → AreTyped tables db → (k : List ℕ) → is_touched tables ms k ≡ false
    → row_coded tables (rows.untouched tables ms db) k ≡ row_coded tables db k
untouched_there tables rules ms typed db tdb k e = ap cells (find_kept (is_coded tables k) (λ (r : TableRow). not (rows.is_touched tables ms r.table r.key)) db
    (all_weaker (IsTyped tables) (λ (r : TableRow). is_coded tables k r ≡ true → not (rows.is_touched tables ms r.table r.key) ≡ true) (λ r tr f. ap not (touched_row tables rules ms typed k r tr f ∙ e)) db tdb))
