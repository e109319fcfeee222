-- Apply of typed mutations on a typed database leaves a typed database.
use Rattle.std.proofs.Common.{◌≡◌, ℕ, ◌≤◌, Bool, true, false, ◌==◌, ◌&&◌, not, cond, List, [], ◌∷◌, Option, Some, None, is_some, is_none, Result, Ok, Err, length, refl, sym, ap, subst, ◌∙◌, arith}
use Rattle.std.specs.Prelude.{nat_lt, IfSome}
use Rattle.std.specs.Option.{unwrap_or}
use Rattle.std.proofs.lemmas.Bool.Decides.{nat_tests}
use Rattle.span_value.specs.declared.value.Value.{Value}
use Rattle.span_value.specs.declared.value.Value.TheVariants.{Null}
use Rattle.span_value.specs.declared.value.Kind.{Kind}
use Rattle.span_value.specs.declared.refusal.Refusal.{Refusal}
use Rattle.span_value.specs.declared.refusal.Refusal.TheVariants.{Exists, Missing, ParentMissing, HasChildren, RowTooLong}
use Rattle.span_schema.specs.declared.table.Table.{Table}
use Rattle.span_schema.specs.Fitting.{Fits}
use Rattle.span_value.specs.Results.{first_cause, and_then}
use Rattle.span_schema.specs.Numbers.{key_columns, parent_of, other_kinds}
use Rattle.span_rowcode.specs.Rows.{AreCells, row_code}
use Rattle.span_rowcode.specs.Limits.{longest_row}
use Rattle.span_mutate.specs.declared.mutation.CheckedMutation.{CheckedMutation}
use Rattle.span_mutate.specs.declared.row.TableRow.{TableRow}
use Rattle.span_mutate.specs.Kinds.{is_delete}
use Rattle.span_mutate.specs.Rows.{is_same_key, is_at, row_at, with_row}
use Rattle.span_mutate.specs.Database.{is_insert, is_update, is_delete_blocked, lacks_parent, is_under, merge_cells, cells_after, causes, row_after, without_rows, changed, apply_one, apply}
use Rattle.span_mutate.specs.Directories.{rows_cmp}
use Rattle.span_mutate.specs.Typed.{IsTyped, AreTyped, AreNamed, IsTypedMutation, TypedStay}
use Rattle.std.proofs.lemmas.Bool.{and_parts, eqb-true}
use Rattle.span_value.proofs.Lists.{all_filter}
use Rattle.span_mutate.proofs.Causes.{first_none, unless_none, rest_none}
use Rattle.span_mutate.proofs.Placing.{put_all}

-- a cell that is named fits, or else the old one does
over_fits : (k : Kind) (o : Option Value) (v : Value) → IfSome o (Fits k) → Fits k v → Fits k (unwrap_or o v)
over_fits k None v h g = g
over_fits k (Some w) v h g = h

pub over_none : (ks : List Kind) (ns : List (Option Value)) → AreNamed ks ns → AreCells ks (merge_cells ns [])
over_none [] [] h = tt
over_none [] (n ∷ ns) h = absurd h
over_none (k ∷ ks) [] h = absurd h
over_none (k ∷ ks) (n ∷ ns) h = (over_fits k n Null h.0 tt, over_none ks ns h.1)

pub over_typed : (ks : List Kind) (ns : List (Option Value)) (vs : List Value) → AreNamed ks ns → AreCells ks vs → AreCells ks (merge_cells ns vs)
over_typed [] [] vs h g = tt
over_typed [] (n ∷ ns) vs h g = absurd h
over_typed (k ∷ ks) [] vs h g = absurd h
over_typed (k ∷ ks) (n ∷ ns) [] h g = absurd g
over_typed (k ∷ ks) (n ∷ ns) (v ∷ vs) h g = (over_fits k n v h.0 g.0, over_typed ks ns vs h.1 g.1)

-- what is found among typed rows is of the table, and typed
abbrev pub IsTypedOf : List Table → ℕ → TableRow → Type 0
IsTypedOf tables n r = (r.table ≡ n) × IsTyped tables r

pub found_typed : (tables : List Table) (n : ℕ) (key : List Value) (db : List TableRow) → AreTyped tables db → IfSome (row_at n key db) (IsTypedOf tables n)
found_typed tables n key [] h = tt
found_typed tables n key (r ∷ db) h = cases (is_at n key r) refl (found_typed tables n key db h.1)
  where
    cases : (b : Bool) → is_at n key r ≡ b → IfSome (row_at n key db) (IsTypedOf tables n) → IfSome (cond b (Some r) (row_at n key db)) (IsTypedOf tables n)
    cases true e again = (eqb-true r.table n (and_parts (r.table == n) (is_same_key key r.key) e).0, h.0)
    cases false e again = again

after_cells : (tables : List Table) (m : CheckedMutation) → IsTypedMutation tables m → (before : Option TableRow) → IfSome before (IsTypedOf tables m.table) → AreCells (other_kinds tables m.table) (cells_after m before)
after_cells tables m typed None h = over_none (other_kinds tables m.table) m.cells typed.1
after_cells tables m typed (Some r) h =
    let P : ℕ → Type 0 = λ n. AreCells (other_kinds tables n) r.cells in
    over_typed (other_kinds tables m.table) m.cells r.cells typed.1 (subst P h.0 h.1.1.0)

-- a row that is put is not too long
short_enough : (tables : List Table) (db : List TableRow) (m : CheckedMutation) (before : Option TableRow) → is_delete m.kind ≡ false → first_cause (causes tables db m before) ≡ None
    → length (row_code (cells_after m before)) ≤ longest_row
short_enough tables db m before kind e =
    let e1 = rest_none (is_insert m.kind && is_some before) Exists (
    (is_update m.kind && is_none before, Missing)
    ∷ (not (is_delete m.kind) && lacks_parent tables (parent_of tables m.table) m.key db, ParentMissing)
    ∷ (is_delete m.kind && is_some before && is_delete_blocked tables m.table m.key db, HasChildren)
    ∷ (not (is_delete m.kind) && nat_lt longest_row (length (row_code (cells_after m before))), RowTooLong)
    ∷ []
    ) e in
    let e2 = rest_none (is_update m.kind && is_none before) Missing (
    (not (is_delete m.kind) && lacks_parent tables (parent_of tables m.table) m.key db, ParentMissing)
    ∷ (is_delete m.kind && is_some before && is_delete_blocked tables m.table m.key db, HasChildren)
    ∷ (not (is_delete m.kind) && nat_lt longest_row (length (row_code (cells_after m before))), RowTooLong)
    ∷ []
    ) e1 in
    let e3 = rest_none (not (is_delete m.kind) && lacks_parent tables (parent_of tables m.table) m.key db) ParentMissing (
    (is_delete m.kind && is_some before && is_delete_blocked tables m.table m.key db, HasChildren)
    ∷ (not (is_delete m.kind) && nat_lt longest_row (length (row_code (cells_after m before))), RowTooLong)
    ∷ []
    ) e2 in
    let e4 = rest_none (is_delete m.kind && is_some before && is_delete_blocked tables m.table m.key db) HasChildren (
    (not (is_delete m.kind) && nat_lt longest_row (length (row_code (cells_after m before))), RowTooLong)
    ∷ []
    ) e3 in
    let e5 : (not (is_delete m.kind) && nat_lt longest_row (length (row_code (cells_after m before)))) ≡ false =
    first_none (not (is_delete m.kind) && nat_lt longest_row (length (row_code (cells_after m before)))) RowTooLong [] e4 in
    let f : nat_lt longest_row (length (row_code (cells_after m before))) ≡ false =
    sym (ap (λ (b : Bool). not b && nat_lt longest_row (length (row_code (cells_after m before)))) kind) ∙ e5 in
    below (length (row_code (cells_after m before))) f
  where
    below : (n : ℕ) → nat_lt longest_row n ≡ false → n ≤ longest_row
    below n f = grind (arith, nat_tests)

pub step_typed : (tables : List Table) (db : List TableRow) (m : CheckedMutation) (next : List TableRow) → AreTyped tables db → IsTypedMutation tables m → apply_one tables db m ≡ Ok next → AreTyped tables next
step_typed tables db m next rows typed e =
    let parts = unless_none (first_cause (causes tables db m (row_at m.table m.key db))) (changed tables db m (row_at m.table m.key db)) next e in
    subst (AreTyped tables) parts.1 (pick (is_delete m.kind) refl parts.0)
  where
    removed : (o : Option TableRow) → AreTyped tables (without_rows tables m.table m.key o db)
    removed None = rows
    removed (Some r) = all_filter (IsTyped tables) (λ (q : TableRow). not (is_under tables m.table m.key q)) db rows

    pick : (b : Bool) → is_delete m.kind ≡ b → first_cause (causes tables db m (row_at m.table m.key db)) ≡ None
        → AreTyped tables (cond b (without_rows tables m.table m.key (row_at m.table m.key db) db) (with_row (key_columns tables m.table) (row_after m (row_at m.table m.key db)) db))
    pick true kind none = removed (row_at m.table m.key db)
    pick false kind none =
        put_all (IsTyped tables) (rows_cmp tables) (row_after m (row_at m.table m.key db)) db
        (typed.0, (after_cells tables m typed (row_at m.table m.key db) (found_typed tables m.table m.key db rows), short_enough tables db m (row_at m.table m.key db) kind none))
        rows

pub typed_stay : TypedStay
typed_stay tables db [] after rows typed e = subst (AreTyped tables) (let f : db ≡ after = cc in f) rows
typed_stay tables db (m ∷ ms) after rows typed e =
    cases (apply_one tables db m) refl e (λ next is f. typed_stay tables next ms after is typed.1 f)
  where
    cases : (r : Result (List TableRow) Refusal) → apply_one tables db m ≡ r → and_then r (λ next. apply tables next ms) ≡ Ok after
        → ((next : List TableRow) → AreTyped tables next → apply tables next ms ≡ Ok after → AreTyped tables after) → AreTyped tables after
    cases (Ok next) f g again = again next (step_typed tables db m next rows typed.0 f) g
    cases (Err why) f g again = absurd cc
