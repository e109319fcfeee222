-- The list of a table's rows is in the order of its primary key.
use Rattle.std.proofs.Common.{◌≡◌, ℕ, Bool, true, false, ◌==◌, List, [], ◌∷◌, refl, sym, ap, subst, ◌∙◌}
use Rattle.std.specs.List.{AllByRecursion}
use Rattle.std.specs.declared.cmp.Ordering.{Ordering}
use Rattle.std.specs.declared.cmp.Ordering.TheVariants.{Less}
use Rattle.std.specs.Ordering.{nat_cmp, ordering_then}
use Rattle.std.specs.Cmp.{tied_itself}
use Rattle.std.proofs.lemmas.Cmp.{nat_cmp_total}
use Rattle.std.proofs.lemmas.Bool.{eqb-true}
use Rattle.span_schema.specs.declared.table.Table.{Table}
use Rattle.span_schema.specs.Numbers.{key_columns}
use Rattle.span_mutate.specs.declared.row.TableRow.{TableRow}
use Rattle.span_mutate.specs.Rows.{key_order}
use Rattle.span_mutate.specs.Database.{rows_of}
use Rattle.span_mutate.specs.Directories.{rows_cmp, IsRising, by_key, RowsInOrder}
use Rattle.span_mutate.proofs.Filters.{filter_yes, filter_no}
use Rattle.span_mutate.proofs.Placing.{rising_filter}

abbrev AreOf : ℕ → List TableRow → Type 0
AreOf n rows = AllByRecursion (λ (r : TableRow). r.table ≡ n) rows

all_of : (n : ℕ) (db : List TableRow) → AreOf n (rows_of n db)
all_of n [] = tt
all_of n (r ∷ db) = cases (all_of n db) (r.table == n) refl
  where
    cases : AreOf n (rows_of n db) → (b : Bool) → (r.table == n) ≡ b → AreOf n (rows_of n (r ∷ db))
    cases again true e = subst (AreOf n) (sym (filter_yes (λ (r : TableRow). r.table == n) r db e)) (eqb-true r.table n e, again)
    cases again false e = subst (AreOf n) (sym (filter_no (λ (r : TableRow). r.table == n) r db e)) again

one_table : (tables : List Table) (n : ℕ) (q r : TableRow) → q.table ≡ n → r.table ≡ n → rows_cmp tables q r ≡ by_key tables n q r
one_table tables n q r e f =
    ap (λ (o : Ordering). ordering_then o (key_order (key_columns tables r.table) q.key r.key)) (ap (λ (m : ℕ). nat_cmp m r.table) (e ∙ sym f) ∙ tied_itself nat_cmp_total r.table)
    ∙ ap (λ (m : ℕ). key_order (key_columns tables m) q.key r.key) f

less_by_key : (tables : List Table) (n : ℕ) (q : TableRow) (rows : List TableRow) → q.table ≡ n → AreOf n rows → AllByRecursion (λ r. rows_cmp tables q r ≡ Less) rows → AllByRecursion (λ r. by_key tables n q r ≡ Less) rows
less_by_key tables n q [] e of_n h = tt
less_by_key tables n q (r ∷ rows) e of_n h = (sym (one_table tables n q r e of_n.0) ∙ h.0, less_by_key tables n q rows e of_n.1 h.1)

rising_by_key : (tables : List Table) (n : ℕ) (rows : List TableRow) → AreOf n rows → IsRising (rows_cmp tables) rows → IsRising (by_key tables n) rows
rising_by_key tables n [] of_n h = tt
rising_by_key tables n (r ∷ rows) of_n h = (less_by_key tables n r rows of_n.0 of_n.1 h.0, rising_by_key tables n rows of_n.1 h.1)

pub rows_in_order : RowsInOrder
rows_in_order tables db is n = rising_by_key tables n (rows_of n db) (all_of n db) (rising_filter (rows_cmp tables) (λ (r : TableRow). r.table == n) db is.0)
