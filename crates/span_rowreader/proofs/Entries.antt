-- The rows that entries are, one after another.
use Rattle.std.proofs.Common.{◌≡◌, ℕ, zero, suc, ◌+◌, ◌<◌, ◌≤◌, List, [], ◌∷◌, length, drop, get_or, map, refl, sym, ap, subst, ◌∙◌, arith}
use Rattle.std.specs.List.{AllByRecursion}
use Rattle.std.proofs.lemmas.List.{length-map, drop_all, drop_more}
use Rattle.span_schema.specs.declared.table.Table.{Table}
use Rattle.span_schema.specs.Numbers.{IsTable}
use Rattle.span_mutate.specs.declared.row.TableRow.{TableRow}
use Rattle.span_mutate.specs.Typed.{IsTyped, AreTyped}
use Rattle.span_shard.specs.Shard.{KeyRow}
use Rattle.span_store.specs.declared.snapshot.Entry.{Entry}
use Rattle.span_shard.specs.Reading.{entry_row, IsNoTableRow}
use Rattle.span_entries.specs.Entries.{key_row, AreNoRows}

-- an entry that is no row
pub not_rows : (schema : List Table) (entries : List Entry) (i : ℕ) (d : Entry) → i < length entries → IsNoTableRow schema (get_or entries i d).key.now (get_or entries i d).row.now → AreNoRows schema (map entry_row entries)
not_rows schema [] i d less none rows typed is = absurd (let l : i < 0 = less in omega arith)
not_rows schema (x ∷ entries) i d less none [] typed is = absurd (let f : entry_row x ∷ map entry_row entries ≡ [] = is in cc)
not_rows schema (x ∷ entries) zero d less none (r ∷ rows) typed is =
    let f : entry_row x ∷ map entry_row entries ≡ key_row schema r ∷ map (key_row schema) rows = is in
    let first : entry_row x ≡ key_row schema r = cc in
    none.none r typed.0 (ap (λ (y : KeyRow). y.key) first) (ap (λ (y : KeyRow). y.row) first)
not_rows schema (x ∷ entries) (suc i) d less none (r ∷ rows) typed is =
    let f : entry_row x ∷ map entry_row entries ≡ key_row schema r ∷ map (key_row schema) rows = is in
    let rest : map entry_row entries ≡ map (key_row schema) rows = cc in
    not_rows schema entries i d (omega arith) none rows typed.1 rest

-- the row that an entry is
pub record RowAt (schema : List Table) (rows : List TableRow) (i : ℕ) (e : KeyRow) : Type 0 where
  pub is : TableRow
  pub typed : IsTyped schema is
  pub entry : e ≡ key_row schema is
  pub rest : drop i rows ≡ is ∷ drop (i + 1) rows

pub row_at : (schema : List Table) (entries : List Entry) (rows : List TableRow) (i : ℕ) (d : Entry) → i < length entries → AreTyped schema rows → map entry_row entries ≡ map (key_row schema) rows
    → RowAt schema rows i (entry_row (get_or entries i d))
row_at schema [] rows i d less typed is = absurd (let l : i < 0 = less in omega arith)
row_at schema (x ∷ entries) [] i d less typed is = absurd (let f : entry_row x ∷ map entry_row entries ≡ [] = is in cc)
row_at schema (x ∷ entries) (r ∷ rows) zero d less typed is =
    let f : entry_row x ∷ map entry_row entries ≡ key_row schema r ∷ map (key_row schema) rows = is in
    record { is = r; typed = typed.0; entry = cc; rest = refl }
row_at schema (x ∷ entries) (r ∷ rows) (suc i) d less typed is =
    let f : entry_row x ∷ map entry_row entries ≡ key_row schema r ∷ map (key_row schema) rows = is in
    let rest : map entry_row entries ≡ map (key_row schema) rows = cc in
    let below = row_at schema entries rows i d (omega arith) typed.1 rest in
    let place : suc i + 1 ≡ suc (i + 1) = omega arith in
    record { is = below.is; typed = below.typed; entry = below.entry; rest = below.rest ∙ ap (λ (j : ℕ). below.is ∷ drop j (r ∷ rows)) (sym place) }

-- the rows that are left are those of the entries that are left
pub rows_left : (schema : List Table) (entries : List Entry) (rows : List TableRow) (i : ℕ) → length entries ≤ i → map entry_row entries ≡ map (key_row schema) rows → drop i rows ≡ []
rows_left schema entries rows i over is =
    let len : length entries ≡ length rows = sym (length-map entries entry_row) ∙ ap length is ∙ length-map rows (key_row schema) in
    drop_all i rows (omega arith)

-- the tables that are left after one
pub all_next : (schema : List Table) (ts : List ℕ) (i : ℕ) → i < length ts → AllByRecursion (IsTable schema) (drop i ts) → AllByRecursion (IsTable schema) (drop (i + 1) ts)
all_next schema ts i less all = (subst (AllByRecursion (IsTable schema)) (drop_more ts i 0 less) all).1
