-- Entries without those whose keys are longer than any of a leaf's tables: the leaf gives the same on them.
use Rattle.std.proofs.Common.{◌≡◌, ◌⊎◌, inl, inr, ◌∙◌, ◌==◌, ℕ, ◌+◌, ◌<◌, ◌≤◌, Bool, true, false, cond, List, [], ◌∷◌, ◌++◌, length, take, get_or, map, Result, Ok, Err, refl, ap, sym, subst, arith, add-one}
use Rattle.std.specs.Prelude.{filter, nat_le, IfOk, IfErr}
use Rattle.std.proofs.lemmas.Bool.{eqb-true}
use Rattle.std.proofs.Math.Seq.{take-suc}
use Rattle.span_value.specs.declared.refusal.Refusal.{Refusal}
use Rattle.span_value.specs.declared.refusal.Refusal.TheVariants.{OutOfMemory}
use Rattle.span_schema.specs.declared.table.Table.{Table}
use Rattle.span_mutate.specs.declared.row.TableRow.{TableRow}
use Rattle.span_mutate.specs.Database.{rows_of}
use Rattle.span_mutate.specs.Typed.{AreTyped}
use Rattle.span_shard.specs.Rows.{code_of}
use Rattle.span_shard.specs.Shard.{KeyRow}
use Rattle.span_shard.specs.Reading.{has_short_key}
use Rattle.span_expr.specs.declared.cell.Failure.{Failure}
use Rattle.span_query.specs.Rows.{Row, Rows}
use Rattle.span_conditions.specs.Answers.{Gives}
use Rattle.span_columns.specs.declared.leaf.Leaf.{Leaf}
use Rattle.span_columns.specs.Picks.{pick_rows}
use Rattle.span_leaves.specs.Results.{leaf_rows}
use Rattle.span_entries.specs.Meaning.{declared_row, whole_table}
use Rattle.span_entries.specs.Entries.{key_row, AreNoRows, OfRows}
use Rattle.span_tablescan.specs.Given.{kept_given, IsKeptOn}
use Rattle.span_entries.specs.Longest.{IsLongest, AreLongest, HaveShortKeys}

abbrev is_short : List Table → ℕ → TableRow → Bool
is_short schema most r = nat_le (length (code_of schema r)) most

-- the rows whose keys are short
abbrev short_of : List Table → ℕ → List TableRow → List TableRow
short_of schema most rows = filter (is_short schema most) rows

-- the entries with short keys are the rows with short keys
short_entries : (schema : List Table) (most : ℕ) (rows : List TableRow) → filter (has_short_key most) (map (key_row schema) rows) ≡ map (key_row schema) (short_of schema most rows)
short_entries schema most [] = refl
short_entries schema most (r ∷ rows) = by_test (is_short schema most r) (short_entries schema most rows)
  where
    by_test : (b : Bool) → filter (has_short_key most) (map (key_row schema) rows) ≡ map (key_row schema) (short_of schema most rows)
        → cond b (key_row schema r ∷ filter (has_short_key most) (map (key_row schema) rows)) (filter (has_short_key most) (map (key_row schema) rows)) ≡ map (key_row schema) (cond b (r ∷ short_of schema most rows) (short_of schema most rows))
    by_test true rest = ap (λ (l : List KeyRow). key_row schema r ∷ l) rest
    by_test false rest = rest

short_typed : (schema : List Table) (most : ℕ) (rows : List TableRow) → AreTyped schema rows → AreTyped schema (short_of schema most rows)
short_typed schema most [] typed = tt {0}
short_typed schema most (r ∷ rows) typed = by_test (is_short schema most r) (short_typed schema most rows typed.1)
  where
    by_test : (b : Bool) → AreTyped schema (short_of schema most rows) → AreTyped schema (cond b (r ∷ short_of schema most rows) (short_of schema most rows))
    by_test true rest = (typed.0, rest)
    by_test false rest = rest

-- a table none of whose keys is longer has the same rows
short_table : (schema : List Table) (most n : ℕ) (rows : List TableRow) → AreTyped schema rows → IsLongest schema n most → rows_of n (short_of schema most rows) ≡ rows_of n rows
short_table schema most n [] typed longest = refl
short_table schema most n (r ∷ rows) typed longest = by_tests (is_short schema most r) (r.table == n) refl refl (short_table schema most n rows typed.1 longest)
  where
    by_tests : (b c : Bool) → is_short schema most r ≡ b → (r.table == n) ≡ c → rows_of n (short_of schema most rows) ≡ rows_of n rows
        → rows_of n (cond b (r ∷ short_of schema most rows) (short_of schema most rows)) ≡ cond c (r ∷ rows_of n rows) (rows_of n rows)
    by_tests true c is of rest = ap (λ (d : Bool). cond d (r ∷ rows_of n (short_of schema most rows)) (rows_of n (short_of schema most rows))) of ∙ ap (λ (l : List TableRow). cond c (r ∷ l) l) rest
    by_tests false false is of rest = rest
    by_tests false true is of rest =
        let within : length (code_of schema r) ≤ most = longest.of r typed.0 (eqb-true r.table n of) in
        let long : is_short schema most r ≡ true = grind (arith) in
        absurd (let e : false ≡ true = sym is ∙ long in cc)

short_tables : (schema : List Table) (most : ℕ) (ts : List ℕ) (rows : List TableRow) → AreTyped schema rows → AreLongest schema ts most → map (whole_table schema (short_of schema most rows)) ts ≡ map (whole_table schema rows) ts
short_tables schema most [] rows typed longest = refl
short_tables schema most (t ∷ ts) rows typed longest =
    ap (λ (l : List TableRow). map (declared_row schema) l ∷ map (whole_table schema (short_of schema most rows)) ts) (short_table schema most t rows typed longest.0)
    ∙ ap (λ (l : List (List Row)). whole_table schema rows t ∷ l) (short_tables schema most ts rows typed longest.1)

-- what holds of what leaves the leaf on the entries with short keys holds on all
pub holds_on_all : (schema : List Table) (leaf : Leaf) (entries short : List KeyRow) (P : Rows → Type 0) → HaveShortKeys schema leaf.tables entries short
    → OfRows schema short (λ rows. P (kept_given schema leaf rows)) → OfRows schema entries (λ rows. P (kept_given schema leaf rows))
holds_on_all schema leaf entries short P have given = record {
  of = λ rows typed is.
      let most = have.most in
      let here : short ≡ map (key_row schema) (short_of schema most rows) = have.are ∙ ap (filter (has_short_key most)) is ∙ short_entries schema most rows in
      let same : kept_given schema leaf (short_of schema most rows) ≡ kept_given schema leaf rows = ap (λ (l : List (List Row)). pick_rows leaf.kept (leaf_rows leaf l)) (short_tables schema most leaf.tables rows typed have.longest) in
      subst P same (given.of (short_of schema most rows) (short_typed schema most rows typed) here);
}

-- what the leaf gives on the entries with short keys it gives on all
pub given_on_all : (schema : List Table) (leaf : Leaf) (entries short : List KeyRow) (found : Result (List Row) Failure) → HaveShortKeys schema leaf.tables entries short → IsKeptOn schema leaf short found → IsKeptOn schema leaf entries found
given_on_all schema leaf entries short found have given = holds_on_all schema leaf entries short (Gives found) have given

-- where those with short keys are no rows, none are
no_rows_of_all : (schema : List Table) (ts : List ℕ) (entries short : List KeyRow) → HaveShortKeys schema ts entries short → AreNoRows schema short → AreNoRows schema entries
no_rows_of_all schema ts entries short have none rows typed is =
    none (short_of schema have.most rows) (short_typed schema have.most rows typed) (have.are ∙ ap (filter (has_short_key have.most)) is ∙ short_entries schema have.most rows)

pub refused_of_all : {A : Type 0} (schema : List Table) (ts : List ℕ) (entries short : List KeyRow) → HaveShortKeys schema ts entries short → A ⊎ AreNoRows schema short → A ⊎ AreNoRows schema entries
refused_of_all schema ts entries short have (inl why) = inl why
refused_of_all schema ts entries short have (inr none) = inr (no_rows_of_all schema ts entries short have none)

-- the same of what was found, whatever it is
pub found_on_all : (schema : List Table) (leaf : Leaf) (entries short : List KeyRow) (r : Result (Result (List Row) Failure) Refusal) → HaveShortKeys schema leaf.tables entries short
    → IfOk r (λ found. IsKeptOn schema leaf short found) → IfOk r (λ found. IsKeptOn schema leaf entries found)
found_on_all schema leaf entries short (Ok found) have given = given_on_all schema leaf entries short found have given
found_on_all schema leaf entries short (Err why) have given = tt {0}

pub refused_on_all : (schema : List Table) (ts : List ℕ) (entries short : List KeyRow) (r : Result (Result (List Row) Failure) Refusal) → HaveShortKeys schema ts entries short
    → IfErr r (λ why. (why ≡ OutOfMemory) ⊎ AreNoRows schema short) → IfErr r (λ why. (why ≡ OutOfMemory) ⊎ AreNoRows schema entries)
refused_on_all schema ts entries short (Ok found) have refused = tt {0}
refused_on_all schema ts entries short (Err why) have refused = refused_of_all schema ts entries short have refused

-- ---- the longest key of tables, one after another

pub longest_raised : (schema : List Table) (n low high : ℕ) → low ≤ high → IsLongest schema n low → IsLongest schema n high
longest_raised schema n low high le longest = record { of = λ r typed is. let within : length (code_of schema r) ≤ low = longest.of r typed is in omega arith }

all_raised : (schema : List Table) (ts : List ℕ) (low high : ℕ) → low ≤ high → AreLongest schema ts low → AreLongest schema ts high
all_raised schema [] low high le longest = tt {0}
all_raised schema (t ∷ ts) low high le longest = (longest_raised schema t low high le longest.0, all_raised schema ts low high le longest.1)

with_one : (schema : List Table) (ts : List ℕ) (t most : ℕ) → AreLongest schema ts most → IsLongest schema t most → AreLongest schema (ts ++ t ∷ []) most
with_one schema [] t most longest one = (one, tt {0})
with_one schema (x ∷ ts) t most longest one = (longest.0, with_one schema ts t most longest.1 one)

-- a number that is not below what no key of the tables so far exceeds, and that no key of the next one exceeds
pub longest_next : (schema : List Table) (ts : List ℕ) (i low high : ℕ) → i < length ts → low ≤ high → AreLongest schema (take i ts) low → IsLongest schema (get_or ts i 0) high → AreLongest schema (take (i + 1) ts) high
longest_next schema ts i low high lt le longest one =
    let front : take (i + 1) ts ≡ take i ts ++ get_or ts i 0 ∷ [] = ap (λ (n : ℕ). take n ts) (add-one i) ∙ take-suc ts i 0 lt in
    subst (λ (xs : List ℕ). AreLongest schema xs high) (sym front) (with_one schema (take i ts) (get_or ts i 0) high (all_raised schema (take i ts) low high le longest) one)
