-- The rows of a table in a database are in the order of their codings.
use Rattle.std.proofs.Common.{◌≡◌, ℕ, Bool, true, false, cond, ◌||◌, ◌==◌, List, [], ◌∷◌, ◌++◌, refl, ap, sym, ◌∙◌, subst}
use Rattle.std.specs.Prelude.{filter}
use Rattle.std.specs.List.{AllByRecursion}
use Rattle.std.specs.Ordering.{is_lt}
use Rattle.std.specs.declared.cmp.Ordering.{Ordering}
use Rattle.std.specs.declared.cmp.Ordering.TheVariants.{Less}
use Rattle.std.proofs.lemmas.Bool.{eqb-true}
use Rattle.span_schema.specs.declared.table.Table.{Table}
use Rattle.span_schema.specs.Lineages.{MeetsRules}
use Rattle.span_schema.specs.Numbers.{key_columns, root_of}
use Rattle.span_keycode.specs.Order.{byte_order}
use Rattle.span_keycode.specs.Keys as keys
use Rattle.span_keycode.specs.Parts.{family, is_within}
use Rattle.span_mutate.specs.declared.row.TableRow.{TableRow}
use Rattle.span_mutate.specs.Database.{rows_of}
use Rattle.span_mutate.specs.Directories.{IsRising, IsDatabase, by_key}
use Rattle.span_mutate.specs.Rows.{key_order}
use Rattle.span_mutate.specs.Typed.{IsTyped, AreTyped}
use Rattle.span_mutate.proofs.TableLists.{rows_in_order}
use Rattle.span_shard.specs.Rows.{code_of}
use Rattle.span_machine.specs.Meaning.{row_within}
use Rattle.span_machine_laws.proofs.FamilyRows.{root_first, first_within}
use Rattle.span_machine_laws.proofs.KeyOrders.{code_order}

pub rising_as : {X : Type 0} (P : X → Type 0) (R S : X → X → Ordering) → ((x y : X) → P x → P y → R x y ≡ Less → S x y ≡ Less) → (xs : List X) → AllByRecursion P xs → IsRising R xs → IsRising S xs
rising_as P R S turn [] all up = tt
rising_as {X} P R S turn (x ∷ xs) all up = (rest xs all.1 up.0, rising_as P R S turn xs all.1 up.1)
  where
    rest : (ys : List X) → AllByRecursion P ys → AllByRecursion (λ y. R x y ≡ Less) ys → AllByRecursion (λ y. S x y ≡ Less) ys
    rest [] each low = tt
    rest (y ∷ ys) each low = (turn x y all.0 each.0 low.0, rest ys each.1 low.1)

abbrev pub code_cmp : List Table → TableRow → TableRow → Ordering
code_cmp schema q r = byte_order (code_of schema q) (code_of schema r)

-- a row of a table
abbrev pub IsOfTable : List Table → ℕ → TableRow → Type 0
IsOfTable schema n r = IsTyped schema r × (r.table ≡ n)

pub of_table : (schema : List Table) (n : ℕ) (rows : List TableRow) → AreTyped schema rows → AllByRecursion (IsOfTable schema n) (rows_of n rows)
of_table schema n [] all = tt
of_table schema n (r ∷ rows) all = by_test (r.table == n) refl (of_table schema n rows all.1)
  where
    by_test : (b : Bool) → (r.table == n) ≡ b → AllByRecursion (IsOfTable schema n) (rows_of n rows) → AllByRecursion (IsOfTable schema n) (cond b (r ∷ rows_of n rows) (rows_of n rows))
    by_test true e rest = ((all.0, eqb-true r.table n e), rest)
    by_test false e rest = rest

module _ (schema : List Table) (rules : MeetsRules schema) where
  by_code : (n : ℕ) (q r : TableRow) → IsOfTable schema n q → IsOfTable schema n r → by_key schema n q r ≡ Less → code_cmp schema q r ≡ Less
  by_code n q r of_q of_r e =
      let one : q.table ≡ r.table = of_q.1 ∙ sym of_r.1 in
      ap (λ (j : ℕ). byte_order (keys.key_code schema j q.key) (code_of schema r)) one
      ∙ code_order schema rules r.table q.key r.key (subst (λ (j : ℕ). keys.IsKey schema j q.key) one of_q.0.0.0) of_r.0.0.0
      ∙ ap (λ (j : ℕ). key_order (key_columns schema j) q.key r.key) of_r.1 ∙ e

  pub table_rises : (db : List TableRow) → IsDatabase schema db → AreTyped schema db → (n : ℕ) → IsRising (code_cmp schema) (rows_of n db)
  table_rises db is_db typed n = rising_as (IsOfTable schema n) (by_key schema n) (code_cmp schema) (by_code n) (rows_of n db) (of_table schema n db typed) (rows_in_order schema db is_db n)

-- ---- parts of a list of rows

-- all are within the range of their family
pub all_in_family : (schema : List Table) (n : ℕ) (db : List TableRow) → filter (row_within schema (family (root_of schema n))) (rows_of n db) ≡ rows_of n db
all_in_family schema n [] = refl
all_in_family schema n (r ∷ db) = by_test (r.table == n) refl (all_in_family schema n db)
  where
    by_test : (b : Bool) → (r.table == n) ≡ b → filter (row_within schema (family (root_of schema n))) (rows_of n db) ≡ rows_of n db
        → filter (row_within schema (family (root_of schema n))) (cond b (r ∷ rows_of n db) (rows_of n db)) ≡ cond b (r ∷ rows_of n db) (rows_of n db)
    by_test false e again = again
    by_test true e again =
        let first = root_first schema r.table r.key in
        let code : code_of schema r ≡ root_of schema n ∷ first.0 = first.1 ∙ ap (λ (k : ℕ). root_of schema k ∷ first.0) (eqb-true r.table n e) in
        let within : row_within schema (family (root_of schema n)) r ≡ true = ap (is_within (family (root_of schema n))) code ∙ first_within (root_of schema n) first.0 in
        ap (λ (b : Bool). cond b (r ∷ filter (row_within schema (family (root_of schema n))) (rows_of n db)) (filter (row_within schema (family (root_of schema n))) (rows_of n db))) within ∙ ap (λ (l : List TableRow). r ∷ l) again

-- where all that pass one test come before all that pass another, the list of those that pass one of them is the one list and then the other
pub parts_joined : (schema : List Table) (p q : TableRow → Bool) → ((x : TableRow) → p x ≡ true → q x ≡ false) → ((x y : TableRow) → p x ≡ true → q y ≡ true → is_lt (code_cmp schema y x) ≡ false) → (rows : List TableRow) → IsRising (code_cmp schema) rows
    → filter (λ (r : TableRow). p r || q r) rows ≡ filter p rows ++ filter q rows
parts_joined schema p q apart before [] up = refl
parts_joined schema p q apart before (x ∷ xs) up = by_tests (p x) (q x) refl refl (parts_joined schema p q apart before xs up.1)
  where
    -- nothing that passes the first test is after what passes the second
    none_after : q x ≡ true → (ys : List TableRow) → AllByRecursion (λ y. code_cmp schema x y ≡ Less) ys → filter p ys ≡ []
    none_after is [] all = refl
    none_after is (y ∷ ys) all = by_first (p y) refl (none_after is ys all.1)
      where
        by_first : (b : Bool) → p y ≡ b → filter p ys ≡ [] → cond b (y ∷ filter p ys) (filter p ys) ≡ []
        by_first false e rest = rest
        by_first true e rest = absurd (let bad : true ≡ false = sym (ap is_lt all.0) ∙ before y x e is in cc)

    by_tests : (a b : Bool) → p x ≡ a → q x ≡ b → filter (λ (r : TableRow). p r || q r) xs ≡ filter p xs ++ filter q xs
        → cond (a || b) (x ∷ filter (λ (r : TableRow). p r || q r) xs) (filter (λ (r : TableRow). p r || q r) xs) ≡ cond a (x ∷ filter p xs) (filter p xs) ++ cond b (x ∷ filter q xs) (filter q xs)
    by_tests true true e f again = absurd (let bad : true ≡ false = sym f ∙ apart x e in cc)
    by_tests true false e f again = ap (λ (l : List TableRow). x ∷ l) again
    by_tests false false e f again = again
    by_tests false true e f again =
        let none : filter p xs ≡ [] = none_after f xs up.0 in
        ap (λ (l : List TableRow). x ∷ l) (again ∙ ap (λ (l : List TableRow). l ++ filter q xs) none) ∙ sym (ap (λ (l : List TableRow). l ++ x ∷ filter q xs) none)
