-- The rows of a range depend on the directories whose root rows are within it alone.
use Rattle.std.proofs.Common.{◌≡◌, ℕ, Bool, true, false, cond, ◌==◌, List, [], ◌∷◌, Ok, refl, ap, sym, ◌∙◌, subst}
use Rattle.std.specs.Prelude.{filter}
use Rattle.std.proofs.lemmas.Bool.{false_from_ne_true}
use Rattle.span_value.proofs.Lists.{all_filter, filter_swap}
use Rattle.span_schema.specs.declared.table.Table.{Table}
use Rattle.span_schema.specs.Lineages.{MeetsRules}
use Rattle.span_keycode.specs.Parts.{is_within}
use Rattle.span_keycode.specs.declared.range.KeyRange.{KeyRange}
use Rattle.span_mutate.specs.declared.mutation.CheckedMutation.{CheckedMutation}
use Rattle.span_mutate.specs.declared.mutation.MutationKind.TheVariants.{Delete}
use Rattle.span_mutate.specs.declared.row.TableRow.{TableRow}
use Rattle.span_mutate.specs.Database.{apply, rows_of}
use Rattle.span_mutate.specs.Directories.{Root, IsKeyed, AreKeyed, IsDatabase, directory, is_in_directory, root_row, rows_cmp}
use Rattle.span_mutate.specs.Typed.{IsTyped, AreTyped}
use Rattle.span_mutate.proofs.Apart.{one_database}
use Rattle.span_mutate.proofs.Filters.{filter_within}
use Rattle.span_mutate.proofs.Placing.{rising_filter}
use Rattle.span_maderows.specs.Made.{begins_with}
use Rattle.span_maderows.proofs.Bytes.{front_begins}
use Rattle.span_shard.specs.Rows.{code_of}
use Rattle.span_machine.specs.Machine.{is_at}
use Rattle.span_machine.specs.Meaning.{row_within}
use Rattle.span_machine.specs.Slots.{root_code}
use Rattle.span_machine_laws.proofs.FamilyRows.{filter_none}
use Rattle.span_machine_laws.proofs.Locality.{IsRoot, own_root, apply-directory, apply-database, empty_database, ok_same}
use Rattle.span_machine_laws.proofs.Pieces.{AreEnds}
use Rattle.span_machine_laws.proofs.CodedRoots.{coded_root_of}
use Rattle.span_machine_laws.proofs.Ends.{within_as_root}
use Rattle.span_keycode.specs.Keys.{key_code}

-- the root row of a row
abbrev pub root_of_row : List Table → TableRow → Root
root_of_row schema r = root_row schema r.table r.key

-- the range has the root row of the row
abbrev pub root_within : List Table → KeyRange → TableRow → Bool
root_within schema range r = is_within range (root_code schema (root_of_row schema r))

-- a row in a directory has its root row
own_root_row : (schema : List Table) (root : Root) (r : TableRow) → IsRoot schema root → is_in_directory schema root r.table r.key ≡ true → root ≡ root_of_row schema r
own_root_row schema root r is at = own_root schema root (record { kind = Delete; table = r.table; key = r.key; cells = [] }) is at

module _ (schema : List Table) (rules : MeetsRules schema) (range : KeyRange) where
  -- a range that ends at root keys, or at the ends of a family, has a row just where it has its root row
  row_as_root : AreEnds schema range → (r : TableRow) → IsTyped schema r → row_within schema range r ≡ root_within schema range r
  row_as_root ends r typed =
      let root = coded_root_of schema rules r.table r.key typed.0.0 typed.0.1 in
      let under : begins_with (code_of schema r) (key_code schema (root_of_row schema r).table (root_of_row schema r).key) ≡ true =
      subst (λ (l : List ℕ). begins_with l (key_code schema (root_of_row schema r).table (root_of_row schema r).key) ≡ true) (sym root.1.1) (front_begins (key_code schema (root_of_row schema r).table (root_of_row schema r).key) root.1.0) in
      within_as_root schema rules (root_of_row schema r) root.0 (code_of schema r) under range ends

  by_roots : AreEnds schema range → (db : List TableRow) → AreTyped schema db → filter (row_within schema range) db ≡ filter (root_within schema range) db
  by_roots ends [] typed = refl
  by_roots ends (r ∷ db) typed =
      ap (λ (b : Bool). cond b (r ∷ filter (row_within schema range) db) (filter (row_within schema range) db)) (row_as_root ends r typed.0)
      ∙ ap (λ (l : List TableRow). cond (root_within schema range r) (r ∷ l) l) (by_roots ends db typed.1)

  -- a directory whose root row is within the range is whole in the range's rows
  own_directory : (root : Root) → IsRoot schema root → is_within range (root_code schema root) ≡ true → (db : List TableRow) → directory schema root (filter (root_within schema range) db) ≡ directory schema root db
  own_directory root is within db = filter_within (λ (r : TableRow). is_in_directory schema root r.table r.key) (root_within schema range)
      (λ r e. subst (λ (q : Root). is_within range (root_code schema q) ≡ true) (own_root_row schema root r is e) within) db

  -- and another is not there
  other_directory : (root : Root) → IsRoot schema root → is_within range (root_code schema root) ≡ false → (db : List TableRow) → directory schema root (filter (root_within schema range) db) ≡ []
  other_directory root is outside db = filter_none (λ (r : TableRow). is_in_directory schema root r.table r.key) (root_within schema range) apart db
    where
      apart : (r : TableRow) → root_within schema range r ≡ true → is_in_directory schema root r.table r.key ≡ false
      apart r within = false_from_ne_true (is_in_directory schema root r.table r.key)
          (λ e. let bad : true ≡ false = sym within ∙ subst (λ (q : Root). is_within range (root_code schema q) ≡ false) (own_root_row schema root r is e) outside in cc)

  range_database : (db : List TableRow) → IsDatabase schema db → IsDatabase schema (filter (root_within schema range) db)
  range_database db is = (rising_filter (rows_cmp schema) (root_within schema range) db is.0, all_filter (λ (r : TableRow). IsKeyed schema r.table r.key) (root_within schema range) db is.1)

  -- databases with the same directories there have the same rows
  same_range : (a b : List TableRow) → IsDatabase schema a → IsDatabase schema b → ((root : Root) → IsRoot schema root → is_within range (root_code schema root) ≡ true → directory schema root a ≡ directory schema root b)
      → filter (root_within schema range) a ≡ filter (root_within schema range) b
  same_range a b is_a is_b same = one_database schema rules (filter (root_within schema range) a) (filter (root_within schema range) b) (range_database a is_a) (range_database b is_b) directories
    where
      directories : (root : Root) → IsKeyed schema root.table root.key → directory schema root (filter (root_within schema range) a) ≡ directory schema root (filter (root_within schema range) b)
      directories root is = elim (is_within range (root_code schema root)) as (λ v. is_within range (root_code schema root) ≡ v → directory schema root (filter (root_within schema range) a) ≡ directory schema root (filter (root_within schema range) b)) [
        | true ↦ λ e. own_directory root is e a ∙ same root is e ∙ sym (own_directory root is e b)
        | false ↦ λ e. other_directory root is e a ∙ sym (other_directory root is e b)
      ] refl

  -- and so the same rows of each table there
  pub same_rows_within : AreEnds schema range → (n : ℕ) (a b : List TableRow) → IsDatabase schema a → IsDatabase schema b → AreTyped schema a → AreTyped schema b
      → ((root : Root) → IsRoot schema root → is_within range (root_code schema root) ≡ true → directory schema root a ≡ directory schema root b)
      → filter (row_within schema range) (rows_of n a) ≡ filter (row_within schema range) (rows_of n b)
  same_rows_within ends n a b is_a is_b typed_a typed_b same =
      filter_swap (row_within schema range) (λ (r : TableRow). r.table == n) a
      ∙ ap (filter (λ (r : TableRow). r.table == n)) (by_roots ends a typed_a ∙ same_range a b is_a is_b same ∙ sym (by_roots ends b typed_b))
      ∙ sym (filter_swap (row_within schema range) (λ (r : TableRow). r.table == n) b)

  -- mutations that are equal in the directories of the range make the same rows there
  pub rows_alike_within : AreEnds schema range → (n : ℕ) (ms ns : List CheckedMutation) (a b : List TableRow) → AreKeyed schema ms → AreKeyed schema ns → AreTyped schema a → AreTyped schema b → apply schema [] ms ≡ Ok a → apply schema [] ns ≡ Ok b
      → ((root : Root) → IsRoot schema root → is_within range (root_code schema root) ≡ true → filter (is_at schema root) ns ≡ filter (is_at schema root) ms)
      → filter (row_within schema range) (rows_of n a) ≡ filter (row_within schema range) (rows_of n b)
  rows_alike_within ends n ms ns a b keyed_ms keyed_ns typed_a typed_b e f alike =
      same_rows_within ends n a b (apply-database schema rules ms [] a (empty_database schema) keyed_ms e) (apply-database schema rules ns [] b (empty_database schema) keyed_ns f) typed_a typed_b
      (λ root is within. ok_same (sym (apply-directory schema rules ms [] a root is (empty_database schema) keyed_ms e) ∙ ap (apply schema (directory schema root [])) (sym (alike root is within)) ∙ apply-directory schema rules ns [] b root is (empty_database schema) keyed_ns f))
