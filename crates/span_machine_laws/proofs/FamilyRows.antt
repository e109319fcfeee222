-- The rows of a table depend on the directories of its family alone, and pieces that tile the family's range have all their root rows.
use Rattle.std.proofs.Common.{◌≡◌, ℕ, ◌+◌, ◌-◌, ◌<◌, Bool, true, false, cond, not, ◌&&◌, nat_lt, List, [], ◌∷◌, length, refl, ap, sym, ◌∙◌, subst, inl, inr, arith, ◌==◌, Option, Some, None, get_or, add-sub_cancel}
use Rattle.std.specs.Prelude.{map, filter, slice_index}
use Rattle.std.specs.List.{AllByRecursion}
use Rattle.std.specs.Cmp.Lexicographic.{slice_cmp}
use Rattle.std.specs.Ordering.{is_lt, nat_cmp, ordering_then}
use Rattle.std.specs.declared.cmp.Ordering.{Ordering}
use Rattle.std.specs.declared.cmp.Ordering.TheVariants.{Less, Equal, Greater}
use Rattle.std.proofs.lemmas.Bool.Decides.{nat_tests}
use Rattle.std.proofs.lemmas.Bool.{or_cases, and_parts, and_left, eqb-true, eq-eqb}
use Rattle.span_value.specs.declared.value.Value.{Value}
use Rattle.span_value.proofs.Comparisons.{number_equal}
use Rattle.span_value.proofs.Lists.{all_filter}
use Rattle.span_schema.specs.declared.table.Table.{Table}
use Rattle.span_schema.specs.Numbers.{root_of, path_of}
use Rattle.span_schema.proofs.Numbered.{path_has}
use Rattle.span_schema.specs.Lineages.{MeetsRules, parent_at, path_at}
use Rattle.span_keycode.proofs.PartLaws.{tiles_split, tiles_none, rest_after}
use Rattle.span_keycode.specs.Keys.{key_code, code_of, level_of}
use Rattle.span_keycode.specs.Parts.{family, is_within, tiles}
use Rattle.span_keycode.specs.declared.range.KeyRange.{KeyRange}
use Rattle.span_keycode.proofs.Levels.{by_parents}
use Rattle.span_keycode.proofs.LevelLaws.{path_root}
use Rattle.span_mutate.specs.declared.row.TableRow.{TableRow}
use Rattle.span_mutate.specs.Database.{rows_of}
use Rattle.span_mutate.specs.Directories.{Root, IsDatabase, IsKeyed, directory, is_in_directory, rows_cmp}
use Rattle.span_mutate.specs.Rows.{begins}
use Rattle.span_mutate.proofs.Apart.{one_database}
use Rattle.span_mutate.proofs.Families.{root_child}
use Rattle.span_mutate.proofs.Filters.{filter_within}
use Rattle.span_mutate.proofs.Placing.{rising_filter}
use Rattle.span_machine.specs.Slots.{root_code}
use Rattle.span_machine_laws.proofs.Locality.{IsRoot}

-- ---- root tables

-- a root table's root table is itself
pub root_again : (tables : List Table) (i : ℕ) → get_or (path_at tables (get_or (path_at tables i) 0 0 - 1)) 0 0 ≡ get_or (path_at tables i) 0 0
root_again tables = by_parents tables (λ i. get_or (path_at tables (get_or (path_at tables i) 0 0 - 1)) 0 0 ≡ get_or (path_at tables i) 0 0) (λ i again. of_parent i again (parent_at tables i) refl)
  where
    of_parent : (i : ℕ) → ((p : ℕ) → parent_at tables i ≡ Some p → get_or (path_at tables (get_or (path_at tables p) 0 0 - 1)) 0 0 ≡ get_or (path_at tables p) 0 0) → (o : Option ℕ) → parent_at tables i ≡ o
        → get_or (path_at tables (get_or (path_at tables i) 0 0 - 1)) 0 0 ≡ get_or (path_at tables i) 0 0
    of_parent i again None e =
        let own : get_or (path_at tables i) 0 0 ≡ i + 1 = ap (λ (ns : List ℕ). get_or ns 0 0) (path_root tables i e) in
        ap (λ (k : ℕ). get_or (path_at tables (k - 1)) 0 0) own ∙ ap (λ (k : ℕ). get_or (path_at tables k) 0 0) (add-sub_cancel i 1)
    of_parent i again (Some p) e =
        let same = root_child tables i p e in
        ap (λ (k : ℕ). get_or (path_at tables (k - 1)) 0 0) same ∙ again p e ∙ sym same

pub root_of_root : (tables : List Table) (n : ℕ) → root_of tables (root_of tables n) ≡ root_of tables n
root_of_root tables n = root_again tables (n - 1)

-- the coding of a key begins with the number of its root table
pub root_first : (tables : List Table) (n : ℕ) (vs : List Value) → (rest : List ℕ) × (key_code tables n vs ≡ root_of tables n ∷ rest)
root_first tables n vs = by_path (path_of tables n) refl
  where
    by_path : (ns : List ℕ) → path_of tables n ≡ ns → (rest : List ℕ) × (code_of tables (map (level_of tables vs) (path_of tables n)) ≡ slice_index (path_of tables n) 0 ∷ rest)
    by_path [] e = absurd (let bad : 0 < length (path_of tables n) = path_has tables (n - 1) in let none : length (path_of tables n) ≡ 0 = ap (λ (ns : List ℕ). length ns) e in omega arith)
    by_path (r ∷ ns) e = subst (λ (ms : List ℕ). (rest : List ℕ) × (code_of tables (map (level_of tables vs) ms) ≡ slice_index ms 0 ∷ rest)) (sym e) (_, refl)

next_first : (t : ℕ) → nat_cmp t (t + 1) ≡ Less
next_first t = let a : nat_lt t (t + 1) ≡ true = grind (arith, nat_tests) in rw a refl

-- what begins with the number of a root table is within the family's range
pub first_within : (t : ℕ) (rest : List ℕ) → is_within (family t) (t ∷ rest) ≡ true
first_within t rest = both (is_lt (ordering_then (nat_cmp t t) (slice_cmp nat_cmp rest []))) (is_lt (ordering_then (nat_cmp t (t + 1)) (slice_cmp nat_cmp rest []))) (low rest) (ap (λ (o : Ordering). is_lt (ordering_then o (slice_cmp nat_cmp rest []))) (next_first t))
  where
    both : (a b : Bool) → a ≡ false → b ≡ true → (not a && b) ≡ true
    both false b e f = f
    both true b e f = absurd (cc)

    low : (rest : List ℕ) → is_lt (ordering_then (nat_cmp t t) (slice_cmp nat_cmp rest [])) ≡ false
    low [] = ap (λ (o : Ordering). is_lt (ordering_then o Equal)) (number_equal t t refl)
    low (r ∷ rs) = ap (λ (o : Ordering). is_lt (ordering_then o Greater)) (number_equal t t refl)

-- the root rows of a family are within its range
pub family_has : (schema : List Table) (n : ℕ) (root : Root) → root.table ≡ root_of schema n → is_within (family (root_of schema n)) (root_code schema root) ≡ true
unfolding root_code
family_has schema n root of =
    let first = root_first schema root.table root.key in
    let own : root_of schema root.table ≡ root_of schema n = ap (root_of schema) of ∙ root_of_root schema n in
    let code : key_code schema root.table root.key ≡ root_of schema n ∷ first.0 = first.1 ∙ ap (λ (k : ℕ). k ∷ first.0) own in
    subst (λ (key : List ℕ). is_within (family (root_of schema n)) key ≡ true) (sym code) (first_within (root_of schema n) first.0)

-- what holds of a key that is within any of the pieces holds of a key of the range that they tile
pub tiles_have : (Q : Type 0) (range : KeyRange) (cs : List KeyRange) (key : List ℕ) → tiles range cs ≡ true → is_within range key ≡ true → AllByRecursion (λ (c : KeyRange). is_within c key ≡ true → Q) cs → Q
tiles_have Q range [] key e within all = absurd (let none : is_within range key ≡ false = tiles_none range key e in let bad : true ≡ false = sym within ∙ none in cc)
tiles_have Q range (c ∷ cs) key e within all =
    let parts = tiles_split range c cs e in
    elim (or_cases (is_within c key) (is_within (rest_after c range) key) (sym (parts.0.within key) ∙ within)) [
      | inl here ↦ all.0 here
      | inr later ↦ tiles_have Q (rest_after c range) cs key parts.1 later all.1
    ]

-- ---- the rows of a family

abbrev of_family : List Table → ℕ → TableRow → Bool
of_family schema t r = root_of schema r.table == t

pub filter_none : (p q : TableRow → Bool) → ((x : TableRow) → q x ≡ true → p x ≡ false) → (xs : List TableRow) → filter p (filter q xs) ≡ []
filter_none p q apart [] = refl
filter_none p q apart (x ∷ xs) = elim (q x) as (λ b. q x ≡ b → filter p (cond b (x ∷ filter q xs) (filter q xs)) ≡ []) [
  | true ↦ λ e. ap (λ b. cond b (x ∷ filter p (filter q xs)) (filter p (filter q xs))) (apart x e) ∙ filter_none p q apart xs
  | false ↦ λ e. filter_none p q apart xs
] refl

module _ (schema : List Table) (rules : MeetsRules schema) (t : ℕ) where
  family_database : (db : List TableRow) → IsDatabase schema db → IsDatabase schema (filter (of_family schema t) db)
  family_database db is = (rising_filter (rows_cmp schema) (of_family schema t) db is.0, all_filter (λ (r : TableRow). IsKeyed schema r.table r.key) (of_family schema t) db is.1)

  -- a directory of the family is whole in the family's rows
  own_directory : (root : Root) (db : List TableRow) → root.table ≡ t → directory schema root (filter (of_family schema t) db) ≡ directory schema root db
  own_directory root db is = filter_within (λ (r : TableRow). is_in_directory schema root r.table r.key) (of_family schema t) within db
    where
      within : (r : TableRow) → is_in_directory schema root r.table r.key ≡ true → of_family schema t r ≡ true
      within r e = subst (λ (k : ℕ). (root_of schema r.table == k) ≡ true) is (and_parts (root_of schema r.table == root.table) (begins root.key r.key) e).0

  -- and another is not there
  other_directory : (root : Root) (db : List TableRow) → (root.table == t) ≡ false → directory schema root (filter (of_family schema t) db) ≡ []
  other_directory root db off = filter_none (λ (r : TableRow). is_in_directory schema root r.table r.key) (of_family schema t) apart db
    where
      swapped : (a b c : ℕ) → (c == b) ≡ false → (a == b) ≡ true → (a == c) ≡ false
      swapped a b c e f = grind (arith, nat_tests)

      apart : (r : TableRow) → of_family schema t r ≡ true → is_in_directory schema root r.table r.key ≡ false
      apart r e = and_left (root_of schema r.table == root.table) (begins root.key r.key) (swapped (root_of schema r.table) t root.table off e)

  -- databases with the same directories in the family have the same rows of it
  same_family : (a b : List TableRow) → IsDatabase schema a → IsDatabase schema b → ((root : Root) → IsRoot schema root → root.table ≡ t → directory schema root a ≡ directory schema root b) → filter (of_family schema t) a ≡ filter (of_family schema t) b
  same_family a b is_a is_b same = one_database schema rules (filter (of_family schema t) a) (filter (of_family schema t) b) (family_database a is_a) (family_database b is_b) directories
    where
      directories : (root : Root) → IsKeyed schema root.table root.key → directory schema root (filter (of_family schema t) a) ≡ directory schema root (filter (of_family schema t) b)
      directories root is = elim (root.table == t) as (λ v. (root.table == t) ≡ v → directory schema root (filter (of_family schema t) a) ≡ directory schema root (filter (of_family schema t) b)) [
        | true ↦ λ e. let own : root.table ≡ t = eqb-true root.table t e in own_directory root a own ∙ same root is own ∙ sym (own_directory root b own)
        | false ↦ λ e. other_directory root a e ∙ sym (other_directory root b e)
      ] refl

-- and so the same rows of each of its tables
pub same_rows : (schema : List Table) → MeetsRules schema → (n : ℕ) (a b : List TableRow) → IsDatabase schema a → IsDatabase schema b
    → ((root : Root) → IsRoot schema root → root.table ≡ root_of schema n → directory schema root a ≡ directory schema root b) → rows_of n a ≡ rows_of n b
same_rows schema rules n a b is_a is_b same =
    let within : (r : TableRow) → (r.table == n) ≡ true → of_family schema (root_of schema n) r ≡ true =
    λ r e. eq-eqb (root_of schema r.table) (root_of schema n) (ap (root_of schema) (eqb-true r.table n e)) in
    sym (filter_within (λ (r : TableRow). r.table == n) (of_family schema (root_of schema n)) within a)
    ∙ ap (filter (λ (r : TableRow). r.table == n)) (same_family schema rules (root_of schema n) a b is_a is_b same)
    ∙ filter_within (λ (r : TableRow). r.table == n) (of_family schema (root_of schema n)) within b
