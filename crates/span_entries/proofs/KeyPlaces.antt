-- The columns of a table's key: each has a place of its own, and they begin with those of the root table's key.
use Rattle.std.proofs.Common.{◌≡◌, ℕ, suc, ◌+◌, ◌-◌, ◌<◌, ◌==◌, Bool, true, false, ◌||◌, List, [], ◌∷◌, ◌++◌, Option, Some, None, is_none, refl, sym, ◌∙◌, ap, subst, arith, length, get_or, take, append_assoc, inl, inr, add-sub_cancel}
use Rattle.std.specs.Prelude.{slice_get}
use Rattle.std.specs.List.{AllByRecursion, cons_option}
use Rattle.std.specs.Option.{option_map}
use Rattle.std.proofs.lemmas.Bool.{or_parts}
use Rattle.std.proofs.lemmas.Bool.Decides.{nat_tests}
use Rattle.std.proofs.lemmas.List.{append-nil, get_or_append_left}
use Rattle.std.proofs.lemmas.List.Folds.{find_at}
use Rattle.std.proofs.lemmas.List.Quantifiers.{position-Some}
use Rattle.std.proofs.lemmas.Option.{cond_some, slice_get_cases}
use Rattle.std.specs.Str.{str_to_ascii_lowercase}
use Rattle.std.proofs.lemmas.Slice.Eq.{bytes_eq-Decides}
use Rattle.span_value.specs.declared.value.ColumnType.{ColumnType}
use Rattle.span_schema.specs.declared.table.Table.{Table}
use Rattle.span_schema.specs.declared.table.Column.{Column}
use Rattle.span_schema.specs.declared.table.KeyColumn.{KeyColumn}
use Rattle.span_schema.specs.declared.layout.KeyPart.{KeyPart}
use Rattle.span_schema.specs.Tables.{kind_of, is_same_name, is_key_name, column_place, type_named}
use Rattle.span_schema.specs.Rules.{has_repeated_column, has_repeated_key, has_unknown_key, has_bad_lengths}
use Rattle.span_schema.specs.Layouts as layout
use Rattle.span_schema.specs.Lineages.{parent_in, parent_at, path_at, MeetsRules}
use Rattle.span_schema.specs.Numbers.{IsTable, columns_in, key_in, key_at, own_key_at, own_key_columns, key_columns, key_places, columns_of, table_at, root_of}
use Rattle.span_schema.proofs.Judged.{passes_at}
use Rattle.span_schema.proofs.Paths.{parent_before}
use Rattle.span_schema.proofs.Numbered.{path_has, root_number}
use Rattle.span_schema.proofs.Names.{place_within}
use Rattle.span_keycode.proofs.Levels.{by_parents, key_split, key_root}
use Rattle.span_keycode.proofs.LevelLaws.{path_child, path_root}

-- ---- the places of named columns

-- a column that has a place has a type
typed_at : (cs : List Column) (name : List ℕ) (p : ℕ) → column_place cs name ≡ Some p → (type : ColumnType) × (type_named cs name ≡ Some type)
typed_at cs name p at = elim (slice_get_cases cs p).1 [
  | inl here ↦ (here.0.kind, found ∙ ap (option_map (λ (c : Column). c.kind)) here.2)
  | inr gone ↦ absurd (let within : p < length cs = place_within cs name p at in omega (arith, gone.0))
]
  where
    found : type_named cs name ≡ option_map (λ (c : Column). c.kind) (slice_get cs p)
    found = ap (option_map (λ (c : Column). c.kind)) (find_at (λ (c : Column). is_same_name c.name name) cs ∙ ap (slice_get cs) (cond_some _ _ _ at).1)

-- names that have one place are the same
one_name : (cs : List Column) (a b : List ℕ) (p : ℕ) → column_place cs a ≡ Some p → column_place cs b ≡ Some p → is_same_name a b ≡ true
one_name [] a b p at_a at_b = absurd (let e : None ≡ Some p = at_a in cc)
one_name (c ∷ cs) a b p at_a at_b =
    let d : Column = get_or (c ∷ cs) p c in
    let of_a : is_same_name d.name a ≡ true = (position-Some (λ (c : Column). is_same_name c.name a) (c ∷ cs) p c at_a).1 in
    let of_b : is_same_name d.name b ≡ true = (position-Some (λ (c : Column). is_same_name c.name b) (c ∷ cs) p c at_b).1 in
    (bytes_eq-Decides (str_to_ascii_lowercase a) (str_to_ascii_lowercase b)).1
    (sym ((bytes_eq-Decides (str_to_ascii_lowercase d.name) (str_to_ascii_lowercase a)).0 of_a) ∙ (bytes_eq-Decides (str_to_ascii_lowercase d.name) (str_to_ascii_lowercase b)).0 of_b)

-- ---- the columns of a key

-- each place is another than those after it
abbrev pub ArePlacesApart : List ℕ → Type 0
ArePlacesApart [] = Unit {0}
ArePlacesApart (p ∷ ps) = AllByRecursion (λ (q : ℕ). (p == q) ≡ false) ps × ArePlacesApart ps

-- each key column has a place and a type
pub record AreFound (cs : List Column) (ks : List KeyColumn) : Type 0 where
  pub places : length (layout.key_places cs ks) ≡ length ks
  pub parts : length (layout.key_parts cs ks) ≡ length ks

all_found : (cs : List Column) (ks : List KeyColumn) → has_unknown_key cs ks ≡ false → AreFound cs ks
all_found cs [] known = record { places = refl; parts = refl }
all_found cs (k ∷ ks) known =
    let both = or_parts (is_none (column_place cs k.name)) (has_unknown_key cs ks) known in
    of_place (column_place cs k.name) refl both.0 (all_found cs ks both.1)
  where
    of_type : (p : ℕ) → column_place cs k.name ≡ Some p → (type : ColumnType) → type_named cs k.name ≡ Some type → AreFound cs ks → AreFound cs (k ∷ ks)
    of_type p at type named rest = record {
      places = ap (λ (o : Option ℕ). length (cons_option o (layout.key_places cs ks))) at ∙ ap suc rest.places;
      parts = ap (λ (o : Option ColumnType). length (cons_option (option_map (λ (t : ColumnType). record { kind = kind_of t; desc = k.desc }) o) (layout.key_parts cs ks))) named ∙ ap suc rest.parts;
    }

    of_place : (o : Option ℕ) → column_place cs k.name ≡ o → is_none o ≡ false → AreFound cs ks → AreFound cs (k ∷ ks)
    of_place None at known rest = absurd (let e : true ≡ false = known in cc)
    of_place (Some p) at known rest = let typed = typed_at cs k.name p at in of_type p at typed.0 typed.1 rest

-- the places of later columns with other names are others
later_apart : (cs : List Column) (name : List ℕ) (p : ℕ) → column_place cs name ≡ Some p → (ks : List KeyColumn) → is_key_name ks name ≡ false → AllByRecursion (λ (q : ℕ). (p == q) ≡ false) (layout.key_places cs ks)
later_apart cs name p at [] other = tt {0}
later_apart cs name p at (k ∷ ks) other =
    let both = or_parts (is_same_name k.name name) (is_key_name ks name) other in
    of_place (column_place cs k.name) refl both.0 (later_apart cs name p at ks both.1)
  where
    differ : (q : ℕ) → column_place cs k.name ≡ Some q → is_same_name k.name name ≡ false → (b : Bool) → (p == q) ≡ b → b ≡ false
    differ q found off false is = refl
    differ q found off true is =
        let same : q ≡ p = grind (arith, nat_tests) in
        absurd (let bad : true ≡ false = sym (one_name cs k.name name p (found ∙ ap Some same) at) ∙ off in cc)

    of_place : (o : Option ℕ) → column_place cs k.name ≡ o → is_same_name k.name name ≡ false → AllByRecursion (λ (q : ℕ). (p == q) ≡ false) (layout.key_places cs ks)
        → AllByRecursion (λ (q : ℕ). (p == q) ≡ false) (cons_option o (layout.key_places cs ks))
    of_place None found off rest = rest
    of_place (Some q) found off rest = (differ q found off (p == q) refl, rest)

all_apart : (cs : List Column) (ks : List KeyColumn) → has_repeated_key ks ≡ false → ArePlacesApart (layout.key_places cs ks)
all_apart cs [] once = tt {0}
all_apart cs (k ∷ ks) once =
    let both = or_parts (is_key_name ks k.name) (has_repeated_key ks) once in
    of_place (column_place cs k.name) refl both.0 (all_apart cs ks both.1)
  where
    of_place : (o : Option ℕ) → column_place cs k.name ≡ o → is_key_name ks k.name ≡ false → ArePlacesApart (layout.key_places cs ks) → ArePlacesApart (cons_option o (layout.key_places cs ks))
    of_place None at once rest = rest
    of_place (Some p) at once rest = (later_apart cs k.name p at ks once, rest)

all_within : (cs : List Column) (ks : List KeyColumn) → AllByRecursion (λ (p : ℕ). p < length cs) (layout.key_places cs ks)
all_within cs [] = tt {0}
all_within cs (k ∷ ks) = of_place (column_place cs k.name) refl (all_within cs ks)
  where
    of_place : (o : Option ℕ) → column_place cs k.name ≡ o → AllByRecursion (λ (p : ℕ). p < length cs) (layout.key_places cs ks) → AllByRecursion (λ (p : ℕ). p < length cs) (cons_option o (layout.key_places cs ks))
    of_place None at rest = rest
    of_place (Some p) at rest = (place_within cs k.name p at, rest)

-- ---- the key of a table

-- the columns of a table's key have places in its rows
pub keyed : (schema : List Table) (t : ℕ) → AllByRecursion (λ (p : ℕ). p < length (columns_of schema t)) (key_places schema t)
keyed schema t = all_within (columns_of schema t) (key_in (table_at schema t))

-- a table's key has columns, each with a place of its own
pub record HasKeyColumns (schema : List Table) (t : ℕ) : Type 0 where
  pub some : 0 < length (key_columns schema t)
  pub placed : length (key_places schema t) ≡ length (key_columns schema t)
  pub apart : ArePlacesApart (key_places schema t)

pub has_key_columns : (schema : List Table) → MeetsRules schema → (t : ℕ) → t - 1 < length schema → HasKeyColumns schema t
has_key_columns schema rules t within = elim (slice_get_cases schema (t - 1)).1 [
  | inl here ↦ of_table here.0 here.2
  | inr gone ↦ absurd (omega (arith, within, gone.0))
]
  where
    some_key : (ks : List KeyColumn) → (length ks == 0) ≡ false → 0 < length ks
    some_key ks some = grind (arith, nat_tests)

    of_table : (table : Table) → slice_get schema (t - 1) ≡ Some table → HasKeyColumns schema t
    of_table table at =
        let a = or_parts (has_repeated_column table.columns || (length table.key == 0) || has_unknown_key table.columns table.key || has_repeated_key table.key) (has_bad_lengths table.columns) (passes_at schema rules (t - 1) table at).columns in
        let b = or_parts (has_repeated_column table.columns || (length table.key == 0) || has_unknown_key table.columns table.key) (has_repeated_key table.key) a.0 in
        let c = or_parts (has_repeated_column table.columns || (length table.key == 0)) (has_unknown_key table.columns table.key) b.0 in
        let d = or_parts (has_repeated_column table.columns) (length table.key == 0) c.0 in
        let found = all_found table.columns table.key c.1 in
        let long : 0 < length table.key = some_key table.key d.1 in
        let parts : length (key_columns schema t) ≡ length table.key = ap (λ (o : Option Table). length (layout.key_parts (columns_in o) (key_in o))) at ∙ found.parts in
        let places : length (key_places schema t) ≡ length table.key = ap (λ (o : Option Table). length (layout.key_places (columns_in o) (key_in o))) at ∙ found.places in
        record {
          some = omega arith;
          placed = places ∙ sym parts;
          apart = subst (λ (o : Option Table). ArePlacesApart (layout.key_places (columns_in o) (key_in o))) (sym at) (all_apart table.columns table.key b.1);
        }

-- ---- the key of the root table

-- the root table of the table at a place
abbrev pub root_place : List Table → ℕ → ℕ
root_place schema i = get_or (path_at schema i) 0 0

-- the root table has no parent, and the key of the table at a place begins with its key
pub record BeginsWithRoot (schema : List Table) (i : ℕ) : Type 0 where
  pub alone : parent_at schema (root_place schema i - 1) ≡ None
  pub rest : List KeyPart
  pub key : key_at schema i ≡ key_at schema (root_place schema i - 1) ++ rest

pub root_key_at : (schema : List Table) → MeetsRules schema → (i : ℕ) → i < length schema → BeginsWithRoot schema i
root_key_at schema rules = by_parents schema (λ i. i < length schema → BeginsWithRoot schema i) step
  where
    step : (i : ℕ) → ((p : ℕ) → parent_at schema i ≡ Some p → p < length schema → BeginsWithRoot schema p) → i < length schema → BeginsWithRoot schema i
    step i again h = by_case (parent_at schema i) refl
      where
        by_case : (o : Option ℕ) → parent_at schema i ≡ o → BeginsWithRoot schema i
        by_case None e =
            let here : root_place schema i - 1 ≡ i = ap (λ (ns : List ℕ). get_or ns 0 0 - 1) (path_root schema i e) ∙ add-sub_cancel i 1 in
            record {
              alone = ap (parent_at schema) here ∙ e;
              rest = [];
              key = sym (append-nil (key_at schema i)) ∙ ap (λ (j : ℕ). key_at schema j ++ []) (sym here);
            }
        by_case (Some p) e =
            let less : p < i = parent_before schema i p e in
            let up = again p e (omega arith) in
            let same : root_place schema i ≡ root_place schema p = ap (λ (ns : List ℕ). get_or ns 0 0) (path_child schema i p e) ∙ get_or_append_left (path_at schema p) ((i + 1) ∷ []) 0 0 (path_has schema p) in
            record {
              alone = ap (λ (j : ℕ). parent_at schema (j - 1)) same ∙ up.alone;
              rest = up.rest ++ own_key_at schema i;
              key = key_split schema rules i p h e ∙ ap (λ (l : List KeyPart). l ++ own_key_at schema i) up.key ∙ append_assoc (key_at schema (root_place schema p - 1)) up.rest (own_key_at schema i)
                  ∙ ap (λ (j : ℕ). key_at schema (j - 1) ++ (up.rest ++ own_key_at schema i)) (sym same);
            }

-- the key of a table begins with that of its root table, whose columns are all its own
pub record RootKey (schema : List Table) (t : ℕ) : Type 0 where
  pub root : IsTable schema (root_of schema t)
  pub own : own_key_columns schema (root_of schema t) ≡ key_columns schema (root_of schema t)
  pub rest : List KeyPart
  pub key : key_columns schema t ≡ key_columns schema (root_of schema t) ++ rest

pub root_key_of : (schema : List Table) → MeetsRules schema → (t : ℕ) → t - 1 < length schema → RootKey schema t
root_key_of schema rules t within =
    let begins = root_key_at schema rules (t - 1) within in
    record {
      root = root_number schema (t - 1) within;
      own = key_root schema (root_of schema t - 1) begins.alone;
      rest = begins.rest;
      key = begins.key;
    }

-- the number of no table has itself as its root table
pub root_within : (schema : List Table) (t : ℕ) → IsTable schema (root_of schema t) → t - 1 < length schema
root_within schema t root = elim (slice_get_cases schema (t - 1)).1 [
  | inl here ↦ here.1
  | inr gone ↦ absurd (
      let alone : parent_at schema (t - 1) ≡ None = ap (parent_in (take (t - 1) schema)) gone.1 in
      let own : root_of schema t ≡ t - 1 + 1 = ap (λ (ns : List ℕ). get_or ns 0 0) (path_root schema (t - 1) alone) in
      omega (arith, own, root.1, gone.0))
]
