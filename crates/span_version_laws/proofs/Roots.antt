-- Root rows whose keys have codings, and the keys in their directories.
use Rattle.std.proofs.Common.{◌≡◌, ℕ, ◌-◌, Bool, true, false, cond, ◌==◌, List, [], ◌∷◌, ◌++◌, Option, Some, None, length, drop, get_or, refl, ap, sym, ◌∙◌, subst}
use Rattle.std.specs.Prelude.{find}
use Rattle.std.specs.Option.{option_map}
use Rattle.span_schema.specs.declared.table.Table.{Table}
use Rattle.span_schema.specs.Lineages.{MeetsRules}
use Rattle.span_schema.specs.Numbers.{root_of, path_of}
use Rattle.span_schema.proofs.Numbered.{path_has}
use Rattle.span_keycode.specs.Keys.{key_code}
use Rattle.span_keycode.specs.Laws.{IsAtOrBelow}
use Rattle.span_keycode.proofs.KeyLaws.{begins_own_rows}
use Rattle.span_mutate.specs.declared.mutation.CheckedMutation.{CheckedMutation}
use Rattle.span_mutate.specs.declared.row.TableRow.{TableRow}
use Rattle.span_mutate.specs.Rows.{begins}
use Rattle.span_mutate.specs.Directories.{Root, is_in_directory, root_row, directory}
use Rattle.span_mutate.specs.Typed.{IsTyped, AreTyped, IsTypedMutation}
use Rattle.std.proofs.lemmas.Bool.{and_from, eq-eqb}
use Rattle.std.proofs.lemmas.List.{get_or_append_left}
use Rattle.span_keycode.proofs.Order.{same_bytes}
use Rattle.span_mutate.proofs.Filters.{filter_yes, filter_no}
use Rattle.span_maderows.specs.Made.{begins_with}
use Rattle.span_maderows.proofs.Bytes.{begins_front, front_begins}
use Rattle.span_shard.specs.Rows.{code_of, is_coded, row_coded}
use Rattle.span_shard.proofs.Under.{begins_more}
use Rattle.span_machine.specs.Machine.{root_at}
use Rattle.span_machine_laws.proofs.CodedRoots.{coded_root_of}
use Rattle.span_machine_laws.proofs.Locality.{IsRoot}
use Rattle.span_rowcode.specs.Rows.{row_code}
use Rattle.span_machine_laws.proofs.Lists.{all_found, found_passes}
use Rattle.span_machine_laws.proofs.Schemas.{keyed_of}
use Rattle.span_version_laws.specs.Kept.{IsCodedRoot, IsCodedCoding, is_under}

pub coded_root : (schema : List Table) (root : Root) → IsCodedRoot schema root → IsRoot schema root
coded_root schema root is = keyed_of schema root.table root.key is.1

-- ---- what is in a directory

-- a row whose coding begins with that of the root row is in its directory
pub in_directory : (schema : List Table) → MeetsRules schema → (root : Root) → IsCodedRoot schema root → (r : TableRow) → IsTyped schema r → begins_with (code_of schema r) (key_code schema root.table root.key) ≡ true
    → is_in_directory schema root r.table r.key ≡ true
in_directory schema rules root is r typed front =
    let rest : List ℕ = drop (length (key_code schema root.table root.key)) (code_of schema r) in
    let whole : code_of schema r ≡ key_code schema root.table root.key ++ rest = sym (begins_front (code_of schema r) (key_code schema root.table root.key) front) in
    let b : IsAtOrBelow schema root.table root.key r.table r.key = (begins_own_rows schema rules root.table r.table root.key r.key is.1.0 typed.0.0).0 (rest, whole) in
    let same_root : root_of schema r.table ≡ root.table =
    ap (λ (ns : List ℕ). get_or ns 0 0) b.path ∙ get_or_append_left (path_of schema root.table) b.tables_below 0 0 (path_has schema (root.table - 1)) ∙ is.0 in
    and_from (root_of schema r.table == root.table) (begins root.key r.key) (eq-eqb (root_of schema r.table) root.table same_root) (ap (begins root.key) b.values ∙ begins_more root.key b.values_below)

-- the row at a key of the directory is found in the directory
pub find_in_directory : (schema : List Table) → MeetsRules schema → (root : Root) → IsCodedRoot schema root → (k : List ℕ) → is_under schema root k ≡ true → (db : List TableRow) → AreTyped schema db
    → find (is_coded schema k) (directory schema root db) ≡ find (is_coded schema k) db
find_in_directory schema rules root is k under [] typed = refl
find_in_directory schema rules root is k under (r ∷ db) typed = cases (is_in_directory schema root r.table r.key) (is_coded schema k r) refl refl (find_in_directory schema rules root is k under db typed.1)
  where
    of_root : TableRow → Bool
    of_root = λ (q : TableRow). is_in_directory schema root q.table q.key

    cases : (a b : Bool) → is_in_directory schema root r.table r.key ≡ a → is_coded schema k r ≡ b → find (is_coded schema k) (directory schema root db) ≡ find (is_coded schema k) db
        → find (is_coded schema k) (directory schema root (r ∷ db)) ≡ find (is_coded schema k) (r ∷ db)
    cases true b e f again = ap (find (is_coded schema k)) (filter_yes of_root r db e) ∙ ap (λ (o : Option TableRow). cond (is_coded schema k r) (Some r) o) again
    cases false true e f again =
        let here : begins_with (code_of schema r) (key_code schema root.table root.key) ≡ true = subst (λ (l : List ℕ). begins_with l (key_code schema root.table root.key) ≡ true) (same_bytes k (code_of schema r) f) under in
        absurd (let g : true ≡ false = sym (in_directory schema rules root is r typed.0 here) ∙ e in cc)
    cases false false e f again = ap (find (is_coded schema k)) (filter_no of_root r db e) ∙ again ∙ sym (ap (λ (b : Bool). cond b (Some r) (find (is_coded schema k) db)) f)

pub coded_in_directory : (schema : List Table) → MeetsRules schema → (root : Root) → IsCodedRoot schema root → (k : List ℕ) → is_under schema root k ≡ true → (db : List TableRow) → AreTyped schema db
    → row_coded schema (directory schema root db) k ≡ row_coded schema db k
coded_in_directory schema rules root is k under db typed = ap (option_map _) (find_in_directory schema rules root is k under db typed)

-- ---- the root row of a key

-- the root row of a typed mutation's directory has a coding
pub coded_root_at : (schema : List Table) → MeetsRules schema → (m : CheckedMutation) → IsTypedMutation schema m → IsCodedRoot schema (root_at schema m)
coded_root_at schema rules m typed = (coded_root_of schema rules m.table m.key typed.0.0 typed.0.1).0

-- the coding of a key is under its root row
pub root_of_coding : (schema : List Table) → MeetsRules schema → (k : List ℕ) → IsCodedCoding schema k → (root : Root) × IsCodedRoot schema root × (is_under schema root k ≡ true)
root_of_coding schema rules k coding =
    let of_key = coded_root_of schema rules coding.is.table coding.is.values coding.is.is coding.short in
    (root_row schema coding.is.table coding.is.values, of_key.0, subst (λ (l : List ℕ). is_under schema (root_row schema coding.is.table coding.is.values) l ≡ true) (sym (coding.is.code ∙ of_key.1.1)) (front_begins (key_code schema (root_row schema coding.is.table coding.is.values).table (root_row schema coding.is.table coding.is.values).key) of_key.1.0))

-- a key where a typed database has a row is the coding of a key
pub coding_of_row : (schema : List Table) (k : List ℕ) (db : List TableRow) (row : List ℕ) → AreTyped schema db → row_coded schema db k ≡ Some row → IsCodedCoding schema k
coding_of_row schema k db row typed e = by_find (find (is_coded schema k) db) refl
  where
    by_find : (o : Option TableRow) → find (is_coded schema k) db ≡ o → IsCodedCoding schema k
    by_find None f = absurd (let none : row_coded schema db k ≡ None = ap (option_map (λ (r : TableRow). row_code r.cells)) f in cc)
    by_find (Some r) f =
        let is_typed = all_found (IsTyped schema) (is_coded schema k) db r f typed in
        record {
          is = record { table = r.table; values = r.key; is = is_typed.0.0; code = same_bytes k (code_of schema r) (found_passes (is_coded schema k) db r f) };
          short = is_typed.0.1;
        }
