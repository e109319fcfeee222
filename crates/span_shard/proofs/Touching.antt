-- A coded key is in a touched directory where its row is.
use Rattle.std.proofs.Common.{◌≡◌, ℕ, ◌+◌, ◌-◌, Bool, true, false, ◌==◌, ◌||◌, List, [], ◌∷◌, ◌++◌, Option, None, length, map, take, drop, refl, sym, ap, subst, ◌∙◌, arith}
use Rattle.std.specs.Prelude.{slice_index}
use Rattle.std.proofs.Math.Seq.{take-append_seam}
use Rattle.span_value.specs.declared.value.Value.{Value}
use Rattle.span_schema.specs.declared.table.Table.{Table}
use Rattle.span_schema.specs.declared.layout.KeyPart.{KeyPart}
use Rattle.span_schema.specs.Lineages.{parent_at, path_at, MeetsRules}
use Rattle.span_schema.specs.Numbers.{key_columns, own_key_columns, columns_above, path_of, root_of}
use Rattle.span_keycode.specs.Coding.{AreFit, tuple_code}
use Rattle.span_keycode.specs.Keys.{own_values, level_of, code_of as bytes_of, key_code, IsKey}
use Rattle.span_keycode.proofs.Levels.{key_root}
use Rattle.span_keycode.proofs.LevelLaws.{path_root, fit_length}
use Rattle.span_keycode.proofs.Going.{levels_on, code_some}
use Rattle.span_keycode.proofs.KeyReading.{no_number}
use Rattle.span_keycode.proofs.KeyLaws.{begins_own_rows}
use Rattle.span_keycode.proofs.RootRows.{root_split}
use Rattle.span_mutate.specs.declared.mutation.CheckedMutation.{CheckedMutation}
use Rattle.span_mutate.specs.Rows.{begins}
use Rattle.span_mutate.specs.Directories.{is_in_directory, root_row, key_len, IsKeyed, AreKeyed}
use Rattle.span_mutate.specs.Touched as rows
use Rattle.span_mutate.specs.Typed.{AreTypedMutations}
use Rattle.span_mutate.proofs.Begins.{taken_begins, front_taken}
use Rattle.std.proofs.lemmas.Bool.{and_from, and_parts, eqb-true, eq-eqb}
use Rattle.span_mutate.proofs.ByRoots.{root_keyed}
use Rattle.span_maderows.specs.Made.{begins_with}
use Rattle.span_maderows.proofs.Bytes.{begins_front, front_begins}
use Rattle.span_shard.specs.Rows.{root_code, is_touched}

-- the key of the root row of a key, and its table
pub record RootOf (tables : List Table) (n : ℕ) (vs : List Value) : Type 0 where
  pub is : IsKey tables (root_of tables n) (take (key_len tables (root_of tables n)) vs)
  pub own : root_of tables (root_of tables n) ≡ root_of tables n
  pub path : (ms : List ℕ) → slice_index (path_of tables (root_of tables n) ++ ms) 0 ≡ root_of tables n

pub root_key : (tables : List Table) → MeetsRules tables → (n : ℕ) (vs : List Value) → IsKey tables n vs → RootOf tables n vs
root_key tables rules n vs k = by_path (path_at tables (n - 1)) refl
  where
    by_path : (ns : List ℕ) → path_at tables (n - 1) ≡ ns → RootOf tables n vs
    by_path [] e = absurd (code_some tables n vs (sym (ap (λ (ms : List ℕ). bytes_of tables (map (level_of tables vs) ms)) e)))
    by_path (r ∷ ns) e =
        let known = levels_on tables rules n vs k (r ∷ ns) e in
        let alone : parent_at tables (r - 1) ≡ None = no_number (parent_at tables (r - 1)) known.1.1 in
        let K = length (key_columns tables r) in
        let own : own_values tables r vs ≡ take K vs = ap (λ (o : Option ℕ). drop (columns_above tables o) (take K vs)) alone in
        let P : List Value → Type 0 = λ us. AreFit (own_key_columns tables r) us in
        let Q : List KeyPart → Type 0 = λ cs. AreFit cs (take K vs) in
        let whole = subst Q (key_root tables (r - 1) alone) (subst P own known.0.0) in
        let named : root_of tables n ≡ r = ap (λ (ms : List ℕ). slice_index ms 0) e in
        let number : r - 1 + 1 ≡ r = omega (arith, known.1.0.0) in
        let path : path_of tables r ≡ (r - 1 + 1) ∷ [] = path_root tables (r - 1) alone in
        let R : ℕ → Type 0 = λ m. IsKey tables m (take (key_len tables m) vs) in
        record {
          is = subst R (sym named) (known.1.0, whole);
          own = ap (root_of tables) named ∙ ap (λ (ms : List ℕ). slice_index ms 0) path ∙ number ∙ sym named;
          path = λ ms. ap (λ (m : ℕ). slice_index (path_of tables m ++ ms) 0) named ∙ ap (λ (ns : List ℕ). slice_index (ns ++ ms) 0) path ∙ number ∙ sym named;
        }

pub same_truth : (a b : Bool) → (a ≡ true → b ≡ true) → (b ≡ true → a ≡ true) → a ≡ b
same_truth true b f g = sym (f refl)
same_truth false true f g = g refl
same_truth false false f g = refl

-- in bytes and in rows, one mutation
pub touched_by : (tables : List Table) → MeetsRules tables → (m : CheckedMutation) → IsKey tables m.table m.key → (n : ℕ) (vs : List Value) → IsKey tables n vs
    → begins_with (key_code tables n vs) (root_code tables m) ≡ is_in_directory tables (root_row tables m.table m.key) n vs
touched_by tables rules m mk n vs k = same_truth (begins_with (key_code tables n vs) (root_code tables m)) (is_in_directory tables (root_row tables m.table m.key) n vs) there back_again
  where
    there : begins_with (key_code tables n vs) (root_code tables m) ≡ true → is_in_directory tables (root_row tables m.table m.key) n vs ≡ true
    there e =
        let root = root_key tables rules m.table m.key mk in
        let us = take (key_len tables (root_of tables m.table)) m.key in
        let at = (begins_own_rows tables rules (root_of tables m.table) n us vs root.is k).0 (drop (length (root_code tables m)) (key_code tables n vs), sym (begins_front (key_code tables n vs) (root_code tables m) e)) in
        let named : root_of tables n ≡ root_of tables m.table = ap (λ (ns : List ℕ). slice_index ns 0) at.path ∙ root.path at.tables_below in
        and_from _ _ (eq-eqb (root_of tables n) (root_of tables m.table) named)
        (ap (begins us) at.values ∙ ap (λ (ws : List Value). begins ws (us ++ at.values_below)) (sym (take-append_seam us at.values_below)) ∙ taken_begins (us ++ at.values_below) (length us))

    back_again : is_in_directory tables (root_row tables m.table m.key) n vs ≡ true → begins_with (key_code tables n vs) (root_code tables m) ≡ true
    back_again e =
        let parts = and_parts (root_of tables n == root_of tables m.table) (begins (root_row tables m.table m.key).key vs) e in
        let named : root_of tables n ≡ root_of tables m.table = eqb-true (root_of tables n) (root_of tables m.table) parts.0 in
        let keyed : IsKeyed tables m.table m.key = (mk.0, sym (fit_length (key_columns tables m.table) m.key mk.1)) in
        let len : length (root_row tables m.table m.key).key ≡ key_len tables (root_of tables m.table) = root_keyed tables rules m.table m.key keyed in
        let taken : (root_row tables m.table m.key).key ≡ take (key_len tables (root_of tables m.table)) vs = front_taken (root_row tables m.table m.key).key vs parts.1 ∙ ap (λ (j : ℕ). take j vs) len in
        let split = root_split tables rules n vs k in
        let front : root_code tables m ≡ split.root ∷ tuple_code (own_key_columns tables split.root) (own_values tables split.root vs) =
        ap (key_code tables (root_of tables m.table)) taken ∙ ap (λ (t : ℕ). key_code tables t (take (key_len tables t) vs)) (sym named ∙ split.named) ∙ split.prefix in
        ap (begins_with (key_code tables n vs)) front
        ∙ ap (λ (bs : List ℕ). begins_with bs (split.root ∷ tuple_code (own_key_columns tables split.root) (own_values tables split.root vs))) split.code
        ∙ front_begins (split.root ∷ tuple_code (own_key_columns tables split.root) (own_values tables split.root vs)) split.more

pub touched_code : (tables : List Table) → MeetsRules tables → (ms : List CheckedMutation) → AreTypedMutations tables ms → (n : ℕ) (vs : List Value) → IsKey tables n vs
    → is_touched tables ms (key_code tables n vs) ≡ rows.is_touched tables ms n vs
touched_code tables rules [] typed n vs k = refl
touched_code tables rules (m ∷ ms) typed n vs k =
    ap (λ (b : Bool). b || is_touched tables ms (key_code tables n vs)) (touched_by tables rules m typed.0.0.0 n vs k)
    ∙ ap (λ (b : Bool). is_in_directory tables (root_row tables m.table m.key) n vs || b) (touched_code tables rules ms typed.1 n vs k)

-- typed mutations have whole keys
pub typed_keyed : (tables : List Table) (ms : List CheckedMutation) → AreTypedMutations tables ms → AreKeyed tables ms
typed_keyed tables [] h = tt
typed_keyed tables (m ∷ ms) h = ((h.0.0.0.0, sym (fit_length (key_columns tables m.table) m.key h.0.0.0.1)), typed_keyed tables ms h.1)
