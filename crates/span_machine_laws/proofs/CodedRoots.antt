-- The root row of a key that has a coding has one too, with which that of the key begins.
use Rattle.std.proofs.Common.{◌≡◌, ℕ, ◌+◌, ◌-◌, ◌<◌, ◌≤◌, List, [], ◌∷◌, ◌++◌, None, length, take, drop, get_or, refl, ap, sym, ◌∙◌, subst, arith}
use Rattle.std.proofs.lemmas.List.{take-append-drop, length-append}
use Rattle.span_value.specs.declared.value.Value.{Value}
use Rattle.span_schema.specs.declared.table.Table.{Table}
use Rattle.span_schema.specs.Lineages.{parent_at, MeetsRules}
use Rattle.span_schema.specs.Numbers.{IsTable, key_at, root_of, path_of}
use Rattle.span_schema.proofs.Numbered.{path_has}
use Rattle.span_keycode.specs.Coding.{AreFit}
use Rattle.span_keycode.specs.Keys.{IsKey, key_code}
use Rattle.span_keycode.specs.Laws.{IsAtOrBelow}
use Rattle.span_keycode.specs.Limits.{longest_key}
use Rattle.span_keycode.proofs.LevelLaws.{fit_split, path_root}
use Rattle.span_keycode.proofs.KeyLaws.{begins_own_rows}
use Rattle.span_mutate.specs.Directories.{root_row, key_len}
use Rattle.span_mutate.proofs.Families.{root_is_table}
use Rattle.span_machine.specs.Slots.{IsCodedRoot}
use Rattle.span_entries.proofs.KeyPlaces.{root_place, root_key_at}

-- the root table has no parent, and its columns fit the front of the key
pub root_fits : (schema : List Table) → MeetsRules schema → (i : ℕ) → i < length schema → (vs : List Value) → AreFit (key_at schema i) vs
    → (parent_at schema (root_place schema i - 1) ≡ None) × AreFit (key_at schema (root_place schema i - 1)) (take (length (key_at schema (root_place schema i - 1))) vs)
root_fits schema rules i within vs fit =
    let begins = root_key_at schema rules i within in
    (begins.alone, (fit_split (key_at schema (root_place schema i - 1)) begins.rest vs (subst (λ cs. AreFit cs vs) begins.key fit)).0)

pub first_and_rest : (ns : List ℕ) → 0 < length ns → ns ≡ get_or ns 0 0 ∷ drop 1 ns
first_and_rest [] h = absurd (let less : 0 < 0 = h in omega arith)
first_and_rest (n ∷ ns) h = refl

-- the root row of a key that has a coding has one, which is the front of it
pub coded_root_of : (schema : List Table) → MeetsRules schema → (n : ℕ) (key : List Value) → IsKey schema n key → length (key_code schema n key) ≤ longest_key
    → IsCodedRoot schema (root_row schema n key) × ((rest : List ℕ) × (key_code schema n key ≡ key_code schema (root_row schema n key).table (root_row schema n key).key ++ rest))
coded_root_of schema rules n key is_key most =
    let is : IsTable schema n = is_key.0 in
    let fits = root_fits schema rules (n - 1) (omega arith) key is_key.1 in
    let root_is : IsTable schema (root_of schema n) = root_is_table schema n is in
    let path : path_of schema (root_of schema n) ≡ root_of schema n ∷ [] =
    path_root schema (root_of schema n - 1) fits.0 ∙ ap (λ (j : ℕ). j ∷ []) (let up = root_is.0 in omega arith) in
    let root_key : IsKey schema (root_of schema n) (take (key_len schema (root_of schema n)) key) = (root_is, fits.1) in
    let below : IsAtOrBelow schema (root_of schema n) (take (key_len schema (root_of schema n)) key) n key = record {
      tables_below = drop 1 (path_of schema n);
      path = first_and_rest (path_of schema n) (path_has schema (n - 1)) ∙ ap (λ (ns : List ℕ). ns ++ drop 1 (path_of schema n)) (sym path);
      values_below = drop (key_len schema (root_of schema n)) key;
      values = sym (take-append-drop (key_len schema (root_of schema n)) key);
    } in
    let more = (begins_own_rows schema rules (root_of schema n) n (take (key_len schema (root_of schema n)) key) key root_key is_key).1 below in
    let sum : length (key_code schema n key) ≡ length (key_code schema (root_of schema n) (take (key_len schema (root_of schema n)) key)) + length more.0 = ap length more.1 ∙ length-append _ _ in
    ((ap (λ (ns : List ℕ). get_or ns 0 0) path, (root_key, omega (arith, most, sum))), more)
