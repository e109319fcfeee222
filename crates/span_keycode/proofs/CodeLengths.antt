-- How long the coding of a key is: a byte for each level, and its values.
use Rattle.std.proofs.Common.{◌≡◌, ℕ, zero, suc, ◌+◌, ◌<◌, List, [], ◌∷◌, ◌++◌, Option, Some, None, refl, sym, ◌∙◌, ap, arith, length, take, drop, length-append}
use Rattle.std.proofs.lemmas.List.{length-take, length-drop}
use Rattle.span_value.specs.declared.value.Value.{Value}
use Rattle.span_schema.specs.declared.table.Table.{Table}
use Rattle.span_schema.specs.declared.layout.KeyPart.{KeyPart}
use Rattle.span_schema.specs.Lineages.{parent_at, path_at, MeetsRules}
use Rattle.span_schema.specs.Numbers.{key_at, own_key_at}
use Rattle.span_schema.proofs.Paths.{parent_before}
use Rattle.span_keycode.specs.Coding.{plain, column_code, tuple_code}
use Rattle.span_keycode.specs.Keys.{Level, values_len, own_values_at, level_of, level_code, code_of}
use Rattle.span_keycode.proofs.Levels.{by_parents, key_split, key_root, levels_at}
use Rattle.span_keycode.proofs.LevelLaws.{code_append, path_child, path_root, levels_child, levels_root, own_child, own_root, level_here}
use Rattle.span_keycode.proofs.Lengths.{length_directed}

tuple_len : (cs : List KeyPart) (vs : List Value) → length cs ≡ length vs → length (tuple_code cs vs) ≡ values_len vs
tuple_len [] [] e = refl
tuple_len [] (v ∷ vs) e = absurd (let f : 0 ≡ suc (length vs) = e in omega arith)
tuple_len (c ∷ cs) [] e = absurd (let f : suc (length cs) ≡ 0 = e in omega arith)
tuple_len (c ∷ cs) (v ∷ vs) e =
    let same : length cs ≡ length vs = (let f : suc (length cs) ≡ suc (length vs) = e in omega arith) in
    omega (arith, length-append (column_code c v) (tuple_code cs vs), length_directed c.desc (plain v), tuple_len cs vs same)

pub values_split : (k : ℕ) (vs : List Value) → values_len (take k vs) + values_len (drop k vs) ≡ values_len vs
values_split zero vs = omega arith
values_split (suc k) [] = omega arith
values_split (suc k) (v ∷ vs) = omega (arith, values_split k vs)

last_level : (tables : List Table) (ls : List Level) (l : Level) → length (code_of tables (ls ++ l ∷ [])) ≡ length (code_of tables ls) + length (level_code tables l)
last_level tables ls l = omega (arith, ap (length {A = ℕ}) (code_append tables ls (l ∷ [])), length-append (code_of tables ls) (level_code tables l ++ []), length-append (level_code tables l) [])

-- the level of a table at a place: its number, and its own values
level_len : (tables : List Table) (i : ℕ) (vs own : List Value) → own_values_at tables i vs ≡ own → length (own_key_at tables i) ≡ length own
    → length (level_code tables (level_of tables vs (i + 1))) ≡ 1 + values_len own
level_len tables i vs own e len =
    let here = ap (length {A = ℕ}) (level_here tables i vs ∙ ap (λ (ws : List Value). (i + 1) ∷ tuple_code (own_key_at tables i) ws) e) in
    omega (arith, here, tuple_len (own_key_at tables i) own len)

pub key_len : (tables : List Table) → MeetsRules tables → (i : ℕ) → i < length tables → (vs : List Value) → length (key_at tables i) ≡ length vs
    → length (code_of tables (levels_at tables i vs)) ≡ length (path_at tables i) + values_len vs
key_len tables rules = by_parents tables (λ i. i < length tables → (vs : List Value) → length (key_at tables i) ≡ length vs
    → length (code_of tables (levels_at tables i vs)) ≡ length (path_at tables i) + values_len vs) step
  where
    step : (i : ℕ) → ((p : ℕ) → parent_at tables i ≡ Some p → p < length tables → (vs : List Value) → length (key_at tables p) ≡ length vs
        → length (code_of tables (levels_at tables p vs)) ≡ length (path_at tables p) + values_len vs)
        → i < length tables → (vs : List Value) → length (key_at tables i) ≡ length vs → length (code_of tables (levels_at tables i vs)) ≡ length (path_at tables i) + values_len vs
    step i again h vs len = by_parent (parent_at tables i) refl
      where
        by_parent : (o : Option ℕ) → parent_at tables i ≡ o → length (code_of tables (levels_at tables i vs)) ≡ length (path_at tables i) + values_len vs
        by_parent None e =
            let own : length (own_key_at tables i) ≡ length vs = ap (length {A = KeyPart}) (key_root tables i e) ∙ len in
            let level = level_len tables i vs vs (own_root tables i e vs (sym len)) own in
            omega (arith, ap (λ (ls : List Level). length (code_of tables ls)) (levels_root tables i e vs), last_level tables [] (level_of tables vs (i + 1)), level, ap (length {A = ℕ}) (path_root tables i e))
        by_parent (Some p) e =
            let most = length (key_at tables p) in
            let less : p < i = parent_before tables i p e in
            let split : length (key_at tables i) ≡ most + length (own_key_at tables i) = ap (length {A = KeyPart}) (key_split tables rules i p h e) ∙ length-append (key_at tables p) (own_key_at tables i) in
            let own : length (own_key_at tables i) ≡ length (drop most vs) = omega (arith, split, len, length-drop most vs) in
            let above : most ≡ length (take most vs) = omega (arith, split, len, length-take most vs) in
            let level = level_len tables i vs (drop most vs) (own_child tables i p e vs (sym len)) own in
            omega (
              arith,
              ap (λ (ls : List Level). length (code_of tables ls)) (levels_child tables rules i p h e vs),
              last_level tables (levels_at tables p (take most vs)) (level_of tables vs (i + 1)),
              again p e (omega arith) (take most vs) above,
              level,
              values_split most vs,
              ap (length {A = ℕ}) (path_child tables i p e),
              length-append (path_at tables p) ((i + 1) ∷ []),
            )
