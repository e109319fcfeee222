-- The laws of key codings.
use Rattle.std.proofs.Common.{◌≡◌, ℕ, ◌+◌, ◌-◌, ◌<◌, List, [], ◌∷◌, ◌++◌, Option, Some, None, refl, sym, ◌∙◌, ap, subst, append_assoc, arith, length, map, take, add-sub_cancel}
use Rattle.std.proofs.lemmas.List.{map-append, take-append-drop, append-nil}
use Rattle.std.proofs.Math.Seq.{take-append_seam}
use Rattle.std.proofs.lemmas.Option.{same_Some}
use Rattle.span_value.specs.declared.value.Value.{Value}
use Rattle.span_schema.specs.declared.table.Table.{Table}
use Rattle.span_schema.specs.declared.layout.KeyPart.{KeyPart}
use Rattle.span_schema.specs.Lineages.{parent_at, path_at, MeetsRules}
use Rattle.span_schema.specs.Numbers.{IsTable, key_at, own_key_at, own_key_columns}
use Rattle.span_schema.proofs.Paths.{parent_before}
use Rattle.span_keycode.specs.Coding.{AreFit, tuple_code}
use Rattle.span_keycode.specs.Keys.{Level, own_values_at, level_of, code_of, key_code, IsKey}
use Rattle.span_keycode.specs.Laws.{OrderOfKeys, OrderInTable, IsAtOrBelow, BeginsOwnRows, OneKey}
use Rattle.span_keycode.proofs.Levels.{by_parents, key_split, levels_at, keys_short}
use Rattle.span_keycode.proofs.LevelLaws.{AreLevels, fit_length, fit_split, levels_fit, levels_in_order, levels_child, levels_root, own_child, own_root, decides-key, code_append, map_short}
use Rattle.span_keycode.proofs.Exact.{levels_begin}
use Rattle.span_keycode.proofs.Going.{tables_of, tables_back, tables_append, last_or, last_path}

pub place_within : (tables : List Table) (n : ℕ) → IsTable tables n → n - 1 < length tables
place_within tables n t = omega (arith, t.0, t.1)

pub order_of_keys : OrderOfKeys
order_of_keys tables rules n m vs ws k l =
    levels_in_order tables (levels_at tables (n - 1) vs) (levels_at tables (m - 1) ws)
    (levels_fit tables rules (n - 1) (place_within tables n k.0) vs k.1) (levels_fit tables rules (m - 1) (place_within tables m l.0) ws l.1)

pub order_in_table : OrderInTable
order_in_table tables rules n vs ws k l = decides-key tables rules (n - 1) (place_within tables n k.0) vs ws k.1 l.1

-- the values of levels, one after another
abbrev pub values_of : List Level → List Value
values_of [] = []
values_of (l ∷ ls) = l.values ++ values_of ls

values_append : (ls ms : List Level) → values_of (ls ++ ms) ≡ values_of ls ++ values_of ms
values_append [] ms = refl
values_append (l ∷ ls) ms = ap (λ (vs : List Value). l.values ++ vs) (values_append ls ms) ∙ sym (append_assoc l.values (values_of ls) (values_of ms))

own_here : (tables : List Table) (i : ℕ) (vs : List Value) → values_of (level_of tables vs (i + 1) ∷ []) ≡ own_values_at tables i vs
own_here tables i vs = append-nil _ ∙ ap (λ (k : ℕ). own_values_at tables k vs) (add-sub_cancel i 1)

pub values_back : (tables : List Table) → MeetsRules tables → (i : ℕ) → i < length tables → (vs : List Value) → AreFit (key_at tables i) vs → values_of (levels_at tables i vs) ≡ vs
values_back tables rules = by_parents tables (λ i. i < length tables → (vs : List Value) → AreFit (key_at tables i) vs → values_of (levels_at tables i vs) ≡ vs) step
  where
    step : (i : ℕ) → ((p : ℕ) → parent_at tables i ≡ Some p → p < length tables → (vs : List Value) → AreFit (key_at tables p) vs → values_of (levels_at tables p vs) ≡ vs)
        → i < length tables → (vs : List Value) → AreFit (key_at tables i) vs → values_of (levels_at tables i vs) ≡ vs
    step i again h vs f = by_case (parent_at tables i) refl
      where
        by_case : (o : Option ℕ) → parent_at tables i ≡ o → values_of (levels_at tables i vs) ≡ vs
        by_case None e = ap values_of (levels_root tables i e vs) ∙ own_here tables i vs ∙ own_root tables i e vs (sym (fit_length (key_at tables i) vs f))
        by_case (Some p) e =
            let less : p < i = parent_before tables i p e in
            let K = length (key_at tables p) in
            let R : List KeyPart → Type 0 = λ cs. AreFit cs vs in
            let both = fit_split (key_at tables p) (own_key_at tables i) vs (subst R (key_split tables rules i p h e) f) in
            ap values_of (levels_child tables rules i p h e vs)
            ∙ values_append (levels_at tables p (take K vs)) (level_of tables vs (i + 1) ∷ [])
            ∙ ap (λ (us : List Value). us ++ values_of (level_of tables vs (i + 1) ∷ [])) (again p e (omega arith) (take K vs) both.0)
            ∙ ap (λ (us : List Value). take K vs ++ us) (own_here tables i vs ∙ own_child tables i p e vs (sym (fit_length (key_at tables i) vs f)))
            ∙ take-append-drop K vs

known : (tables : List Table) → MeetsRules tables → (n : ℕ) (vs : List Value) → IsKey tables n vs → AreLevels tables (levels_at tables (n - 1) vs)
known tables rules n vs k = levels_fit tables rules (n - 1) (place_within tables n k.0) vs k.1

-- levels in front are a row at or above
begun : (tables : List Table) → MeetsRules tables → (n m : ℕ) (vs ws : List Value) → IsKey tables n vs → IsKey tables m ws → (more : List Level) → levels_at tables (m - 1) ws ≡ levels_at tables (n - 1) vs ++ more → IsAtOrBelow tables n vs m ws
begun tables rules n m vs ws k l more e = record {
  tables_below = tables_of more;
  path = sym (tables_back tables ws (path_at tables (m - 1))) ∙ ap tables_of e ∙ tables_append (levels_at tables (n - 1) vs) more ∙ ap (λ (ns : List ℕ). ns ++ tables_of more) (tables_back tables vs (path_at tables (n - 1)));
  values_below = values_of more;
  values = sym (values_back tables rules (m - 1) (place_within tables m l.0) ws l.1) ∙ ap values_of e ∙ values_append (levels_at tables (n - 1) vs) more
      ∙ ap (λ (us : List Value). us ++ values_of more) (values_back tables rules (n - 1) (place_within tables n k.0) vs k.1);
}

below : (tables : List Table) → MeetsRules tables → (n m : ℕ) (vs ws : List Value) → IsKey tables n vs → IsKey tables m ws → IsAtOrBelow tables n vs m ws → (rest : List ℕ) × (key_code tables m ws ≡ key_code tables n vs ++ rest)
below tables rules n m vs ws k l b =
    let K = length (key_at tables (n - 1)) in
    let front : take K ws ≡ vs = ap (take K) b.values ∙ ap (λ (j : ℕ). take j (vs ++ b.values_below)) (fit_length (key_at tables (n - 1)) vs k.1) ∙ take-append_seam vs b.values_below in
    let more = map (level_of tables ws) b.tables_below in
    let levels : levels_at tables (m - 1) ws ≡ levels_at tables (n - 1) vs ++ more =
    ap (map (level_of tables ws)) b.path ∙ map-append (level_of tables ws) (path_at tables (n - 1)) b.tables_below
    ∙ ap (λ (ls : List Level). ls ++ more) (map_short tables (path_at tables (n - 1)) K ws (keys_short tables rules (n - 1) (place_within tables n k.0)) ∙ ap (λ (us : List Value). levels_at tables (n - 1) us) front) in
    (code_of tables more, ap (code_of tables) levels ∙ code_append tables (levels_at tables (n - 1) vs) more)

pub begins_own_rows : BeginsOwnRows
begins_own_rows tables rules n m vs ws k l = (
  (λ b. let levels = levels_begin tables (levels_at tables (n - 1) vs) (levels_at tables (m - 1) ws) b.0 (known tables rules n vs k) (known tables rules m ws l) (sym b.1) in
      begun tables rules n m vs ws k l levels.0 levels.1),
  below tables rules n m vs ws k l,
)

no_more : (tables : List Table) (more : List Level) → [] ≡ code_of tables more → more ≡ []
no_more tables [] e = refl
no_more tables (l ∷ ls) e = absurd (let f : [] ≡ l.table ∷ (tuple_code (own_key_columns tables l.table) l.values ++ code_of tables ls) = e in cc)

pub one_key : OneKey
one_key tables rules n m vs ws k l e =
    let begins = levels_begin tables (levels_at tables (n - 1) vs) (levels_at tables (m - 1) ws) [] (known tables rules n vs k) (known tables rules m ws l) (append-nil (key_code tables n vs) ∙ e) in
    let none = no_more tables begins.0 begins.2 in
    let same : levels_at tables (m - 1) ws ≡ levels_at tables (n - 1) vs = begins.1 ∙ ap (λ (ls : List Level). levels_at tables (n - 1) vs ++ ls) none ∙ append-nil (levels_at tables (n - 1) vs) in
    let paths : path_at tables (m - 1) ≡ path_at tables (n - 1) = sym (tables_back tables ws (path_at tables (m - 1))) ∙ ap tables_of same ∙ tables_back tables vs (path_at tables (n - 1)) in
    let last : Some (m - 1 + 1) ≡ Some (n - 1 + 1) = sym (last_path tables (m - 1)) ∙ ap (last_or None) paths ∙ last_path tables (n - 1) in
    let number : m - 1 + 1 ≡ n - 1 + 1 = same_Some (m - 1 + 1) (n - 1 + 1) last in (
      omega (arith, number, k.0.0, l.0.0),
      sym (values_back tables rules (n - 1) (place_within tables n k.0) vs k.1) ∙ ap values_of (sym same) ∙ values_back tables rules (m - 1) (place_within tables m l.0) ws l.1,
    )
