-- The coding of the key of a root row: the number of its table, and then its values.
use Rattle.std.proofs.Common.{◌≡◌, ℕ, ◌+◌, ◌-◌, ◌≤◌, List, [], ◌∷◌, ◌++◌, Option, Some, None, refl, sym, ◌∙◌, ap, subst, arith, length, take, drop, slice_index}
use Rattle.std.specs.declared.cmp.Ordering.{Ordering}
use Rattle.std.proofs.lemmas.List.{take-take, append-nil}
use Rattle.span_value.specs.declared.value.Value.{Value}
use Rattle.span_schema.specs.declared.table.Table.{Table}
use Rattle.span_schema.specs.declared.layout.KeyPart.{KeyPart}
use Rattle.span_schema.specs.Lineages.{parent_at, path_at}
use Rattle.span_schema.specs.Numbers.{key_at, key_columns, own_key_at, columns_above, root_of}
use Rattle.span_keycode.specs.Coding.{column_code, tuple_code}
use Rattle.span_keycode.specs.Keys.{own_values_at, code_of}
use Rattle.span_keycode.specs.Order.{byte_order}
use Rattle.span_keycode.specs.RootOrder.{ComparesAs, root_code_of}
use Rattle.span_keycode.proofs.Comparing.{front_same}
use Rattle.span_keycode.proofs.Levels.{by_parents, key_root, levels_at}
use Rattle.span_keycode.proofs.LevelLaws.{path_root, path_child, levels_root, own_level}

-- a table without a parent, by its number
abbrev pub IsAlone : List Table → ℕ → Type 0
IsAlone tables n = (1 ≤ n) × (parent_at tables (n - 1) ≡ None)

-- the path to a table begins with a table without a parent
record Begins (tables : List Table) (i : ℕ) : Type 0 where
  pub root : ℕ
  pub rest : List ℕ
  pub path : path_at tables i ≡ root ∷ rest
  pub alone : IsAlone tables root

begins : (tables : List Table) (i : ℕ) → Begins tables i
begins tables = by_parents tables (λ i. Begins tables i) step
  where
    step : (i : ℕ) → ((p : ℕ) → parent_at tables i ≡ Some p → Begins tables p) → Begins tables i
    step i again = by_case (parent_at tables i) refl
      where
        by_case : (o : Option ℕ) → parent_at tables i ≡ o → Begins tables i
        by_case None e =
            let same : i + 1 - 1 ≡ i = omega arith in
            record { root = i + 1; rest = []; path = path_root tables i e; alone = (omega arith, ap (λ (k : ℕ). parent_at tables k) same ∙ e) }
        by_case (Some p) e =
            let above = again p e in
            record {
              root = above.root;
              rest = above.rest ++ (i + 1) ∷ [];
              path = path_child tables i p e ∙ ap (λ (ns : List ℕ). ns ++ (i + 1) ∷ []) above.path;
              alone = above.alone;
            }

-- the root table of a number has no parent, also where the number is no table's
pub root_alone : (tables : List Table) (n : ℕ) → IsAlone tables (root_of tables n)
root_alone tables n =
    let found = begins tables (n - 1) in
    let same : root_of tables n ≡ found.root = ap (λ (ns : List ℕ). slice_index ns 0) found.path in
    let P : ℕ → Type 0 = λ m. IsAlone tables m in
    subst P (sym same) found.alone

-- values after the last column have no coding
tuple_taken : (cs : List KeyPart) (vs : List Value) → tuple_code cs (take (length cs) vs) ≡ tuple_code cs vs
tuple_taken [] vs = refl
tuple_taken (c ∷ cs) [] = refl
tuple_taken (c ∷ cs) (v ∷ vs) = ap (λ (xs : List ℕ). column_code c v ++ xs) (tuple_taken cs vs)

code_at : (tables : List Table) (i : ℕ) → parent_at tables i ≡ None → (vs : List Value)
    → code_of tables (levels_at tables i (take (length (key_at tables i)) vs)) ≡ (i + 1) ∷ tuple_code (key_at tables i) vs
code_at tables i alone vs =
    let K = length (key_at tables i) in
    let own : own_values_at tables i (take K vs) ≡ take K vs =
    ap (λ (o : Option ℕ). drop (columns_above tables o) (take K (take K vs))) alone ∙ take-take K K vs (omega arith) in
    ap (code_of tables) (levels_root tables i alone (take K vs))
    ∙ own_level tables i (take K vs)
    ∙ ap (λ (us : List Value). (i + 1) ∷ tuple_code (own_key_at tables i) us) own
    ∙ ap (λ (cs : List KeyPart). (i + 1) ∷ tuple_code cs (take K vs)) (key_root tables i alone)
    ∙ ap (λ (xs : List ℕ). (i + 1) ∷ xs) (tuple_taken (key_at tables i) vs)

pub root_code : (tables : List Table) (n : ℕ) (vs : List Value) → root_code_of tables n vs ≡ root_of tables n ∷ tuple_code (key_columns tables (root_of tables n)) vs
root_code tables n vs =
    let R = root_of tables n in
    let alone = root_alone tables n in
    let number : R - 1 + 1 ≡ R = omega (arith, alone.0) in
    code_at tables (R - 1) alone.1 vs ∙ ap (λ (m : ℕ). m ∷ tuple_code (key_columns tables R) vs) number

code_is : (tables : List Table) (n : ℕ) (vs : List Value) (root : ℕ) → root ≡ root_of tables n → root_code_of tables n vs ≡ root ∷ tuple_code (key_columns tables root) vs
code_is tables n vs root e = root_code tables n vs ∙ ap (λ (m : ℕ). m ∷ tuple_code (key_columns tables m) vs) (sym e)

-- bytes that begin with the coding are in order by what follows it
pub order_same : (tables : List Table) (n : ℕ) (vs : List Value) (root : ℕ) (other rest : List ℕ) → root ≡ root_of tables n
    → other ≡ (root ∷ tuple_code (key_columns tables root) vs) ++ rest → byte_order [] rest ≡ byte_order (root_code_of tables n vs) other
order_same tables n vs root other rest e f =
    let code = root ∷ tuple_code (key_columns tables root) vs in
    sym (front_same code [] rest) ∙ ap (λ (xs : List ℕ). byte_order xs (code ++ rest)) (sym (sym (append-nil code)))
    ∙ ap (byte_order code) (sym f) ∙ ap (λ (xs : List ℕ). byte_order xs other) (sym (code_is tables n vs root e))

pub order_decided : (tables : List Table) (n : ℕ) (vs : List Value) (root : ℕ) (other : List ℕ) (o : Ordering) → root ≡ root_of tables n
    → ComparesAs (root ∷ tuple_code (key_columns tables root) vs) other o → o ≡ byte_order (root_code_of tables n vs) other
order_decided tables n vs root other o e d =
    sym (d.at []) ∙ ap (λ (xs : List ℕ). byte_order xs other) (sym (sym (append-nil (root ∷ tuple_code (key_columns tables root) vs))) ∙ sym (code_is tables n vs root e))
