-- The root row of a key.
use Rattle.std.proofs.Common.{◌≡◌, ℕ, suc, ◌+◌, ◌-◌, ◌<◌, ◌≤◌, List, [], ◌∷◌, ◌++◌, Option, None, refl, sym, ◌∙◌, ap, subst, arith, length, length-append, length-drop, map, take, drop, get_or, slice_index}
use Rattle.std.proofs.Math.Seq.{take-append_seam}
use Rattle.span_value.specs.declared.value.Value.{Value}
use Rattle.span_schema.specs.declared.table.Table.{Table}
use Rattle.span_schema.specs.declared.layout.KeyPart.{KeyPart}
use Rattle.span_schema.specs.Lineages.{parent_at, path_at, MeetsRules}
use Rattle.span_schema.specs.Numbers.{IsTable, key_columns, own_key_columns, columns_above, root_of}
use Rattle.span_keycode.specs.Coding.{AreFit, tuple_code}
use Rattle.span_keycode.specs.Keys.{own_values, level_of, code_of, key_code, IsKey}
use Rattle.span_keycode.specs.Roots.{IsCoding, IsRootPrefix, IsTupleSkip}
use Rattle.span_keycode.proofs.Levels.{key_root}
use Rattle.span_keycode.proofs.LevelLaws.{code_root}
use Rattle.span_keycode.proofs.Going.{levels_on, code_some}
use Rattle.span_keycode.proofs.KeyReading.{no_number}

-- the first level of a key
pub record RootSplit (tables : List Table) (n : ℕ) (vs : List Value) : Type 0 where
  pub root : ℕ
  pub more : List ℕ
  pub is : IsTable tables root
  pub named : root_of tables n ≡ root
  pub fits : AreFit (own_key_columns tables root) (own_values tables root vs)
  pub front : own_values tables root vs ≡ take (length (key_columns tables root)) vs
  pub code : key_code tables n vs ≡ root ∷ (tuple_code (own_key_columns tables root) (own_values tables root vs) ++ more)
  pub prefix : key_code tables root (take (length (key_columns tables root)) vs) ≡ root ∷ tuple_code (own_key_columns tables root) (own_values tables root vs)

pub root_split : (tables : List Table) → MeetsRules tables → (n : ℕ) (vs : List Value) → IsKey tables n vs → RootSplit tables n vs
root_split tables rules n vs k = by_path (path_at tables (n - 1)) refl
  where
    by_path : (ns : List ℕ) → path_at tables (n - 1) ≡ ns → RootSplit tables n vs
    by_path [] e = absurd (code_some tables n vs (sym (ap (λ (ms : List ℕ). code_of tables (map (level_of tables vs) ms)) e)))
    by_path (r ∷ ns) e =
        let known = levels_on tables rules n vs k (r ∷ ns) e in
        let alone : parent_at tables (r - 1) ≡ None = no_number (parent_at tables (r - 1)) known.1.1 in
        let K = length (key_columns tables r) in
        let own : own_values tables r vs ≡ take K vs = ap (λ (o : Option ℕ). drop (columns_above tables o) (take K vs)) alone in
        let P : List Value → Type 0 = λ us. AreFit (own_key_columns tables r) us in
        let Q : List KeyPart → Type 0 = λ cs. AreFit cs (take K vs) in
        let whole = subst Q (key_root tables (r - 1) alone) (subst P own known.0.0) in
        let number : r - 1 + 1 ≡ r = omega (arith, known.1.0.0) in
        record {
          root = r;
          more = code_of tables (map (level_of tables vs) ns);
          is = known.1.0;
          named = ap (λ (ms : List ℕ). slice_index ms 0) e;
          fits = known.0.0;
          front = own;
          code = ap (λ (ms : List ℕ). code_of tables (map (level_of tables vs) ms)) e;
          prefix = code_root tables (r - 1) alone (take K vs) whole
              ∙ ap (λ (m : ℕ). m ∷ tuple_code (own_key_columns tables r) (take K vs)) number
              ∙ ap (λ (us : List Value). r ∷ tuple_code (own_key_columns tables r) us) (sym own);
        }

range_start : (bs : List ℕ) (a : ℕ) (rest : List ℕ) → bs ≡ a ∷ rest → (0 < length bs) × (get_or bs 0 0 ≡ a) × (drop 1 bs ≡ rest)
range_start bs a rest e = (let l : length bs ≡ suc (length rest) = ap length e in omega arith, ap (λ (xs : List ℕ). get_or xs 0 0) e, ap (drop 1) e)

-- what the bytes of a coded key begin with
pub root_begins : (tables : List Table) → MeetsRules tables → (bs : List ℕ) → IsCoding tables bs → (0 < length bs) × IsTable tables (get_or bs 0 0)
root_begins tables rules bs k =
    let split = root_split tables rules k.table k.values k.is in
    let first = range_start bs split.root _ (k.code ∙ split.code) in
    let P : ℕ → Type 0 = λ n. IsTable tables n in
    (first.0, subst P (sym first.1) split.is)

front_taken : (bs xs more : List ℕ) (a w : ℕ) → bs ≡ a ∷ (xs ++ more) → w ≤ length (drop 1 bs) → more ≡ drop w (drop 1 bs) → take (w + 1) bs ≡ a ∷ xs
front_taken bs xs more a w e within m =
    let rest : drop 1 bs ≡ xs ++ more = ap (drop 1) e in
    let len : length (drop 1 bs) ≡ length xs + length more = ap length rest ∙ length-append xs more in
    let len2 : length more ≡ length (drop 1 bs) - w = ap length m ∙ length-drop w (drop 1 bs) in
    let same : w ≡ length xs = omega arith in
    let count : w + 1 ≡ suc (length xs) = omega arith in
    ap (take (w + 1)) e ∙ ap (λ (k : ℕ). take k (a ∷ (xs ++ more))) count ∙ ap (λ (ys : List ℕ). a ∷ ys) (take-append_seam xs more)

pub root_taken : (tables : List Table) → MeetsRules tables → (bs : List ℕ) (c w : ℕ) → c ≡ get_or bs 0 0 → IsTupleSkip (own_key_columns tables c) (drop 1 bs) w → IsRootPrefix tables bs (take (w + 1) bs)
root_taken tables rules bs c w e s = record {
  root = λ n vs k code.
      let split = root_split tables rules n vs k in
      let first = range_start bs split.root _ (code ∙ split.code) in
      let same : split.root ≡ c = sym (e ∙ first.1) in
      let P : ℕ → Type 0 = λ m. AreFit (own_key_columns tables m) (own_values tables split.root vs) in
      let Q : ℕ → Type 0 = λ m. drop 1 bs ≡ tuple_code (own_key_columns tables m) (own_values tables split.root vs) ++ split.more in
      let past = s.past (own_values tables split.root vs) split.more (subst P same split.fits) (subst Q same first.2) in
      front_taken bs (tuple_code (own_key_columns tables split.root) (own_values tables split.root vs)) split.more split.root w (code ∙ split.code) s.within past
      ∙ sym split.prefix
      ∙ ap (λ (m : ℕ). key_code tables m (take (length (key_columns tables m)) vs)) (sym split.named);
}
