-- Walking over a key, level by level.
use Rattle.std.proofs.Common.{◌≡◌, ℕ, ◌+◌, ◌-◌, ◌<◌, ◌≤◌, List, [], ◌∷◌, ◌++◌, Option, Some, None, refl, sym, ◌∙◌, ap, subst, arith, length, drop, get_or}
use Rattle.std.proofs.lemmas.List.{drop-drop, drop_all, drop_more}
use Rattle.span_value.specs.declared.value.Value.{Value}
use Rattle.span_schema.specs.declared.table.Table.{Table}
use Rattle.span_schema.specs.Lineages.{path_at, MeetsRules}
use Rattle.span_schema.specs.Numbers.{IsTable, own_key_columns}
use Rattle.span_keycode.specs.Coding.{AreFit, tuple_code}
use Rattle.span_keycode.specs.Keys.{Level, code_of, key_code, IsKey}
use Rattle.span_keycode.specs.Roots.{IsCoding, IsRootPrefix, IsTupleSkip, IsTableOf}
use Rattle.span_keycode.proofs.Levels.{levels_at}
use Rattle.span_keycode.proofs.LevelLaws.{AreLevels}
use Rattle.span_keycode.proofs.Going.{Continues, last_or, last_path, tables_of, tables_back, levels_on}
use Rattle.span_keycode.proofs.RootRows.{root_begins}
use Rattle.span_value.proofs.Lists.{cons_inj}

-- the levels of a key of table n that are left after those down to a table
pub record KeyLeft (tables : List Table) (above : Option ℕ) (rest : List ℕ) (n : ℕ) : Type 0 where
  pub levels : List Level
  pub fit : AreLevels tables levels
  pub path : Continues tables above (tables_of levels)
  pub code : rest ≡ code_of tables levels
  pub last : last_or above (tables_of levels) ≡ Some n

pub all_left : (tables : List Table) → MeetsRules tables → (n : ℕ) (vs : List Value) → IsKey tables n vs → (bs : List ℕ) → bs ≡ key_code tables n vs → KeyLeft tables None bs n
all_left tables rules n vs k bs e =
    let known = levels_on tables rules n vs k (path_at tables (n - 1)) refl in
    let path = tables_back tables vs (path_at tables (n - 1)) in
    let P : List ℕ → Type 0 = λ ns. Continues tables None ns in
    let number : n - 1 + 1 ≡ n = omega (arith, k.0.0) in
    record {
      levels = levels_at tables (n - 1) vs;
      fit = known.0;
      path = subst P (sym path) known.1;
      code = e;
      last = ap (last_or None) path ∙ last_path tables (n - 1) ∙ ap (λ (m : ℕ). Some m) number;
    }

-- the number of the next level is that of a table
pub next_table : (tables : List Table) (above : Option ℕ) (n c : ℕ) (more : List ℕ) → KeyLeft tables above (c ∷ more) n → IsTable tables c
next_table tables above n c more k = by_levels k.levels k.path k.code
  where
    by_levels : (ls : List Level) → Continues tables above (tables_of ls) → c ∷ more ≡ code_of tables ls → IsTable tables c
    by_levels [] f e = absurd (let g : c ∷ more ≡ [] = e in cc)
    by_levels (l ∷ ls) f e =
        let P : ℕ → Type 0 = λ m. IsTable tables m in
        subst P (sym (cons_inj c l.table more (tuple_code (own_key_columns tables l.table) l.values ++ code_of tables ls) e).0) f.0

-- past a level
pub level_passed : (tables : List Table) (above : Option ℕ) (n c w : ℕ) (more : List ℕ) → KeyLeft tables above (c ∷ more) n → IsTupleSkip (own_key_columns tables c) more w → KeyLeft tables (Some c) (drop w more) n
level_passed tables above n c w more k s = by_levels k.levels k.fit k.path k.code k.last
  where
    by_levels : (ls : List Level) → AreLevels tables ls → Continues tables above (tables_of ls) → c ∷ more ≡ code_of tables ls → last_or above (tables_of ls) ≡ Some n → KeyLeft tables (Some c) (drop w more) n
    by_levels [] f p e last = absurd (let g : c ∷ more ≡ [] = e in cc)
    by_levels (l ∷ ls) f p e last =
        let both = cons_inj c l.table more (tuple_code (own_key_columns tables l.table) l.values ++ code_of tables ls) e in
        let P : ℕ → Type 0 = λ m. AreFit (own_key_columns tables m) l.values in
        let Q : ℕ → Type 0 = λ m. more ≡ tuple_code (own_key_columns tables m) l.values ++ code_of tables ls in
        let R : ℕ → Type 0 = λ m. Continues tables (Some m) (tables_of ls) in
        let S : ℕ → Type 0 = λ m. last_or (Some m) (tables_of ls) ≡ Some n in
        record {
          levels = ls;
          fit = f.1;
          path = subst R (sym both.0) p.2;
          code = sym (s.past l.values (code_of tables ls) (subst P (sym both.0) f.0) (subst Q (sym both.0) both.1));
          last = subst S (sym both.0) last;
        }

-- no level is left
pub none_left : (tables : List Table) (above : Option ℕ) (n : ℕ) → KeyLeft tables above [] n → above ≡ Some n
none_left tables above n k = by_levels k.levels k.code k.last
  where
    by_levels : (ls : List Level) → [] ≡ code_of tables ls → last_or above (tables_of ls) ≡ Some n → above ≡ Some n
    by_levels [] e last = last
    by_levels (l ∷ ls) e last = absurd (let g : [] ≡ l.table ∷ (tuple_code (own_key_columns tables l.table) l.values ++ code_of tables ls) = e in cc)

-- of each key of which the bytes are the coding, what is left after a place
abbrev pub LeftAt : List Table → List ℕ → Option ℕ → ℕ → Type 0
LeftAt tables bs above at = (n : ℕ) (vs : List Value) → IsKey tables n vs → bs ≡ key_code tables n vs → KeyLeft tables above (drop at bs) n

pub left_after : (tables : List Table) (bs : List ℕ) (above : Option ℕ) (at w : ℕ) → at < length bs → IsTupleSkip (own_key_columns tables (get_or bs at 0)) (drop (at + 1) bs) w → LeftAt tables bs above at
    → LeftAt tables bs (Some (get_or bs at 0)) (at + (1 + w))
left_after tables bs above at w h s left n vs k e =
    let c = get_or bs at 0 in
    let P : List ℕ → Type 0 = λ xs. KeyLeft tables above xs n in
    let Q : List ℕ → Type 0 = λ xs. KeyLeft tables (Some c) xs n in
    let rest : drop w (drop (at + 1) bs) ≡ drop (at + (1 + w)) bs = drop-drop w (at + 1) bs ∙ ap (λ (m : ℕ). drop m bs) (let e : at + 1 + w ≡ at + (1 + w) = omega arith in e) in
    subst Q rest (level_passed tables above n c w (drop (at + 1) bs) (subst P (drop_more bs at 0 h) (left n vs k e)) s)

-- where the next number is none of a table, no key is coded
pub no_table : (tables : List Table) (bs : List ℕ) (above : Option ℕ) (at : ℕ) → at < length bs → (IsTable tables (get_or bs at 0) → ⊥) → LeftAt tables bs above at → IsTableOf tables bs None
no_table tables bs above at h against left = record {
  of = λ n vs k e.
      let P : List ℕ → Type 0 = λ xs. KeyLeft tables above xs n in
      absurd (against (next_table tables above n (get_or bs at 0) (drop (at + 1) bs) (subst P (drop_more bs at 0 h) (left n vs k e))));
}

pub table_found : (tables : List Table) (bs : List ℕ) (above : Option ℕ) (at : ℕ) → length bs ≤ at → LeftAt tables bs above at → IsTableOf tables bs above
table_found tables bs above at h left = record {
  of = λ n vs k e. let P : List ℕ → Type 0 = λ xs. KeyLeft tables above xs n in none_left tables above n (subst P (drop_all at bs h) (left n vs k e));
}

-- bytes that begin with no table's number code no key
pub no_root : (tables : List Table) → MeetsRules tables → (bs front : List ℕ) → (0 < length bs → IsTable tables (get_or bs 0 0) → ⊥) → IsRootPrefix tables bs front
no_root tables rules bs front against = record {
  root = λ n vs k e.
      let coding : IsCoding tables bs = record { table = n; values = vs; is = k; code = e } in
      let begins = root_begins tables rules bs coding in
      absurd (against begins.0 begins.1);
}
