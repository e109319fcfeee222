-- A key along the steps of a table.
use Rattle.std.proofs.Common.{◌≡◌, ℕ, suc, ◌+◌, ◌-◌, ◌<◌, ◌≤◌, ◌==◌, Bool, true, false, List, [], ◌∷◌, ◌++◌, Option, Some, None, refl, sym, ◌∙◌, ap, subst, append_assoc, arith, length, length-drop, drop, get_or}
use Rattle.std.proofs.lemmas.Bool.{eqb-true, eqb-false, eq-eqb, ne_eqb}
use Rattle.std.proofs.lemmas.List.{drop_more, drop-drop, drop_all}
use Rattle.std.proofs.lemmas.Option.{same_Some}
use Rattle.span_value.specs.declared.value.Value.{Value}
use Rattle.span_value.proofs.Lists.{cons_inj}
use Rattle.span_schema.specs.declared.table.Table.{Table}
use Rattle.span_schema.specs.declared.layout.KeyPart.{KeyPart}
use Rattle.span_schema.specs.Lineages.{path_at, MeetsRules}
use Rattle.span_schema.specs.Numbers.{IsTable, own_key_columns, path_of}
use Rattle.span_keycode.specs.Coding.{Fits, AreFit, column_code, tuple_code}
use Rattle.span_keycode.specs.Keys.{Level, code_of}
use Rattle.span_keycode.specs.Roots.{IsSkip}
use Rattle.span_keycode.proofs.Levels.{levels_at}
use Rattle.span_keycode.proofs.LevelLaws.{AreLevels}
use Rattle.span_keycode.proofs.Going.{last_or, last_path, tables_of, tables_back, levels_on}
use Rattle.span_mutate.specs.declared.row.TableRow.{TableRow}
use Rattle.span_mutate.specs.Typed.{IsTyped}
use Rattle.span_shard.specs.Rows as shard
use Rattle.span_entries.specs.declared.steps.KeyStep.{KeyStep}
use Rattle.span_entries.specs.declared.steps.KeyStep.TheVariants as step
use Rattle.span_entries.specs.Entries.{IsWhetherOf}
use Rattle.span_entries.specs.Steps.{column_steps, level_steps, path_steps, key_steps, IsNumberTaken, IsOffNumber, IsTaken, IsOff}

-- ---- the steps, level by level

pub one_level : (schema : List Table) (path : List ℕ) (i : ℕ) (old new all : List KeyStep) → i < length path → new ≡ old ++ level_steps (get_or path i 0) (own_key_columns schema (get_or path i 0))
    → old ++ path_steps schema (drop i path) ≡ all → new ++ path_steps schema (drop (i + 1) path) ≡ all
one_level schema path i old new all less added so =
    let m : ℕ = get_or path i 0 in
    let here : List KeyStep = level_steps m (own_key_columns schema m) in
    let later : List KeyStep = path_steps schema (drop (i + 1) path) in
    ap (λ (l : List KeyStep). l ++ later) added ∙ append_assoc old here later
    ∙ ap (λ (l : List ℕ). old ++ path_steps schema l) (sym (drop_more path i 0 less)) ∙ so

-- ---- what is left of a row's key

-- what is left of the key of a row of table m at a place of the steps of table n: the columns of a level with their values, and further levels
pub record StepsLeft (schema : List Table) (n m : ℕ) (steps : List KeyStep) (rest : List ℕ) : Type 0 where
  pub columns : List KeyPart
  pub path : List ℕ
  pub above : Option ℕ
  pub values : List Value
  pub levels : List Level
  pub are : steps ≡ column_steps columns ++ path_steps schema path
  pub fit : AreFit columns values
  pub fit_levels : AreLevels schema levels
  pub code : rest ≡ tuple_code columns values ++ code_of schema levels
  pub own : last_or above path ≡ Some n
  pub last : last_or above (tables_of levels) ≡ Some m
  pub same : m ≡ n → tables_of levels ≡ path

-- of whatever row this is the coded key, what is left at a place
abbrev pub StepsLeftAt : List Table → ℕ → List KeyStep → List ℕ → ℕ → ℕ → Type 0
StepsLeftAt schema n steps key i at = (r : TableRow) → IsTyped schema r → key ≡ shard.code_of schema r → StepsLeft schema n r.table (drop i steps) (drop at key)

last_on : (schema : List Table) (n : ℕ) → IsTable schema n → last_or None (path_of schema n) ≡ Some n
last_on schema n is = last_path schema (n - 1) ∙ ap (λ (k : ℕ). Some k) (let e : n - 1 + 1 ≡ n = omega (arith, is.0) in e)

pub all_steps_left : (schema : List Table) → MeetsRules schema → (n : ℕ) → IsTable schema n → (steps : List KeyStep) (key : List ℕ) → steps ≡ key_steps schema n → StepsLeftAt schema n steps key 0 0
all_steps_left schema rules n table steps key are r typed is =
    let path = tables_back schema r.key (path_at schema (r.table - 1)) in
    record {
      columns = [];
      path = path_of schema n;
      above = None;
      values = [];
      levels = levels_at schema (r.table - 1) r.key;
      are = are;
      fit = tt {0};
      fit_levels = (levels_on schema rules r.table r.key typed.0.0 (path_at schema (r.table - 1)) refl).0;
      code = is;
      own = last_on schema n table;
      last = ap (last_or None) path ∙ last_on schema r.table typed.0.0.0;
      same = λ own. path ∙ ap (path_of schema) own;
    }

-- a level that is left where the path goes on
pub record LevelHere (schema : List Table) (n m t : ℕ) (later : List KeyStep) (rest : List ℕ) : Type 0 where
  pub path : List ℕ
  pub above : Option ℕ
  pub levels : List Level
  pub are : later ≡ column_steps (own_key_columns schema t) ++ path_steps schema path
  pub fit_levels : AreLevels schema levels
  pub code : rest ≡ code_of schema levels
  pub own : last_or (Some t) path ≡ Some n
  pub last : last_or above (tables_of levels) ≡ Some m
  pub same : m ≡ n → tables_of levels ≡ t ∷ path

module _ (schema : List Table) (n m t : ℕ) (later : List KeyStep) (rest : List ℕ) (left : StepsLeft schema n m (step.Table t ∷ later) rest) where
  level_here : LevelHere schema n m t later rest
  level_here = by_columns left.columns left.values left.are left.fit left.code
    where
      by_path : (path : List ℕ) → step.Table t ∷ later ≡ path_steps schema path → last_or left.above path ≡ Some n → (m ≡ n → tables_of left.levels ≡ path) → rest ≡ code_of schema left.levels → LevelHere schema n m t later rest
      by_path [] are own same code = absurd (let f : step.Table t ∷ later ≡ [] = are in cc)
      by_path (k ∷ path) are own same code =
          let f : step.Table t ∷ later ≡ step.Table k ∷ (column_steps (own_key_columns schema k) ++ path_steps schema path) = are in
          let number : k ≡ t = cc in
          let P : ℕ → Type 0 = λ j. later ≡ column_steps (own_key_columns schema j) ++ path_steps schema path in
          let rest_is : P k = cc in
          let Q : ℕ → Type 0 = λ j. last_or (Some j) path ≡ Some n in
          let R : ℕ → Type 0 = λ j. m ≡ n → tables_of left.levels ≡ j ∷ path in
          record {
            path = path;
            above = left.above;
            levels = left.levels;
            are = subst P number rest_is;
            fit_levels = left.fit_levels;
            code = code;
            own = subst Q number own;
            last = left.last;
            same = subst R number same;
          }

      by_columns : (cs : List KeyPart) (vs : List Value) → step.Table t ∷ later ≡ column_steps cs ++ path_steps schema left.path → AreFit cs vs → rest ≡ tuple_code cs vs ++ code_of schema left.levels → LevelHere schema n m t later rest
      by_columns [] vs are fit code = by_path left.path are left.own left.same code
      by_columns (c ∷ cs) vs are fit code = absurd (let f : step.Table t ∷ later ≡ step.Column c ∷ (column_steps cs ++ path_steps schema left.path) = are in cc)

  -- past the number of a table
  pub table_passed : rest ≡ t ∷ drop 1 rest → StepsLeft schema n m later (drop 1 rest)
  table_passed first = by_levels level_here.levels level_here.fit_levels level_here.code level_here.last level_here.same
    where
      by_levels : (ls : List Level) → AreLevels schema ls → rest ≡ code_of schema ls → last_or level_here.above (tables_of ls) ≡ Some m → (m ≡ n → tables_of ls ≡ t ∷ level_here.path) → StepsLeft schema n m later (drop 1 rest)
      by_levels [] fit code last same = absurd (let f : t ∷ drop 1 rest ≡ [] = sym first ∙ code in cc)
      by_levels (l ∷ ls) fit code last same =
          let both = cons_inj t l.table (drop 1 rest) (tuple_code (own_key_columns schema l.table) l.values ++ code_of schema ls) (sym first ∙ code) in
          let P : ℕ → Type 0 = λ j. AreFit (own_key_columns schema j) l.values in
          let Q : ℕ → Type 0 = λ j. drop 1 rest ≡ tuple_code (own_key_columns schema j) l.values ++ code_of schema ls in
          let R : ℕ → Type 0 = λ j. last_or (Some j) (tables_of ls) ≡ Some m in
          record {
            columns = own_key_columns schema t;
            path = level_here.path;
            above = Some t;
            values = l.values;
            levels = ls;
            are = level_here.are;
            fit = subst P (sym both.0) fit.0;
            fit_levels = fit.1;
            code = subst Q (sym both.0) both.1;
            own = level_here.own;
            last = subst R (sym both.0) last;
            same = λ own. (cons_inj l.table t (tables_of ls) level_here.path (same own)).1;
          }

  -- a key that does not begin with the number is of another table
  pub off_path : ((more : List ℕ) → rest ≡ t ∷ more → ⊥) → m ≡ n → ⊥
  off_path off own = by_levels level_here.levels level_here.code (level_here.same own)
    where
      by_levels : (ls : List Level) → rest ≡ code_of schema ls → tables_of ls ≡ t ∷ level_here.path → ⊥
      by_levels [] code same = let f : [] ≡ t ∷ level_here.path = same in cc
      by_levels (l ∷ ls) code same =
          let more : List ℕ = tuple_code (own_key_columns schema l.table) l.values ++ code_of schema ls in
          off more (code ∙ ap (λ (j : ℕ). j ∷ more) (cons_inj l.table t (tables_of ls) level_here.path same).0)

-- past a column
pub column_passed : (schema : List Table) (n m : ℕ) (c : KeyPart) (later : List KeyStep) (rest : List ℕ) (w : ℕ) → StepsLeft schema n m (step.Column c ∷ later) rest → IsSkip c rest w → StepsLeft schema n m later (drop w rest)
column_passed schema n m c later rest w left skip = by_columns left.columns left.values left.are left.fit left.code
  where
    by_path : (path : List ℕ) → step.Column c ∷ later ≡ path_steps schema path → ⊥
    by_path [] are = let f : step.Column c ∷ later ≡ [] = are in cc
    by_path (k ∷ path) are = let f : step.Column c ∷ later ≡ step.Table k ∷ (column_steps (own_key_columns schema k) ++ path_steps schema path) = are in cc

    by_columns : (cs : List KeyPart) (vs : List Value) → step.Column c ∷ later ≡ column_steps cs ++ path_steps schema left.path → AreFit cs vs → rest ≡ tuple_code cs vs ++ code_of schema left.levels → StepsLeft schema n m later (drop w rest)
    by_columns [] vs are fit code = absurd (by_path left.path are)
    by_columns (d ∷ cs) [] are fit code = absurd fit
    by_columns (d ∷ cs) (v ∷ vs) are fit code =
        let f : step.Column c ∷ later ≡ step.Column d ∷ (column_steps cs ++ path_steps schema left.path) = are in
        let column : d ≡ c = cc in
        let P : KeyPart → Type 0 = λ k. Fits k.kind v in
        let after : List ℕ = tuple_code cs vs ++ code_of schema left.levels in
        let Q : KeyPart → Type 0 = λ k. rest ≡ column_code k v ++ after in
        record {
          columns = cs;
          path = left.path;
          above = left.above;
          values = vs;
          levels = left.levels;
          are = cc;
          fit = fit.1;
          fit_levels = left.fit_levels;
          code = sym (skip.past v after (subst P column fit.0) (subst Q column (code ∙ append_assoc (column_code d v) (tuple_code cs vs) (code_of schema left.levels))));
          own = left.own;
          last = left.last;
          same = left.same;
        }

-- no step is left
pub record AtEnd (schema : List Table) (n m : ℕ) (rest : List ℕ) : Type 0 where
  pub whole : rest ≡ [] → m ≡ n
  pub own : m ≡ n → rest ≡ []

pub at_end : (schema : List Table) (n m : ℕ) (rest : List ℕ) → StepsLeft schema n m [] rest → AtEnd schema n m rest
at_end schema n m rest left = by_columns left.columns left.values left.are left.fit left.code
  where
    by_path : (path : List ℕ) → [] ≡ path_steps schema path → last_or left.above path ≡ Some n → (m ≡ n → tables_of left.levels ≡ path) → rest ≡ code_of schema left.levels → AtEnd schema n m rest
    by_path (k ∷ path) are own same code = absurd (let f : [] ≡ step.Table k ∷ (column_steps (own_key_columns schema k) ++ path_steps schema path) = are in cc)
    by_path [] are own same code = by_levels left.levels code left.last same
      where
        by_levels : (ls : List Level) → rest ≡ code_of schema ls → last_or left.above (tables_of ls) ≡ Some m → (m ≡ n → tables_of ls ≡ []) → AtEnd schema n m rest
        by_levels [] code last same = record { whole = λ none. same_Some m n (sym last ∙ own); own = λ is. code }
        by_levels (l ∷ ls) code last same = record {
          whole = λ none. absurd (let f : [] ≡ l.table ∷ (tuple_code (own_key_columns schema l.table) l.values ++ code_of schema ls) = sym none ∙ code in cc);
          own = λ is. absurd (let f : l.table ∷ tables_of ls ≡ [] = same is in cc);
        }

    by_columns : (cs : List KeyPart) (vs : List Value) → [] ≡ column_steps cs ++ path_steps schema left.path → AreFit cs vs → rest ≡ tuple_code cs vs ++ code_of schema left.levels → AtEnd schema n m rest
    by_columns [] vs are fit code = by_path left.path are left.own left.same code
    by_columns (c ∷ cs) vs are fit code = absurd (let f : [] ≡ step.Column c ∷ (column_steps cs ++ path_steps schema left.path) = are in cc)

-- ---- the number of a table

pub nothing_off : (table : ℕ) (bytes : List ℕ) → length bytes ≡ 0 → IsOffNumber table bytes
nothing_off table bytes none = record { none = λ more e. let l : length bytes ≡ suc (length more) = ap length e in omega (arith, none) }

pub other_off : (table : ℕ) (bytes : List ℕ) → 0 < length bytes → (get_or bytes 0 0 ≡ table → ⊥) → IsOffNumber table bytes
other_off table bytes some other = record { none = λ more e. other (cons_inj (get_or bytes 0 0) table (drop 1 bytes) more (sym (drop_more bytes 0 0 some) ∙ e)).0 }

pub number_taken : (table : ℕ) (bytes : List ℕ) → 0 < length bytes → get_or bytes 0 0 ≡ table → IsNumberTaken table bytes 1
number_taken table bytes some is = record { one = refl; first = drop_more bytes 0 0 some ∙ ap (λ (b : ℕ). b ∷ drop 1 bytes) is }

-- ---- step by step

module _ (schema : List Table) (n : ℕ) (steps : List KeyStep) (key : List ℕ) (i at : ℕ) (d : KeyStep) (less : i < length steps) where
  abbrev here : KeyStep
  here = get_or steps i d

  split : drop i steps ≡ here ∷ drop (i + 1) steps
  split = drop_more steps i d less

  taken : (m : ℕ) (t : KeyStep) (later : List KeyStep) (rest : List ℕ) (w : ℕ) → StepsLeft schema n m (t ∷ later) rest → IsTaken t rest w → StepsLeft schema n m later (drop w rest)
  taken m (step.Table t) later rest w left one =
      let P : ℕ → Type 0 = λ k. StepsLeft schema n m later (drop k rest) in
      subst P (sym one.one) (table_passed schema n m t later rest left one.first)
  taken m (step.Column c) later rest w left one = column_passed schema n m c later rest w left one

  off : (m : ℕ) (t : KeyStep) (later : List KeyStep) (rest : List ℕ) → StepsLeft schema n m (t ∷ later) rest → IsOff t rest → m ≡ n → ⊥
  off m (step.Table t) later rest left none = off_path schema n m t later rest left none.none
  off m (step.Column c) later rest left none = absurd none

  pub step_taken : (w : ℕ) → IsTaken (get_or steps i d) (drop at key) w → StepsLeftAt schema n steps key i at → StepsLeftAt schema n steps key (i + 1) (at + w)
  step_taken w one left r typed code =
      let P : List KeyStep → Type 0 = λ l. StepsLeft schema n r.table l (drop at key) in
      let Q : List ℕ → Type 0 = λ l. StepsLeft schema n r.table (drop (i + 1) steps) l in
      subst Q (drop-drop w at key) (taken r.table here (drop (i + 1) steps) (drop at key) w (subst P split (left r typed code)) one)

  pub step_off : IsOff (get_or steps i d) (drop at key) → StepsLeftAt schema n steps key i at → IsWhetherOf schema n key false
  step_off none left = record {
    of = λ r typed code.
        let P : List KeyStep → Type 0 = λ l. StepsLeft schema n r.table l (drop at key) in
        sym (ne_eqb r.table n (off r.table here (drop (i + 1) steps) (drop at key) (subst P split (left r typed code)) none));
  }

-- a step takes no more bytes than are left
pub taken_within : (s : KeyStep) (rest : List ℕ) (w : ℕ) → IsTaken s rest w → w ≤ length rest
taken_within (step.Table t) rest w one = omega (arith, one.one, ap (length {A = ℕ}) one.first)
taken_within (step.Column c) rest w one = one.within

-- at the end of the steps
module _ (schema : List Table) (n : ℕ) (steps : List KeyStep) (key : List ℕ) (i at : ℕ) (over : length steps ≤ i) (left : StepsLeftAt schema n steps key i at) where
  ended : (r : TableRow) → IsTyped schema r → key ≡ shard.code_of schema r → AtEnd schema n r.table (drop at key)
  ended r typed code =
      let P : List KeyStep → Type 0 = λ l. StepsLeft schema n r.table l (drop at key) in
      at_end schema n r.table (drop at key) (subst P (drop_all i steps over) (left r typed code))

  key_ended : at ≡ length key → IsWhetherOf schema n key true
  key_ended whole = record { of = λ r typed code. sym (eq-eqb r.table n ((ended r typed code).whole (drop_all at key (omega (arith, whole))))) }

  key_goes_on : at ≤ length key → (at ≡ length key → ⊥) → IsWhetherOf schema n key false
  key_goes_on within more = record {
    of = λ r typed code. sym (ne_eqb r.table n (λ own. more (let none = ap (length {A = ℕ}) ((ended r typed code).own own) in omega (arith, none, within, length-drop at key))));
  }

  pub whether_ended : at ≤ length key → IsWhetherOf schema n key (at == length key)
  whether_ended within = by_test (at == length key) refl
    where
      by_test : (b : Bool) → (at == length key) ≡ b → IsWhetherOf schema n key (at == length key)
      by_test true is = subst (IsWhetherOf schema n key) (sym is) (key_ended (eqb-true at (length key) is))
      by_test false is = subst (IsWhetherOf schema n key) (sym is) (key_goes_on within (eqb-false at (length key) is))
