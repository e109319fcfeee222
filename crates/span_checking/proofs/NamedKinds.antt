-- The cells that a checked mutation names fit their columns.
use Rattle.std.proofs.Common.{◌≡◌, ◌≢◌, ℕ, zero, suc, ◌+◌, ◌-◌, ◌<◌, ◌≤◌, Bool, true, false, ◌==◌, ◌&&◌, ◌||◌, not, cond, List, [], ◌∷◌, ◌++◌, Option, Some, None, is_some, is_none, length, drop, get_or, map, refl, sym, ap, subst, ◌∙◌, arith}
use Rattle.std.proofs.Math.Bool.{and-false}
use Rattle.std.specs.Prelude.{nat_lt, IfSome, slice_get}
use Rattle.std.specs.List.{AllByRecursion, find, position, position_or_len}
use Rattle.std.specs.Option.{option_or, option_map}
use Rattle.std.specs.Str.{bytes_eq, str_to_ascii_lowercase}
use Rattle.std.proofs.lemmas.Bool.Decides.{nat_tests}
use Rattle.span_value.specs.declared.value.Value.{Value}
use Rattle.span_value.specs.declared.value.Kind.{Kind}
use Rattle.span_value.specs.declared.refusal.Refusal.{Refusal}
use Rattle.span_value.specs.declared.refusal.Refusal.TheVariants.{NoColumn, WrongType, NullNotAllowed, ValueTooLong}
use Rattle.span_schema.specs.declared.table.Table.{Table}
use Rattle.span_schema.specs.declared.table.Column.{Column}
use Rattle.span_schema.specs.Tables.{kind_of, is_same_name, is_key_name, column_place}
use Rattle.span_schema.specs.Fitting.{Fits, is_of_kind}
use Rattle.span_schema.specs.Layouts as layout
use Rattle.span_schema.specs.Lineages.{MeetsRules}
use Rattle.span_schema.specs.Numbers.{table_at, key_in, columns_in, other_kinds}
use Rattle.span_schema.proofs.Judged.{passes_at}
use Rattle.span_value.specs.Results.{first_cause}
use Rattle.span_schema.specs.Rules.{has_repeated_column, has_bad_column, has_unknown_key, has_repeated_key, has_bad_lengths}
use Rattle.span_mutate.specs.declared.mutation.NamedValue.{NamedValue}
use Rattle.span_mutate.specs.declared.mutation.Mutation.{Mutation}
use Rattle.span_mutate.specs.declared.mutation.MutationKind.{MutationKind}
use Rattle.span_checking.specs.Columns.{column_named, cell_column, has_wrong_type, is_null_refused, is_too_long, is_named, value_named, other_columns, values_named}
use Rattle.span_mutate.specs.Kinds.{is_delete}
use Rattle.span_checking.specs.Checking.{key_causes, cell_causes, cells_cause, lack_causes, mutation_cause}
use Rattle.span_mutate.specs.Typed.{AreNamed, is_named_kind, are_named_kinds}
use Rattle.span_mutate.proofs.Causes.{first_none, or_none, rest_none}
use Rattle.std.proofs.lemmas.Bool.{not-false, or_parts, and_from}
use Rattle.span_value.proofs.Lists.{all_weaker, all_both}
use Rattle.span_schema.proofs.Names.{same_lower, lower_same}

-- ---- the test of kinds, one after another

pub named_differ : (ks : List Kind) (vs : List (Option Value)) → length ks ≢ length vs → are_named_kinds ks vs ≡ false
named_differ [] [] h = absurd (h refl)
named_differ [] (v ∷ vs) h = refl
named_differ (k ∷ ks) [] h = refl
named_differ (k ∷ ks) (v ∷ vs) h = ap (λ (b : Bool). is_named_kind k v && b) (named_differ ks vs (λ e. h (ap suc e))) ∙ and-false (is_named_kind k v)

pub named_step : (ks : List Kind) (vs : List (Option Value)) (i : ℕ) (k : Kind) (v : Option Value) → i < length ks → i < length vs → v ≡ get_or vs i v
    → are_named_kinds (drop i ks) (drop i vs) ≡ (is_named_kind (get_or ks i k) v && are_named_kinds (drop (suc i) ks) (drop (suc i) vs))
named_step [] vs i k v h g f = absurd (let less : i < 0 = h in omega arith)
named_step (a ∷ ks) [] i k v h g f = absurd (let less : i < 0 = g in omega arith)
named_step (a ∷ ks) (b ∷ vs) zero k v h g f = ap (λ (x : Option Value). is_named_kind a x && are_named_kinds ks vs) (sym f)
named_step (a ∷ ks) (b ∷ vs) (suc i) k v h g f = named_step ks vs i k v (omega arith) (omega arith) f

pub named_fits_step : (ks : List Kind) (vs : List (Option Value)) (i : ℕ) (k : Kind) (v : Option Value) → i < length ks → i < length vs → v ≡ get_or vs i v
    → IfSome v (Fits (get_or ks i k)) → AreNamed (drop (suc i) ks) (drop (suc i) vs) → AreNamed (drop i ks) (drop i vs)
named_fits_step [] vs i k v h g f here below = absurd (let less : i < 0 = h in omega arith)
named_fits_step (a ∷ ks) [] i k v h g f here below = absurd (let less : i < 0 = g in omega arith)
named_fits_step (a ∷ ks) (b ∷ vs) zero k v h g f here below = (subst (λ (x : Option Value). IfSome x (Fits a)) f here, below)
named_fits_step (a ∷ ks) (b ∷ vs) (suc i) k v h g f here below = named_fits_step ks vs i k v (omega arith) (omega arith) f here below

-- ---- names

-- no item passes where none has a place
none_passes : {X : Type 0} (p : X → Bool) (ys : List X) → length ys ≤ position_or_len p ys → AllByRecursion (λ x. p x ≡ false) ys
none_passes p [] g = tt
none_passes {X} p (y ∷ ys) g = cases (p y) refl (λ h. none_passes p ys h) g
  where
    cases : (b : Bool) → p y ≡ b → (length ys ≤ position_or_len p ys → AllByRecursion (λ x. p x ≡ false) ys) → suc (length ys) ≤ cond (not b) (1 + position_or_len p ys) 0
        → (p y ≡ false) × AllByRecursion (λ x. p x ≡ false) ys
    cases true e again k = absurd (omega arith)
    cases false e again k = (e, again (omega arith))

pub none_placed : {X : Type 0} (p : X → Bool) (xs : List X) → is_some (position p xs) ≡ false → AllByRecursion (λ x. p x ≡ false) xs
none_placed p xs h = none_passes p xs (below (position_or_len p xs) (length xs) h)
  where
    below : (i n : ℕ) → is_some (cond (nat_lt i n) (Some i) None) ≡ false → n ≤ i
    below i n e = split (nat_lt i n) refl e
      where
        split : (b : Bool) → nat_lt i n ≡ b → is_some (cond b (Some i) None) ≡ false → n ≤ i
        split true f g = absurd (let k : true ≡ false = g in cc)
        split false f g = grind (arith, nat_tests)

-- the column with the name of a column is that column
abbrev pub IsNamedSelf : List Column → Column → Type 0
IsNamedSelf columns c = column_named columns c.name ≡ Some c

pub names_apart : (columns : List Column) → has_repeated_column columns ≡ false → AllByRecursion (IsNamedSelf columns) columns
names_apart [] h = tt
names_apart (c ∷ cs) h =
    let parts = or_parts (is_some (column_place cs c.name)) (has_repeated_column cs) h in
    let apart = none_placed (λ (d : Column). is_same_name d.name c.name) cs parts.0 in (
      ap (λ (b : Bool). cond b (Some c) (column_named cs c.name)) (lower_same c.name c.name refl),
      all_weaker (λ (d : Column). (is_same_name d.name c.name ≡ false) × IsNamedSelf cs d) (IsNamedSelf (c ∷ cs)) later cs
          (all_both (λ (d : Column). is_same_name d.name c.name ≡ false) (IsNamedSelf cs) cs apart (names_apart cs parts.1)),
    )
  where
    later : (d : Column) → (is_same_name d.name c.name ≡ false) × IsNamedSelf cs d → IsNamedSelf (c ∷ cs) d
    later d g = cases (is_same_name c.name d.name) refl
      where
        cases : (b : Bool) → is_same_name c.name d.name ≡ b → cond b (Some c) (column_named cs d.name) ≡ Some d
        cases true e = absurd (let f : true ≡ false = sym (lower_same d.name c.name (sym (same_lower c.name d.name e))) ∙ g.0 in cc)
        cases false e = g.1

-- ---- cells

-- a cell of a column outside the key has a value of its kind
pub record IsKindly (t : Table) (x : NamedValue) : Type 0 where
  pub there : is_none (cell_column t x.column) ≡ false
  pub right : has_wrong_type (cell_column t x.column) x.value ≡ false

or_none_both : (a b : Option Refusal) → option_or a b ≡ None → (a ≡ None) × (b ≡ None)
or_none_both None b e = (refl, e)
or_none_both (Some w) b e = absurd cc

kindly : (t : Table) (kind : MutationKind) (before : List NamedValue) (x : NamedValue) → first_cause (cell_causes t kind before x) ≡ None → IsKindly t x
kindly t kind before x e =
    let a = first_none (is_delete kind || is_none (cell_column t x.column) || is_named before x.column) NoColumn (
    (has_wrong_type (cell_column t x.column) x.value, WrongType)
    ∷ (is_null_refused (cell_column t x.column) x.value, NullNotAllowed)
    ∷ (is_too_long (cell_column t x.column) x.value, ValueTooLong)
    ∷ []
    ) e in
    let b = rest_none (is_delete kind || is_none (cell_column t x.column) || is_named before x.column) NoColumn (
    (has_wrong_type (cell_column t x.column) x.value, WrongType)
    ∷ (is_null_refused (cell_column t x.column) x.value, NullNotAllowed)
    ∷ (is_too_long (cell_column t x.column) x.value, ValueTooLong)
    ∷ []
    ) e in
    record {
      there = (or_parts (is_delete kind) (is_none (cell_column t x.column)) (or_parts (is_delete kind || is_none (cell_column t x.column)) (is_named before x.column) a).0).1;
      right = first_none (has_wrong_type (cell_column t x.column) x.value) WrongType (
          (is_null_refused (cell_column t x.column) x.value, NullNotAllowed)
          ∷ (is_too_long (cell_column t x.column) x.value, ValueTooLong)
          ∷ []
          ) b;
    }

all_kindly : (t : Table) (kind : MutationKind) (before cells : List NamedValue) → cells_cause t kind before cells ≡ None → AllByRecursion (IsKindly t) cells
all_kindly t kind before [] e = tt
all_kindly t kind before (x ∷ xs) e =
    let parts = or_none_both (first_cause (cell_causes t kind before x)) (cells_cause t kind (before ++ x ∷ []) xs) e in
    (kindly t kind before x parts.0, all_kindly t kind (before ++ x ∷ []) xs parts.1)

-- the value that a cell of the column's name has is of its kind
cell_kind : (t : Table) (c : Column) (x : NamedValue) → IsNamedSelf t.columns c → is_same_name x.column c.name ≡ true → IsKindly t x → is_of_kind (kind_of c.kind) x.value ≡ true
cell_kind t c x self same k = cases (is_key_name t.key x.column) k.there k.right
  where
    named : column_named t.columns x.column ≡ Some c
    named = ap (λ (l : List ℕ). find (λ (d : Column). bytes_eq (str_to_ascii_lowercase d.name) l) t.columns) (same_lower x.column c.name same) ∙ self

    cases : (b : Bool) → is_none (cond b None (column_named t.columns x.column)) ≡ false → has_wrong_type (cond b None (column_named t.columns x.column)) x.value ≡ false → is_of_kind (kind_of c.kind) x.value ≡ true
    cases true e f = absurd (let g : true ≡ false = e in cc)
    cases false e f = not-false (is_of_kind (kind_of c.kind) x.value) (sym (ap (λ (o : Option Column). has_wrong_type o x.value) named) ∙ f)

value_kind : (t : Table) (c : Column) → IsNamedSelf t.columns c → (cells : List NamedValue) → AllByRecursion (IsKindly t) cells → is_named_kind (kind_of c.kind) (value_named cells c.name) ≡ true
value_kind t c self [] h = refl
value_kind t c self (x ∷ xs) h = cases (is_same_name x.column c.name) refl (value_kind t c self xs h.1)
  where
    cases : (b : Bool) → is_same_name x.column c.name ≡ b → is_named_kind (kind_of c.kind) (value_named xs c.name) ≡ true
        → is_named_kind (kind_of c.kind) (option_map (λ (y : NamedValue). y.value) (cond b (Some x) (find (λ (y : NamedValue). is_same_name y.column c.name) xs))) ≡ true
    cases true e again = cell_kind t c x self e h.0
    cases false e again = again

values_kinds : (t : Table) (cells : List NamedValue) → AllByRecursion (IsKindly t) cells → (cs : List Column) → AllByRecursion (IsNamedSelf t.columns) cs → are_named_kinds (layout.other_kinds t.key cs) (values_named t.key cells cs) ≡ true
values_kinds t cells h [] g = refl
values_kinds t cells h (c ∷ cs) g = cases (is_key_name t.key c.name) (values_kinds t cells h cs g.1)
  where
    cases : (b : Bool) → are_named_kinds (layout.other_kinds t.key cs) (values_named t.key cells cs) ≡ true
        → are_named_kinds (cond b (layout.other_kinds t.key cs) (kind_of c.kind ∷ layout.other_kinds t.key cs)) (map (λ (d : Column). value_named cells d.name) (cond (not b) (c ∷ other_columns t.key cs) (other_columns t.key cs))) ≡ true
    cases true again = again
    cases false again = and_from _ _ (value_kind t c g.0 cells h) again

-- a table that breaks no rule has no two columns of one name
pub columns_differ : (t : Table) → has_bad_column t ≡ false → has_repeated_column t.columns ≡ false
columns_differ t h =
    let a = or_parts (has_repeated_column t.columns || (length t.key == 0) || has_unknown_key t.columns t.key || has_repeated_key t.key) (has_bad_lengths t.columns) h in
    let b = or_parts (has_repeated_column t.columns || (length t.key == 0) || has_unknown_key t.columns t.key) (has_repeated_key t.key) a.0 in
    let d = or_parts (has_repeated_column t.columns || (length t.key == 0)) (has_unknown_key t.columns t.key) b.0 in
    (or_parts (has_repeated_column t.columns) (length t.key == 0) d.0).0

-- the cells of a mutation that nothing refuses are of the kinds of the columns outside the key
pub named_kinds : (t : Table) → has_bad_column t ≡ false → (kind : MutationKind) (cells : List NamedValue) → cells_cause t kind [] cells ≡ None → are_named_kinds (layout.other_kinds t.key t.columns) (values_named t.key cells t.columns) ≡ true
named_kinds t rules kind cells e = values_kinds t cells (all_kindly t kind [] cells e) t.columns (names_apart t.columns (columns_differ t rules))

-- and so those of a mutation of a table of the schema
pub mutation_kinds : (tables : List Table) → MeetsRules tables → (n : ℕ) (t : Table) (m : Mutation) → Some t ≡ table_at tables n → mutation_cause tables n t m ≡ None
    → are_named_kinds (other_kinds tables n) (values_named t.key m.cells t.columns) ≡ true
mutation_kinds tables rules n t m at e =
    let here : slice_get tables (n - 1) ≡ Some t = sym at in
    let rest = or_none_both (first_cause (key_causes tables n t m.key)) (option_or (cells_cause t m.kind [] m.cells) (first_cause (lack_causes t m))) e in
    let cells = or_none (cells_cause t m.kind [] m.cells) (first_cause (lack_causes t m)) rest.1 in
    ap (λ (o : Option Table). are_named_kinds (layout.other_kinds (key_in o) (columns_in o)) (values_named t.key m.cells t.columns)) (sym at)
    ∙ named_kinds t (passes_at tables rules (n - 1) t here).columns m.kind m.cells cells

-- and no two columns of a table of the schema have one name
pub columns_apart : (tables : List Table) → MeetsRules tables → (n : ℕ) (t : Table) → Some t ≡ table_at tables n → has_repeated_column t.columns ≡ false
columns_apart tables rules n t at =
    let here : slice_get tables (n - 1) ≡ Some t = sym at in
    columns_differ t (passes_at tables rules (n - 1) t here).columns
