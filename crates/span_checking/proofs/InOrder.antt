-- Cells that name the columns outside the key in their order, and keys by the places of their columns.
use Rattle.std.proofs.Common.{◌≡◌, ℕ, zero, suc, ◌+◌, ◌-◌, ◌<◌, ◌≤◌, ◌==◌, ◌≢◌, Bool, true, false, ◌&&◌, ◌||◌, not, cond, List, [], ◌∷◌, ◌++◌, Option, Some, None, is_none, is_some, length, drop, get_or, min, map, refl, sym, ap, subst, ◌∙◌, arith, append_assoc, length-append}
use Rattle.std.specs.Prelude.{slice_get, bytes_eq}
use Rattle.std.specs.List.{AllByRecursion, find, cons_option, list_any}
use Rattle.std.specs.Option.{option_or, option_map}
use Rattle.std.proofs.lemmas.Bool.{and_parts, or_parts, or_from, and_left, and_right, or_right}
use Rattle.std.proofs.lemmas.Option.{slice_get-get_or}
use Rattle.std.proofs.lemmas.List.Quantifiers.{position-Some}
use Rattle.std.proofs.lemmas.Slice.Eq.{bytes_eq-Decides}
use Rattle.span_value.specs.Results.{first_cause}
use Rattle.span_value.specs.declared.value.Value.{Value}
use Rattle.span_value.specs.declared.refusal.Refusal.{Refusal}
use Rattle.span_value.specs.declared.refusal.Refusal.TheVariants.{NoColumn, NullNotAllowed}
use Rattle.span_value.proofs.Lists.{all_filter, all_weaker}
use Rattle.span_schema.specs.declared.table.Table.{Table}
use Rattle.span_schema.specs.declared.table.Column.{Column}
use Rattle.span_schema.specs.declared.table.KeyColumn.{KeyColumn}
use Rattle.span_schema.specs.Tables.{is_same_name, is_key_name, column_place}
use Rattle.span_schema.specs.Layouts as layout
use Rattle.span_schema.specs.Lineages.{MeetsRules}
use Rattle.span_schema.specs.Numbers.{table_at, key_in, columns_in, key_places, other_places}
use Rattle.span_schema.specs.Rules.{has_repeated_column, has_bad_column, has_unknown_key, has_repeated_key, has_bad_lengths}
use Rattle.span_schema.proofs.Judged.{passes_at}
use Rattle.span_schema.proofs.Names.{lower_same, not_other_way}
use Rattle.span_mutate.specs.declared.mutation.NamedValue.{NamedValue}
use Rattle.span_mutate.specs.declared.mutation.Mutation.{Mutation}
use Rattle.span_mutate.specs.declared.mutation.MutationKind.{MutationKind}
use Rattle.span_checking.specs.Columns.{column_named, cell_column, key_breaks, is_named, is_lacking, lacks_cell, value_named, other_columns, values_named}
use Rattle.span_mutate.specs.Kinds.{is_delete, may_insert}
use Rattle.span_checking.specs.Checking.{cell_causes, cells_cause, lack_causes}
use Rattle.span_checking.specs.InOrder.{is_cell_of, are_cells_at, value_causes, are_in_order, values_cause, places_break}
use Rattle.span_checking.proofs.NamedKinds.{IsNamedSelf, none_placed, names_apart, columns_differ}
use Rattle.span_checking.proofs.Taking.{find_first}

-- ---- the columns at places

abbrev pub AreAt : List Column → List ℕ → List Column → Type 0
AreAt columns [] [] = Unit {0}
AreAt columns [] (c ∷ cs) = ⊥
AreAt columns (p ∷ ps) [] = ⊥
AreAt columns (p ∷ ps) (c ∷ cs) = (slice_get columns p ≡ Some c) × AreAt columns ps cs

pub at_seam : {X : Type 0} (front rest : List X) (x : X) → slice_get (front ++ x ∷ rest) (length front) ≡ Some x
at_seam [] rest x = refl
at_seam (f ∷ fs) rest x = at_seam fs rest x

others_next : (key : List KeyColumn) (front cs : List Column) (c : Column) → AreAt ((front ++ c ∷ []) ++ cs) (layout.other_places key (length (front ++ c ∷ [])) cs) (other_columns key cs)
    → AreAt (front ++ c ∷ cs) (layout.other_places key (length front + 1) cs) (other_columns key cs)
others_next key front cs c h =
    subst (λ (n : ℕ). AreAt (front ++ c ∷ cs) (layout.other_places key n cs) (other_columns key cs)) (length-append front (c ∷ []))
    (subst (λ (all : List Column). AreAt all (layout.other_places key (length (front ++ c ∷ [])) cs) (other_columns key cs)) (append_assoc front (c ∷ []) cs) h)

others_from : (key : List KeyColumn) (front cs : List Column) → AreAt (front ++ cs) (layout.other_places key (length front) cs) (other_columns key cs)
others_from key front [] = tt
others_from key front (c ∷ cs) = cases (is_key_name key c.name) (others_next key front cs c (others_from key (front ++ c ∷ []) cs))
  where
    cases : (b : Bool) → AreAt (front ++ c ∷ cs) (layout.other_places key (length front + 1) cs) (other_columns key cs)
        → AreAt (front ++ c ∷ cs) (cond b (layout.other_places key (length front + 1) cs) (length front ∷ layout.other_places key (length front + 1) cs)) (cond (not b) (c ∷ other_columns key cs) (other_columns key cs))
    cases true h = h
    cases false h = (at_seam front cs c, h)

pub others_at : (t : Table) → AreAt t.columns (layout.other_places t.key 0 t.columns) (other_columns t.key t.columns)
others_at t = others_from t.key [] t.columns

-- ---- what is known of a column outside the key

record IsOther (t : Table) (c : Column) : Type 0 where
  pub outside : is_key_name t.key c.name ≡ false
  pub self : column_named t.columns c.name ≡ Some c

others_known : (t : Table) (cs : List Column) → AllByRecursion (IsNamedSelf t.columns) cs → AllByRecursion (IsOther t) (other_columns t.key cs)
others_known t [] h = tt
others_known t (c ∷ cs) h = cases (is_key_name t.key c.name) refl (others_known t cs h.1)
  where
    cases : (b : Bool) → is_key_name t.key c.name ≡ b → AllByRecursion (IsOther t) (other_columns t.key cs) → AllByRecursion (IsOther t) (cond (not b) (c ∷ other_columns t.key cs) (other_columns t.key cs))
    cases true e more = more
    cases false e more = (record { outside = e; self = h.0 }, more)

-- names of columns, none of which a column after it has
abbrev pub Apart : List Column → Type 0
Apart [] = Unit {0}
Apart (c ∷ cs) = AllByRecursion (λ (d : Column). is_same_name c.name d.name ≡ false) cs × Apart cs

pub apart_from : (cs : List Column) → has_repeated_column cs ≡ false → Apart cs
apart_from [] h = tt
apart_from (c ∷ cs) h =
    let parts = or_parts (is_some (column_place cs c.name)) (has_repeated_column cs) h in (
      all_weaker (λ (d : Column). is_same_name d.name c.name ≡ false) (λ (d : Column). is_same_name c.name d.name ≡ false) (λ d e. not_other_way d.name c.name e) cs
          (none_placed (λ (d : Column). is_same_name d.name c.name) cs parts.0),
      apart_from cs parts.1,
    )

pub apart_others : (key : List KeyColumn) (cs : List Column) → Apart cs → Apart (other_columns key cs)
apart_others key [] h = tt
apart_others key (c ∷ cs) h = cases (is_key_name key c.name) (apart_others key cs h.1)
  where
    cases : (b : Bool) → Apart (other_columns key cs) → Apart (cond (not b) (c ∷ other_columns key cs) (other_columns key cs))
    cases true more = more
    cases false more = (all_filter (λ (d : Column). is_same_name c.name d.name ≡ false) (λ (d : Column). not (is_key_name key d.name)) cs h.0, more)

-- ---- the first cell is of the first column

record Heads (columns : List Column) (p : ℕ) (ps : List ℕ) (x : NamedValue) (xs : List NamedValue) (c : Column) : Type 0 where
  pub name : x.column ≡ c.name
  pub rest : are_cells_at columns ps xs ≡ true

heads : (columns : List Column) (p : ℕ) (ps : List ℕ) (x : NamedValue) (xs : List NamedValue) (c : Column) → slice_get columns p ≡ Some c → are_cells_at columns (p ∷ ps) (x ∷ xs) ≡ true
    → Heads columns p ps x xs c
heads columns p ps x xs c at e =
    let here : (bytes_eq x.column c.name && are_cells_at columns ps xs) ≡ true = subst (λ (o : Option Column). (is_cell_of o x && are_cells_at columns ps xs) ≡ true) at e in
    let parts = and_parts (bytes_eq x.column c.name) (are_cells_at columns ps xs) here in
    record { name = (bytes_eq-Decides x.column c.name).0 parts.0; rest = parts.1 }

-- ---- the cause of the cells

abbrev causes_of : Bool → Option Column → Bool → Value → List (Bool × Refusal)
causes_of deletes o named v = (deletes || is_none o || named, NoColumn) ∷ value_causes o v

pub named_more : (before : List NamedValue) (x : NamedValue) (name : List ℕ) → is_named before name ≡ false → is_same_name x.column name ≡ false → is_named (before ++ x ∷ []) name ≡ false
named_more [] x name h g = or_from (is_same_name x.column name) false g refl
named_more (b ∷ bs) x name h g =
    let parts = or_parts (is_same_name b.column name) (is_named bs name) h in
    or_from (is_same_name b.column name) (is_named (bs ++ x ∷ []) name) parts.0 (named_more bs x name parts.1 g)

all_named_more : (before : List NamedValue) (x : NamedValue) (cs : List Column) → AllByRecursion (λ (d : Column). is_named before d.name ≡ false) cs
    → AllByRecursion (λ (d : Column). is_same_name x.column d.name ≡ false) cs → AllByRecursion (λ (d : Column). is_named (before ++ x ∷ []) d.name ≡ false) cs
all_named_more before x [] h g = tt
all_named_more before x (c ∷ cs) h g = (named_more before x c.name h.0 g.0, all_named_more before x cs h.1 g.1)

causes_in_order : (t : Table) (kind : MutationKind) → is_delete kind ≡ false → (ps : List ℕ) (cs : List Column) (before xs : List NamedValue) → AreAt t.columns ps cs → AllByRecursion (IsOther t) cs → Apart cs
    → AllByRecursion (λ (d : Column). is_named before d.name ≡ false) cs → are_cells_at t.columns ps xs ≡ true → cells_cause t kind before xs ≡ values_cause t.columns ps xs
causes_in_order t kind put [] cs before [] at known apart new e = refl
causes_in_order t kind put [] cs before (x ∷ xs) at known apart new e = absurd (let f : false ≡ true = e in cc)
causes_in_order t kind put (p ∷ ps) cs before [] at known apart new e = absurd (let f : false ≡ true = e in cc)
causes_in_order t kind put (p ∷ ps) [] before (x ∷ xs) at known apart new e = absurd at
causes_in_order t kind put (p ∷ ps) (c ∷ cs) before (x ∷ xs) at known apart new e =
    let parts = heads t.columns p ps x xs c at.0 e in
    let column : cell_column t x.column ≡ Some c = ap (cell_column t) parts.name ∙ ap (λ (b : Bool). cond b None (column_named t.columns c.name)) known.0.outside ∙ known.0.self in
    let fresh : is_named before x.column ≡ false = ap (is_named before) parts.name ∙ new.0 in
    let here : first_cause (cell_causes t kind before x) ≡ first_cause (value_causes (slice_get t.columns p) x.value) =
    ap (λ (b : Bool). first_cause (causes_of b (cell_column t x.column) (is_named before x.column) x.value)) put
    ∙ ap (λ (o : Option Column). first_cause (causes_of false o (is_named before x.column) x.value)) column
    ∙ ap (λ (b : Bool). first_cause (causes_of false (Some c) b x.value)) fresh
    ∙ ap (λ (o : Option Column). first_cause (value_causes o x.value)) (sym at.0) in
    let others : AllByRecursion (λ (d : Column). is_same_name x.column d.name ≡ false) cs = subst (λ (n : List ℕ). AllByRecursion (λ (d : Column). is_same_name n d.name ≡ false) cs) (sym parts.name) apart.0 in
    let next = causes_in_order t kind put ps cs (before ++ x ∷ []) xs at.1 known.1 apart.1 (all_named_more before x cs new.1 others) parts.rest in
    ap (λ (o : Option Refusal). option_or o (cells_cause t kind (before ++ x ∷ []) xs)) here
    ∙ ap (λ (o : Option Refusal). option_or (first_cause (value_causes (slice_get t.columns p) x.value)) o) next

none_before : (cs : List Column) → AllByRecursion (λ (d : Column). is_named [] d.name ≡ false) cs
none_before [] = tt
none_before (c ∷ cs) = (refl, none_before cs)

values_refuse : (t : Table) → has_bad_column t ≡ false → (kind : MutationKind) → is_delete kind ≡ false → (cells : List NamedValue)
    → are_cells_at t.columns (layout.other_places t.key 0 t.columns) cells ≡ true → cells_cause t kind [] cells ≡ values_cause t.columns (layout.other_places t.key 0 t.columns) cells
values_refuse t rules kind put cells e =
    let once = columns_differ t rules in
    causes_in_order t kind put (layout.other_places t.key 0 t.columns) (other_columns t.key t.columns) [] cells (others_at t) (others_known t t.columns (names_apart t.columns once))
    (apart_others t.key t.columns (apart_from t.columns once)) (none_before (other_columns t.key t.columns)) e

-- ---- nothing is lacking

same_self : (a b : List ℕ) → a ≡ b → is_same_name a b ≡ true
same_self a b e = subst (λ (n : List ℕ). is_same_name a n ≡ true) e (lower_same a a refl)

all_named : (columns : List Column) (ps : List ℕ) (cs : List Column) (xs : List NamedValue) → AreAt columns ps cs → are_cells_at columns ps xs ≡ true → AllByRecursion (λ (d : Column). is_named xs d.name ≡ true) cs
all_named columns [] [] xs at e = tt
all_named columns [] (c ∷ cs) xs at e = absurd at
all_named columns (p ∷ ps) [] xs at e = absurd at
all_named columns (p ∷ ps) (c ∷ cs) [] at e = absurd (let f : false ≡ true = e in cc)
all_named columns (p ∷ ps) (c ∷ cs) (x ∷ xs) at e =
    let parts = heads columns p ps x xs c at.0 e in (
      ap (λ (b : Bool). b || is_named xs c.name) (same_self x.column c.name parts.name),
      all_weaker (λ (d : Column). is_named xs d.name ≡ true) (λ (d : Column). is_named (x ∷ xs) d.name ≡ true) (λ d h. or_right (is_same_name x.column d.name) (is_named xs d.name) h) cs
          (all_named columns ps cs xs at.1 parts.rest),
    )

lacks_none : (key : List KeyColumn) (cells : List NamedValue) (cs : List Column) → AllByRecursion (λ (d : Column). is_named cells d.name ≡ true) (other_columns key cs) → lacks_cell key cells cs ≡ false
lacks_none key cells [] h = refl
lacks_none key cells (c ∷ cs) h = cases (is_key_name key c.name) h (λ more. lacks_none key cells cs more)
  where
    cases : (b : Bool) → AllByRecursion (λ (d : Column). is_named cells d.name ≡ true) (cond (not b) (c ∷ other_columns key cs) (other_columns key cs))
        → (AllByRecursion (λ (d : Column). is_named cells d.name ≡ true) (other_columns key cs) → list_any (is_lacking key cells) cs ≡ false)
        → ((c.not_null && not b && not (is_named cells c.name)) || list_any (is_lacking key cells) cs) ≡ false
    cases true g again = or_from (c.not_null && false && not (is_named cells c.name)) (list_any (is_lacking key cells) cs) (and_left (c.not_null && false) (not (is_named cells c.name)) (and_right c.not_null false refl)) (again g)
    cases false g again = or_from (c.not_null && true && not (is_named cells c.name)) (list_any (is_lacking key cells) cs) (and_right (c.not_null && true) (not (is_named cells c.name)) (ap not g.0)) (again g.1)

nothing_lacks : (t : Table) (m : Mutation) → are_cells_at t.columns (layout.other_places t.key 0 t.columns) m.cells ≡ true → first_cause (lack_causes t m) ≡ None
nothing_lacks t m e =
    let all = all_named t.columns (layout.other_places t.key 0 t.columns) (other_columns t.key t.columns) m.cells (others_at t) e in
    ap (λ (b : Bool). first_cause ((b, NullNotAllowed) ∷ [])) (and_right (may_insert m.kind) (lacks_cell t.key m.cells t.columns) (lacks_none t.key m.cells t.columns all))

or_none_right : (o : Option Refusal) → option_or o None ≡ o
or_none_right None = refl
or_none_right (Some why) = refl

-- cells in the columns' order are refused by the first of their values that its column does not take, and by nothing else
pub named_cause : (t : Table) → has_bad_column t ≡ false → (m : Mutation) → is_delete m.kind ≡ false → are_in_order t m.cells ≡ true
    → values_cause t.columns (layout.other_places t.key 0 t.columns) m.cells ≡ option_or (cells_cause t m.kind [] m.cells) (first_cause (lack_causes t m))
named_cause t rules m put e =
    sym (
    ap (option_or (cells_cause t m.kind [] m.cells)) (nothing_lacks t m e)
    ∙ or_none_right (cells_cause t m.kind [] m.cells)
    ∙ values_refuse t rules m.kind put m.cells e
    )

-- ---- the values, in order

passed_over : (x : NamedValue) (xs : List NamedValue) (cs : List Column) → AllByRecursion (λ (d : Column). is_same_name x.column d.name ≡ false) cs
    → map (λ (d : Column). value_named (x ∷ xs) d.name) cs ≡ map (λ (d : Column). value_named xs d.name) cs
passed_over x xs [] h = refl
passed_over x xs (c ∷ cs) h =
    ap (λ (b : Bool). option_map (λ (y : NamedValue). y.value) (cond b (Some x) (find (λ (y : NamedValue). is_same_name y.column c.name) xs)) ∷ map (λ (d : Column). value_named (x ∷ xs) d.name) cs) h.0
    ∙ ap (λ (vs : List (Option Value)). value_named xs c.name ∷ vs) (passed_over x xs cs h.1)

values_at : (columns : List Column) (ps : List ℕ) (cs : List Column) (xs : List NamedValue) → AreAt columns ps cs → Apart cs → are_cells_at columns ps xs ≡ true
    → map (λ (d : Column). value_named xs d.name) cs ≡ map (λ (x : NamedValue). Some x.value) xs
values_at columns [] [] [] at apart e = refl
values_at columns [] [] (x ∷ xs) at apart e = absurd (let f : false ≡ true = e in cc)
values_at columns [] (c ∷ cs) xs at apart e = absurd at
values_at columns (p ∷ ps) [] xs at apart e = absurd at
values_at columns (p ∷ ps) (c ∷ cs) [] at apart e = absurd (let f : false ≡ true = e in cc)
values_at columns (p ∷ ps) (c ∷ cs) (x ∷ xs) at apart e =
    let parts = heads columns p ps x xs c at.0 e in
    let others : AllByRecursion (λ (d : Column). is_same_name x.column d.name ≡ false) cs = subst (λ (n : List ℕ). AllByRecursion (λ (d : Column). is_same_name n d.name ≡ false) cs) (sym parts.name) apart.0 in
    ap (λ (b : Bool). option_map (λ (y : NamedValue). y.value) (cond b (Some x) (find (λ (y : NamedValue). is_same_name y.column c.name) xs)) ∷ map (λ (d : Column). value_named (x ∷ xs) d.name) cs)
    (same_self x.column c.name parts.name)
    ∙ ap (λ (vs : List (Option Value)). Some x.value ∷ vs) (passed_over x xs cs others ∙ values_at columns ps cs xs at.1 apart.1 parts.rest)

-- what cells in the columns' order give the columns are their values, in order
pub values_given : (t : Table) → has_repeated_column t.columns ≡ false → (cells : List NamedValue) → are_in_order t cells ≡ true
    → values_named t.key cells t.columns ≡ map (λ (x : NamedValue). Some x.value) cells
values_given t once cells e =
    values_at t.columns (layout.other_places t.key 0 t.columns) (other_columns t.key t.columns) cells (others_at t) (apart_others t.key t.columns (apart_from t.columns once)) e

-- ---- the key

found_at : (columns : List Column) (name : List ℕ) (p : ℕ) → column_place columns name ≡ Some p → slice_get columns p ≡ column_named columns name
found_at [] name p e = absurd cc
found_at (c ∷ cs) name p e =
    let test : Column → Bool = λ d. is_same_name d.name name in
    let says = position-Some test (c ∷ cs) p c e in
    slice_get-get_or (c ∷ cs) p c says.0 ∙ sym (find_first test (c ∷ cs) p c says.0 says.1 says.2)

breaks_at : (rule : Option Column → Value → Bool) (columns : List Column) (ks : List KeyColumn) (vs : List Value) → has_unknown_key columns ks ≡ false
    → places_break rule columns (layout.key_places columns ks) vs ≡ key_breaks rule columns ks vs
breaks_at rule columns [] vs h = refl
breaks_at rule columns (k ∷ ks) vs h =
    let parts = or_parts (is_none (column_place columns k.name)) (has_unknown_key columns ks) h in
    cases vs (column_place columns k.name) refl parts.0 (λ ws. breaks_at rule columns ks ws parts.1)
  where
    cases : (vs : List Value) (o : Option ℕ) → column_place columns k.name ≡ o → is_none o ≡ false → ((ws : List Value) → places_break rule columns (layout.key_places columns ks) ws ≡ key_breaks rule columns ks ws)
        → places_break rule columns (cons_option o (layout.key_places columns ks)) vs ≡ key_breaks rule columns (k ∷ ks) vs
    cases vs None e there again = absurd (let f : true ≡ false = there in cc)
    cases [] (Some p) e there again = refl
    cases (v ∷ vs) (Some p) e there again =
        ap (λ (o : Option Column). rule o v || places_break rule columns (layout.key_places columns ks) vs) (found_at columns k.name p e)
        ∙ ap (λ (b : Bool). rule (column_named columns k.name) v || b) (again vs)

-- each column of the key is in the table
keys_known : (t : Table) → has_bad_column t ≡ false → has_unknown_key t.columns t.key ≡ false
keys_known t h =
    let a = or_parts (has_repeated_column t.columns || (length t.key == 0) || has_unknown_key t.columns t.key || has_repeated_key t.key) (has_bad_lengths t.columns) h in
    let b = or_parts (has_repeated_column t.columns || (length t.key == 0) || has_unknown_key t.columns t.key) (has_repeated_key t.key) a.0 in
    (or_parts (has_repeated_column t.columns || (length t.key == 0)) (has_unknown_key t.columns t.key) b.0).1

-- ---- the same of a table of a schema

pub rules_at : (tables : List Table) → MeetsRules tables → (n : ℕ) (t : Table) → Some t ≡ table_at tables n → has_bad_column t ≡ false
rules_at tables rules n t at = let here : slice_get tables (n - 1) ≡ Some t = sym at in (passes_at tables rules (n - 1) t here).columns

pub other_places_of : (tables : List Table) (n : ℕ) (t : Table) → Some t ≡ table_at tables n → other_places tables n ≡ layout.other_places t.key 0 t.columns
other_places_of tables n t at = ap (λ (o : Option Table). layout.other_places (key_in o) 0 (columns_in o)) (sym at)

pub key_breaks_of : (tables : List Table) → MeetsRules tables → (n : ℕ) (t : Table) → Some t ≡ table_at tables n → (rule : Option Column → Value → Bool) (key : List Value)
    → places_break rule t.columns (key_places tables n) key ≡ key_breaks rule t.columns t.key key
key_breaks_of tables rules n t at rule key =
    ap (λ (o : Option Table). places_break rule t.columns (layout.key_places (columns_in o) (key_in o)) key) (sym at)
    ∙ breaks_at rule t.columns t.key key (keys_known t (rules_at tables rules n t at))

-- ---- the walks

pub cells_differ : (columns : List Column) (ps : List ℕ) (xs : List NamedValue) → length ps ≢ length xs → are_cells_at columns ps xs ≡ false
cells_differ columns [] [] h = absurd (h refl)
cells_differ columns [] (x ∷ xs) h = refl
cells_differ columns (p ∷ ps) [] h = refl
cells_differ columns (p ∷ ps) (x ∷ xs) h = and_right (is_cell_of (slice_get columns p) x) (are_cells_at columns ps xs) (cells_differ columns ps xs (λ e. h (ap suc e)))

pub cells_step : (columns : List Column) (ps : List ℕ) (xs : List NamedValue) (i d : ℕ) (x : NamedValue) → i < length ps → i < length xs → x ≡ get_or xs i x
    → are_cells_at columns (drop i ps) (drop i xs) ≡ (is_cell_of (slice_get columns (get_or ps i d)) x && are_cells_at columns (drop (suc i) ps) (drop (suc i) xs))
cells_step columns [] xs i d x h g f = absurd (let less : i < 0 = h in omega arith)
cells_step columns (p ∷ ps) [] i d x h g f = absurd (let less : i < 0 = g in omega arith)
cells_step columns (p ∷ ps) (y ∷ xs) zero d x h g f = ap (λ (z : NamedValue). is_cell_of (slice_get columns p) z && are_cells_at columns ps xs) (sym f)
cells_step columns (p ∷ ps) (y ∷ xs) (suc i) d x h g f = cells_step columns ps xs i d x (omega arith) (omega arith) f

pub values_end : (columns : List Column) (ps : List ℕ) (xs : List NamedValue) → min (length ps) (length xs) ≤ 0 → values_cause columns ps xs ≡ None
values_end columns [] xs h = refl
values_end columns (p ∷ ps) [] h = refl
values_end columns (p ∷ ps) (x ∷ xs) h = absurd (omega arith)

pub breaks_end : (rule : Option Column → Value → Bool) (columns : List Column) (ps : List ℕ) (vs : List Value) → min (length ps) (length vs) ≤ 0 → places_break rule columns ps vs ≡ false
breaks_end rule columns [] vs h = refl
breaks_end rule columns (p ∷ ps) [] h = refl
breaks_end rule columns (p ∷ ps) (v ∷ vs) h = absurd (omega arith)
