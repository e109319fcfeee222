-- Rows of batches whose names were looked up once: what is found by the numbers of the names is what is found by the names.
use Rattle.std.proofs.Common.{◌≡◌, ◌≢◌, ℕ, zero, suc, ◌+◌, ◌<◌, ◌≤◌, Bool, true, false, ◌&&◌, ◌||◌, not, cond, List, [], ◌∷◌, ◌++◌, Option, Some, None, is_none, is_some, Ok, length, drop, get_or, min, map, refl, sym, ap, subst, ◌∙◌, arith}
use Rattle.std.specs.Prelude.{slice_get, position, IfSome}
use Rattle.std.specs.List.{AllByRecursion, find, list_any, position_or_len}
use Rattle.std.specs.Option.{option_map, option_or}
use Rattle.std.proofs.lemmas.Bool.{and_parts, or_parts, or_from, not-true}
use Rattle.std.proofs.lemmas.List.{drop_more}
use Rattle.std.proofs.lemmas.List.Folds.{find_at}
use Rattle.std.proofs.lemmas.List.Quantifiers.{position-Some}
use Rattle.std.proofs.Math.Bool.{and-true, and-false}
use Rattle.span_value.specs.Results.{first_cause}
use Rattle.span_value.specs.declared.value.Value.{Value}
use Rattle.span_value.specs.declared.refusal.Refusal.{Refusal}
use Rattle.span_value.specs.declared.refusal.Refusal.TheVariants.{NoColumn}
use Rattle.span_value.proofs.Lists.{all_weaker}
use Rattle.span_schema.specs.declared.table.Table.{Table}
use Rattle.span_schema.specs.declared.table.Column.{Column}
use Rattle.span_schema.specs.declared.table.KeyColumn.{KeyColumn}
use Rattle.span_schema.specs.Tables.{is_same_name, is_key_name}
use Rattle.span_schema.specs.Layouts as layout
use Rattle.span_schema.specs.Lineages.{MeetsRules}
use Rattle.span_schema.specs.Numbers.{table_at, key_in, columns_in, other_places, other_kinds}
use Rattle.span_schema.proofs.Names.{same_lower, lower_same}
use Rattle.span_mutate.specs.declared.mutation.NamedValue.{NamedValue}
use Rattle.span_mutate.specs.declared.mutation.MutationKind.{MutationKind}
use Rattle.span_mutate.specs.declared.batch.Heading.{Heading}
use Rattle.span_mutate.specs.declared.batch.BatchRow.{BatchRow}
use Rattle.span_checking.specs.declared.named_columns.NamedColumns.{NamedColumns}
use Rattle.span_mutate.specs.Batches.{named_cells, row_mutation, with_cell}
use Rattle.span_checking.specs.Checking.{cell_causes, cells_cause, checked, checked_at, checked_in, mutation_cause, typed}
use Rattle.span_mutate.specs.Database.{unless}
use Rattle.span_checking.specs.Columns.{cell_column, column_named, is_lacking, is_named, lacks_cell, other_columns, value_named, values_named}
use Rattle.span_mutate.specs.Kinds.{is_delete}
use Rattle.span_checking.specs.InOrder.{row_cause, value_causes}
use Rattle.span_checking.specs.NamedBatches.{AreApart, IsNamed, are_new_names, has_name, is_left_out, is_new_name, lacks_value, name_of, place_named, value_at}
use Rattle.span_mutate.specs.Typed.{are_named_kinds}
use Rattle.span_checking.proofs.InOrder.{Apart, AreAt, apart_from, apart_others, named_more, other_places_of, others_at}
use Rattle.span_checking.proofs.NamedKinds.{columns_apart, mutation_kinds, none_placed}

-- ---- names, each once

name_kept : (names : List (List ℕ)) (n m : List ℕ) → has_name (names ++ n ∷ []) m ≡ false → has_name names m ≡ false
name_kept [] n m h = refl
name_kept (k ∷ ks) n m h =
    let parts = or_parts (is_same_name k m) (has_name (ks ++ n ∷ []) m) h in
    or_from (is_same_name k m) (has_name ks m) parts.0 (name_kept ks n m parts.1)

name_last : (names : List (List ℕ)) (n m : List ℕ) → has_name (names ++ n ∷ []) m ≡ false → is_same_name n m ≡ false
name_last [] n m h = (or_parts (is_same_name n m) false h).0
name_last (k ∷ ks) n m h = name_last ks n m (or_parts (is_same_name k m) (has_name (ks ++ n ∷ []) m) h).1

record IsNew (t : Table) (before : List (List ℕ)) (n : List ℕ) (ns : List (List ℕ)) : Type 0 where
  pub there : is_some (cell_column t n) ≡ true
  pub fresh : has_name before n ≡ false
  pub rest : are_new_names t (before ++ n ∷ []) ns ≡ true

new_parts : (t : Table) (before : List (List ℕ)) (n : List ℕ) (ns : List (List ℕ)) → are_new_names t before (n ∷ ns) ≡ true → IsNew t before n ns
new_parts t before n ns e =
    let parts = and_parts (is_new_name t before n) (are_new_names t (before ++ n ∷ []) ns) e in
    let here = and_parts (is_some (cell_column t n)) (not (has_name before n)) parts.0 in
    record { there = here.0; fresh = not-true (has_name before n) here.1; rest = parts.1 }

-- a name that is not that of a name has another name
differs : (n m name : List ℕ) → is_same_name n name ≡ true → is_same_name n m ≡ false → is_same_name m name ≡ false
differs n m name is isnt = cases (is_same_name m name) refl
  where
    cases : (b : Bool) → is_same_name m name ≡ b → b ≡ false
    cases true e = absurd (let f : true ≡ false = sym (lower_same n m (same_lower n name is ∙ sym (same_lower m name e))) ∙ isnt in cc)
    cases false e = refl

apart_names : (t : Table) (n : List ℕ) (seen names : List (List ℕ)) → ((m : List ℕ) → has_name seen m ≡ false → is_same_name n m ≡ false) → are_new_names t seen names ≡ true
    → AllByRecursion (λ (m : List ℕ). is_same_name n m ≡ false) names
apart_names t n seen [] far e = tt
apart_names t n seen (m ∷ ms) far e =
    let new = new_parts t seen m ms e in
    (far m new.fresh, apart_names t n (seen ++ m ∷ []) ms (λ k h. far k (name_kept seen m k h)) new.rest)

-- ---- the cause of the cells

column_there : (t : Table) (n : List ℕ) → is_some (cell_column t n) ≡ true → cell_column t n ≡ slice_get t.columns (place_named t.columns n)
column_there t n there = cases (is_key_name t.key n) there
  where
    cases : (b : Bool) → is_some (cond b None (column_named t.columns n)) ≡ true → cond b None (column_named t.columns n) ≡ slice_get t.columns (place_named t.columns n)
    cases true h = absurd (let f : false ≡ true = h in cc)
    cases false h = find_at (λ (c : Column). is_same_name c.name n) t.columns

abbrev causes_of : Bool → Option Column → Bool → Value → List (Bool × Refusal)
causes_of deletes o named v = (deletes || is_none o || named, NoColumn) ∷ value_causes o v

cause_there : (t : Table) (kind : MutationKind) → is_delete kind ≡ false → (before : List NamedValue) (n : List ℕ) (x : Value) → is_some (cell_column t n) ≡ true → is_named before n ≡ false
    → first_cause (cell_causes t kind before (record { column = n; value = x })) ≡ first_cause (value_causes (slice_get t.columns (place_named t.columns n)) x)
cause_there t kind put before n x there fresh =
    ap (λ (b : Bool). first_cause (causes_of b (cell_column t n) (is_named before n) x)) put
    ∙ ap (λ (b : Bool). first_cause (causes_of false (cell_column t n) b x)) fresh
    ∙ known (cell_column t n) there
    ∙ ap (λ (o : Option Column). first_cause (value_causes o x)) (column_there t n there)
  where
    known : (o : Option Column) → is_some o ≡ true → first_cause (causes_of false o false x) ≡ first_cause (value_causes o x)
    known None h = absurd (let f : false ≡ true = h in cc)
    known (Some c) h = refl

-- cells have no names but these
abbrev Covers : List (List ℕ) → List NamedValue → Type 0
Covers seen cells = (m : List ℕ) → has_name seen m ≡ false → is_named cells m ≡ false

causes_named : (t : Table) (kind : MutationKind) → is_delete kind ≡ false → (seen names : List (List ℕ)) (vs : List (Option Value)) (before : List NamedValue) → Covers seen before
    → are_new_names t seen names ≡ true → row_cause t.columns (map (place_named t.columns) names) vs ≡ cells_cause t kind before (named_cells vs names)
causes_named t kind put seen [] [] before covers e = refl
causes_named t kind put seen [] (v ∷ vs) before covers e = refl
causes_named t kind put seen (n ∷ ns) [] before covers e = refl
causes_named t kind put seen (n ∷ ns) (v ∷ vs) before covers e =
    let new = new_parts t seen n ns e in cases v new (λ cells more. causes_named t kind put (seen ++ n ∷ []) ns vs cells more new.rest)
  where
    cases : (o : Option Value) → IsNew t seen n ns
        → ((cells : List NamedValue) → Covers (seen ++ n ∷ []) cells → row_cause t.columns (map (place_named t.columns) ns) vs ≡ cells_cause t kind cells (named_cells vs ns))
        → row_cause t.columns (place_named t.columns n ∷ map (place_named t.columns) ns) (o ∷ vs) ≡ cells_cause t kind before (with_cell n o (named_cells vs ns))
    cases None new again = again before (λ m h. covers m (name_kept seen n m h))
    cases (Some x) new again =
        let cell : NamedValue = record { column = n; value = x } in
        let here = cause_there t kind put before n x new.there (covers n new.fresh) in
        let next = again (before ++ cell ∷ []) (λ m h. named_more before cell m (covers m (name_kept seen n m h)) (name_last seen n m h)) in
        sym (
        ap (λ (o : Option Refusal). option_or o (cells_cause t kind (before ++ cell ∷ []) (named_cells vs ns))) here
        ∙ ap (λ (o : Option Refusal). option_or (first_cause (value_causes (slice_get t.columns (place_named t.columns n)) x)) o) (sym next)
        )

-- ---- the values

unnamed : (names : List (List ℕ)) (vs : List (Option Value)) (name : List ℕ) → AllByRecursion (λ (m : List ℕ). is_same_name m name ≡ false) names → value_named (named_cells vs names) name ≡ None
unnamed names [] name h = refl
unnamed [] (v ∷ vs) name h = refl
unnamed (n ∷ ns) (v ∷ vs) name h = cases v (unnamed ns vs name h.1)
  where
    cases : (o : Option Value) → value_named (named_cells vs ns) name ≡ None → value_named (with_cell n o (named_cells vs ns)) name ≡ None
    cases None again = again
    cases (Some x) again =
        ap (λ (b : Bool). option_map (λ (y : NamedValue). y.value) (cond b (Some (record { column = n; value = x })) (find (λ (y : NamedValue). is_same_name y.column name) (named_cells vs ns)))) h.0
        ∙ again

-- the value under the first name that is this
abbrev value_under : List (List ℕ) → List (Option Value) → List ℕ → Option Value
value_under [] vs name = None
value_under (n ∷ ns) [] name = None
value_under (n ∷ ns) (v ∷ vs) name = cond (is_same_name n name) v (value_under ns vs name)

under_none : (names : List (List ℕ)) (vs : List (Option Value)) (name : List ℕ) → AllByRecursion (λ (m : List ℕ). is_same_name m name ≡ false) names → value_under names vs name ≡ None
under_none [] vs name h = refl
under_none (n ∷ ns) [] name h = refl
under_none (n ∷ ns) (v ∷ vs) name h = ap (λ (b : Bool). cond b v (value_under ns vs name)) h.0 ∙ under_none ns vs name h.1

under_first : (names : List (List ℕ)) (vs : List (Option Value)) (name : List ℕ) (i : ℕ) → i < length names → is_same_name (get_or names i []) name ≡ true
    → ((k : ℕ) → k < i → is_same_name (get_or names k []) name ≡ false) → value_under names vs name ≡ get_or vs i None
under_first [] vs name i h hit before = absurd (let less : i < 0 = h in omega arith)
under_first (n ∷ ns) [] name zero h hit before = refl
under_first (n ∷ ns) [] name (suc i) h hit before = refl
under_first (n ∷ ns) (v ∷ vs) name zero h hit before = ap (λ (b : Bool). cond b v (value_under ns vs name)) hit
under_first (n ∷ ns) (v ∷ vs) name (suc i) h hit before =
    let miss : is_same_name n name ≡ false = before 0 (omega arith) in
    ap (λ (b : Bool). cond b v (value_under ns vs name)) miss ∙ under_first ns vs name i (omega arith) hit (λ k low. before (suc k) (omega arith))

at_under : (names : List (List ℕ)) (vs : List (Option Value)) (name : List ℕ) → value_at vs (position (λ (n : List ℕ). is_same_name n name) names) ≡ value_under names vs name
at_under names vs name = cases (position (λ (n : List ℕ). is_same_name n name) names) refl
  where
    cases : (o : Option ℕ) → position (λ (n : List ℕ). is_same_name n name) names ≡ o → value_at vs o ≡ value_under names vs name
    cases None e = sym (under_none names vs name (none_placed (λ (n : List ℕ). is_same_name n name) names (ap is_some e)))
    cases (Some i) e = let says = position-Some (λ (n : List ℕ). is_same_name n name) names i [] e in sym (under_first names vs name i says.0 says.1 says.2)

under_named : (t : Table) (seen names : List (List ℕ)) (vs : List (Option Value)) (name : List ℕ) → are_new_names t seen names ≡ true → value_under names vs name ≡ value_named (named_cells vs names) name
under_named t seen [] [] name e = refl
under_named t seen [] (v ∷ vs) name e = refl
under_named t seen (n ∷ ns) [] name e = refl
under_named t seen (n ∷ ns) (v ∷ vs) name e =
    let new = new_parts t seen n ns e in
    cases v (is_same_name n name) refl (apart_names t n (seen ++ n ∷ []) ns (λ m h. name_last seen n m h) new.rest) (under_named t (seen ++ n ∷ []) ns vs name new.rest)
  where
    cases : (o : Option Value) (b : Bool) → is_same_name n name ≡ b → AllByRecursion (λ (m : List ℕ). is_same_name n m ≡ false) ns → value_under ns vs name ≡ value_named (named_cells vs ns) name
        → cond b o (value_under ns vs name) ≡ value_named (with_cell n o (named_cells vs ns)) name
    cases None true e far again = sym (unnamed ns vs name (all_weaker (λ (m : List ℕ). is_same_name n m ≡ false) (λ (m : List ℕ). is_same_name m name ≡ false) (λ m f. differs n m name e f) ns far))
    cases None false e far again = again
    cases (Some x) true e far again =
        sym (ap (λ (b : Bool). option_map (λ (y : NamedValue). y.value) (cond b (Some (record { column = n; value = x })) (find (λ (y : NamedValue). is_same_name y.column name) (named_cells vs ns)))) e)
    cases (Some x) false e far again =
        again
        ∙ sym (ap (λ (b : Bool). option_map (λ (y : NamedValue). y.value) (cond b (Some (record { column = n; value = x })) (find (λ (y : NamedValue). is_same_name y.column name) (named_cells vs ns)))) e)

-- the value of a column by its name's number
value_there : (t : Table) (names : List (List ℕ)) (vs : List (Option Value)) → are_new_names t [] names ≡ true → (p : ℕ) (c : Column) → slice_get t.columns p ≡ Some c
    → value_at vs (name_of names (slice_get t.columns p)) ≡ value_named (named_cells vs names) c.name
value_there t names vs e p c at = ap (λ (o : Option Column). value_at vs (name_of names o)) at ∙ at_under names vs c.name ∙ under_named t [] names vs c.name e

values_there : (t : Table) (names : List (List ℕ)) (vs : List (Option Value)) → are_new_names t [] names ≡ true → (ps : List ℕ) (cs : List Column) → AreAt t.columns ps cs
    → map (value_at vs) (map (λ (p : ℕ). name_of names (slice_get t.columns p)) ps) ≡ map (λ (c : Column). value_named (named_cells vs names) c.name) cs
values_there t names vs e [] [] at = refl
values_there t names vs e [] (c ∷ cs) at = absurd at
values_there t names vs e (p ∷ ps) [] at = absurd at
values_there t names vs e (p ∷ ps) (c ∷ cs) at =
    ap (λ (v : Option Value). v ∷ map (value_at vs) (map (λ (q : ℕ). name_of names (slice_get t.columns q)) ps)) (value_there t names vs e p c at.0)
    ∙ ap (λ (l : List (Option Value)). value_named (named_cells vs names) c.name ∷ l) (values_there t names vs e ps cs at.1)

-- ---- what is lacking

none_named : (cells : List NamedValue) (name : List ℕ) → is_none (value_named cells name) ≡ not (is_named cells name)
none_named [] name = refl
none_named (x ∷ xs) name = cases (is_same_name x.column name) (none_named xs name)
  where
    cases : (b : Bool) → is_none (value_named xs name) ≡ not (is_named xs name)
        → is_none (option_map (λ (y : NamedValue). y.value) (cond b (Some x) (find (λ (y : NamedValue). is_same_name y.column name) xs))) ≡ not (b || is_named xs name)
    cases true again = refl
    cases false again = again

lacks_there : (t : Table) (names : List (List ℕ)) (vs : List (Option Value)) → are_new_names t [] names ≡ true → (ps : List ℕ) (cs : List Column) → AreAt t.columns ps cs
    → lacks_value t.columns ps (map (λ (p : ℕ). name_of names (slice_get t.columns p)) ps) vs ≡ list_any (λ (c : Column). c.not_null && not (is_named (named_cells vs names) c.name)) cs
lacks_there t names vs e [] [] at = refl
lacks_there t names vs e [] (c ∷ cs) at = absurd at
lacks_there t names vs e (p ∷ ps) [] at = absurd at
lacks_there t names vs e (p ∷ ps) (c ∷ cs) at =
    let rest = lacks_value t.columns ps (map (λ (q : ℕ). name_of names (slice_get t.columns q)) ps) vs in
    ap (λ (v : Option Value). is_left_out (slice_get t.columns p) v || rest) (value_there t names vs e p c at.0)
    ∙ ap (λ (o : Option Column). is_left_out o (value_named (named_cells vs names) c.name) || rest) at.0
    ∙ ap (λ (b : Bool). (c.not_null && b) || rest) (none_named (named_cells vs names) c.name)
    ∙ ap (λ (b : Bool). (c.not_null && not (is_named (named_cells vs names) c.name)) || b) (lacks_there t names vs e ps cs at.1)

lacks_outside : (key : List KeyColumn) (cells : List NamedValue) (cs : List Column) → list_any (λ (c : Column). c.not_null && not (is_named cells c.name)) (other_columns key cs) ≡ lacks_cell key cells cs
lacks_outside key cells [] = refl
lacks_outside key cells (c ∷ cs) = cases (is_key_name key c.name) (lacks_outside key cells cs)
  where
    cases : (b : Bool) → list_any (λ (d : Column). d.not_null && not (is_named cells d.name)) (other_columns key cs) ≡ lacks_cell key cells cs
        → list_any (λ (d : Column). d.not_null && not (is_named cells d.name)) (cond (not b) (c ∷ other_columns key cs) (other_columns key cs))
        ≡ ((c.not_null && not b && not (is_named cells c.name)) || list_any (is_lacking key cells) cs)
    cases true again = again ∙ sym (ap (λ (b : Bool). (b && not (is_named cells c.name)) || list_any (is_lacking key cells) cs) (and-false c.not_null))
    cases false again =
        ap (λ (b : Bool). (c.not_null && not (is_named cells c.name)) || b) again
        ∙ sym (ap (λ (b : Bool). (b && not (is_named cells c.name)) || list_any (is_lacking key cells) cs) (and-true c.not_null))

-- ---- no two columns have one name

not_one : (names : List (List ℕ)) (a b : List ℕ) (k : ℕ) → is_same_name a b ≡ false → position (λ (n : List ℕ). is_same_name n a) names ≡ Some k → position (λ (n : List ℕ). is_same_name n b) names ≢ Some k
not_one names a b k apart e f =
    let one = (position-Some (λ (n : List ℕ). is_same_name n a) names k [] e).1 in
    let two = (position-Some (λ (n : List ℕ). is_same_name n b) names k [] f).1 in
    let bad : true ≡ false = sym (lower_same a b (sym (same_lower (get_or names k []) a one) ∙ same_lower (get_or names k []) b two)) ∙ apart in
    absurd (cc)

far_from : (names : List (List ℕ)) (columns : List Column) (p : ℕ) (c : Column) → slice_get columns p ≡ Some c → (ps : List ℕ) (cs : List Column) → AreAt columns ps cs
    → AllByRecursion (λ (d : Column). is_same_name c.name d.name ≡ false) cs
    → AllByRecursion (λ (j : Option ℕ). (k : ℕ) → name_of names (slice_get columns p) ≡ Some k → j ≢ Some k) (map (λ (q : ℕ). name_of names (slice_get columns q)) ps)
far_from names columns p c is [] [] at h = tt
far_from names columns p c is [] (d ∷ ds) at h = absurd at
far_from names columns p c is (q ∷ qs) [] at h = absurd at
far_from names columns p c is (q ∷ qs) (d ∷ ds) at h =
    (λ k e f. not_one names c.name d.name k h.0 (sym (ap (name_of names) is) ∙ e) (sym (ap (name_of names) at.0) ∙ f), far_from names columns p c is qs ds at.1 h.1)

apart_there : (names : List (List ℕ)) (columns : List Column) (ps : List ℕ) (cs : List Column) → AreAt columns ps cs → Apart cs → AreApart (map (λ (p : ℕ). name_of names (slice_get columns p)) ps)
apart_there names columns [] [] at h = tt
apart_there names columns [] (c ∷ cs) at h = absurd at
apart_there names columns (p ∷ ps) [] at h = absurd at
apart_there names columns (p ∷ ps) (c ∷ cs) at h = (far_from names columns p c at.0 ps cs at.1 h.0, apart_there names columns ps cs at.1 h.1)

-- ---- the walks

all_other : {X : Type 0} (p : X → Bool) (xs : List X) → AllByRecursion (λ (x : X). p x ≡ false) xs → length xs ≡ position_or_len p xs
all_other p [] h = refl
all_other p (x ∷ xs) h =
    let more : suc (length xs) ≡ 1 + position_or_len p xs = omega (arith, all_other p xs h.1) in
    more ∙ sym (ap (λ (b : Bool). cond (not b) (1 + position_or_len p xs) 0) h.0)

pub past_all : {X : Type 0} (p : X → Bool) (xs : List X) → position p xs ≡ None → length xs ≡ position_or_len p xs
past_all p xs e = all_other p xs (none_placed p xs (ap is_some e))

pub lacks_end : (columns : List Column) (ps : List ℕ) (is : List (Option ℕ)) (vs : List (Option Value)) → min (length ps) (length is) ≤ 0 → lacks_value columns ps is vs ≡ false
lacks_end columns [] is vs h = refl
lacks_end columns (p ∷ ps) [] vs h = refl
lacks_end columns (p ∷ ps) (i ∷ is) vs h = absurd (omega arith)

others_kept : (left rest : List (Option Value)) (i : Option ℕ) → ((j : Option ℕ) → ((k : ℕ) → i ≡ Some k → j ≢ Some k) → value_at rest j ≡ value_at left j)
    → (is : List (Option ℕ)) → AllByRecursion (λ (j : Option ℕ). (k : ℕ) → i ≡ Some k → j ≢ Some k) is → map (value_at rest) is ≡ map (value_at left) is
others_kept left rest i same [] h = refl
others_kept left rest i same (j ∷ js) h =
    ap (λ (v : Option Value). v ∷ map (value_at rest) js) (same j h.0) ∙ ap (λ (l : List (Option Value)). value_at left j ∷ l) (others_kept left rest i same js h.1)

-- what is under one name is taken, and under the other names what was there
pub take_next : (left rest : List (Option Value)) (is : List (Option ℕ)) (n : ℕ) → n < length is → AreApart (drop n is)
    → ((j : Option ℕ) → ((k : ℕ) → get_or is n None ≡ Some k → j ≢ Some k) → value_at rest j ≡ value_at left j)
    → (value_at left (get_or is n None) ∷ map (value_at rest) (drop (n + 1) is) ≡ map (value_at left) (drop n is)) × AreApart (drop (n + 1) is)
take_next left rest is n lt apart same =
    let i : Option ℕ = get_or is n None in
    let split = drop_more is n None lt in
    let here : AreApart (i ∷ drop (n + 1) is) = subst AreApart split apart in
    (ap (λ (l : List (Option Value)). value_at left i ∷ l) (others_kept left rest i same (drop (n + 1) is) here.0) ∙ ap (map (value_at left)) (sym split), here.1)

-- ---- rows of a batch whose columns are known

module _ (tables : List Table) (columns : NamedColumns) (t : Table) (at : Some t ≡ table_at tables columns.table) (heading : Heading) (named : IsNamed tables heading columns) where
  new : are_new_names t [] heading.columns ≡ true
  new = subst (λ (o : Option Table). IfSome o (λ (u : Table). are_new_names u [] heading.columns ≡ true)) (sym at) named.new

  places : columns.places.items ≡ map (place_named t.columns) heading.columns
  places = named.places ∙ ap (λ (o : Option Table). map (place_named (columns_in o)) heading.columns) (sym at)

  names : columns.names.items ≡ map (λ (p : ℕ). name_of heading.columns (slice_get t.columns p)) (layout.other_places t.key 0 t.columns)
  names =
      named.names
      ∙ ap (λ (o : Option Table). map (λ (p : ℕ). name_of heading.columns (slice_get (columns_in o) p)) (layout.other_places (key_in o) 0 (columns_in o))) (sym at)

  -- no value is under two names
  pub named_apart : MeetsRules tables → AreApart columns.names.items
  named_apart rules =
      subst AreApart (sym names)
      (apart_there heading.columns t.columns (layout.other_places t.key 0 t.columns) (other_columns t.key t.columns) (others_at t) (apart_others t.key t.columns (apart_from t.columns (columns_apart tables rules columns.table t at))))

  module _ (row : BatchRow) where
    -- the first of the values in the order of the names that its column does not take
    pub named_cause : row_cause t.columns columns.places.items row.cells ≡ cells_cause t heading.kind [] (named_cells row.cells heading.columns)
    named_cause = ap (λ (ps : List ℕ). row_cause t.columns ps row.cells) places ∙ causes_named t heading.kind named.put [] heading.columns row.cells [] (λ m h. refl) new

    pub named_lack : lacks_value t.columns (other_places tables columns.table) columns.names.items row.cells ≡ lacks_cell t.key (named_cells row.cells heading.columns) t.columns
    named_lack =
        ap (λ (ps : List ℕ). lacks_value t.columns ps columns.names.items row.cells) (other_places_of tables columns.table t at)
        ∙ ap (λ (is : List (Option ℕ)). lacks_value t.columns (layout.other_places t.key 0 t.columns) is row.cells) names
        ∙ lacks_there t heading.columns row.cells new (layout.other_places t.key 0 t.columns) (other_columns t.key t.columns) (others_at t)
        ∙ lacks_outside t.key (named_cells row.cells heading.columns) t.columns

    named_values : map (value_at row.cells) columns.names.items ≡ values_named t.key (named_cells row.cells heading.columns) t.columns
    named_values =
        ap (map (value_at row.cells)) names
        ∙ values_there t heading.columns row.cells new (layout.other_places t.key 0 t.columns) (other_columns t.key t.columns) (others_at t)

    pub named_kinds : MeetsRules tables → mutation_cause tables columns.table t (row_mutation heading row) ≡ None → are_named_kinds (other_kinds tables columns.table) (map (value_at row.cells) columns.names.items) ≡ true
    named_kinds rules none = ap (are_named_kinds (other_kinds tables columns.table)) named_values ∙ mutation_kinds tables rules columns.table t (row_mutation heading row) at none

    judged : checked tables (row_mutation heading row) ≡ unless (mutation_cause tables columns.table t (row_mutation heading row)) (typed columns.table t (row_mutation heading row))
    judged =
        ap (λ (o : Option ℕ). checked_in tables o (row_mutation heading row)) named.named
        ∙ ap (λ (o : Option Table). checked_at tables columns.table o (row_mutation heading row)) (sym at)

    pub named_checked : mutation_cause tables columns.table t (row_mutation heading row) ≡ None
        → checked tables (row_mutation heading row) ≡ Ok (record { kind = heading.kind; table = columns.table; key = row.key; cells = map (value_at row.cells) columns.names.items })
    named_checked none =
        judged ∙ ap (λ (o : Option Refusal). unless o (typed columns.table t (row_mutation heading row))) none
        ∙ ap (λ (cells : List (Option Value)). Ok (record { kind = heading.kind; table = columns.table; key = row.key; cells = cells })) (sym named_values)
