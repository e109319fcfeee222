-- Values that are taken out of the cells of a mutation, for one column after another.
use Rattle.std.proofs.Common.{◌≡◌, ℕ, zero, suc, ◌+◌, ◌<◌, Bool, true, false, not, cond, List, [], ◌∷◌, Option, Some, None, is_some, length, drop, get_or, map, refl, sym, ap, subst, ◌∙◌, arith}
use Rattle.std.specs.Prelude.{remove, position}
use Rattle.std.specs.List.{AllByRecursion, find}
use Rattle.std.specs.Option.{option_map}
use Rattle.std.proofs.lemmas.List.Quantifiers.{position-Some}
use Rattle.span_value.specs.declared.value.Value.{Value}
use Rattle.span_schema.specs.declared.table.Column.{Column}
use Rattle.span_schema.specs.declared.table.KeyColumn.{KeyColumn}
use Rattle.span_schema.specs.Tables.{is_same_name, is_key_name, column_place}
use Rattle.span_schema.specs.Rules.{has_repeated_column}
use Rattle.span_mutate.specs.declared.mutation.NamedValue.{NamedValue}
use Rattle.span_checking.specs.Columns.{value_named, other_columns, values_named}
use Rattle.span_checking.proofs.NamedKinds.{none_placed}
use Rattle.std.proofs.lemmas.Bool.{or_parts}
use Rattle.span_value.proofs.Lists.{drop_read}
use Rattle.span_schema.proofs.Names.{same_lower, lower_same}

-- ---- what is found, once an item is taken out

find_without : {X : Type 0} (p : X → Bool) (xs : List X) (i : ℕ) (d : X) → i < length xs → p (get_or xs i d) ≡ false → find p (remove xs i) ≡ find p xs
find_without p [] i d lt isnt = absurd (let less : i < 0 = lt in omega arith)
find_without p (x ∷ xs) zero d lt isnt = rw isnt refl
find_without {X} p (x ∷ xs) (suc i) d lt isnt = ap (λ (o : Option X). cond (p x) (Some x) o) (find_without p xs i d (omega arith) isnt)

pub find_first : {X : Type 0} (p : X → Bool) (xs : List X) (i : ℕ) (d : X) → i < length xs → p (get_or xs i d) ≡ true → ((k : ℕ) → k < i → p (get_or xs k d) ≡ false) → find p xs ≡ Some (get_or xs i d)
find_first p [] i d lt hit before = absurd (let less : i < 0 = lt in omega arith)
find_first p (x ∷ xs) zero d lt hit before = rw hit refl
find_first p (x ∷ xs) (suc i) d lt hit before =
    let head : p x ≡ false = before 0 (omega arith) in
    rw head (find_first p xs i d (omega arith) hit (λ k low. before (suc k) (omega arith)))

find_nothing : {X : Type 0} (p : X → Bool) (xs : List X) → AllByRecursion (λ x. p x ≡ false) xs → find p xs ≡ None
find_nothing p [] h = refl
find_nothing p (x ∷ xs) h = rw h.0 (find_nothing p xs h.1)

-- ---- the value of a name

not_both : (a b other : List ℕ) → is_same_name a b ≡ true → is_same_name other b ≡ false → is_same_name a other ≡ false
not_both a b other is isnt = cases (is_same_name a other) refl
  where
    cases : (t : Bool) → is_same_name a other ≡ t → t ≡ false
    cases true e = absurd (let f : true ≡ false = sym (lower_same other b (sym (same_lower a other e) ∙ same_lower a b is)) ∙ isnt in cc)
    cases false e = refl

pub taken_none : (cells : List NamedValue) (name : List ℕ) → position (λ (c : NamedValue). is_same_name c.column name) cells ≡ None → value_named cells name ≡ None
taken_none cells name none =
    let test : NamedValue → Bool = λ c. is_same_name c.column name in
    ap (option_map (λ (c : NamedValue). c.value)) (find_nothing test cells (none_placed test cells (ap is_some none)))

pub taken_value : (cells : List NamedValue) (name : List ℕ) (i : ℕ) (x : NamedValue) → position (λ (c : NamedValue). is_same_name c.column name) cells ≡ Some i → x ≡ get_or cells i x
    → value_named cells name ≡ Some x.value
taken_value cells name i x at is =
    let test : NamedValue → Bool = λ c. is_same_name c.column name in
    let says = position-Some test cells i x at in
    ap (option_map (λ (c : NamedValue). c.value)) (find_first test cells i x says.0 says.1 says.2 ∙ ap Some (sym is))

-- other names keep their values
pub taken_rest : (cells : List NamedValue) (name : List ℕ) (i : ℕ) (x : NamedValue) → position (λ (c : NamedValue). is_same_name c.column name) cells ≡ Some i → x ≡ get_or cells i x
    → (other : List ℕ) → is_same_name other name ≡ false → value_named (remove cells i) other ≡ value_named cells other
taken_rest cells name i x at is other apart =
    let test : NamedValue → Bool = λ c. is_same_name c.column name in
    let says = position-Some test cells i x at in
    let hit : is_same_name x.column name ≡ true = subst (λ (z : NamedValue). is_same_name z.column name ≡ true) (sym is) says.1 in
    let miss : is_same_name (get_or cells i x).column other ≡ false = subst (λ (z : NamedValue). is_same_name z.column other ≡ false) is (not_both x.column name other hit apart) in
    ap (option_map (λ (c : NamedValue). c.value)) (find_without (λ (c : NamedValue). is_same_name c.column other) cells i x says.0 miss)

-- ---- the values of columns

other_names : (key : List KeyColumn) (left rest : List NamedValue) (name : List ℕ) → ((other : List ℕ) → is_same_name other name ≡ false → value_named rest other ≡ value_named left other)
    → (cs : List Column) → AllByRecursion (λ (d : Column). is_same_name d.name name ≡ false) cs → values_named key rest cs ≡ values_named key left cs
other_names key left rest name same [] h = refl
other_names key left rest name same (d ∷ ds) h = cases (is_key_name key d.name) (other_names key left rest name same ds h.1)
  where
    cases : (b : Bool) → values_named key rest ds ≡ values_named key left ds
        → map (λ (c : Column). value_named rest c.name) (cond (not b) (d ∷ other_columns key ds) (other_columns key ds)) ≡ map (λ (c : Column). value_named left c.name) (cond (not b) (d ∷ other_columns key ds) (other_columns key ds))
    cases true again = again
    cases false again = ap (λ (v : Option Value). v ∷ values_named key rest ds) (same d.name h.0) ∙ ap (λ (vs : List (Option Value)). value_named left d.name ∷ vs) again

pub once_more : (columns : List Column) (i : ℕ) (c : Column) → i < length columns → c ≡ get_or columns i c → has_repeated_column (drop i columns) ≡ false → has_repeated_column (drop (i + 1) columns) ≡ false
once_more columns i c lt is once =
    let here : has_repeated_column (c ∷ drop (i + 1) columns) ≡ false = subst (λ (l : List Column). has_repeated_column l ≡ false) (drop_read columns i c lt is) once in
    (or_parts (is_some (column_place (drop (i + 1) columns) c.name)) (has_repeated_column (drop (i + 1) columns)) here).1

-- a column outside the key takes its value, and those after it find theirs
pub take_more : (key : List KeyColumn) (left rest : List NamedValue) (columns : List Column) (i : ℕ) (c : Column) → i < length columns → c ≡ get_or columns i c
    → has_repeated_column (drop i columns) ≡ false → is_key_name key c.name ≡ false
    → ((other : List ℕ) → is_same_name other c.name ≡ false → value_named rest other ≡ value_named left other)
    → value_named left c.name ∷ values_named key rest (drop (i + 1) columns) ≡ values_named key left (drop i columns)
take_more key left rest columns i c lt is once outside same =
    let split = drop_read columns i c lt is in
    let after = drop (i + 1) columns in
    let here : has_repeated_column (c ∷ after) ≡ false = subst (λ (l : List Column). has_repeated_column l ≡ false) split once in
    let apart = none_placed (λ (d : Column). is_same_name d.name c.name) after (or_parts (is_some (column_place after c.name)) (has_repeated_column after) here).0 in
    cases after (is_key_name key c.name) outside (other_names key left rest c.name same after apart) ∙ ap (values_named key left) (sym split)
  where
    cases : (ds : List Column) (b : Bool) → b ≡ false → values_named key rest ds ≡ values_named key left ds
        → value_named left c.name ∷ values_named key rest ds ≡ map (λ (d : Column). value_named left d.name) (cond (not b) (c ∷ other_columns key ds) (other_columns key ds))
    cases ds true e again = absurd (let f : true ≡ false = e in cc)
    cases ds false e again = ap (λ (vs : List (Option Value)). value_named left c.name ∷ vs) again

-- a column of the key takes none
pub skip_more : (key : List KeyColumn) (left : List NamedValue) (columns : List Column) (i : ℕ) (c : Column) → i < length columns → c ≡ get_or columns i c → is_key_name key c.name ≡ true
    → values_named key left (drop (i + 1) columns) ≡ values_named key left (drop i columns)
skip_more key left columns i c lt is inside = cases (drop (i + 1) columns) (is_key_name key c.name) inside ∙ ap (values_named key left) (sym (drop_read columns i c lt is))
  where
    cases : (ds : List Column) (b : Bool) → b ≡ true → values_named key left ds ≡ map (λ (d : Column). value_named left d.name) (cond (not b) (c ∷ other_columns key ds) (other_columns key ds))
    cases ds true e = refl
    cases ds false e = absurd (let f : true ≡ false = sym e in cc)
