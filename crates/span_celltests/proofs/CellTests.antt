-- Tests of a condition, at packed rows.
use Rattle.std.proofs.Common.{◌≡◌, inl, inr, ◌∙◌, ℕ, ℤ, zero, suc, ◌+◌, ◌<◌, ◌==◌, Bool, true, false, not, List, [], ◌∷◌, ◌++◌, Option, Some, None, length, length-append, map, take, drop, get_or, refl, sym, ap, subst, arith, if◌then◌else◌}
use Rattle.std.specs.Prelude.{◌&&◌, ◌||◌, ◌≢◌, ◌^◌, IfSome, chars}
use Rattle.std.specs.Str.{IsUtf8}
use Rattle.std.specs.Int.{from_be_bytes, w32}
use Rattle.std.proofs.lemmas.Nat.{from_be_bytes-to_be_bytes_4}
use Rattle.std.specs.List.{fold, list_all}
use Rattle.std.specs.Option.{unwrap_or, option_or}
use Rattle.std.specs.Ordering.{ordering_reverse}
use Rattle.std.specs.declared.cmp.Ordering.{Ordering}
use Rattle.std.specs.declared.cmp.Ordering.TheVariants as order
use Rattle.std.proofs.lemmas.Bool.{and_parts, not-true}
use Rattle.std.proofs.Math.Seq.{take-suc, take-append_seam}
use Rattle.std.proofs.lemmas.List.{drop_more, drop-drop, map-append}
use Rattle.std.proofs.lemmas.List.Sums.{fold-append}
use Rattle.std.proofs.Math.Bool.{and-true}
use Rattle.span_value.specs.declared.value.Value.{Value}
use Rattle.span_value.specs.declared.value.Value.TheVariants.{Null, Int, Str, Bytes, Bool as Flag}
use Rattle.span_value.specs.declared.value.Kind.{Kind}
use Rattle.span_value.specs.declared.value.Kind.TheVariants as kind
use Rattle.span_value.specs.declared.truth.Outcome.{Outcome}
use Rattle.span_value.specs.declared.truth.Outcome.TheVariants.{Val, Fault}
use Rattle.span_value.specs.declared.truth.Truth.TheVariants.{False, True, Unknown}
use Rattle.span_value.specs.Orders.{value_order}
use Rattle.span_value.proofs.Total.{value_order_total}
use Rattle.span_value.proofs.Lists.{all_push, all_at}
use Rattle.span_schema.specs.declared.table.Table.{Table}
use Rattle.span_schema.specs.Fitting.{Fits}
use Rattle.span_schema.specs.Numbers.{key_places, other_places, other_kinds}
use Rattle.span_rowcode.specs.Rows.{AreCells, bytes_code, cell_code, row_code}
use Rattle.span_mutate.specs.declared.row.TableRow.{TableRow}
use Rattle.span_mutate.specs.Typed.{IsTyped}
use Rattle.span_expr.specs.declared.expr.Expr.{Expr}
use Rattle.span_expr.specs.declared.expr.Expr.TheVariants.{And, Between, Column, Like, Literal, rolls-And, rolls-Between, rolls-Column, rolls-Like, rolls-Literal}
use Rattle.span_expr.specs.declared.expr.Expr.TheFolds.{fold-roll-Expr}
use Rattle.span_expr.specs.declared.expr.Expr.TheOpen.{Expr-F}
use Rattle.span_expr.specs.declared.expr.Comparison.{Comparison}
use Rattle.span_expr.specs.declared.expr.Comparison.TheVariants as comparison
use Rattle.span_expr.specs.declared.condition.Condition.{Condition}
use Rattle.span_expr.specs.declared.condition.Condition.TheVariants as condition
use Rattle.span_expr.specs.Meaning.{all_of, and_also, at_operands, between, val}
use Rattle.span_expr.specs.Operators as operators
use Rattle.span_expr.specs.Outcomes.{at_value, both, condition_of, is_null, outcome_of, strict}
use Rattle.span_query.specs.Rows.{Row}
use Rattle.span_pattern.specs.declared.pattern.PatternPart.{PatternPart}
use Rattle.span_pattern.specs.Patterns.{fits, like}
use Rattle.span_celltests.specs.declared.cell_test.CellTest.{CellTest}
use Rattle.span_celltests.specs.declared.like_test.LikeTest.{LikeTest}
use Rattle.span_celltests.specs.declared.number_test.NumberTest.{NumberTest}
use Rattle.span_celltests.specs.declared.text_test.TextTest.{TextTest}
use Rattle.span_celltests.specs.Ends.{IsCellEnd}
use Rattle.span_entries.specs.Meaning.{value_for, declared_row}
use Rattle.span_celltests.specs.CellTests.{meets_number, meets_number_at, meets_text, meets_text_at, meets_like, meets_like_at, meets, AddsNeeded, AddsTests, AreMoreTests, AreNeededFor, AreSomeTests, AreTestsOf, IsCellOf, IsColumnCell, IsKnown, IsLikeTestOf, IsNoTextIn, IsNumberFound, IsNumberTestOf, IsPlaceOf, IsTestable, IsTestOf, IsTextFound, IsTextIn, IsTextTestOf, IsWhetherPass, and_all, between_at, coded_length, comparison_at, condition_at, exchanged, like_at, number_or_null, text_or_null}
use Rattle.span_entries.proofs.KeyPlaces.{ArePlacesApart}
use Rattle.span_entries.proofs.DeclaredRows.{column_at}
use Rattle.span_entries.proofs.OtherPlaces.{others_placed, others_apart}

-- ---- the cells that are left

abbrev pub RestAt : List Kind → List ℕ → ℕ → ℕ → Type 0
RestAt ks bs i at = (vs : List Value) → AreCells ks vs → bs ≡ row_code vs → AreCells (drop i ks) (drop i vs) × (drop at bs ≡ row_code (drop i vs))

one_past : (k : Kind) (ks : List Kind) (us : List Value) (bs : List ℕ) (at n : ℕ) → IsCellEnd k bs at n → AreCells (k ∷ ks) us → drop at bs ≡ row_code us → AreCells ks (drop 1 us) × (drop n bs ≡ row_code (drop 1 us))
one_past k ks [] bs at n end are code = absurd are
one_past k ks (v ∷ us) bs at n end are code = (are.1, sym (end.past v (row_code us) are.0 code))

pub rest_more : (ks : List Kind) (bs : List ℕ) (i at n : ℕ) → i < length ks → IsCellEnd (get_or ks i kind.Int) bs at n → RestAt ks bs i at → RestAt ks bs (i + 1) n
rest_more ks bs i at n less end so vs are code =
    let here = so vs are code in
    let P : List Kind → Type 0 = λ ds. AreCells ds (drop i vs) in
    let next = one_past (get_or ks i kind.Int) (drop (i + 1) ks) (drop i vs) bs at n end (subst P (drop_more ks i kind.Int less) here.0) here.1 in
    let place : drop 1 (drop i vs) ≡ drop (i + 1) vs = drop-drop 1 i vs in
    let Q : List Value → Type 0 = λ us. AreCells (drop (i + 1) ks) us in
    (subst Q place next.0, next.1 ∙ ap row_code place)

pub place_is : (ks : List Kind) (bs : List ℕ) (i at : ℕ) → RestAt ks bs i at → IsPlaceOf ks i bs at
place_is ks bs i at so = record { of = λ vs are code. (so vs are code).1 }

-- no number is coded in fewer bytes
pub none_found : (bs : List ℕ) → length bs < 9 → IsNumberFound bs None
none_found bs few = record { of = by_value }
  where
    by_value : (v : Value) (more : List ℕ) → Fits kind.Int v → bs ≡ cell_code v ++ more → v ≡ Null
    by_value Null more f e = refl
    by_value (Int i) more f e =
        let nine : length (cell_code (Int i)) ≡ suc (suc (suc (suc (suc (suc (suc (suc (suc zero)))))))) = refl in
        absurd (omega (arith, few, nine, ap (length {A = ℕ}) e, length-append (cell_code (Int i)) more))
    by_value (Str t) more f e = absurd f
    by_value (Bytes t) more f e = absurd f
    by_value (Flag b) more f e = absurd f

-- ---- texts

-- a text is coded in five bytes and its own
text_long : (t more : List ℕ) → length (bytes_code t ++ more) ≡ length t + length more + 5
text_long t more =
    let five : length (bytes_code t) ≡ suc (suc (suc (suc (suc (length t))))) = refl in
    omega (arith, five, length-append (bytes_code t) more)

-- no text is coded in fewer bytes
pub none_coded : (bs : List ℕ) → length bs < 5 → IsTextFound bs None
none_coded bs few = record { of = by_value }
  where
    by_value : (v : Value) (more : List ℕ) → Fits kind.Str v → bs ≡ cell_code v ++ more → v ≡ Null
    by_value Null more f e = refl
    by_value (Int i) more f e = absurd f
    by_value (Str t) more f e = absurd (omega (arith, few, ap (length {A = ℕ}) e, text_long t more))
    by_value (Bytes t) more f e = absurd f
    by_value (Flag b) more f e = absurd f

-- nor where NULL is
pub null_coded : (bs code : List ℕ) → code ≡ bs → get_or code 0 0 ≡ 0 → IsTextFound bs None
null_coded bs code same zero_first = record { of = by_value }
  where
    by_value : (v : Value) (more : List ℕ) → Fits kind.Str v → bs ≡ cell_code v ++ more → v ≡ Null
    by_value Null more f e = refl
    by_value (Int i) more f e = absurd f
    by_value (Str t) more f e = absurd (let one : get_or code 0 0 ≡ 1 = ap (λ (xs : List ℕ). get_or xs 0 0) (same ∙ e) in omega (arith, one, zero_first))
    by_value (Bytes t) more f e = absurd f
    by_value (Flag b) more f e = absurd f

no_null : (code more : List ℕ) → get_or code 0 0 ≢ 0 → code ≡ 0 ∷ more → ⊥
no_null code more some e = some (ap (λ (xs : List ℕ). get_or xs 0 0) e)

-- the length that a text's code has
length_coded : (code t more : List ℕ) → length code < 2 ^ 32 → code ≡ bytes_code t ++ more → coded_length code ≡ length t
length_coded code t more small e =
    let short : length t < 2 ^ 32 = omega (arith, small, ap (length {A = ℕ}) e, text_long t more) in
    ap (λ (xs : List ℕ). from_be_bytes w32 (get_or xs 1 0 ∷ get_or xs 2 0 ∷ get_or xs 3 0 ∷ get_or xs 4 0 ∷ [])) e ∙ from_be_bytes-to_be_bytes_4 (length t) short

-- there are too few bytes for a text
pub cut_off : (bs code : List ℕ) → code ≡ bs → length code < 2 ^ 32 → get_or code 0 0 ≢ 0 → IsNoTextIn code → IsTextFound bs None
cut_off bs code same small some few = record { of = by_value }
  where
    by_value : (v : Value) (more : List ℕ) → Fits kind.Str v → bs ≡ cell_code v ++ more → v ≡ Null
    by_value Null more f e = refl
    by_value (Int i) more f e = absurd f
    by_value (Str t) more f e = absurd (omega (arith, few, length_coded code t more small (same ∙ e), ap (length {A = ℕ}) (same ∙ e), text_long t more))
    by_value (Bytes t) more f e = absurd f
    by_value (Flag b) more f e = absurd f

-- the text that is coded
pub text_coded : (bs code text : List ℕ) → code ≡ bs → length code < 2 ^ 32 → get_or code 0 0 ≢ 0 → IsTextIn code text → IsTextFound bs (Some text)
text_coded bs code text same small some has = record { of = by_value }
  where
    by_value : (v : Value) (more : List ℕ) → Fits kind.Str v → bs ≡ cell_code v ++ more → v ≡ Str text
    by_value Null more f e = absurd (no_null code more some (same ∙ e))
    by_value (Int i) more f e = absurd f
    by_value (Str t) more f e =
        let is : code ≡ bytes_code t ++ more = same ∙ e in
        let own : text ≡ t =
        has.is ∙ ap (λ (n : ℕ). take n (drop 5 code)) (length_coded code t more small is) ∙ ap (λ (xs : List ℕ). take (length t) (drop 5 xs)) is ∙ take-append_seam t more in
        ap Str (sym own)
    by_value (Bytes t) more f e = absurd f
    by_value (Flag b) more f e = absurd f

-- ---- whether a row passes

first_cell : (k : Kind) (ks : List Kind) (us : List Value) (rest : List ℕ) (w : Value) → AreCells (k ∷ ks) us → rest ≡ row_code us → ((v : Value) (more : List ℕ) → Fits k v → rest ≡ cell_code v ++ more → v ≡ w) → get_or us 0 Null ≡ w
first_cell k ks [] rest w are code found = absurd are
first_cell k ks (v ∷ us) rest w are code found = found v (row_code us) are.0 code

dropped_first : (vs : List Value) (i : ℕ) → get_or (drop i vs) 0 Null ≡ get_or vs i Null
dropped_first [] zero = refl
dropped_first [] (suc i) = refl
dropped_first (v ∷ vs) zero = refl
dropped_first (v ∷ vs) (suc i) = dropped_first vs i

cells_dropped : (ks : List Kind) (vs : List Value) (i : ℕ) → AreCells ks vs → AreCells (drop i ks) (drop i vs)
cells_dropped ks vs zero are = are
cells_dropped [] [] (suc i) are = are
cells_dropped [] (v ∷ vs) (suc i) are = absurd are
cells_dropped (k ∷ ks) [] (suc i) are = absurd are
cells_dropped (k ∷ ks) (v ∷ vs) (suc i) are = cells_dropped ks vs i are.1

-- the value of the cell whose code begins at a place
cell_is : (k : Kind) (ks : List Kind) (bs : List ℕ) (at i : ℕ) (vs : List Value) (w : Value) → IsCellOf k ks i → IsPlaceOf ks i bs at → AreCells ks vs → bs ≡ row_code vs
    → ((v : Value) (more : List ℕ) → Fits k v → drop at bs ≡ cell_code v ++ more → v ≡ w) → get_or vs i Null ≡ w
cell_is k ks bs at i vs w is left are code found =
    let split : drop i ks ≡ k ∷ drop (i + 1) ks = drop_more ks i kind.Int is.within ∙ ap (λ (j : Kind). j ∷ drop (i + 1) ks) is.kind in
    let P : List Kind → Type 0 = λ ds. AreCells ds (drop i vs) in
    sym (dropped_first vs i) ∙ first_cell k (drop (i + 1) ks) (drop i vs) (drop at bs) w (subst P split (cells_dropped ks vs i are)) (left.of vs are code) found

fits_at : (k : Kind) (ks : List Kind) (vs : List Value) (i : ℕ) → AreCells ks vs → IsCellOf k ks i → Fits k (get_or vs i Null)
fits_at k [] vs i are at = absurd (omega (arith, at.within))
fits_at k (j ∷ ks) [] i are at = absurd are
fits_at k (j ∷ ks) (v ∷ vs) zero are at = let P : Kind → Type 0 = λ l. Fits l v in subst P at.kind are.0
fits_at k (j ∷ ks) (v ∷ vs) (suc i) are at = fits_at k ks vs i are.1 (record { within = omega (arith, at.within); kind = at.kind })

pub number_met : (ks : List Kind) (bs : List ℕ) (at : ℕ) (test : NumberTest) (found : Option ℤ) (met : Bool) → IsCellOf kind.Int ks test.cell → IsPlaceOf ks test.cell bs at → IsNumberFound (drop at bs) found
    → met ≡ meets_number test (number_or_null found) → IsWhetherPass ks bs (λ cells. meets_number_at cells test) met
number_met ks bs at test found met is left number so = record {
  of = λ vs row code. so ∙ ap (meets_number test) (sym (cell_is kind.Int ks bs at test.cell vs (number_or_null found) is left row.0 code number.of));
}

pub text_met : (ks : List Kind) (bs : List ℕ) (at : ℕ) (test : TextTest) (found : Option (List ℕ)) (met : Bool) → IsCellOf kind.Str ks test.cell → IsPlaceOf ks test.cell bs at → IsTextFound (drop at bs) found
    → met ≡ meets_text test (text_or_null found) → IsWhetherPass ks bs (λ cells. meets_text_at cells test) met
text_met ks bs at test found met is left text so = record {
  of = λ vs row code. so ∙ ap (meets_text test) (sym (cell_is kind.Str ks bs at test.cell vs (text_or_null found) is left row.0 code text.of));
}

pub like_unmet : (ks : List Kind) (bs : List ℕ) (at : ℕ) (test : LikeTest) → IsCellOf kind.Str ks test.cell → IsPlaceOf ks test.cell bs at → IsTextFound (drop at bs) None
    → IsWhetherPass ks bs (λ cells. meets_like_at cells test) false
like_unmet ks bs at test is left text = record {
  of = λ vs row code. ap (meets_like test) (sym (cell_is kind.Str ks bs at test.cell vs Null is left row.0 code text.of));
}

pub like_met : (ks : List Kind) (bs : List ℕ) (at : ℕ) (test : LikeTest) (t : List ℕ) (met : Bool) → IsCellOf kind.Str ks test.cell → IsPlaceOf ks test.cell bs at → IsTextFound (drop at bs) (Some t)
    → (IsUtf8 t → met ≡ fits test.pattern (chars t)) → IsWhetherPass ks bs (λ cells. meets_like_at cells test) met
like_met ks bs at test t met is left text so = record {
  of = λ vs row code.
      let same : get_or vs test.cell Null ≡ Str t = cell_is kind.Str ks bs at test.cell vs (Str t) is left row.0 code text.of in
      let P : Value → Type 0 = Fits kind.Str in
      let fit : Fits kind.Str (Str t) = subst P same (fits_at kind.Str ks vs test.cell row.0 is) in
      so fit.0 ∙ ap (meets_like test) (sym same);
}

-- ---- several tests

-- those before a place are met
abbrev pub AreMetBefore : List Kind → List ℕ → List CellTest → ℕ → Type 0
AreMetBefore ks bs tests i = IsWhetherPass ks bs (λ cells. list_all (meets cells) (take i tests)) true

-- ---- what a comparison comes to

none_of : (ps : List ℕ) (vs : List Value) (place : ℕ) → list_all (λ q. not (q == place)) ps ≡ true → value_for ps vs place ≡ None
none_of [] vs place apart = refl
none_of (p ∷ ps) [] place apart = refl
none_of (p ∷ ps) (v ∷ vs) place apart =
    let parts = and_parts (not (p == place)) (list_all (λ q. not (q == place)) ps) apart in
    ap (λ (b : Bool). if b then Some v else value_for ps vs place) (not-true (p == place) parts.0) ∙ none_of ps vs place parts.1

found_for : (ps : List ℕ) (vs : List Value) (i : ℕ) → ArePlacesApart ps → i < length ps → length ps ≡ length vs → value_for ps vs (get_or ps i 0) ≡ Some (get_or vs i Null)
found_for [] vs i apart less long = absurd (omega arith)
found_for (p ∷ ps) [] i apart less long = absurd (omega (arith, long))
found_for (p ∷ ps) (v ∷ vs) zero apart less long = let itself : (p == p) ≡ true = grind arith in ap (λ (b : Bool). if b then Some v else value_for ps vs p) itself
found_for (p ∷ ps) (v ∷ vs) (suc i) apart less long =
    let other : (p == get_or ps i 0) ≡ false = all_at (λ (q : ℕ). (p == q) ≡ false) ps i 0 (omega arith) apart.0 in
    ap (λ (b : Bool). if b then Some v else value_for ps vs (get_or ps i 0)) other ∙ found_for ps vs i apart.1 (omega arith) (omega (arith, long))

cells_long : (ks : List Kind) (vs : List Value) → AreCells ks vs → length ks ≡ length vs
cells_long [] [] are = refl
cells_long [] (v ∷ vs) are = absurd are
cells_long (k ∷ ks) [] are = absurd are
cells_long (k ∷ ks) (v ∷ vs) are = ap suc (cells_long ks vs are.1)

-- the value of such a column
column_is : (schema : List Table) (n : ℕ) (k : Kind) (place cell : ℕ) → IsColumnCell schema n k place cell → (t : TableRow) → IsTyped schema t → t.table ≡ n → operators.column_of (declared_row schema t) place ≡ get_or t.cells cell Null
column_is schema n k place cell is t typed own = by_own (subst (λ (m : ℕ). IsColumnCell schema m k place cell) (sym own) is)
  where
    by_own : IsColumnCell schema t.table k place cell → operators.column_of (declared_row schema t) place ≡ get_or t.cells cell Null
    by_own here =
        let ps : List ℕ = other_places schema t.table in
        let long : length ps ≡ length t.cells = sym (others_placed schema t.table) ∙ cells_long (other_kinds schema t.table) t.cells typed.1.0 in
        let own_value : value_for ps t.cells place ≡ Some (get_or t.cells cell Null) =
        ap (value_for ps t.cells) (sym here.at) ∙ found_for ps t.cells cell (others_apart schema t.table) here.placed long in
        column_at schema t place here.within
        ∙ ap (λ (o : Option Value). unwrap_or (option_or o (value_for ps t.cells place)) Null) (none_of (key_places schema t.table) t.key place here.apart)
        ∙ ap (λ (o : Option Value). unwrap_or o Null) own_value

val_column : (row : Row) (place : ℕ) → val row (Column place) ≡ Val (operators.column_of row place)
val_column row place = ap (val row) (sym (rolls-Column place)) ∙ fold-roll-Expr Outcome (at_operands row) (Expr-F.Column place)

val_literal : (row : Row) (w : Value) → val row (Literal w) ≡ Val w
val_literal row w = ap (val row) (sym (rolls-Literal w)) ∙ fold-roll-Expr Outcome (at_operands row) (Expr-F.Literal w)

number_known : (test : NumberTest) (v : Value) → Fits kind.Int v → IsKnown (condition_of (operators.compare_values test.comparison v (Int test.number))) (meets_number test v)
number_known test Null f = inr (refl, refl)
number_known test (Int i) f = inl refl
number_known test (Str cs) f = absurd f
number_known test (Bytes cs) f = absurd f
number_known test (Flag b) f = absurd f

text_known : (test : TextTest) (v : Value) → Fits kind.Str v → IsKnown (condition_of (operators.compare_values test.comparison v (Str test.text))) (meets_text test v)
text_known test Null f = inr (refl, refl)
text_known test (Int i) f = absurd f
text_known test (Str cs) f = inl refl
text_known test (Bytes cs) f = absurd f
text_known test (Flag b) f = absurd f

like_known : (test : LikeTest) (v : Value) → Fits kind.Str v → IsKnown (condition_of (like test.pattern v)) (meets_like test v)
like_known test Null f = inr (refl, refl)
like_known test (Int i) f = absurd f
like_known test (Str cs) f = inl refl
like_known test (Bytes cs) f = absurd f
like_known test (Flag b) f = absurd f

-- what such a column comes to at a row of the table
module _ (schema : List Table) (n : ℕ) (k : Kind) (place cell : ℕ) (is : IsColumnCell schema n k place cell) (t : TableRow) (typed : IsTyped schema t) (own : t.table ≡ n) where
  val_cell : (e : Expr) → e ≡ Column place → val (declared_row schema t) e ≡ Val (get_or t.cells cell Null)
  val_cell e column =
      let row : Row = declared_row schema t in
      ap (val row) column ∙ val_column row place ∙ ap (λ (u : Value). Val u) (column_is schema n k place cell is t typed own)

  cell_fits : Fits k (get_or t.cells cell Null)
  cell_fits =
      let P : List Kind → Type 0 = λ ks. AreCells ks t.cells in
      fits_at k (other_kinds schema n) t.cells cell (subst P (ap (other_kinds schema) own) typed.1.0) is.kind

  compared : (left right : Expr) (c : Comparison) (w : Value) → left ≡ Column place → right ≡ Literal w → comparison_at schema left c right t ≡ condition_of (operators.compare_values c (get_or t.cells cell Null) w)
  compared left right c w column literal =
      let row : Row = declared_row schema t in
      let second : val row right ≡ Val w = ap (val row) literal ∙ val_literal row w in
      ap (λ (o : Outcome). condition_of (strict (operators.compare_values c) o (val row right))) (val_cell left column)
      ∙ ap (λ (o : Outcome). condition_of (strict (operators.compare_values c) (Val (get_or t.cells cell Null)) o)) second

  liked : (operand : Expr) (pattern : List PatternPart) → operand ≡ Column place → like_at schema operand pattern t ≡ condition_of (like pattern (get_or t.cells cell Null))
  liked operand pattern column = ap (λ (o : Outcome). condition_of (at_value o (like pattern))) (val_cell operand column)

pub number_tested : (schema : List Table) (n place : ℕ) (left right : Expr) (test : NumberTest) → left ≡ Column place → right ≡ Literal (Int test.number) → IsColumnCell schema n kind.Int place test.cell
    → IsNumberTestOf schema n (comparison_at schema left test.comparison right) test
number_tested schema n place left right test column literal is = record {
  testable = is.kind;
  judged = λ t typed own.
      let v : Value = get_or t.cells test.cell Null in
      subst (λ (c : Condition). IsKnown c (meets_number_at t.cells test)) (sym (compared schema n kind.Int place test.cell is t typed own left right test.comparison (Int test.number) column literal))
      (number_known test v (cell_fits schema n kind.Int place test.cell is t typed own));
}

pub text_tested : (schema : List Table) (n place : ℕ) (left right : Expr) (test : TextTest) → left ≡ Column place → right ≡ Literal (Str test.text) → IsColumnCell schema n kind.Str place test.cell
    → IsTextTestOf schema n (comparison_at schema left test.comparison right) test
text_tested schema n place left right test column literal is = record {
  testable = is.kind;
  judged = λ t typed own.
      let v : Value = get_or t.cells test.cell Null in
      subst (λ (c : Condition). IsKnown c (meets_text_at t.cells test)) (sym (compared schema n kind.Str place test.cell is t typed own left right test.comparison (Str test.text) column literal))
      (text_known test v (cell_fits schema n kind.Str place test.cell is t typed own));
}

pub like_tested : (schema : List Table) (n place : ℕ) (operand : Expr) (test : LikeTest) → operand ≡ Column place → IsColumnCell schema n kind.Str place test.cell
    → IsLikeTestOf schema n (like_at schema operand test.pattern) test
like_tested schema n place operand test column is = record {
  testable = is.kind;
  judged = λ t typed own.
      let v : Value = get_or t.cells test.cell Null in
      subst (λ (c : Condition). IsKnown c (meets_like_at t.cells test)) (sym (liked schema n kind.Str place test.cell is t typed own operand test.pattern column))
      (like_known test v (cell_fits schema n kind.Str place test.cell is t typed own));
}

-- ---- a literal on the left

holds_exchanged : (c : Comparison) (o : Ordering) → operators.holds c (ordering_reverse o) ≡ operators.holds (exchanged c) o
holds_exchanged comparison.Equal order.Less = refl
holds_exchanged comparison.Equal order.Equal = refl
holds_exchanged comparison.Equal order.Greater = refl
holds_exchanged comparison.NotEqual order.Less = refl
holds_exchanged comparison.NotEqual order.Equal = refl
holds_exchanged comparison.NotEqual order.Greater = refl
holds_exchanged comparison.Less order.Less = refl
holds_exchanged comparison.Less order.Equal = refl
holds_exchanged comparison.Less order.Greater = refl
holds_exchanged comparison.AtMost order.Less = refl
holds_exchanged comparison.AtMost order.Equal = refl
holds_exchanged comparison.AtMost order.Greater = refl
holds_exchanged comparison.Greater order.Less = refl
holds_exchanged comparison.Greater order.Equal = refl
holds_exchanged comparison.Greater order.Greater = refl
holds_exchanged comparison.AtLeast order.Less = refl
holds_exchanged comparison.AtLeast order.Equal = refl
holds_exchanged comparison.AtLeast order.Greater = refl

compare_exchanged : (c : Comparison) (v w : Value) → operators.compare_values c v w ≡ operators.compare_values (exchanged c) w v
compare_exchanged c v w = by_nulls (is_null v) (is_null w)
  where
    same : operators.holds c (value_order v w) ≡ operators.holds (exchanged c) (value_order w v)
    same = ap (operators.holds c) (value_order_total.antisymm v w) ∙ holds_exchanged c (value_order w v)

    by_nulls : (a b : Bool) → (if a || b then Val Null else Val (Flag (operators.holds c (value_order v w)))) ≡ (if b || a then Val Null else Val (Flag (operators.holds (exchanged c) (value_order w v))))
    by_nulls true true = refl
    by_nulls true false = refl
    by_nulls false true = refl
    by_nulls false false = ap (λ (b : Bool). Val (Flag b)) same

strict_exchanged : (c : Comparison) (a b : Outcome) → strict (operators.compare_values c) a b ≡ strict (operators.compare_values (exchanged c)) b a
strict_exchanged c (Val v) (Val w) = compare_exchanged c v w
strict_exchanged c (Val v) Fault = refl
strict_exchanged c Fault (Val w) = refl
strict_exchanged c Fault Fault = refl

-- the test of a comparison with its sides exchanged is that of the comparison
exchanged_test : (schema : List Table) (n : ℕ) (left right : Expr) (c : Comparison) (test : CellTest) → IsTestOf schema n (comparison_at schema right (exchanged c) left) test
    → IsTestOf schema n (comparison_at schema left c right) test
exchanged_test schema n left right c test is = record {
  testable = is.testable;
  judged = λ t typed own.
      let row : Row = declared_row schema t in
      let same : comparison_at schema left c right t ≡ comparison_at schema right (exchanged c) left t = ap condition_of (strict_exchanged c (val row left) (val row right)) in
      subst (λ (d : Condition). IsKnown d (meets t.cells test)) (sym same) (is.judged t typed own);
}

pub exchanged_found : (schema : List Table) (n : ℕ) (left right : Expr) (c d : Comparison) (found : Option CellTest) → d ≡ exchanged c → IfSome found (λ test. IsTestOf schema n (comparison_at schema right d left) test)
    → IfSome found (λ test. IsTestOf schema n (comparison_at schema left c right) test)
exchanged_found schema n left right c d None is none = none
exchanged_found schema n left right c d (Some test) is so =
    let P : Comparison → Type 0 = λ e. IsTestOf schema n (comparison_at schema right e left) test in
    exchanged_test schema n left right c test (subst P is so)

-- ---- what an AND comes to

-- what is FALSE or NULL stays so beside any other condition
not_met_first : (c d : Condition) → IsKnown c false → IsKnown (both c d) false
not_met_first c d (inl is) = by_other d (ap (λ (x : Condition). both x d) is)
  where
    by_other : (d : Condition) → both c d ≡ both (condition.Known False) d → IsKnown (both c d) false
    by_other (condition.Known False) so = inl so
    by_other (condition.Known True) so = inl so
    by_other (condition.Known Unknown) so = inl so
    by_other condition.Faulted so = inl so
not_met_first c d (inr null) = by_other d (ap (λ (x : Condition). both x d) null.0)
  where
    by_other : (d : Condition) → both c d ≡ both (condition.Known Unknown) d → IsKnown (both c d) false
    by_other (condition.Known False) so = inl so
    by_other (condition.Known True) so = inr (so, refl)
    by_other (condition.Known Unknown) so = inr (so, refl)
    by_other condition.Faulted so = inr (so, refl)

not_met_second : (c d : Condition) → IsKnown d false → IsKnown (both c d) false
not_met_second c d (inl is) = by_other c (ap (both c) is)
  where
    by_other : (c : Condition) → both c d ≡ both c (condition.Known False) → IsKnown (both c d) false
    by_other (condition.Known False) so = inl so
    by_other (condition.Known True) so = inl so
    by_other (condition.Known Unknown) so = inl so
    by_other condition.Faulted so = inl so
not_met_second c d (inr null) = by_other c (ap (both c) null.0)
  where
    by_other : (c : Condition) → both c d ≡ both c (condition.Known Unknown) → IsKnown (both c d) false
    by_other (condition.Known False) so = inl so
    by_other (condition.Known True) so = inr (so, refl)
    by_other (condition.Known Unknown) so = inr (so, refl)
    by_other condition.Faulted so = inr (so, refl)

-- TRUE leaves the other condition
true_first : (d : Condition) → both (condition.Known True) d ≡ d
true_first (condition.Known False) = refl
true_first (condition.Known True) = refl
true_first (condition.Known Unknown) = refl
true_first condition.Faulted = refl

true_second : (c : Condition) → both c (condition.Known True) ≡ c
true_second (condition.Known False) = refl
true_second (condition.Known True) = refl
true_second (condition.Known Unknown) = refl
true_second condition.Faulted = refl

known_and : (c d : Condition) (a b : Bool) → IsKnown c a → IsKnown d b → IsKnown (both c d) (a && b)
known_and c d false b first second = not_met_first c d first
known_and c d true b (inl first) second = subst (λ (x : Condition). IsKnown x b) (sym (ap (λ (x : Condition). both x d) first ∙ true_first d)) second
known_and c d true b (inr null) second = absurd (let bad : true ≡ false = null.1 in cc)

both_again : (a b c : Condition) → both (both a b) c ≡ both a (both b c)
both_again (condition.Known True) b c = ap (λ (x : Condition). both x c) (true_first b) ∙ sym (true_first (both b c))
both_again a (condition.Known True) c = ap (λ (x : Condition). both x c) (true_second a) ∙ ap (both a) (sym (true_first c))
both_again a b (condition.Known True) = true_second (both a b) ∙ ap (both a) (sym (true_second b))
both_again (condition.Known False) (condition.Known False) (condition.Known False) = refl
both_again (condition.Known False) (condition.Known False) (condition.Known Unknown) = refl
both_again (condition.Known False) (condition.Known Unknown) (condition.Known False) = refl
both_again (condition.Known False) (condition.Known Unknown) (condition.Known Unknown) = refl
both_again (condition.Known Unknown) (condition.Known False) (condition.Known False) = refl
both_again (condition.Known Unknown) (condition.Known False) (condition.Known Unknown) = refl
both_again (condition.Known Unknown) (condition.Known Unknown) (condition.Known False) = refl
both_again (condition.Known Unknown) (condition.Known Unknown) (condition.Known Unknown) = refl
both_again (condition.Known False) (condition.Known False) condition.Faulted = refl
both_again (condition.Known False) (condition.Known Unknown) condition.Faulted = refl
both_again (condition.Known False) condition.Faulted (condition.Known False) = refl
both_again (condition.Known False) condition.Faulted (condition.Known Unknown) = refl
both_again (condition.Known False) condition.Faulted condition.Faulted = refl
both_again (condition.Known Unknown) (condition.Known False) condition.Faulted = refl
both_again (condition.Known Unknown) (condition.Known Unknown) condition.Faulted = refl
both_again (condition.Known Unknown) condition.Faulted (condition.Known False) = refl
both_again (condition.Known Unknown) condition.Faulted (condition.Known Unknown) = refl
both_again (condition.Known Unknown) condition.Faulted condition.Faulted = refl
both_again condition.Faulted (condition.Known False) (condition.Known False) = refl
both_again condition.Faulted (condition.Known False) (condition.Known Unknown) = refl
both_again condition.Faulted (condition.Known False) condition.Faulted = refl
both_again condition.Faulted (condition.Known Unknown) (condition.Known False) = refl
both_again condition.Faulted (condition.Known Unknown) (condition.Known Unknown) = refl
both_again condition.Faulted (condition.Known Unknown) condition.Faulted = refl
both_again condition.Faulted condition.Faulted (condition.Known False) = refl
both_again condition.Faulted condition.Faulted (condition.Known Unknown) = refl
both_again condition.Faulted condition.Faulted condition.Faulted = refl

-- ---- the tests of one condition more

all_and : {X : Type 0} (f : X → Bool) (xs : List X) (y : X) → list_all f (xs ++ y ∷ []) ≡ (list_all f xs && f y)
all_and f [] y = and-true (f y)
all_and f (x ∷ xs) y = and-true (f x) (all_and f xs y)
  where
    and-true : (b : Bool) → list_all f (xs ++ y ∷ []) ≡ (list_all f xs && f y) → (b && list_all f (xs ++ y ∷ [])) ≡ ((b && list_all f xs) && f y)
    and-true true so = so
    and-true false so = refl

pub one_test_added : (schema : List Table) (n : ℕ) (of : TableRow → Condition) (test : CellTest) (old new : List CellTest) → new ≡ old ++ test ∷ [] → IsTestOf schema n of test → AddsTests schema n of old new
one_test_added schema n of test old new added one = subst (AddsTests schema n of old) (sym added) (record {
  judged = λ t typed own c known.
      subst (IsKnown (both c (of t))) (sym (all_and (meets t.cells) old test)) (known_and c (of t) (list_all (meets t.cells) old) (meets t.cells test) known (one.judged t typed own));
})

pub one_test_needed : (schema : List Table) (n : ℕ) (of : TableRow → Condition) (test : CellTest) (old new : List CellTest) → new ≡ old ++ test ∷ [] → IsTestOf schema n of test → AddsNeeded schema n of old new
one_test_needed schema n of test old new added one = subst (AddsNeeded schema n of old) (sym added) (record {
  testable = λ testable. all_push (IsTestable (other_kinds schema n)) old test testable one.testable;
  unmet = λ t typed own c known not_met.
      by_test c (of t) (list_all (meets t.cells) old) (meets t.cells test) (sym (all_and (meets t.cells) old test) ∙ not_met) known (one.judged t typed own);
})
  where
    by_test : (c d : Condition) (a b : Bool) → (a && b) ≡ false → (a ≡ false → IsKnown c false) → IsKnown d b → IsKnown (both c d) false
    by_test c d false b not_met first second = not_met_first c d (first refl)
    by_test c d true b not_met first second = not_met_second c d (subst (λ (x : Bool). IsKnown d x) not_met second)

-- two conditions, of which the AND is a condition
pub two_added : (schema : List Table) (n : ℕ) (f g : TableRow → Condition) (old now new : List CellTest) → AddsTests schema n f old now → AddsTests schema n g now new → AddsTests schema n (λ t. both (f t) (g t)) old new
two_added schema n f g old now new first second = record {
  judged = λ t typed own c known.
      subst (λ (x : Condition). IsKnown x (list_all (meets t.cells) new)) (both_again c (f t) (g t)) (second.judged t typed own (both c (f t)) (first.judged t typed own c known));
}

pub two_needed : (schema : List Table) (n : ℕ) (f g : TableRow → Condition) (old now new : List CellTest) → AddsNeeded schema n f old now → AddsNeeded schema n g now new → AddsNeeded schema n (λ t. both (f t) (g t)) old new
two_needed schema n f g old now new first second = record {
  testable = λ testable. second.testable (first.testable testable);
  unmet = λ t typed own c known not_met.
      subst (λ (x : Condition). IsKnown x false) (both_again c (f t) (g t)) (second.unmet t typed own (both c (f t)) (first.unmet t typed own c known) not_met);
}

-- a condition that comes to the same
pub same_added : (schema : List Table) (n : ℕ) (f g : TableRow → Condition) (old new : List CellTest) → ((t : TableRow) → f t ≡ g t) → AddsTests schema n f old new → AddsTests schema n g old new
same_added schema n f g old new same so = record {
  judged = λ t typed own c known. subst (λ (x : Condition). IsKnown (both c x) (list_all (meets t.cells) new)) (same t) (so.judged t typed own c known);
}

pub same_needed : (schema : List Table) (n : ℕ) (f g : TableRow → Condition) (old new : List CellTest) → ((t : TableRow) → f t ≡ g t) → AddsNeeded schema n f old new → AddsNeeded schema n g old new
same_needed schema n f g old new same so = record {
  testable = so.testable;
  unmet = λ t typed own c known not_met. subst (λ (x : Condition). IsKnown (both c x) false) (same t) (so.unmet t typed own c known not_met);
}

known_again : (c : Condition) → condition_of (outcome_of c) ≡ c
known_again (condition.Known False) = refl
known_again (condition.Known True) = refl
known_again (condition.Known Unknown) = refl
known_again condition.Faulted = refl

val_between : (row : Row) (operand low high : Expr) → val row (Between operand low high) ≡ between (val row operand) (val row low) (val row high)
val_between row operand low high = ap (val row) (sym (rolls-Between operand low high)) ∙ fold-roll-Expr Outcome (at_operands row) (Expr-F.Between operand low high)

pub at_between : (schema : List Table) (e operand low high : Expr) → e ≡ Between operand low high → (t : TableRow) → between_at schema operand low high t ≡ condition_at schema e t
at_between schema e operand low high is t =
    let row : Row = declared_row schema t in
    sym (known_again (between_at schema operand low high t)) ∙ ap condition_of (sym (ap (val row) is ∙ val_between row operand low high))

val_like : (row : Row) (operand : Expr) (pattern : List PatternPart) → val row (Like operand pattern) ≡ at_value (val row operand) (like pattern)
val_like row operand pattern = ap (val row) (sym (rolls-Like operand pattern)) ∙ fold-roll-Expr Outcome (at_operands row) (Expr-F.Like operand pattern)

pub at_like : (schema : List Table) (e operand : Expr) (pattern : List PatternPart) → e ≡ Like operand pattern → (t : TableRow) → like_at schema operand pattern t ≡ condition_at schema e t
at_like schema e operand pattern is t =
    let row : Row = declared_row schema t in
    ap condition_of (sym (ap (val row) is ∙ val_like row operand pattern))

val_and : (row : Row) (first : Expr) (more : List Expr) → val row (And first more) ≡ all_of (val row first) (map (val row) more)
val_and row first more = ap (val row) (sym (rolls-And first more)) ∙ fold-roll-Expr Outcome (at_operands row) (Expr-F.And first more)

at_and : (schema : List Table) (e first : Expr) (more : List Expr) → e ≡ And first more → (t : TableRow) → and_all schema (condition_at schema first t) more t ≡ condition_at schema e t
at_and schema e first more is t =
    let row : Row = declared_row schema t in
    sym (known_again (and_all schema (condition_at schema first t) more t)) ∙ ap condition_of (sym (ap (val row) is ∙ val_and row first more))

-- ---- the tests of several conditions

-- the fold over one condition more
fold_more : (row : Row) (c : Condition) (es : List Expr) (i : ℕ) (e : Expr) → i < length es → e ≡ get_or es i e
    → fold and_also c (map (val row) (take (i + 1) es)) ≡ both (fold and_also c (map (val row) (take i es))) (condition_of (val row e))
fold_more row c es i e less is =
    let place : i + 1 ≡ suc i = omega arith in
    let front : take (i + 1) es ≡ take i es ++ e ∷ [] = ap (λ (k : ℕ). take k es) place ∙ take-suc es i e less ∙ ap (λ (y : Expr). take i es ++ y ∷ []) (sym is) in
    ap (λ (l : List Expr). fold and_also c (map (val row) l)) front
    ∙ ap (fold and_also c) (map-append (val row) (take i es) (e ∷ []))
    ∙ fold-append and_also c (map (val row) (take i es)) (val row e ∷ [])

pub one_more_added : (schema : List Table) (n : ℕ) (es : List Expr) (i : ℕ) (e : Expr) (old now new : List CellTest) → i < length es → e ≡ get_or es i e
    → AreMoreTests schema n (take i es) old now → AddsTests schema n (condition_at schema e) now new → AreMoreTests schema n (take (i + 1) es) old new
one_more_added schema n es i e old now new less is so one = record {
  judged = λ t typed own c known.
      subst (λ (k : Condition). IsKnown k (list_all (meets t.cells) new)) (sym (fold_more (declared_row schema t) c es i e less is)) (one.judged t typed own (and_all schema c (take i es) t) (so.judged t typed own c known));
}

pub one_more_needed : (schema : List Table) (n : ℕ) (es : List Expr) (i : ℕ) (e : Expr) (old now new : List CellTest) → i < length es → e ≡ get_or es i e
    → AreSomeTests schema n (take i es) old now → AddsNeeded schema n (condition_at schema e) now new → AreSomeTests schema n (take (i + 1) es) old new
one_more_needed schema n es i e old now new less is so one = record {
  testable = λ testable. one.testable (so.testable testable);
  unmet = λ t typed own c known not_met.
      subst (λ (k : Condition). IsKnown k false) (sym (fold_more (declared_row schema t) c es i e less is)) (one.unmet t typed own (and_all schema c (take i es) t) (so.unmet t typed own c known) not_met);
}

-- ---- the tests of a condition

-- nothing is tested yet
none_unmet : (c : Condition) → true ≡ false → IsKnown c false
none_unmet c bad = absurd (let e : true ≡ false = bad in cc)

pub tests_of_one : (schema : List Table) (n : ℕ) (e : Expr) (old new : List CellTest) → old ≡ [] → AddsNeeded schema n (condition_at schema e) old new → AddsTests schema n (condition_at schema e) old new → AreTestsOf schema n e new
tests_of_one schema n e old new none needed so =
    let P : List CellTest → Type 0 = λ tests. AddsTests schema n (condition_at schema e) tests new in
    let Q : List CellTest → Type 0 = λ tests. AddsNeeded schema n (condition_at schema e) tests new in
    let first = subst P none so in
    let needed_first = subst Q none needed in
    record {
      testable = needed_first.testable (tt {0});
      judged = λ t typed own. subst (λ (c : Condition). IsKnown c (list_all (meets t.cells) new)) (true_first (condition_at schema e t)) (first.judged t typed own (condition.Known True) (inl refl));
    }

pub needed_for_one : (schema : List Table) (n : ℕ) (e : Expr) (old new : List CellTest) → old ≡ [] → AddsNeeded schema n (condition_at schema e) old new → AreNeededFor schema n e new
needed_for_one schema n e old new none so =
    let P : List CellTest → Type 0 = λ tests. AddsNeeded schema n (condition_at schema e) tests new in
    let first = subst P none so in
    record {
      testable = first.testable (tt {0});
      unmet = λ t typed own not_met.
          subst (λ (c : Condition). IsKnown c false) (true_first (condition_at schema e t)) (first.unmet t typed own (condition.Known True) (none_unmet (condition.Known True)) not_met);
    }

pub tests_of_and : (schema : List Table) (n : ℕ) (e first : Expr) (more : List Expr) (old now new : List CellTest) → e ≡ And first more → old ≡ [] → AddsNeeded schema n (condition_at schema first) old now
    → AddsTests schema n (condition_at schema first) old now → AreSomeTests schema n more now new → AreMoreTests schema n more now new → AreTestsOf schema n e new
tests_of_and schema n e first more old now new is none needed one some so =
    let begin = tests_of_one schema n first old now none needed one in
    record {
      testable = some.testable begin.testable;
      judged = λ t typed own.
          subst (λ (c : Condition). IsKnown c (list_all (meets t.cells) new)) (at_and schema e first more is t) (so.judged t typed own (condition_at schema first t) (begin.judged t typed own));
    }

pub needed_for_and : (schema : List Table) (n : ℕ) (e first : Expr) (more : List Expr) (old now new : List CellTest) → e ≡ And first more → old ≡ [] → AddsNeeded schema n (condition_at schema first) old now
    → AreSomeTests schema n more now new → AreNeededFor schema n e new
needed_for_and schema n e first more old now new is none needed some =
    let begin = needed_for_one schema n first old now none needed in
    record {
      testable = some.testable begin.testable;
      unmet = λ t typed own not_met.
          subst (λ (c : Condition). IsKnown c false) (at_and schema e first more is t) (some.unmet t typed own (condition_at schema first t) (begin.unmet t typed own) not_met);
    }
