-- Tests of a condition that are judged where a row is packed: comparisons of columns with literals, and LIKE.
use Rattle.std.specs.Prelude.{◌≡◌, ◌⊎◌, ℕ, ℤ, ◌+◌, ◌<◌, ◌≤◌, ◌==◌, List, [], ◌∷◌, ◌++◌, Bool, true, false, not, Option, Some, None, chars, length, get_or, take, drop, map}
use Rattle.std.specs.Int.{from_be_bytes, w32}
use Rattle.std.specs.List.{AllByRecursion, fold, list_all}
use Rattle.span_value.specs.declared.value.Value.{Value}
use Rattle.span_value.specs.declared.value.Value.TheVariants as value
use Rattle.span_value.specs.declared.value.Kind.{Kind}
use Rattle.span_value.specs.declared.value.Kind.TheVariants as kind
use Rattle.span_value.specs.declared.truth.Truth.TheVariants.{Unknown}
use Rattle.span_value.specs.Orders.{value_order}
use Rattle.span_schema.specs.declared.table.Table.{Table}
use Rattle.span_schema.specs.Fitting.{Fits}
use Rattle.span_schema.specs.Numbers.{key_places, other_places, other_kinds}
use Rattle.span_rowcode.specs.Rows.{AreCells, IsRow, cell_code, row_code}
use Rattle.span_mutate.specs.declared.row.TableRow.{TableRow}
use Rattle.span_mutate.specs.Typed.{IsTyped}
use Rattle.span_expr.specs.declared.expr.Expr.{Expr}
use Rattle.span_expr.specs.declared.expr.Comparison.{Comparison}
use Rattle.span_expr.specs.declared.expr.Comparison.TheVariants.{Equal, NotEqual, Less, AtMost, Greater, AtLeast}
use Rattle.span_expr.specs.declared.condition.Condition.{Condition}
use Rattle.span_expr.specs.declared.condition.Condition.TheVariants as condition
use Rattle.span_expr.specs.Meaning.{and_also, val}
use Rattle.span_expr.specs.Operators.{compare_values, holds}
use Rattle.span_expr.specs.Outcomes.{at_value, both, condition_of, strict, truth_of}
use Rattle.span_leaves.specs.Leaves.{width_of}
use Rattle.span_pattern.specs.declared.pattern.PatternPart.{PatternPart}
use Rattle.span_pattern.specs.Patterns.{fits, like}
use Rattle.span_celltests.specs.declared.cell_test.CellTest.{CellTest}
use Rattle.span_celltests.specs.declared.cell_test.CellTest.TheVariants.{Number, Text, Like}
use Rattle.span_celltests.specs.declared.like_test.LikeTest.{LikeTest}
use Rattle.span_celltests.specs.declared.number_test.NumberTest.{NumberTest}
use Rattle.span_celltests.specs.declared.text_test.TextTest.{TextTest}
use Rattle.span_entries.specs.Meaning.{declared_row}

-- ---- what a test is

-- whether a value is a number of which the comparison holds; it does not of NULL
abbrev pub meets_number : NumberTest → Value → Bool
meets_number test (value.Int i) = holds test.comparison (value_order (value.Int i) (value.Int test.number))
meets_number test v = false

-- whether a value is a text of which the comparison holds; it does not of NULL
abbrev pub meets_text : TextTest → Value → Bool
meets_text test (value.Str t) = holds test.comparison (value_order (value.Str t) (value.Str test.text))
meets_text test v = false

-- whether a value is a text that the pattern fits; it does not fit NULL
abbrev pub meets_like : LikeTest → Value → Bool
meets_like test (value.Str t) = fits test.pattern (chars t)
meets_like test v = false

-- the same of that one of the cells outside the key that the test is about
abbrev pub meets_number_at : List Value → NumberTest → Bool
meets_number_at cells test = meets_number test (get_or cells test.cell value.Null)

abbrev pub meets_text_at : List Value → TextTest → Bool
meets_text_at cells test = meets_text test (get_or cells test.cell value.Null)

abbrev pub meets_like_at : List Value → LikeTest → Bool
meets_like_at cells test = meets_like test (get_or cells test.cell value.Null)

abbrev pub meets : List Value → CellTest → Bool
meets cells (Number test) = meets_number_at cells test
meets cells (Text test) = meets_text_at cells test
meets cells (Like test) = meets_like_at cells test

-- the cells outside the key have a value of the kind, or NULL, at a place
pub record IsCellOf (k : Kind) (ks : List Kind) (cell : ℕ) : Type 0 where
  pub within : cell < length ks
  pub kind : get_or ks cell kind.Int ≡ k

-- the test is about a cell of its kind
abbrev pub IsTestable : List Kind → CellTest → Type 0
IsTestable ks (Number test) = IsCellOf kind.Int ks test.cell
IsTestable ks (Text test) = IsCellOf kind.Str ks test.cell
IsTestable ks (Like test) = IsCellOf kind.Str ks test.cell

-- ---- what tests say of a condition

-- a condition is known to be TRUE where the answer is true, and to be FALSE or NULL where it is not
abbrev pub IsKnown : Condition → Bool → Type 0
IsKnown c found =
    (c ≡ condition.Known (truth_of (value.Bool found))) ⊎ ((c ≡ condition.Known Unknown) × (found ≡ false))

-- what an expression comes to as a condition, at a row as it is declared
abbrev pub condition_at : List Table → Expr → TableRow → Condition
condition_at schema e t = condition_of (val (declared_row schema t) e)

-- what a comparison of two expressions comes to
abbrev pub comparison_at : List Table → Expr → Comparison → Expr → TableRow → Condition
comparison_at schema left c right t =
    condition_of (strict (compare_values c) (val (declared_row schema t) left) (val (declared_row schema t) right))

-- the comparison with its sides exchanged
abbrev pub exchanged : Comparison → Comparison
exchanged Equal = Equal
exchanged NotEqual = NotEqual
exchanged Less = Greater
exchanged AtMost = AtLeast
exchanged Greater = Less
exchanged AtLeast = AtMost

-- what `operand BETWEEN low AND high` comes to
abbrev pub between_at : List Table → Expr → Expr → Expr → TableRow → Condition
between_at schema operand low high t =
    both (comparison_at schema operand AtLeast low t) (comparison_at schema operand AtMost high t)

-- what `operand LIKE pattern` comes to
abbrev pub like_at : List Table → Expr → List PatternPart → TableRow → Condition
like_at schema operand pattern t = condition_of (at_value (val (declared_row schema t) operand) (like pattern))

-- the test is what a condition comes to at the rows of table n
pub record IsTestOf (schema : List Table) (n : ℕ) (of : TableRow → Condition) (test : CellTest) : Type 0 where
  pub testable : IsTestable (other_kinds schema n) test
  pub judged : (t : TableRow) → IsTyped schema t → t.table ≡ n → IsKnown (of t) (meets t.cells test)

-- the same of the tests of one form
abbrev pub IsNumberTestOf : List Table → ℕ → (TableRow → Condition) → NumberTest → Type 0
IsNumberTestOf schema n of test = IsTestOf schema n of (Number test)

abbrev pub IsTextTestOf : List Table → ℕ → (TableRow → Condition) → TextTest → Type 0
IsTextTestOf schema n of test = IsTestOf schema n of (Text test)

abbrev pub IsLikeTestOf : List Table → ℕ → (TableRow → Condition) → LikeTest → Type 0
IsLikeTestOf schema n of test = IsTestOf schema n of (Like test)

-- the tests are what a condition comes to at the rows of table n
pub record AreTestsOf (schema : List Table) (n : ℕ) (e : Expr) (tests : List CellTest) : Type 0 where
  pub testable : AllByRecursion (IsTestable (other_kinds schema n)) tests
  pub judged : (t : TableRow) → IsTyped schema t → t.table ≡ n
      → IsKnown (condition_at schema e t) (list_all (meets t.cells) tests)

-- the condition is FALSE or NULL at the rows of table n that do not meet all of the tests
pub record AreNeededFor (schema : List Table) (n : ℕ) (e : Expr) (tests : List CellTest) : Type 0 where
  pub testable : AllByRecursion (IsTestable (other_kinds schema n)) tests
  pub unmet : (t : TableRow) → IsTyped schema t → t.table ≡ n → list_all (meets t.cells) tests ≡ false
      → IsKnown (condition_at schema e t) false

-- ---- the tests of an AND, one condition after another

-- the tests of some conditions, and after them those of one more: they are what the AND of them comes to
pub record AddsTests (schema : List Table) (n : ℕ) (of : TableRow → Condition)
    (old new : List CellTest) : Type 0 where
  pub judged : (t : TableRow) → IsTyped schema t → t.table ≡ n → (c : Condition)
      → IsKnown c (list_all (meets t.cells) old)
      → IsKnown (both c (of t)) (list_all (meets t.cells) new)

-- ... where not all are met, the AND of them is FALSE or NULL
pub record AddsNeeded (schema : List Table) (n : ℕ) (of : TableRow → Condition)
    (old new : List CellTest) : Type 0 where
  pub testable : AllByRecursion (IsTestable (other_kinds schema n)) old
      → AllByRecursion (IsTestable (other_kinds schema n)) new
  pub unmet : (t : TableRow) → IsTyped schema t → t.table ≡ n → (c : Condition)
      → (list_all (meets t.cells) old ≡ false → IsKnown c false) → list_all (meets t.cells) new ≡ false
      → IsKnown (both c (of t)) false

-- the conditions after one, with it
abbrev pub and_all : List Table → Condition → List Expr → TableRow → Condition
and_all schema c more t = fold and_also c (map (val (declared_row schema t)) more)

-- the tests of some conditions, and after them those of several more
pub record AreMoreTests (schema : List Table) (n : ℕ) (more : List Expr) (old new : List CellTest) : Type 0 where
  pub judged : (t : TableRow) → IsTyped schema t → t.table ≡ n → (c : Condition)
      → IsKnown c (list_all (meets t.cells) old)
      → IsKnown (and_all schema c more t) (list_all (meets t.cells) new)

-- ... of which some are tests
pub record AreSomeTests (schema : List Table) (n : ℕ) (more : List Expr) (old new : List CellTest) : Type 0 where
  pub testable : AllByRecursion (IsTestable (other_kinds schema n)) old
      → AllByRecursion (IsTestable (other_kinds schema n)) new
  pub unmet : (t : TableRow) → IsTyped schema t → t.table ≡ n → (c : Condition)
      → (list_all (meets t.cells) old ≡ false → IsKnown c false) → list_all (meets t.cells) new ≡ false
      → IsKnown (and_all schema c more t) false

-- ---- where the cell of a column is

-- a column of a kind outside the key of table n, whose place among all columns this is
pub record IsColumnCell (schema : List Table) (n : ℕ) (k : Kind) (place cell : ℕ) : Type 0 where
  pub within : place < width_of schema n
  pub apart : list_all (λ q. not (q == place)) (key_places schema n) ≡ true
  pub placed : cell < length (other_places schema n)
  pub at : get_or (other_places schema n) cell 0 ≡ place
  pub kind : IsCellOf k (other_kinds schema n) cell

-- ---- what is read of a packed row

-- whatever cells the bytes code, those from one of them on are coded from a place on
pub record IsPlaceOf (ks : List Kind) (cell : ℕ) (bytes : List ℕ) (at : ℕ) : Type 0 where
  pub of : (vs : List Value) → AreCells ks vs → bytes ≡ row_code vs → drop at bytes ≡ row_code (drop cell vs)

abbrev pub number_or_null : Option ℤ → Value
number_or_null None = value.Null
number_or_null (Some i) = value.Int i

-- whatever number or NULL is coded at the front, it was found
pub record IsNumberFound (bytes : List ℕ) (found : Option ℤ) : Type 0 where
  pub of : (v : Value) (more : List ℕ) → Fits kind.Int v → bytes ≡ cell_code v ++ more → v ≡ number_or_null found

-- the length that the code of a text has after its first byte
abbrev pub coded_length : List ℕ → ℕ
coded_length code =
    from_be_bytes w32 (get_or code 1 0 ∷ get_or code 2 0 ∷ get_or code 3 0 ∷ get_or code 4 0 ∷ [])

-- the bytes after it are as many, and these are the text
pub record IsTextIn (code text : List ℕ) : Type 0 where
  pub within : coded_length code + 5 ≤ length code
  pub is : text ≡ take (coded_length code) (drop 5 code)

-- there are fewer bytes
abbrev pub IsNoTextIn : List ℕ → Type 0
IsNoTextIn code = length code < coded_length code + 5

abbrev pub text_or_null : Option (List ℕ) → Value
text_or_null None = value.Null
text_or_null (Some t) = value.Str t

-- whatever text or NULL is coded at the front, it was found
pub record IsTextFound (bytes : List ℕ) (found : Option (List ℕ)) : Type 0 where
  pub of : (v : Value) (more : List ℕ) → Fits kind.Str v → bytes ≡ cell_code v ++ more → v ≡ text_or_null found

-- whatever cells the bytes code, the answer is whether they pass
pub record IsWhetherPass (ks : List Kind) (bytes : List ℕ) (passes : List Value → Bool) (found : Bool) : Type 0 where
  pub of : (vs : List Value) → IsRow ks vs → bytes ≡ row_code vs → found ≡ passes vs
