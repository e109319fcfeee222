-- The rows that a query means have the columns of its select list.
use Rattle.std.proofs.Common.{◌≡◌, ℕ, suc, zero, Bool, true, false, List, [], ◌∷◌, take, drop, length, Option, Some, None, refl, ap, subst}
use Rattle.std.specs.Prelude.{not, if◌then◌else◌}
use Rattle.std.specs.List.{AllByRecursion}
use Rattle.std.specs.Option.{option_map}
use Rattle.span_value.proofs.Lists.{all_weaker}
use Rattle.span_expr.specs.declared.expr.Expr.{Expr}
use Rattle.span_expr.specs.Meaning.{val}
use Rattle.span_query.specs.declared.query.BoundQuery.TheOpen.{BoundQuery-F}
use Rattle.span_query.specs.declared.query.Block.{Block}
use Rattle.span_query.specs.declared.query.Limit.{Limit}
use Rattle.span_query.specs.Rows.{Row, OrFault, Rows, ◌>>=◌, value_of, singleton, append_results, concat_map, values, project_rows, filter_where}
use Rattle.span_query.specs.Groups.{are_equal, distinct, group_rows}
use Rattle.span_query.specs.Sorting.{comes_before, insert_sorted, insertion_sort, sorted}
use Rattle.span_query.specs.Meaning.{from, distinct_if, block_rows, limit_rows, query_rows}
use Rattle.span_leaves.proofs.Joins.{all_append}
use Rattle.span_leaves.proofs.Pushing.{AreOfWidth}
use Rattle.span_leaves.proofs.Narrowing.{IsWide, wide_filter}

wide_append : (n : ℕ) (a b : Rows) → IsWide n a → IsWide n b → IsWide n (append_results a b)
wide_append n (Some xs) (Some ys) p q = all_append (λ (r : Row). length r ≡ n) xs ys p q
wide_append n (Some xs) None p q = tt {0}
wide_append n None b p q = tt {0}

pub wide_concat_map : {A : Type 0} (n : ℕ) (f : A → Rows) (xs : List A) → AllByRecursion (λ x. IsWide n (f x)) xs → IsWide n (concat_map f xs)
wide_concat_map n f [] all = tt {0}
wide_concat_map n f (x ∷ xs) all = wide_append n (f x) (concat_map f xs) all.0 (wide_concat_map n f xs all.1)

wide_bind : {A : Type 0} (n : ℕ) (o : OrFault A) (f : A → Rows) → ((x : A) → IsWide n (f x)) → IsWide n (o >>= f)
wide_bind n (Some x) f wide = wide x
wide_bind n None f wide = tt {0}

wide_next : (n : ℕ) (o : Rows) (f : List Row → List Row) → IsWide n o → ((rows : List Row) → AreOfWidth n rows → AreOfWidth n (f rows)) → IsWide n (o >>= (λ rows. Some (f rows)))
wide_next n (Some rows) f is keeps = keeps rows is
wide_next n None f is keeps = tt {0}

-- ---- the select list

-- the values of a list of expressions are as many, or there is a fault
abbrev HasLength : ℕ → OrFault Row → Type 0
HasLength n None = Unit {0}
HasLength n (Some vs) = length vs ≡ n

values_len : (es : List Expr) (row : Row) → HasLength (length es) (values es row)
values_len [] row = refl
values_len (e ∷ es) row = of_both (value_of (val row e)) (values es row) (values_len es row) where
  of_both : (o : OrFault _) (rest : OrFault Row) → HasLength (length es) rest → HasLength (suc (length es)) (append_results (option_map singleton o) rest)
  of_both None rest is = tt {0}
  of_both (Some v) None is = tt {0}
  of_both (Some v) (Some vs) is = ap suc is

wide_project : (es : List Expr) (rows : List Row) → IsWide (length es) (project_rows es rows)
wide_project es rows = wide_concat_map (length es) (λ row. option_map singleton (values es row)) rows (all_rows rows) where
  of_values : (o : OrFault Row) → HasLength (length es) o → IsWide (length es) (option_map singleton o)
  of_values None is = tt {0}
  of_values (Some vs) is = (is, tt {0})

  all_rows : (rows : List Row) → AllByRecursion (λ row. IsWide (length es) (option_map singleton (values es row))) rows
  all_rows [] = tt {0}
  all_rows (row ∷ rows) = (of_values (values es row) (values_len es row), all_rows rows)

wide_distinct : (n : ℕ) (rows : List Row) → AreOfWidth n rows → AreOfWidth n (distinct rows)
wide_distinct n [] is = tt {0}
wide_distinct n (x ∷ rows) is = (is.0, wide_filter n (λ (y : Row). not (are_equal x y)) (distinct rows) (wide_distinct n rows is.1))

wide_distinct_if : (n : ℕ) (b : Bool) (rows : List Row) → AreOfWidth n rows → AreOfWidth n (distinct_if b rows)
wide_distinct_if n true rows is = wide_distinct n rows is
wide_distinct_if n false rows is = is

pub wide_block : (tables : ℕ → Rows) (b : Block Rows) → IsWide (length b.outputs) (block_rows tables b)
wide_block tables b =
    wide_next (length b.outputs) (from tables b.from b.joins >>= filter_where b.filter >>= group_rows b.grouping >>= project_rows b.outputs) (distinct_if b.is_distinct)
    (wide_bind (length b.outputs) (from tables b.from b.joins >>= filter_where b.filter >>= group_rows b.grouping) (project_rows b.outputs) (wide_project b.outputs))
    (wide_distinct_if (length b.outputs) b.is_distinct)

-- ---- ORDER BY and LIMIT

wide_insert : (n : ℕ) (before : Row → Row → Bool) (x : Row) (rows : List Row) → length x ≡ n → AreOfWidth n rows → AreOfWidth n (insert_sorted before x rows)
wide_insert n before x [] one is = (one, tt {0})
wide_insert n before x (y ∷ rows) one is = of_test (before y x) (wide_insert n before x rows one is.1) where
  of_test : (b : Bool) → AreOfWidth n (insert_sorted before x rows) → AreOfWidth n (if b then y ∷ insert_sorted before x rows else x ∷ y ∷ rows)
  of_test true rest = (is.0, rest)
  of_test false rest = (one, (is.0, is.1))

wide_sorted : (n : ℕ) (before : Row → Row → Bool) (rows : List Row) → AreOfWidth n rows → AreOfWidth n (insertion_sort before rows)
wide_sorted n before [] is = tt {0}
wide_sorted n before (x ∷ rows) is = wide_insert n before x (insertion_sort before rows) is.0 (wide_sorted n before rows is.1)

wide_take : (n k : ℕ) (rows : List Row) → AreOfWidth n rows → AreOfWidth n (take k rows)
wide_take n zero rows is = tt {0}
wide_take n (suc k) [] is = tt {0}
wide_take n (suc k) (x ∷ rows) is = (is.0, wide_take n k rows is.1)

wide_drop : (n k : ℕ) (rows : List Row) → AreOfWidth n rows → AreOfWidth n (drop k rows)
wide_drop n zero rows is = is
wide_drop n (suc k) [] is = tt {0}
wide_drop n (suc k) (x ∷ rows) is = wide_drop n k rows is.1

wide_limit : (n : ℕ) (l : Option Limit) (rows : List Row) → AreOfWidth n rows → AreOfWidth n (limit_rows l rows)
wide_limit n None rows is = is
wide_limit n (Some l) rows is = wide_take n l.rows (drop l.skip rows) (wide_drop n l.skip rows is)

-- the rows of a query whose blocks all have the same number of outputs
pub wide_query : (tables : ℕ → Rows) (n : ℕ) (q : BoundQuery-F Rows) → AllByRecursion (λ (b : Block Rows). length b.outputs ≡ n) (q.first ∷ q.others) → IsWide n (query_rows tables q)
wide_query tables n q same =
    wide_next n (concat_map (block_rows tables) (q.first ∷ q.others)) (λ rows. limit_rows q.limit (sorted q.order rows))
    (wide_concat_map n (block_rows tables) (q.first ∷ q.others) (all_weaker (λ (b : Block Rows). length b.outputs ≡ n) (λ b. IsWide n (block_rows tables b)) (λ b is. subst (λ (k : ℕ). IsWide k (block_rows tables b)) is (wide_block tables b)) (q.first ∷ q.others) same))
    (λ rows is. wide_limit n q.limit (sorted q.order rows) (wide_sorted n (comes_before q.order) rows is))
