-- A query that answers the groups of a table's rows: each row of a group has a value for each key and each aggregate, so that all its columns in
-- their order are the row.
use Rattle.std.proofs.Common.{◌≡◌, ◌∙◌, ℕ, ◌+◌, ◌<◌, ◌&&◌, Bool, true, false, List, [], ◌∷◌, ◌++◌, Option, Some, None, map, length, get_or, refl, sym, ap, subst, length-append}
use Rattle.std.specs.Prelude.{not}
use Rattle.std.specs.List.{AllByRecursion}
use Rattle.std.specs.Option.{option_map}
use Rattle.std.proofs.lemmas.Bool.{eq-eqb}
use Rattle.std.proofs.lemmas.List.{length-map}
use Rattle.span_value.specs.declared.value.Value.{Value}
use Rattle.span_value.proofs.Lists.{all_filter}
use Rattle.span_expr.specs.declared.expr.Expr.{Expr}
use Rattle.span_expr.specs.Operators.{column_of}
use Rattle.span_query.specs.declared.query.Aggregate.{Aggregate}
use Rattle.span_query.specs.declared.query.Block.{Block}
use Rattle.span_query.specs.declared.query.BoundQuery.{BoundQuery}
use Rattle.span_query.specs.declared.query.BoundQuery.TheOpen.{BoundQuery-F}
use Rattle.span_query.specs.declared.query.BoundQuery.TheViews.{out-BoundQuery}
use Rattle.span_query.specs.declared.query.Grouping.{Grouping}
use Rattle.span_query.specs.declared.query.Limit.{Limit}
use Rattle.span_query.specs.declared.query.SortKey.{SortKey}
use Rattle.span_query.specs.Groups.{aggregate, are_equal, columns_at, distinct, group_keys, group_row, groups, rows_with}
use Rattle.span_query.specs.Layers.{map_block}
use Rattle.span_query.specs.Meaning.{block_rows, distinct_if, limit_rows, meaning_over}
use Rattle.span_query.specs.Rows.{Row, Rows, OrFault, ◌>>=◌, append_results, concat_map, each, filter_where, project_rows, singleton}
use Rattle.span_query.specs.Sorting.{sorted}
use Rattle.span_query.proofs.Results.{append_results-nil, bind-Some}
use Rattle.span_sorting.specs.Columns.{AreColumns}
use Rattle.span_sorting.proofs.RowOrder.{sorted_by_none}
use Rattle.span_groups.proofs.Together.{each-length}
use Rattle.span_algebra.specs.BlockMeaning.{GroupsTable}
use Rattle.span_algebra.specs.ColumnOrders.{have_width}
use Rattle.span_algebra.specs.GroupAnswers.{IsOneBlock, TakesGroups}
use Rattle.span_algebra.proofs.AllValues.{as_they_are}
use Rattle.span_algebra.proofs.Blocks.{table_grouped}
use Rattle.span_algebra.proofs.Derived.{meaning_is}

-- ---- how many values the rows of groups have

-- it holds of what is there, or there is a fault
abbrev UnlessFault : {A : Type 0} → (A → Type 0) → OrFault A → Type 0
UnlessFault P None = Unit {0}
UnlessFault P (Some x) = P x

of_found : {A : Type 0} (P : A → Type 0) (o : OrFault A) → ((x : A) → o ≡ Some x → P x) → UnlessFault P o
of_found P None h = tt {0}
of_found P (Some x) h = h x refl

module _ {A B : Type 0} (f : A → OrFault B) (P : A → Type 0) (Q : B → Type 0) (h : (x : A) → P x → UnlessFault Q (f x)) where
  one_more : (o : OrFault B) (rest : OrFault (List B)) → UnlessFault Q o → UnlessFault (AllByRecursion Q) rest → UnlessFault (AllByRecursion Q) (append_results (option_map singleton o) rest)
  one_more None rest one all = tt {0}
  one_more (Some y) None one all = tt {0}
  one_more (Some y) (Some ys) one all = (one, all)

  all_found : (xs : List A) → AllByRecursion P xs → UnlessFault (AllByRecursion Q) (each f xs)
  all_found [] all = tt {0}
  all_found (x ∷ xs) all = one_more (f x) (each f xs) (h x all.0) (all_found xs all.1)

abbrev HasLength : ℕ → Row → Type 0
HasLength n row = length row ≡ n

distinct_long : (n : ℕ) (rows : List Row) → AllByRecursion (HasLength n) rows → AllByRecursion (HasLength n) (distinct rows)
distinct_long n [] all = tt {0}
distinct_long n (x ∷ xs) all = (all.0, all_filter (HasLength n) (λ (y : Row). not (are_equal x y)) (distinct xs) (distinct_long n xs all.1))

keys_long : (places : List ℕ) (rows : List Row) → AllByRecursion (HasLength (length places)) (group_keys places rows)
keys_long [] rows = (refl, tt {0})
keys_long (p ∷ ps) rows = distinct_long (length (p ∷ ps)) (map (columns_at (p ∷ ps)) rows) (of_rows rows) where
  of_rows : (some : List Row) → AllByRecursion (HasLength (length (p ∷ ps))) (map (columns_at (p ∷ ps)) some)
  of_rows [] = tt {0}
  of_rows (row ∷ some) = (length-map (p ∷ ps) (column_of row), of_rows some)

module _ (g : Grouping) (rows : List Row) where
  abbrev width : ℕ
  width = length g.keys + length g.aggregates

  with_key : (key : Row) (o : OrFault Row) → HasLength (length g.keys) key → UnlessFault (HasLength (length g.aggregates)) o → UnlessFault (HasLength width) (o >>= (λ vs. Some (key ++ vs)))
  with_key key None long is = tt {0}
  with_key key (Some vs) long is = length-append key vs ∙ ap (λ (n : ℕ). n + length vs) long ∙ ap (λ (n : ℕ). length g.keys + n) is

  row_long : (key : Row) → HasLength (length g.keys) key → UnlessFault (HasLength width) (group_row g rows key)
  row_long key long =
      let some : Aggregate → OrFault Value = aggregate (rows_with g.keys key rows) in
      with_key key (each some g.aggregates) long (of_found (HasLength (length g.aggregates)) (each some g.aggregates) (λ vs is. each-length some g.aggregates vs is))

  groups_long : UnlessFault (AllByRecursion (HasLength width)) (groups g rows)
  groups_long = all_found (group_row g rows) (HasLength (length g.keys)) (HasLength width) row_long (group_keys g.keys rows) (keys_long g.keys rows)

-- ---- the select list

all_wide : (n : ℕ) (rows : List Row) → AllByRecursion (HasLength n) rows → have_width n rows ≡ true
all_wide n [] all = refl
all_wide n (row ∷ rows) all = ap (λ (b : Bool). b && have_width n rows) (eq-eqb (length row) n all.0) ∙ all_wide n rows all.1

pub groups_taken : (g : Grouping) (outputs : List Expr) (columns : List ℕ) → AreColumns outputs columns → ((i : ℕ) → i < length columns → get_or columns i 0 ≡ i)
    → length columns ≡ length g.keys + length g.aggregates → TakesGroups g outputs
groups_taken g outputs columns are order wide rows = at (groups g rows) (groups_long g rows) where
  at : (o : Rows) → UnlessFault (AllByRecursion (HasLength (length g.keys + length g.aggregates))) o → (o >>= project_rows outputs) ≡ o
  at None long = refl
  at (Some made) long = as_they_are outputs columns made are order (subst (λ (n : ℕ). have_width n made ≡ true) (sym wide) (all_wide (length g.keys + length g.aggregates) made long))

-- ---- the query

-- what ORDER BY and LIMIT leave of the rows of one block
abbrev last : List SortKey → Option Limit → Rows → Rows
last order limit o = append_results o (Some []) >>= (λ rows. Some (limit_rows limit (sorted order rows)))

all_last : (o : Rows) → last [] None o ≡ o
all_last None = refl
all_last (Some rows) = ap (λ (p : Rows). p >>= (λ some. Some (sorted [] some))) (append_results-nil (Some rows)) ∙ ap (λ (l : List Row). Some l) (sorted_by_none [] rows refl)

-- what the block makes of the rows of its groups, with its parts as they are
abbrev taken : List Expr → Option Expr → Bool → Rows → Rows
taken outputs having is_distinct o = o >>= (λ made. filter_where having made >>= project_rows outputs >>= (λ rows. Some (distinct_if is_distinct rows)))

all_taken : (outputs : List Expr) (o : Rows) → taken outputs None false o ≡ (o >>= project_rows outputs)
all_taken outputs None = refl
all_taken outputs (Some made) = bind-Some (project_rows outputs made)

pub groups_answered : (query : BoundQuery) (g : Grouping) → IsOneBlock (out-BoundQuery query) → GroupsTable (out-BoundQuery query).first 1 g → g.having ≡ None
    → TakesGroups g (out-BoundQuery query).first.outputs → (tables : ℕ → Rows) (rows : List Row) → tables 1 ≡ Some rows → meaning_over tables query ≡ groups g rows
groups_answered query g one table none takes tables rows given =
    let q : BoundQuery-F BoundQuery = out-BoundQuery query in
    let f : BoundQuery → Rows = meaning_over tables in
    let b : Block BoundQuery = q.first in
    let first : Rows = block_rows tables (map_block f b) in
    let made : Rows = groups g rows in
    meaning_is tables query
    ∙ ap (λ (bs : List (Block BoundQuery)). append_results first (concat_map (block_rows tables) (map (map_block f) bs)) >>= (λ found. Some (limit_rows q.limit (sorted q.order found)))) one.others
    ∙ ap (λ (keys : List SortKey). last keys q.limit first) one.order
    ∙ ap (λ (limit : Option Limit). last [] limit first) one.limit
    ∙ all_last first
    ∙ table_grouped f tables b 1 g made table (ap (λ (o : Rows). o >>= groups g) given)
    ∙ ap (λ (having : Option Expr). taken b.outputs having b.is_distinct made) none
    ∙ ap (λ (d : Bool). taken b.outputs None d made) one.distinct
    ∙ all_taken b.outputs made
    ∙ takes rows
