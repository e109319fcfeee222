-- What a query means stays the same where rows that are enough are in the place of others.
use Rattle.std.proofs.Common.{◌≡◌, ◌∙◌, ℕ, suc, List, [], ◌∷◌, ◌++◌, Option, Some, None, length, map, refl, sym, ap, subst}
use Rattle.std.specs.Prelude.{IfSome}
use Rattle.span_query.specs.declared.query.Block.{Block}
use Rattle.span_query.specs.declared.query.BoundQuery.{BoundQuery}
use Rattle.span_query.specs.declared.query.BoundQuery.TheOpen.{BoundQuery-F}
use Rattle.span_query.specs.declared.query.BoundQuery.TheViews.{out-BoundQuery}
use Rattle.span_query.specs.Layers.{map_block}
use Rattle.span_query.specs.Meaning.{block_rows, given, limit_rows, meaning_over}
use Rattle.span_query.specs.Rows.{Row, Rows, ◌>>=◌, append_results, concat_map}
use Rattle.span_query.specs.Sorting.{comes_before, sorted}
use Rattle.span_rows.specs.Columns.{distinct_at}
use Rattle.span_sorting.specs.Columns.{AreColumns}
use Rattle.span_sorting.specs.Orders.{take_first}
use Rattle.span_sorting.proofs.FirstOfParts.{first_of_parts}
use Rattle.span_sorting.proofs.Limits.{IsNeededBy}
use Rattle.span_sorting.proofs.RowOrder.{rows_ranked}
use Rattle.span_groups.proofs.MergedGroups.{distinct_at-both}
use Rattle.span_algebra.specs.declared.ordered.ColumnOrder.{ColumnOrder}
use Rattle.span_algebra.specs.BlockMeaning.{TakesDistinct}
use Rattle.span_algebra.specs.ColumnOrders.{IsColumnOrder, IsTable}
use Rattle.span_collected.specs.declared.reduction.Reduction.{Reduction}
use Rattle.span_collected.specs.Reductions.{HasEnough}
use Rattle.span_algebra.specs.SameMeaning.{IsReductionFor, MeanTheSame}
use Rattle.span_algebra.proofs.Blocks.{table_distinct}
use Rattle.span_algebra.proofs.Derived.{meaning_is}
use Rattle.span_algebra.proofs.SameMeaning.{same_rows}
use Rattle.span_algebra.proofs.InOrder.{columns_first, ordered_meaning, rows_of_table, sorts_columns}

-- the table after some others
given_at : (front rest : List Rows) (o : Rows) → given (front ++ o ∷ rest) (suc (length front)) ≡ o
given_at [] rest o = refl
given_at (x ∷ front) rest o = given_at front rest o

-- what is made of rows with others before and after them
with_others : (made : List Row → Rows) (rows all : List Row) → ((b a : List Row) → made (b ++ (rows ++ a)) ≡ made (b ++ (all ++ a)))
    → (before after : Rows) → (append_results before (append_results (Some rows) after) >>= made) ≡ (append_results before (append_results (Some all) after) >>= made)
with_others made rows all same None after = refl
with_others made rows all same (Some b) None = refl
with_others made rows all same (Some b) (Some a) = same b a

-- a query that is made of the rows of one table
by_table : (query : BoundQuery) (place : ℕ) (made : List Row → Rows) → ((tables : ℕ → Rows) → meaning_over tables query ≡ (tables (suc place) >>= made))
    → (rows all : List Row) → ((b a : List Row) → made (b ++ (rows ++ a)) ≡ made (b ++ (all ++ a))) → MeanTheSame query place (Some rows) (Some all)
by_table query place made reads rows all same = record {
  of = λ front rest before after at.
      let table : List Row → Rows = λ some. append_results before (append_results (Some some) after) in
      let here : (some : List Row) → given (front ++ table some ∷ rest) (suc place) ≡ table some =
      λ some. subst (λ (n : ℕ). given (front ++ table some ∷ rest) (suc n) ≡ table some) at (given_at front rest (table some)) in
      let means : (some : List Row) → meaning_over (given (front ++ table some ∷ rest)) query ≡ (table some >>= made) =
      λ some. reads (given (front ++ table some ∷ rest)) ∙ ap (λ (o : Rows). o >>= made) (here some) in
      means rows ∙ with_others made rows all same before after ∙ sym (means all);
}

-- the first rows in the order that LIMIT needs, or all
pub first_enough : (query : BoundQuery) (place : ℕ) (count : Option ℕ) (order : ColumnOrder) → IsColumnOrder (out-BoundQuery query) order → IsTable (out-BoundQuery query).first (suc place)
    → IfSome count (IsNeededBy (out-BoundQuery query).limit) → (rows all : List Row) → take_first count (sorted order.keys.items rows) ≡ take_first count (sorted order.keys.items all)
    → MeanTheSame query place (Some rows) (Some all)
first_enough query place count order is table needed rows all same =
    let q : BoundQuery-F BoundQuery = out-BoundQuery query in
    let keys = order.keys.items in
    let made : List Row → Rows = λ some. Some (columns_first q order some) in
    let reads : (tables : ℕ → Rows) → meaning_over tables query ≡ (tables (suc place) >>= made) =
    λ tables. ordered_meaning tables query order is ∙ ap (λ (o : Rows). o >>= made) (rows_of_table tables q.first (suc place) table) in
    let parts : (b a : List Row) → take_first count (sorted keys (b ++ (rows ++ a))) ≡ take_first count (sorted keys (b ++ (all ++ a))) =
    λ b a. first_of_parts (comes_before keys) (rows_ranked keys) count b b (rows ++ a) (all ++ a) refl (first_of_parts (comes_before keys) (rows_ranked keys) count rows all a a same refl) in
    by_table query place made reads rows all (λ b a. sym (sorts_columns q order count (b ++ (rows ++ a)) (Some (b ++ (all ++ a))) needed (parts b a)))

-- one row for each of the values
pub distinct_enough : (query : BoundQuery) (place : ℕ) (columns : List ℕ) → (out-BoundQuery query).others ≡ [] → TakesDistinct (out-BoundQuery query).first (suc place)
    → AreColumns (out-BoundQuery query).first.outputs columns → (rows all : List Row) → distinct_at columns rows ≡ distinct_at columns all → MeanTheSame query place (Some rows) (Some all)
distinct_enough query place columns none takes are rows all same =
    let q : BoundQuery-F BoundQuery = out-BoundQuery query in
    let last : List Row → Rows = λ found. Some (limit_rows q.limit (sorted q.order found)) in
    let made : List Row → Rows = λ some. last (distinct_at columns some ++ []) in
    let after : (o : Rows) → (append_results (o >>= (λ some. Some (distinct_at columns some))) (Some []) >>= last) ≡ (o >>= made) = made_of last in
    let reads : (tables : ℕ → Rows) → meaning_over tables query ≡ (tables (suc place) >>= made) =
    λ tables.
    meaning_is tables query
    ∙ ap (λ (bs : List (Block BoundQuery)). append_results (block_rows tables (map_block (meaning_over tables) q.first)) (concat_map (block_rows tables) (map (map_block (meaning_over tables)) bs)) >>= last) none
    ∙ ap (λ (o : Rows). append_results o (Some []) >>= last) (table_distinct (meaning_over tables) tables q.first (suc place) columns takes are)
    ∙ after (tables (suc place)) in
    let parts : (b a : List Row) → distinct_at columns (b ++ (rows ++ a)) ≡ distinct_at columns (b ++ (all ++ a)) =
    λ b a. distinct_at-both columns b b (rows ++ a) (all ++ a) refl (distinct_at-both columns rows all a a same refl) in
    by_table query place made reads rows all (λ b a. ap (λ (l : List Row). last (l ++ [])) (parts b a))
  where
    made_of : (last : List Row → Rows) (o : Rows) → (append_results (o >>= (λ some. Some (distinct_at columns some))) (Some []) >>= last) ≡ (o >>= (λ some. last (distinct_at columns some ++ [])))
    made_of last None = refl
    made_of last (Some some) = refl

-- a part with rows that are enough
pub enough_means : (query : BoundQuery) (place : ℕ) (reduction : Reduction) → IsReductionFor query place reduction → (rows meant : Rows) → HasEnough reduction rows meant → MeanTheSame query place rows meant
enough_means query place reduction is None meant has = same_rows query place None meant (sym has)
enough_means query place reduction is (Some rows) meant has = subst (MeanTheSame query place (Some rows)) (sym has.1) (is rows has.0 has.2)
