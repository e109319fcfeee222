-- A mask changes no value of an expression that reads within it; how wide joined and filtered rows are.
use Rattle.std.proofs.Common.{◌≡◌, ℕ, ◌+◌, Bool, true, false, List, [], ◌∷◌, ◌++◌, map, length, replicate, Option, Some, None, refl, ap, ◌∙◌, length-append, arith}
use Rattle.std.specs.List.{AllByRecursion}
use Rattle.std.proofs.lemmas.List.{length-replicate}
use Rattle.span_value.specs.declared.value.Value.TheVariants.{Null}
use Rattle.span_value.proofs.Lists.{all_weaker}
use Rattle.span_expr.specs.declared.expr.Expr.{Expr}
use Rattle.span_query.specs.declared.query.Join.{Join}
use Rattle.span_query.specs.Rows.{Row, OrFault, Rows, ◌>>=◌, append_results, concat_map, keep_if, holds, filter_rows, filter_where}
use Rattle.span_query.specs.Meaning.{or_unmatched, pairs_of, join_rows}
use Rattle.span_leaves.proofs.Pushing.{AreOfWidth}
use Rattle.span_leaves.proofs.Narrowing.{IsWide}
use Rattle.span_leaves.proofs.Picked.{wide_pairs}
use Rattle.span_planner.proofs.Widths.{wide_concat_map}

-- ---- lists of rows

-- what is made of items gives what they give, where each does so
pub concat_map-unmasked : {A B C : Type 0} (h : A → B) (f : A → OrFault (List C)) (g : B → OrFault (List C)) (xs : List A) → AllByRecursion (λ x. g (h x) ≡ f x) xs → concat_map g (map h xs) ≡ concat_map f xs
concat_map-unmasked h f g [] all = refl
concat_map-unmasked h f g (x ∷ xs) all =
    ap (λ (o : OrFault (List _)). append_results o (concat_map g (map h xs))) all.0 ∙ ap (append_results (f x)) (concat_map-unmasked h f g xs all.1)

-- ---- widths

wide_kept : (n : ℕ) (row : Row) (o : OrFault Bool) → length row ≡ n → IsWide n (o >>= (λ b. Some (keep_if row b)))
wide_kept n row None is = tt {0}
wide_kept n row (Some true) is = (is, tt {0})
wide_kept n row (Some false) is = tt {0}

pub wide_filter_rows : (n : ℕ) (e : Expr) (rows : List Row) → AreOfWidth n rows → IsWide n (filter_rows e rows)
wide_filter_rows n e rows wide =
    wide_concat_map n (λ row. holds e row >>= (λ b. Some (keep_if row b))) rows
    (all_weaker (λ (row : Row). length row ≡ n) (λ row. IsWide n (holds e row >>= (λ b. Some (keep_if row b)))) (λ row is. wide_kept n row (holds e row) is) rows wide)

pub wide_filter_where : (n : ℕ) (w : Option Expr) (rows : List Row) → AreOfWidth n rows → IsWide n (filter_where w rows)
wide_filter_where n None rows wide = wide
wide_filter_where n (Some e) rows wide = wide_filter_rows n e rows wide

wide_unmatched : (n : ℕ) (is_left : Bool) (alone : Row) (o : Rows) → length alone ≡ n → IsWide n o → IsWide n (o >>= (λ pairs. Some (or_unmatched is_left alone pairs)))
wide_unmatched n is_left alone None one wide = tt {0}
wide_unmatched n true alone (Some []) one wide = (one, tt {0})
wide_unmatched n true alone (Some (x ∷ pairs)) one wide = wide
wide_unmatched n false alone (Some pairs) one wide = wide

wide_pairs_of : {A : Type 0} (j : Join A) (at : ℕ) (right : List Row) → AreOfWidth j.width right → (l : Row) → length l ≡ at → IsWide (at + j.width) (pairs_of j right l)
wide_pairs_of j at right wide l is =
    wide_unmatched (at + j.width) j.is_left (l ++ replicate j.width Null) (filter_rows j.on (map (λ (r : Row). l ++ r) right))
    (length-append l (replicate j.width Null) ∙ (let e : length (replicate j.width Null) ≡ j.width = length-replicate j.width Null in omega arith))
    (wide_filter_rows (at + j.width) j.on (map (λ (r : Row). l ++ r) right) (wide_pairs at j.width l is right wide))

-- joined rows have the columns of both sides
pub wide_join_rows : {A : Type 0} (j : Join A) (at : ℕ) (rows right : List Row) → AreOfWidth at rows → AreOfWidth j.width right → IsWide (at + j.width) (join_rows j rows right)
wide_join_rows j at rows right wide wide_right =
    wide_concat_map (at + j.width) (pairs_of j right) rows
    (all_weaker (λ (l : Row). length l ≡ at) (λ l. IsWide (at + j.width) (pairs_of j right l)) (λ l is. wide_pairs_of j at right wide_right l is) rows wide)
