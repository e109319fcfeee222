-- The order of rows by some keys, and what a sort by it makes.
use Rattle.std.proofs.Common.{◌≡◌, refl, sym, ap, subst, ◌∙◌, Bool, true, false, List, [], ◌∷◌, length, arith}
use Rattle.std.specs.declared.cmp.Ordering.{Ordering}
use Rattle.std.specs.declared.cmp.Ordering.TheVariants.{Less, Equal, Greater}
use Rattle.std.specs.Ordering.{ordering_reverse, ordering_then}
use Rattle.std.specs.Cmp.{IsTotalOrder, IsStrictWeakOrder}
use Rattle.std.proofs.lemmas.Cmp.{on_total, then_total, back_total}
use Rattle.std.proofs.lemmas.List.MinMax.{ranks_by}
use Rattle.span_value.specs.declared.value.Value.{Value}
use Rattle.span_value.specs.Orders.{value_order}
use Rattle.span_value.proofs.Total.{value_order_total}
use Rattle.span_expr.specs.Operators.{column_of}
use Rattle.span_query.specs.declared.query.SortKey.{SortKey}
use Rattle.span_query.specs.Rows.{Row}
use Rattle.span_query.specs.Sorting.{reverse_if, or_next, key_order, row_order, comes_before, insert_sorted, sorted}

same_turn : (o : Ordering) → reverse_if true o ≡ ordering_reverse o
same_turn Less = refl
same_turn Equal = refl
same_turn Greater = refl

pub same_next : (o next : Ordering) → or_next o next ≡ ordering_then o next
same_next Less next = refl
same_next Equal next = refl
same_next Greater next = refl

abbrev directed : Bool → Value → Value → Ordering
directed d v w = reverse_if d (value_order v w)

directed_total : (d : Bool) → IsTotalOrder (directed d)
directed_total false = value_order_total
directed_total true = subst IsTotalOrder (λ i v w. (value_order_total.antisymm w v ∙ sym (same_turn (value_order v w))) i) (back_total value_order_total)

key_total : (key : SortKey) → IsTotalOrder (key_order key)
key_total key = on_total (λ (r : Row). column_of r key.column) (directed_total key.is_descending)

pub rows_total : (keys : List SortKey) → IsTotalOrder (row_order keys)
rows_total [] = record { antisymm = λ r s. refl; trans = λ r s t p q. p; congr = λ r s t p. refl }
rows_total (key ∷ keys) = subst IsTotalOrder (λ i r s. sym (same_next (key_order key r s) (row_order keys r s)) i) (then_total (key_total key) (rows_total keys))

pub rows_ranked : (keys : List SortKey) → IsStrictWeakOrder (comes_before keys)
rows_ranked keys = ranks_by (rows_total keys) (λ (r : Row). r)

-- ---- no keys

in_front : (row : Row) (rows : List Row) → insert_sorted (comes_before []) row rows ≡ row ∷ rows
in_front row [] = refl
in_front row (next ∷ rows) = refl

unsorted : (rows : List Row) → sorted [] rows ≡ rows
unsorted [] = refl
unsorted (row ∷ rows) = ap (insert_sorted (comes_before []) row) (unsorted rows) ∙ in_front row rows

-- without keys nothing is sorted
pub sorted_by_none : (keys : List SortKey) (rows : List Row) → length keys ≡ 0 → sorted keys rows ≡ rows
sorted_by_none [] rows e = unsorted rows
sorted_by_none (key ∷ keys) rows e = absurd (omega arith)
