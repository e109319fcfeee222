-- Rows in the order that ORDER BY asks for.
use Rattle.std.specs.Prelude.{Bool, true, List, [], ◌∷◌, if◌then◌else◌}
use Rattle.std.specs.declared.cmp.Ordering.{Ordering}
use Rattle.std.specs.declared.cmp.Ordering.TheVariants.{Less, Equal, Greater}
use Rattle.std.specs.Ordering.{is_lt}
use Rattle.span_value.specs.Orders.{value_order}
use Rattle.span_expr.specs.Operators.{column_of}
use Rattle.span_query.specs.declared.query.SortKey.{SortKey}
use Rattle.span_query.specs.Rows.{Row}

abbrev pub reverse_if : Bool → Ordering → Ordering
reverse_if true Less = Greater
reverse_if true Greater = Less
reverse_if b o = o

abbrev pub or_next : Ordering → Ordering → Ordering
or_next Equal next = next
or_next o next = o

-- NULL first, or last where the values descend
abbrev pub key_order : SortKey → Row → Row → Ordering
key_order key r s = reverse_if key.is_descending (value_order (column_of r key.column) (column_of s key.column))

-- by the first key at which they differ
abbrev pub row_order : List SortKey → Row → Row → Ordering
row_order [] r s = Equal
row_order (key ∷ keys) r s = or_next (key_order key r s) (row_order keys r s)

abbrev pub comes_before : List SortKey → Row → Row → Bool
comes_before keys r s = is_lt (row_order keys r s)

-- the list with x in front of the first item that does not come before it
abbrev pub insert_sorted : {A : Type 0} → (A → A → Bool) → A → List A → List A
insert_sorted before x [] = x ∷ []
insert_sorted before x (y ∷ ys) = if before y x then y ∷ insert_sorted before x ys else x ∷ y ∷ ys

-- the list in order; items of which neither comes before the other keep their order
abbrev pub insertion_sort : {A : Type 0} → (A → A → Bool) → List A → List A
insertion_sort before [] = []
insertion_sort before (x ∷ xs) = insert_sorted before x (insertion_sort before xs)

abbrev pub sorted : List SortKey → List Row → List Row
sorted keys rows = insertion_sort (comes_before keys) rows
