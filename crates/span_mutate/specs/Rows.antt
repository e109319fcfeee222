-- Rows, their keys and their order.
use Rattle.std.specs.Prelude.{ℕ, ◌+◌, ◌==◌, ◌&&◌, ◌++◌, Bool, true, false, List, [], ◌∷◌, length, find, filter, slice_get, Option, Some, None}
use Rattle.std.specs.declared.cmp.Ordering.{Ordering}
use Rattle.std.specs.declared.cmp.Ordering.TheVariants.{Less, Equal, Greater}
use Rattle.std.specs.Ordering.{nat_cmp, ordering_then, eq_by_cmp, is_lt, is_gt}
use Rattle.span_value.specs.declared.value.Value.{Value}
use Rattle.span_value.specs.Orders.{value_order}
use Rattle.span_schema.specs.declared.layout.KeyPart.{KeyPart}
use Rattle.span_keycode.specs.Coding.{apply_direction}
use Rattle.span_mutate.specs.declared.row.TableRow.{TableRow}

-- the values at the front of a list
abbrev pub begins : List Value → List Value → Bool
begins [] ws = true
begins (v ∷ vs) [] = false
begins (v ∷ vs) (w ∷ ws) = eq_by_cmp value_order v w && begins vs ws

abbrev pub is_same_key : List Value → List Value → Bool
is_same_key vs ws = (length vs == length ws) && begins vs ws

-- the row of table n with this key
abbrev pub is_at : ℕ → List Value → TableRow → Bool
is_at n key r = (r.table == n) && is_same_key key r.key

abbrev pub row_at : ℕ → List Value → List TableRow → Option TableRow
row_at n key db = find (is_at n key) db

-- a column is descending; what is after all columns is not
abbrev pub is_descending : Option KeyPart → Bool
is_descending None = false
is_descending (Some c) = c.desc

-- keys from the column at place i on: column by column, each in its direction, NULL being the least value
abbrev pub order_from : List KeyPart → ℕ → List Value → List Value → Ordering
order_from columns i [] [] = Equal
order_from columns i [] (w ∷ ws) = Less
order_from columns i (v ∷ vs) [] = Greater
order_from columns i (v ∷ vs) (w ∷ ws) =
    ordering_then (apply_direction (is_descending (slice_get columns i)) (value_order v w))
    (order_from columns (i + 1) vs ws)

abbrev pub key_order : List KeyPart → List Value → List Value → Ordering
key_order columns vs ws = order_from columns 0 vs ws

-- rows by their tables, and those of one table by their keys
abbrev pub row_order : List KeyPart → TableRow → TableRow → Ordering
row_order columns q r = ordering_then (nat_cmp q.table r.table) (key_order columns q.key r.key)

-- the rows before a row, the row, and the rows after it; a row that was at its key is gone
abbrev pub with_row : List KeyPart → TableRow → List TableRow → List TableRow
with_row columns r db =
    filter (λ (q : TableRow). is_lt (row_order columns q r)) db ++ r
    ∷ filter (λ (q : TableRow). is_gt (row_order columns q r)) db
