-- The orders of keys and of rows are total, and only a key is equal to itself.
use Rattle.std.proofs.Common.{◌≡◌, ℕ, ◌+◌, Bool, true, false, List, [], ◌∷◌, refl, sym, ap, subst, ◌∙◌, inl, inr, ◌⊎◌}
use Rattle.std.specs.Prelude.{slice_get}
use Rattle.std.specs.declared.cmp.Ordering.{Ordering}
use Rattle.std.specs.declared.cmp.Ordering.TheVariants.{Less, Equal, Greater}
use Rattle.std.specs.Ordering.{nat_cmp, ordering_reverse, ordering_then, flip_args}
use Rattle.std.specs.Cmp.{IsTotalOrder, then_flip}
use Rattle.std.proofs.lemmas.Cmp.{nat_cmp_total, back_total}
use Rattle.span_value.specs.declared.value.Value.{Value}
use Rattle.span_value.specs.Orders.{value_order}
use Rattle.span_value.proofs.Total.{value_order_total, value_order_equal}
use Rattle.span_schema.specs.declared.table.Table.{Table}
use Rattle.span_schema.specs.declared.layout.KeyPart.{KeyPart}
use Rattle.span_schema.specs.Numbers.{key_columns}
use Rattle.span_keycode.specs.Coding.{apply_direction}
use Rattle.span_mutate.specs.declared.row.TableRow.{TableRow}
use Rattle.span_mutate.specs.Rows.{is_descending, order_from, key_order}
use Rattle.span_mutate.specs.Directories.{rows_cmp}
use Rattle.span_value.proofs.Comparisons.{same_number}
use Rattle.span_keycode.proofs.Order.{then_is_equal}

-- one column
abbrev column_order : Bool → Value → Value → Ordering
column_order d v w = apply_direction d (value_order v w)

turned : (v w : Value) → flip_args value_order v w ≡ column_order true v w
turned v w = value_order_total.antisymm w v

column_total : (d : Bool) → IsTotalOrder (column_order d)
column_total false = value_order_total
column_total true = subst IsTotalOrder (λ i v w. turned v w i) (back_total value_order_total)

reverse_equal : (o : Ordering) → ordering_reverse o ≡ Equal → o ≡ Equal
reverse_equal Less e = absurd cc
reverse_equal Equal e = refl
reverse_equal Greater e = absurd cc

column_equal : (d : Bool) (v w : Value) → column_order d v w ≡ Equal → v ≡ w
column_equal false v w e = value_order_equal v w e
column_equal true v w e = value_order_equal v w (reverse_equal (value_order v w) e)

then_less : (a b : Ordering) → ordering_then a b ≡ Less → (a ≡ Less) ⊎ ((a ≡ Equal) × (b ≡ Less))
then_less Less b e = inl refl
then_less Equal b e = inr (refl, e)
then_less Greater b e = absurd cc

first_less : (a b : Ordering) → a ≡ Less → ordering_then a b ≡ Less
first_less a b e = ap (λ (o : Ordering). ordering_then o b) e

second_less : (a b : Ordering) → a ≡ Equal → b ≡ Less → ordering_then a b ≡ Less
second_less a b e f = ap (λ (o : Ordering). ordering_then o b) e ∙ f

-- only a key is equal to itself
pub from_equal : (columns : List KeyPart) (i : ℕ) (vs ws : List Value) → order_from columns i vs ws ≡ Equal → vs ≡ ws
from_equal columns i [] [] e = refl
from_equal columns i [] (w ∷ ws) e = absurd cc
from_equal columns i (v ∷ vs) [] e = absurd cc
from_equal columns i (v ∷ vs) (w ∷ ws) e =
    let parts = then_is_equal (column_order (is_descending (slice_get columns i)) v w) (order_from columns (i + 1) vs ws) e in
    let first : v ≡ w = column_equal (is_descending (slice_get columns i)) v w parts.0 in
    let rest : vs ≡ ws = from_equal columns (i + 1) vs ws parts.1 in
    cc

from_turned : (columns : List KeyPart) (i : ℕ) (vs ws : List Value) → order_from columns i vs ws ≡ ordering_reverse (order_from columns i ws vs)
from_turned columns i [] [] = refl
from_turned columns i [] (w ∷ ws) = refl
from_turned columns i (v ∷ vs) [] = refl
from_turned columns i (v ∷ vs) (w ∷ ws) =
    ap (λ (o : Ordering). ordering_then o (order_from columns (i + 1) vs ws)) ((column_total (is_descending (slice_get columns i))).antisymm v w)
    ∙ ap (ordering_then (ordering_reverse (column_order (is_descending (slice_get columns i)) w v))) (from_turned columns (i + 1) vs ws)
    ∙ then_flip (column_order (is_descending (slice_get columns i)) w v) (order_from columns (i + 1) ws vs)

from_less : (columns : List KeyPart) (i : ℕ) (us vs ws : List Value) → order_from columns i us vs ≡ Less → order_from columns i vs ws ≡ Less → order_from columns i us ws ≡ Less
from_less columns i us [] [] e f = absurd cc
from_less columns i us (v ∷ vs) [] e f = absurd cc
from_less columns i [] [] (w ∷ ws) e f = refl
from_less columns i [] (v ∷ vs) (w ∷ ws) e f = refl
from_less columns i (u ∷ us) [] (w ∷ ws) e f = absurd cc
from_less columns i (u ∷ us) (v ∷ vs) (w ∷ ws) e f =
    let d = is_descending (slice_get columns i) in
    let rest = order_from columns (i + 1) us ws in
    elim (then_less (column_order d u v) (order_from columns (i + 1) us vs) e) [
      | inl a ↦ elim (then_less (column_order d v w) (order_from columns (i + 1) vs ws) f) [
        | inl b ↦ first_less _ rest ((column_total d).trans u v w a b)
        | inr b ↦ first_less _ rest (ap (column_order d u) (sym (column_equal d v w b.0)) ∙ a)
      ]
      | inr a ↦ elim (then_less (column_order d v w) (order_from columns (i + 1) vs ws) f) [
        | inl b ↦ first_less _ rest ((column_total d).congr u v w a.0 ∙ b)
        | inr b ↦ second_less _ rest ((column_total d).congr u v w a.0 ∙ b.0) (from_less columns (i + 1) us vs ws a.1 b.1)
      ]
    ]

-- rows that are equal in the order have one table and one key
pub rows_equal : (tables : List Table) (q r : TableRow) → rows_cmp tables q r ≡ Equal → (q.table ≡ r.table) × (q.key ≡ r.key)
rows_equal tables q r e =
    let parts = then_is_equal (nat_cmp q.table r.table) (key_order (key_columns tables r.table) q.key r.key) e in
    (same_number q.table r.table parts.0, from_equal (key_columns tables r.table) 0 q.key r.key parts.1)

both_turned : (o p a b : Ordering) → p ≡ ordering_reverse o → (o ≡ Equal → a ≡ ordering_reverse b) → ordering_then p a ≡ ordering_reverse (ordering_then o b)
both_turned Less p a b e f = ap (λ (x : Ordering). ordering_then x a) e
both_turned Equal p a b e f = ap (λ (x : Ordering). ordering_then x a) e ∙ f refl
both_turned Greater p a b e f = ap (λ (x : Ordering). ordering_then x a) e

pub rows_total : (tables : List Table) → IsTotalOrder (rows_cmp tables)
rows_total tables = record { antisymm = turn; trans = less; congr = same }
  where
    turn : (q r : TableRow) → rows_cmp tables q r ≡ ordering_reverse (rows_cmp tables r q)
    turn q r = both_turned (nat_cmp r.table q.table) (nat_cmp q.table r.table) _ _ (nat_cmp_total.antisymm q.table r.table)
        (λ e. ap (λ (n : ℕ). key_order (key_columns tables n) q.key r.key) (same_number r.table q.table e) ∙ from_turned (key_columns tables q.table) 0 q.key r.key)

    less : (q r s : TableRow) → rows_cmp tables q r ≡ Less → rows_cmp tables r s ≡ Less → rows_cmp tables q s ≡ Less
    less q r s e f =
        elim (then_less (nat_cmp q.table r.table) (key_order (key_columns tables r.table) q.key r.key) e) [
          | inl a ↦ elim (then_less (nat_cmp r.table s.table) (key_order (key_columns tables s.table) r.key s.key) f) [
            | inl b ↦ first_less _ _ (nat_cmp_total.trans q.table r.table s.table a b)
            | inr b ↦ first_less _ _ (ap (nat_cmp q.table) (sym (same_number r.table s.table b.0)) ∙ a)
          ]
          | inr a ↦ elim (then_less (nat_cmp r.table s.table) (key_order (key_columns tables s.table) r.key s.key) f) [
            | inl b ↦ first_less _ _ (nat_cmp_total.congr q.table r.table s.table a.0 ∙ b)
            | inr b ↦ second_less _ _ (nat_cmp_total.congr q.table r.table s.table a.0 ∙ b.0)
                (from_less (key_columns tables s.table) 0 q.key r.key s.key
                (ap (λ (n : ℕ). key_order (key_columns tables n) q.key r.key) (sym (same_number r.table s.table b.0)) ∙ a.1) b.1)
          ]
        ]

    same : (q r s : TableRow) → rows_cmp tables q r ≡ Equal → rows_cmp tables q s ≡ rows_cmp tables r s
    same q r s e =
        let parts = rows_equal tables q r e in
        ap (λ (n : ℕ). ordering_then (nat_cmp n s.table) (key_order (key_columns tables s.table) q.key s.key)) parts.0
        ∙ ap (λ (vs : List Value). ordering_then (nat_cmp r.table s.table) (key_order (key_columns tables s.table) vs s.key)) parts.1
