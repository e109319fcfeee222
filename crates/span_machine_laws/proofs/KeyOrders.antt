-- The order of a table's keys is the order of their codings.
use Rattle.std.proofs.Common.{◌≡◌, ℕ, ◌+◌, Bool, true, false, List, [], ◌∷◌, ◌++◌, length, Option, refl, ap, sym, ◌∙◌, append_assoc}
use Rattle.std.specs.Prelude.{slice_get}
use Rattle.std.specs.declared.cmp.Ordering.{Ordering}
use Rattle.std.specs.Ordering.{ordering_then}
use Rattle.std.proofs.lemmas.List.{append-nil, length_push}
use Rattle.span_value.specs.declared.value.Value.{Value}
use Rattle.span_value.specs.declared.value.Value.TheVariants as value
use Rattle.span_value.specs.declared.value.Kind.{Kind}
use Rattle.span_value.specs.declared.value.Kind.TheVariants as kind
use Rattle.span_value.specs.Orders.{value_order}
use Rattle.span_value.proofs.Comparisons.{then_equal}
use Rattle.span_schema.specs.declared.table.Table.{Table}
use Rattle.span_schema.specs.declared.layout.KeyPart.{KeyPart}
use Rattle.span_schema.specs.Lineages.{MeetsRules}
use Rattle.span_schema.specs.Numbers.{key_columns}
use Rattle.span_schema.specs.Fitting.{Fits}
use Rattle.span_keycode.specs.Coding.{AreFit, value_cmp, apply_direction, column_cmp, tuple_cmp}
use Rattle.span_keycode.specs.Keys.{IsKey, key_code}
use Rattle.span_keycode.specs.Order.{byte_order}
use Rattle.span_keycode.proofs.KeyLaws.{order_in_table}
use Rattle.span_mutate.specs.Rows.{is_descending, order_from, key_order}
use Rattle.span_checking.proofs.InOrder.{at_seam}

null_first : (w : Value) → value_order value.Null w ≡ value_cmp value.Null w
null_first value.Null = refl
null_first (value.Int j) = refl
null_first (value.Str cs) = refl
null_first (value.Bytes cs) = refl
null_first (value.Bool b) = refl

null_last : (v : Value) → value_order v value.Null ≡ value_cmp v value.Null
null_last value.Null = refl
null_last (value.Int j) = refl
null_last (value.Str cs) = refl
null_last (value.Bytes cs) = refl
null_last (value.Bool b) = refl

same_flags : (a b : Bool) → value_order (value.Bool a) (value.Bool b) ≡ value_cmp (value.Bool a) (value.Bool b)
same_flags true true = refl
same_flags true false = refl
same_flags false true = refl
same_flags false false = refl

-- values of one kind are in one order
same_order : (k : Kind) (v w : Value) → Fits k v → Fits k w → value_order v w ≡ value_cmp v w
same_order kind.Int value.Null w f g = null_first w
same_order kind.Int (value.Int x) value.Null f g = null_last (value.Int x)
same_order kind.Int (value.Int x) (value.Int y) f g = refl
same_order kind.Int (value.Int x) (value.Str y) f g = absurd g
same_order kind.Int (value.Int x) (value.Bytes y) f g = absurd g
same_order kind.Int (value.Int x) (value.Bool y) f g = absurd g
same_order kind.Int (value.Str x) w f g = absurd f
same_order kind.Int (value.Bytes x) w f g = absurd f
same_order kind.Int (value.Bool x) w f g = absurd f
same_order kind.Str value.Null w f g = null_first w
same_order kind.Str (value.Int x) w f g = absurd f
same_order kind.Str (value.Str x) value.Null f g = null_last (value.Str x)
same_order kind.Str (value.Str x) (value.Int y) f g = absurd g
same_order kind.Str (value.Str x) (value.Str y) f g = refl
same_order kind.Str (value.Str x) (value.Bytes y) f g = absurd g
same_order kind.Str (value.Str x) (value.Bool y) f g = absurd g
same_order kind.Str (value.Bytes x) w f g = absurd f
same_order kind.Str (value.Bool x) w f g = absurd f
same_order kind.Bytes value.Null w f g = null_first w
same_order kind.Bytes (value.Int x) w f g = absurd f
same_order kind.Bytes (value.Str x) w f g = absurd f
same_order kind.Bytes (value.Bytes x) value.Null f g = null_last (value.Bytes x)
same_order kind.Bytes (value.Bytes x) (value.Int y) f g = absurd g
same_order kind.Bytes (value.Bytes x) (value.Str y) f g = absurd g
same_order kind.Bytes (value.Bytes x) (value.Bytes y) f g = refl
same_order kind.Bytes (value.Bytes x) (value.Bool y) f g = absurd g
same_order kind.Bytes (value.Bool x) w f g = absurd f
same_order kind.Bool value.Null w f g = null_first w
same_order kind.Bool (value.Int x) w f g = absurd f
same_order kind.Bool (value.Str x) w f g = absurd f
same_order kind.Bool (value.Bytes x) w f g = absurd f
same_order kind.Bool (value.Bool x) value.Null f g = null_last (value.Bool x)
same_order kind.Bool (value.Bool x) (value.Int y) f g = absurd g
same_order kind.Bool (value.Bool x) (value.Str y) f g = absurd g
same_order kind.Bool (value.Bool x) (value.Bytes y) f g = absurd g
same_order kind.Bool (value.Bool x) (value.Bool y) f g = same_flags x y

-- keys from a column on, by the columns after it
same_from : (front cs : List KeyPart) (vs ws : List Value) → AreFit cs vs → AreFit cs ws → order_from (front ++ cs) (length front) vs ws ≡ tuple_cmp cs vs ws
same_from front [] [] [] f g = refl
same_from front [] [] (w ∷ ws) f g = absurd g
same_from front [] (v ∷ vs) ws f g = absurd f
same_from front (c ∷ cs) [] ws f g = absurd f
same_from front (c ∷ cs) (v ∷ vs) [] f g = absurd g
same_from front (c ∷ cs) (v ∷ vs) (w ∷ ws) f g =
    let first : apply_direction (is_descending (slice_get (front ++ c ∷ cs) (length front))) (value_order v w) ≡ column_cmp c v w =
    ap (λ (o : Option KeyPart). apply_direction (is_descending o) (value_order v w)) (at_seam front cs c) ∙ ap (apply_direction c.desc) (same_order c.kind v w f.0 g.0) in
    let rest : order_from (front ++ c ∷ cs) (length front + 1) vs ws ≡ tuple_cmp cs vs ws =
    ap (λ (l : List KeyPart). order_from l (length front + 1) vs ws) (sym (append_assoc {A = KeyPart} front (c ∷ []) cs))
    ∙ ap (λ (n : ℕ). order_from ((front ++ c ∷ []) ++ cs) n vs ws) (sym (length_push front c))
    ∙ same_from (front ++ c ∷ []) cs vs ws f.1 g.1 in
    ap (λ (o : Ordering). ordering_then o (order_from (front ++ c ∷ cs) (length front + 1) vs ws)) first ∙ ap (ordering_then (column_cmp c v w)) rest

pub key_order-tuple : (cs : List KeyPart) (vs ws : List Value) → AreFit cs vs → AreFit cs ws → key_order cs vs ws ≡ tuple_cmp cs vs ws
key_order-tuple cs vs ws f g = same_from [] cs vs ws f g

-- codings of keys of one table are in the order of the keys
pub code_order : (schema : List Table) → MeetsRules schema → (n : ℕ) (vs ws : List Value) → IsKey schema n vs → IsKey schema n ws → byte_order (key_code schema n vs) (key_code schema n ws) ≡ key_order (key_columns schema n) vs ws
code_order schema rules n vs ws f g =
    let decides = (order_in_table schema rules n vs ws f g).at [] [] in
    ap (λ (l : List ℕ). byte_order l (key_code schema n ws)) (sym (append-nil (key_code schema n vs)))
    ∙ ap (byte_order (key_code schema n vs ++ [])) (sym (append-nil (key_code schema n ws)))
    ∙ decides ∙ then_equal (tuple_cmp (key_columns schema n) vs ws)
    ∙ sym (key_order-tuple (key_columns schema n) vs ws f.1 g.1)
