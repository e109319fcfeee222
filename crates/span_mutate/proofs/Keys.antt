-- Keys: what is at the front of another, and their order.
use Rattle.std.proofs.Common.{◌≡◌, ℕ, suc, ◌<◌, ◌≤◌, Bool, false, ◌&&◌, List, [], ◌∷◌, length, min, refl, ap, ◌∙◌, arith}
use Rattle.std.proofs.Math.Bool.{and-false}
use Rattle.std.proofs.lemmas.Bool.Decides.{nat_tests}
use Rattle.std.specs.declared.cmp.Ordering.TheVariants.{Less, Greater}
use Rattle.std.specs.Ordering.{nat_cmp, eq_by_cmp}
use Rattle.span_value.specs.declared.value.Value.{Value}
use Rattle.span_value.specs.Orders.{value_order}
use Rattle.span_schema.specs.declared.layout.KeyPart.{KeyPart}
use Rattle.span_mutate.specs.Rows.{begins, order_from}

-- what is longer is no front
pub longer_is_no_front : (vs ws : List Value) → length ws < length vs → begins vs ws ≡ false
longer_is_no_front [] ws h = absurd (omega arith)
longer_is_no_front (v ∷ vs) [] h = refl
longer_is_no_front (v ∷ vs) (w ∷ ws) h = ap (λ (b : Bool). eq_by_cmp value_order v w && b) (longer_is_no_front vs ws (omega arith)) ∙ and-false (eq_by_cmp value_order v w)

-- where one key ends, the lengths decide
pub lengths_decide : (columns : List KeyPart) (i : ℕ) (vs ws : List Value) → min (length vs) (length ws) ≤ 0 → order_from columns i vs ws ≡ nat_cmp (length vs) (length ws)
lengths_decide columns i [] [] h = refl
lengths_decide columns i [] (w ∷ ws) h = shorter (length ws)
  where
    shorter : (n : ℕ) → Less ≡ nat_cmp 0 (suc n)
    shorter n = grind (arith, nat_tests)
lengths_decide columns i (v ∷ vs) [] h = longer (length vs)
  where
    longer : (n : ℕ) → Greater ≡ nat_cmp (suc n) 0
    longer n = grind (arith, nat_tests)
lengths_decide columns i (v ∷ vs) (w ∷ ws) h = absurd (omega arith)
