-- What is at the front of a key.
use Rattle.std.proofs.Common.{◌≡◌, ℕ, zero, suc, ◌≤◌, true, false, ◌==◌, List, [], ◌∷◌, length, take, refl, sym, ap, ◌∙◌, arith}
use Rattle.std.specs.declared.cmp.Ordering.{Ordering}
use Rattle.std.specs.declared.cmp.Ordering.TheVariants.{Less, Equal, Greater}
use Rattle.std.specs.Ordering.{eq_by_cmp, is_eq}
use Rattle.std.specs.Cmp.{tied_itself}
use Rattle.std.proofs.lemmas.Bool.{and_parts, and_from, eqb-true, eq-eqb}
use Rattle.std.proofs.lemmas.List.{length-take-le}
use Rattle.span_value.specs.declared.value.Value.{Value}
use Rattle.span_value.specs.Orders.{value_order}
use Rattle.span_value.proofs.Total.{value_order_total, value_order_equal}
use Rattle.span_mutate.specs.Rows.{begins, is_same_key}

pub equal_from : (o : Ordering) → is_eq o ≡ true → o ≡ Equal
equal_from Less e = absurd cc
equal_from Equal e = refl
equal_from Greater e = absurd cc

same_value : (v w : Value) → eq_by_cmp value_order v w ≡ true → v ≡ w
same_value v w e = value_order_equal v w (equal_from (value_order v w) e)

same_itself : (v w : Value) → v ≡ w → eq_by_cmp value_order v w ≡ true
same_itself v w e = ap (λ (u : Value). eq_by_cmp value_order v u) (sym e) ∙ ap is_eq (tied_itself value_order_total v)

whole : (vs ws : List Value) → length vs ≡ length ws → begins vs ws ≡ true → vs ≡ ws
whole [] [] h e = refl
whole [] (w ∷ ws) h e = absurd (omega arith)
whole (v ∷ vs) [] h e = absurd (omega arith)
whole (v ∷ vs) (w ∷ ws) h e =
    let parts = and_parts (eq_by_cmp value_order v w) (begins vs ws) e in
    let first : v ≡ w = same_value v w parts.0 in
    let rest : vs ≡ ws = whole vs ws (omega arith) parts.1 in
    cc

-- keys that are the same are equal
pub same_key : (vs ws : List Value) → is_same_key vs ws ≡ true → vs ≡ ws
same_key vs ws e = let parts = and_parts (length vs == length ws) (begins vs ws) e in whole vs ws (eqb-true (length vs) (length ws) parts.0) parts.1

-- a front of a front is a front
pub front_on : (us vs ws : List Value) → begins us vs ≡ true → begins vs ws ≡ true → begins us ws ≡ true
front_on [] vs ws e f = refl
front_on (u ∷ us) [] ws e f = absurd (let g : false ≡ true = e in cc)
front_on (u ∷ us) (v ∷ vs) [] e f = absurd (let g : false ≡ true = f in cc)
front_on (u ∷ us) (v ∷ vs) (w ∷ ws) e f =
    let one = and_parts (eq_by_cmp value_order u v) (begins us vs) e in
    let two = and_parts (eq_by_cmp value_order v w) (begins vs ws) f in
    and_from _ _ (same_itself u w (same_value u v one.0 ∙ same_value v w two.0)) (front_on us vs ws one.1 two.1)

-- of two fronts the shorter is a front of the longer
pub front_of_front : (us vs ws : List Value) → begins us ws ≡ true → begins vs ws ≡ true → length us ≤ length vs → begins us vs ≡ true
front_of_front [] vs ws e f h = refl
front_of_front (u ∷ us) [] ws e f h = absurd (omega arith)
front_of_front (u ∷ us) (v ∷ vs) [] e f h = absurd (let g : false ≡ true = e in cc)
front_of_front (u ∷ us) (v ∷ vs) (w ∷ ws) e f h =
    let one = and_parts (eq_by_cmp value_order u w) (begins us ws) e in
    let two = and_parts (eq_by_cmp value_order v w) (begins vs ws) f in
    and_from _ _ (same_itself u v (same_value u w one.0 ∙ sym (same_value v w two.0))) (front_of_front us vs ws one.1 two.1 (omega arith))

-- a front stays where no less is taken
pub front_of_taken : (us ws : List Value) (k : ℕ) → begins us ws ≡ true → length us ≤ k → begins us (take k ws) ≡ true
front_of_taken [] ws k e h = refl
front_of_taken (u ∷ us) [] k e h = absurd (let g : false ≡ true = e in cc)
front_of_taken (u ∷ us) (w ∷ ws) zero e h = absurd (omega arith)
front_of_taken (u ∷ us) (w ∷ ws) (suc k) e h =
    let one = and_parts (eq_by_cmp value_order u w) (begins us ws) e in
    and_from _ _ one.0 (front_of_taken us ws k one.1 (omega arith))

-- what is taken is a front
pub taken_begins : (ws : List Value) (k : ℕ) → begins (take k ws) ws ≡ true
taken_begins ws zero = refl
taken_begins [] (suc k) = refl
taken_begins (w ∷ ws) (suc k) = and_from _ _ (same_itself w w refl) (taken_begins ws k)

pub front_within : (us ws : List Value) → begins us ws ≡ true → length us ≤ length ws
front_within [] ws e = omega arith
front_within (u ∷ us) [] e = absurd (let g : false ≡ true = e in cc)
front_within (u ∷ us) (w ∷ ws) e = let again = front_within us ws (and_parts (eq_by_cmp value_order u w) (begins us ws) e).1 in omega arith

-- what begins a key is its front of that length
pub front_taken : (us vs : List Value) → begins us vs ≡ true → us ≡ take (length us) vs
front_taken us vs e =
    same_key us (take (length us) vs)
    (and_from _ _ (eq-eqb (length us) (length (take (length us) vs)) (sym (length-take-le (length us) vs (front_within us vs e)))) (front_of_taken us vs (length us) e (omega arith)))
