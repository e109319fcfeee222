-- Bytes that begin with others, in byte order.
use Rattle.std.proofs.Common.{◌≡◌, ◌≢◌, ℕ, true, false, Bool, ◌&&◌, List, [], ◌∷◌, ◌++◌, length, take, drop, refl, ap, ◌∙◌}
use Rattle.std.specs.Prelude.{nat_eq}
use Rattle.std.specs.List.{starts_with}
use Rattle.std.specs.declared.cmp.Ordering.{Ordering}
use Rattle.std.specs.declared.cmp.Ordering.TheVariants.{Less, Equal, Greater}
use Rattle.std.specs.Ordering.{nat_cmp, ordering_then, is_lt}
use Rattle.std.specs.Cmp.Lexicographic.{pointwise}
use Rattle.std.proofs.lemmas.List.{take-append-drop}
use Rattle.std.proofs.lemmas.Slice.Eq.{bytes_eq-Decides}
use Rattle.std.proofs.lemmas.Bool.{eq-eqb}
use Rattle.span_value.proofs.Comparisons.{same_number}
use Rattle.span_keycode.specs.Order.{byte_order}

-- what begins with these bytes
pub begins_front : (b p : List ℕ) → starts_with nat_eq b p ≡ true → p ++ drop (length p) b ≡ b
begins_front b p e =
    let same : p ≡ take (length p) b = (bytes_eq-Decides p (take (length p) b)).0 e in
    ap (λ (l : List ℕ). l ++ drop (length p) b) same ∙ take-append-drop (length p) b

-- what is between bytes and others that begin with them begins with them too
pub between : (p a rest : List ℕ) → is_lt (byte_order a p) ≡ false → byte_order a (p ++ rest) ≢ Greater → starts_with nat_eq a p ≡ true
between [] a rest h g = refl
between (x ∷ p) [] rest h g = absurd (let f : true ≡ false = h in cc)
between (x ∷ p) (y ∷ a) rest h g = cases (nat_cmp y x) refl h g (between p a rest)
  where
    cases : (o : Ordering) → nat_cmp y x ≡ o → is_lt (ordering_then o (byte_order a p)) ≡ false → ordering_then o (byte_order a (p ++ rest)) ≢ Greater
        → (is_lt (byte_order a p) ≡ false → byte_order a (p ++ rest) ≢ Greater → starts_with nat_eq a p ≡ true) → starts_with nat_eq (y ∷ a) (x ∷ p) ≡ true
    cases Less e f k again = absurd (let i : true ≡ false = f in cc)
    cases Equal e f k again =
        ap (λ (n : ℕ). nat_eq x n && pointwise nat_eq p (take (length p) a)) (same_number y x e) ∙ ap (λ (c : Bool). c && pointwise nat_eq p (take (length p) a)) (eq-eqb x x refl) ∙ again f k
    cases Greater e f k again = absurd (k refl)
