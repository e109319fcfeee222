-- Equality of rows, as an index of rows needs it: rows that are equal are the same row, and so have one hash.
use Rattle.std.proofs.Common.{◌≡◌, true, ◌&&◌, true≢false, [], ◌∷◌, refl, sym, ap, ◌∙◌}
use Rattle.std.specs.Cmp.{IsEquivalence, Equal-is, both_ways}
use Rattle.std.proofs.lemmas.Bool.{and_parts}
use Rattle.span_value.specs.declared.value.Value.{Value}
use Rattle.span_value.specs.Orders.{value_order}
use Rattle.span_value.proofs.Total.{equal_is}
use Rattle.span_query.specs.Rows.{Row}
use Rattle.span_query.specs.Groups.{is_equal, are_equal}
use Rattle.span_rows.specs.Hashes.{row_writes}

pub is_equal-same : (v w : Value) → is_equal v w ≡ true → v ≡ w
is_equal-same v w e = (equal_is v w (value_order v w) refl).0 ((Equal-is (value_order v w)).0 e)

pub is_equal-itself : (v : Value) → is_equal v v ≡ true
is_equal-itself v = (Equal-is (value_order v v)).1 ((equal_is v v (value_order v v) refl).1 refl)

pub are_equal-same : (x y : Row) → are_equal x y ≡ true → x ≡ y
are_equal-same [] [] e = refl
are_equal-same [] (w ∷ ws) e = absurd (true≢false (sym e))
are_equal-same (v ∷ vs) [] e = absurd (true≢false (sym e))
are_equal-same (v ∷ vs) (w ∷ ws) e =
    λ i. is_equal-same v w (and_parts (is_equal v w) (are_equal vs ws) e).0 i
    ∷ are_equal-same vs ws (and_parts (is_equal v w) (are_equal vs ws) e).1 i

pub are_equal-itself : (x : Row) → are_equal x x ≡ true
are_equal-itself [] = refl
are_equal-itself (v ∷ vs) = ap (λ b. b && are_equal vs vs) (is_equal-itself v) ∙ are_equal-itself vs

turned_same : (x y : Row) → x ≡ y → are_equal y x ≡ true
turned_same x y e = ap (λ (z : Row). are_equal z x) (sym e) ∙ are_equal-itself x

pub are_equal-reversed : (x y : Row) → are_equal x y ≡ are_equal y x
are_equal-reversed x y =
    both_ways (are_equal x y) (are_equal y x) (λ e. turned_same x y (are_equal-same x y e))
    (λ e. turned_same y x (are_equal-same y x e))

pub rows_are_equivalent : IsEquivalence are_equal
rows_are_equivalent = record {
  refl = are_equal-itself;
  symm = are_equal-reversed;
  congr = λ x y z same. ap (λ (w : Row). are_equal w z) (are_equal-same x y same);
}

pub equal_rows_hash_alike : (x y : Row) → are_equal x y ≡ true → row_writes x ≡ row_writes y
equal_rows_hash_alike x y same = ap row_writes (are_equal-same x y same)
