-- What follows from the law.
use Rattle.std.proofs.Common.{◌≡◌, ℕ, ◌+◌, ◌<◌, List, [], ◌∷◌, ◌++◌, refl, sym, ◌∙◌, ap, append_assoc, arith, true, false}
use Rattle.std.specs.Ordering.{nat_cmp, ordering_then, ordering_reverse, is_lt, is_eq}
use Rattle.std.specs.declared.cmp.Ordering.{Ordering}
use Rattle.std.specs.declared.cmp.Ordering.TheVariants.{Less, Equal, Greater}
use Rattle.std.proofs.lemmas.Cmp.{tied_itself, nat_list_cmp_total}
use Rattle.std.proofs.lemmas.Bool.Decides.{nat_tests}
use Rattle.std.proofs.lemmas.List.{append-nil}
use Rattle.std.specs.Cmp.Lexicographic.{same_text, texts_ties}
use Rattle.span_value.proofs.Comparisons.{then_equal, number_equal}
use Rattle.span_keycode.specs.Coding.{AreBytes}
use Rattle.span_keycode.specs.Order.{byte_order, Decides, flipped, complement, is_same}

pub then_assoc : (a b c : Ordering) → ordering_then a (ordering_then b c) ≡ ordering_then (ordering_then a b) c
then_assoc Less b c = refl
then_assoc Equal b c = refl
then_assoc Greater b c = refl

-- one coding after another
pub decides-append : (p q r s : List ℕ) (o m : Ordering) → Decides p q o → Decides r s m → Decides (p ++ r) (q ++ s) (ordering_then o m)
decides-append p q r s o m first second = record {
  at = λ x y.
      rw (append_assoc, append_assoc) (first.at (r ++ x) (s ++ y) ∙ ap (ordering_then o) (second.at x y) ∙ then_assoc o m (byte_order x y));
}

pub decides-nothing : Decides [] [] Equal
decides-nothing = record { at = λ x y. refl }

-- bytes that differ decide
pub decides-byte : (a b : ℕ) → Decides (a ∷ []) (b ∷ []) (nat_cmp a b)
decides-byte a b = record { at = λ x y. refl }

pub decides-less : (a b : ℕ) (p q : List ℕ) → nat_cmp a b ≡ Less → Decides (a ∷ p) (b ∷ q) Less
decides-less a b p q h = record { at = λ x y. rw h refl }

pub decides-greater : (a b : ℕ) (p q : List ℕ) → nat_cmp a b ≡ Greater → Decides (a ∷ p) (b ∷ q) Greater
decides-greater a b p q h = record { at = λ x y. rw h refl }

-- alone, the codings compare as o says
pub decided : (p q : List ℕ) (o : Ordering) → Decides p q o → byte_order p q ≡ o
decided p q o d =
    let e : byte_order (p ++ []) (q ++ []) ≡ o = d.at [] [] ∙ then_equal o in
    rw (append-nil p, append-nil q) at e

same_itself : (x : List ℕ) → byte_order x x ≡ Equal
same_itself x = tied_itself nat_list_cmp_total x

-- equal strings have equal codings in front and equal rests
pub then_is_equal : (a b : Ordering) → ordering_then a b ≡ Equal → (a ≡ Equal) × (b ≡ Equal)
then_is_equal Less b h = cc
then_is_equal Equal b h = (refl, h)
then_is_equal Greater b h = cc

pub no_front : (p q x y : List ℕ) (o : Ordering) → Decides p q o → p ++ x ≡ q ++ y → (o ≡ Equal) × (byte_order x y ≡ Equal)
no_front p q x y o d same = then_is_equal o _ (sym (d.at x y) ∙ ap (λ z. byte_order z (q ++ y)) same ∙ same_itself (q ++ y))

turned : (a b : ℕ) → a < 256 → b < 256 → nat_cmp (flipped a) (flipped b) ≡ ordering_reverse (nat_cmp a b)
turned a b low_a low_b = grind (arith, nat_tests)

pub not_decided_after : (b : ℕ) (q : List ℕ) (o : Ordering) → Decides [] (b ∷ q) o → ⊥
not_decided_after b q Less d = let e : byte_order ((b + 1) ∷ []) (b ∷ q ++ []) ≡ Less = d.at ((b + 1) ∷ []) [] in
    let f : nat_cmp (b + 1) b ≡ Greater = grind (arith, nat_tests) in
    let g : ordering_then Greater (byte_order [] (q ++ [])) ≡ Less = rw f at e in cc
not_decided_after b q Equal d = let e : byte_order [] (b ∷ q ++ []) ≡ Equal = d.at [] [] in cc
not_decided_after b q Greater d = let e : byte_order [] (b ∷ q ++ []) ≡ Greater = d.at [] [] in cc

pub not_decided_before : (a : ℕ) (p : List ℕ) (o : Ordering) → Decides (a ∷ p) [] o → ⊥
not_decided_before a p Less d = let e : byte_order (a ∷ p ++ []) [] ≡ Less = d.at [] [] in cc
not_decided_before a p Equal d = let e : byte_order (a ∷ p ++ []) [] ≡ Equal = d.at [] [] in cc
not_decided_before a p Greater d = let e : byte_order (a ∷ p ++ []) ((a + 1) ∷ []) ≡ Greater = d.at [] ((a + 1) ∷ []) in
    let f : nat_cmp a (a + 1) ≡ Less = grind (arith, nat_tests) in
    let g : ordering_then Less (byte_order (p ++ []) []) ≡ Greater = rw f at e in cc

step : (a b : ℕ) (p q : List ℕ) (o r : Ordering) → nat_cmp a b ≡ r → nat_cmp (flipped a) (flipped b) ≡ ordering_reverse r
    → Decides (a ∷ p) (b ∷ q) o → (Decides p q o → Decides (complement p) (complement q) (ordering_reverse o))
    → Decides (complement (a ∷ p)) (complement (b ∷ q)) (ordering_reverse o)
step a b p q o Less e f d again =
    let g : byte_order (a ∷ p ++ []) (b ∷ q ++ []) ≡ o = d.at [] [] ∙ then_equal o in
    let h : Less ≡ o = rw e at g in
    rw (← h) (decides-greater (flipped a) (flipped b) (complement p) (complement q) f)
step a b p q o Greater e f d again =
    let g : byte_order (a ∷ p ++ []) (b ∷ q ++ []) ≡ o = d.at [] [] ∙ then_equal o in
    let h : Greater ≡ o = rw e at g in
    rw (← h) (decides-less (flipped a) (flipped b) (complement p) (complement q) f)
step a b p q o Equal e f d again =
    let rest : Decides p q o = record { at = λ x y. rw e at (d.at x y) } in
    record { at = λ x y. rw f ((again rest).at x y) }

pub decides-equal-nothing : (o : Ordering) → Decides [] [] o → o ≡ Equal
decides-equal-nothing o d = sym (then_equal o) ∙ sym (d.at [] [])

-- the complement turns the order round
pub decides-complement : (p q : List ℕ) (o : Ordering) → AreBytes p → AreBytes q → Decides p q o → Decides (complement p) (complement q) (ordering_reverse o)
decides-complement [] [] o s t d = rw (decides-equal-nothing o d) decides-nothing
decides-complement [] (b ∷ q) o s t d = absurd (not_decided_after b q o d)
decides-complement (a ∷ p) [] o s t d = absurd (not_decided_before a p o d)
decides-complement (a ∷ p) (b ∷ q) o s t d = step a b p q o (nat_cmp a b) refl (turned a b s.0 t.0) d (decides-complement p q o s.1 t.1)

-- bytes that compare as equal are the same
pub same_bytes : (a b : List ℕ) → is_same a b ≡ true → a ≡ b
same_bytes a b e = same_text a b (sym (texts_ties a b ∙ e))

pub bytes_same : (a b : List ℕ) → a ≡ b → is_same a b ≡ true
bytes_same a b e = ap (is_same a) (sym e) ∙ ap is_eq (tied_itself nat_list_cmp_total a)

-- bytes are not before their front
pub front_not_after : (p rest : List ℕ) → is_lt (byte_order (p ++ rest) p) ≡ false
front_not_after [] [] = refl
front_not_after [] (b ∷ rest) = refl
front_not_after (a ∷ p) rest = ap (λ (o : Ordering). is_lt (ordering_then o (byte_order (p ++ rest) p))) (number_equal a a refl) ∙ front_not_after p rest
