-- How codings compare with the bytes after all that begin with another.
use Rattle.std.proofs.Common.{◌≡◌, ◌≢◌, ℕ, ◌+◌, ◌<◌, ◌≤◌, List, [], ◌∷◌, ◌++◌, refl, sym, ◌∙◌, ap, arith, inl, inr, ◌⊎◌, true, false}
use Rattle.std.specs.Prelude.{nat_lt}
use Rattle.std.specs.declared.cmp.Ordering.{Ordering}
use Rattle.std.specs.declared.cmp.Ordering.TheVariants.{Less, Equal, Greater}
use Rattle.std.proofs.lemmas.Bool.{cases_order, cases_lt}
use Rattle.std.proofs.lemmas.Bool.Decides.{nat_tests}
use Rattle.span_keycode.specs.Order.{byte_order, Decides}
use Rattle.span_keycode.specs.Coding.{AreBytes}
use Rattle.span_keycode.specs.Ranges.{in_front, next_after}
use Rattle.span_keycode.proofs.Order.{not_decided_after, not_decided_before, decides-equal-nothing}
use Rattle.span_value.proofs.Comparisons.{number_less, number_greater, number_equal}

pub front_less : (a b : ℕ) (p q : List ℕ) → a < b → byte_order (a ∷ p) (b ∷ q) ≡ Less
front_less a b p q h = let e = number_less a b h in rw e refl

pub front_greater : (a b : ℕ) (p q : List ℕ) → b < a → byte_order (a ∷ p) (b ∷ q) ≡ Greater
front_greater a b p q h = let e = number_greater a b h in rw e refl

pub front_same : (a b : ℕ) (p q : List ℕ) → a ≡ b → byte_order (a ∷ p) (b ∷ q) ≡ byte_order p q
front_same a b p q h = let e = number_equal a b h in rw e refl

pub above_nothing : (p : List ℕ) → byte_order p [] ≢ Less
above_nothing [] e = let f : Equal ≡ Less = e in cc
above_nothing (a ∷ p) e = let f : Greater ≡ Less = e in cc

pub not_less : (o : Ordering) → o ≡ Greater → o ≢ Less
not_less o e f = let g : Greater ≡ Less = sym e ∙ f in cc

-- the first byte of what is after is the same, or 1 more
pub grown : (b : ℕ) → b < 255 → in_front b [] ≡ (b + 1) ∷ []
grown b h = let e : nat_lt b 255 ≡ true = grind (arith, nat_tests) in rw e refl

full : (b : ℕ) → 255 ≤ b → in_front b [] ≡ []
full b h = let e : nat_lt b 255 ≡ false = grind (arith, nat_tests) in rw e refl

-- without their first byte, which is the same
rest_decides : (a b : ℕ) (p q : List ℕ) (o : Ordering) → a ≡ b → Decides (a ∷ p) (b ∷ q) o → Decides p q o
rest_decides a b p q o e d = record { at = λ x y. sym (front_same a b (p ++ x) (q ++ y) e) ∙ d.at x y }

-- what begins with bytes is before what is after them
pub begun_before : (x more : List ℕ) → next_after x ≢ [] → byte_order (x ++ more) (next_after x) ≡ Less
begun_before [] more h = absurd (h refl)
begun_before (b ∷ bs) more h = by_next (λ some. begun_before bs more some) (next_after bs) refl
  where
    by_next : (next_after bs ≢ [] → byte_order (bs ++ more) (next_after bs) ≡ Less) → (n : List ℕ) → next_after bs ≡ n → byte_order ((b ∷ bs) ++ more) (in_front b (next_after bs)) ≡ Less
    by_next go [] e = elim (cases_lt b 255) [
      | inl lt ↦ (let f : in_front b (next_after bs) ≡ (b + 1) ∷ [] = ap (in_front b) e ∙ grown b lt in rw f (front_less b (b + 1) (bs ++ more) [] (omega arith)))
      | inr ge ↦ absurd (h (ap (in_front b) e ∙ full b ge))
    ]
    by_next go (c ∷ cs) e =
        let again = go (λ none. let f : c ∷ cs ≡ [] = sym e ∙ none in cc) in
        ap (λ (n : List ℕ). byte_order ((b ∷ bs) ++ more) (in_front b n)) e ∙ front_same b b (bs ++ more) (c ∷ cs) refl ∙ ap (byte_order (bs ++ more)) (sym e) ∙ again

-- what is before bytes is before what is after them
pub less_before : (k x more : List ℕ) → Decides k x Less → next_after x ≢ [] → byte_order (k ++ more) (next_after x) ≡ Less
less_before k [] more d h = absurd (h refl)
less_before [] (b ∷ bs) more d h = absurd (not_decided_after b bs Less d)
less_before (a ∷ ks) (b ∷ bs) more d h = by_next (λ e some. less_before ks bs more e some) (next_after bs) refl
  where
    first : (a ≡ b) ⊎ (a < b)
    first = elim (cases_order a b) [
      | inl e ↦ inl e
      | inr (inl l) ↦ inr l
      | inr (inr g) ↦ absurd (let e : Greater ≡ Less = sym (front_greater a b (ks ++ []) (bs ++ []) g) ∙ d.at [] [] in cc)
    ]

    by_next : (Decides ks bs Less → next_after bs ≢ [] → byte_order (ks ++ more) (next_after bs) ≡ Less) → (n : List ℕ) → next_after bs ≡ n → byte_order ((a ∷ ks) ++ more) (in_front b (next_after bs)) ≡ Less
    by_next go [] e = elim (cases_lt b 255) [
      | inl lt ↦ (let f : in_front b (next_after bs) ≡ (b + 1) ∷ [] = ap (in_front b) e ∙ grown b lt in
          elim first [
            | inl same ↦ rw f (front_less a (b + 1) (ks ++ more) [] (omega arith))
            | inr less ↦ rw f (front_less a (b + 1) (ks ++ more) [] (omega arith))
          ])
      | inr ge ↦ absurd (h (ap (in_front b) e ∙ full b ge))
    ]
    by_next go (c ∷ cs) e = elim first [
      | inl same ↦ (let again = go (rest_decides a b ks bs Less same d) (λ none. let f : c ∷ cs ≡ [] = sym e ∙ none in cc) in
          ap (λ (n : List ℕ). byte_order ((a ∷ ks) ++ more) (in_front b n)) e ∙ front_same a b (ks ++ more) (c ∷ cs) same ∙ ap (byte_order (ks ++ more)) (sym e) ∙ again)
      | inr less ↦ ap (λ (n : List ℕ). byte_order ((a ∷ ks) ++ more) (in_front b n)) e ∙ front_less a b (ks ++ more) (c ∷ cs) less
    ]

-- what is above bytes is not before what is after them
pub greater_after : (k x more : List ℕ) → AreBytes k → Decides k x Greater → (next_after x ≢ []) × (byte_order (k ++ more) (next_after x) ≢ Less)
greater_after [] [] more f d = absurd (let e = decides-equal-nothing Greater d in cc)
greater_after (a ∷ ks) [] more f d = absurd (not_decided_before a ks Greater d)
greater_after [] (b ∷ bs) more f d = absurd (not_decided_after b bs Greater d)
greater_after (a ∷ ks) (b ∷ bs) more f d = elim (cases_order a b) [
  | inl same ↦ (let again = greater_after ks bs more f.1 (rest_decides a b ks bs Greater same d) in by_next same again (next_after bs) refl)
  | inr (inl l) ↦ absurd (let e : Less ≡ Greater = sym (front_less a b (ks ++ []) (bs ++ []) l) ∙ d.at [] [] in cc)
  | inr (inr g) ↦ above g (next_after bs) refl
]
  where
    by_next : a ≡ b → (next_after bs ≢ []) × (byte_order (ks ++ more) (next_after bs) ≢ Less) → (n : List ℕ) → next_after bs ≡ n
        → (in_front b (next_after bs) ≢ []) × (byte_order ((a ∷ ks) ++ more) (in_front b (next_after bs)) ≢ Less)
    by_next same again [] e = absurd (again.0 e)
    by_next same again (c ∷ cs) e =
        let whole : in_front b (next_after bs) ≡ b ∷ (c ∷ cs) = ap (in_front b) e in (
          (λ none. let g : b ∷ (c ∷ cs) ≡ [] = sym whole ∙ none in cc),
          (λ less. again.1 (ap (byte_order (ks ++ more)) e ∙ sym (front_same a b (ks ++ more) (c ∷ cs) same) ∙ ap (byte_order ((a ∷ ks) ++ more)) (sym whole) ∙ less)),
        )

    above : b < a → (n : List ℕ) → next_after bs ≡ n → (in_front b (next_after bs) ≢ []) × (byte_order ((a ∷ ks) ++ more) (in_front b (next_after bs)) ≢ Less)
    above g [] e =
        let low : b < 255 = omega (arith, f.0) in
        let whole : in_front b (next_after bs) ≡ (b + 1) ∷ [] = ap (in_front b) e ∙ grown b low in (
          (λ none. let h : (b + 1) ∷ [] ≡ [] = sym whole ∙ none in cc),
          (λ less. let now : byte_order ((a ∷ ks) ++ more) ((b + 1) ∷ []) ≡ Less = ap (byte_order ((a ∷ ks) ++ more)) (sym whole) ∙ less in
              elim (cases_order a (b + 1)) [
                | inl same ↦ above_nothing (ks ++ more) (sym (front_same a (b + 1) (ks ++ more) [] same) ∙ now)
                | inr (inl l) ↦ omega arith
                | inr (inr m) ↦ not_less _ (front_greater a (b + 1) (ks ++ more) [] m) now
              ]),
        )
    above g (c ∷ cs) e =
        let whole : in_front b (next_after bs) ≡ b ∷ (c ∷ cs) = ap (in_front b) e in (
          (λ none. let h : b ∷ (c ∷ cs) ≡ [] = sym whole ∙ none in cc),
          (λ less. not_less _ (front_greater a b (ks ++ more) (c ∷ cs) g) (ap (byte_order ((a ∷ ks) ++ more)) (sym whole) ∙ less)),
        )
