-- The order of bytes as a test: which bytes are before which, and which are not after which.
use Rattle.std.proofs.Common.{◌≡◌, ℕ, List, true, false, ◌⊎◌, inl, inr}
use Rattle.std.specs.Cmp.{IsStrictWeakOrder}
use Rattle.std.specs.Ordering.{is_lt}
use Rattle.std.proofs.lemmas.Bool.{cases_Bool, cond_both, false_from_ne_true, true_from_ne_false, both_ways}
use Rattle.std.proofs.lemmas.Cmp.{nat_list_cmp_total}
use Rattle.std.proofs.lemmas.List.MinMax.{ranks_by}
use Rattle.span_keycode.specs.Order.{byte_order}
use Rattle.span_keycode.specs.Parts.{later, earlier}

abbrev pub IsBefore : List ℕ → List ℕ → Type 0
IsBefore a b = is_lt (byte_order a b) ≡ true

-- a is not after b
abbrev pub IsUpto : List ℕ → List ℕ → Type 0
IsUpto a b = is_lt (byte_order b a) ≡ false

strict : IsStrictWeakOrder (λ (a b : List ℕ). is_lt (byte_order a b))
strict = ranks_by nat_list_cmp_total (λ (x : List ℕ). x)

pub upto_upto : (a b c : List ℕ) → IsUpto a b → IsUpto b c → IsUpto a c
upto_upto a b c p q = strict.chain c b a q p

pub before_upto : (a b : List ℕ) → IsBefore a b → IsUpto a b
before_upto a b p = strict.one_way a b p

pub lt_le : (a b c : List ℕ) → IsBefore a b → IsUpto b c → IsBefore a c
lt_le a b c p q = true_from_ne_false (is_lt (byte_order a c)) (λ e. both_ways (is_lt (byte_order a b)) (upto_upto b c a q e) p)

pub lt_lt : (a b c : List ℕ) → IsBefore a b → IsBefore b c → IsBefore a c
lt_lt a b c p q = lt_le a b c p (before_upto b c q)

pub itself : (a : List ℕ) → IsUpto a a
itself a = false_from_ne_true (is_lt (byte_order a a)) (λ e. both_ways (is_lt (byte_order a a)) (before_upto a a e) e)

pub before_or_not : (a b : List ℕ) → IsBefore a b ⊎ IsUpto b a
before_or_not a b = cases_Bool (is_lt (byte_order a b))

-- nothing is both before a key and not
pub not_both : (a b : List ℕ) → IsBefore a b → IsUpto b a → ⊥
not_both a b p q = both_ways (is_lt (byte_order a b)) q p

-- ---- the later and the earlier of two keys

module _ (a b : List ℕ) where
  pub later_left : IsUpto a (later a b)
  later_left = cond_both (is_lt (byte_order a b)) b a (λ x. IsUpto a x) (λ p. before_upto a b p) (λ q. itself a)

  pub later_right : IsUpto b (later a b)
  later_right = cond_both (is_lt (byte_order a b)) b a (λ x. IsUpto b x) (λ p. itself b) (λ q. q)

  pub later_least : (c : List ℕ) → IsUpto a c → IsUpto b c → IsUpto (later a b) c
  later_least c p q = cond_both (is_lt (byte_order a b)) b a (λ x. IsUpto x c) (λ e. q) (λ e. p)

  pub earlier_left : IsUpto (earlier a b) a
  earlier_left = cond_both (is_lt (byte_order b a)) b a (λ x. IsUpto x a) (λ p. before_upto b a p) (λ q. itself a)

  pub earlier_right : IsUpto (earlier a b) b
  earlier_right = cond_both (is_lt (byte_order b a)) b a (λ x. IsUpto x b) (λ p. itself b) (λ q. q)

  pub earlier_most : (c : List ℕ) → IsBefore c a → IsBefore c b → IsBefore c (earlier a b)
  earlier_most c p q = cond_both (is_lt (byte_order b a)) b a (λ x. IsBefore c x) (λ e. q) (λ e. p)

  -- where something is not before both, it is not before one of them
  pub earlier_cases : (c : List ℕ) → IsUpto (earlier a b) c → IsUpto a c ⊎ IsUpto b c
  earlier_cases c = cond_both (is_lt (byte_order b a)) b a (λ x. IsUpto x c → IsUpto a c ⊎ IsUpto b c) (λ e p. inr p) (λ e p. inl p)
