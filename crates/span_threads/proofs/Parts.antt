-- What calls leave of the items of two parts, one after the other, and of the items up to a place.
use Rattle.std.proofs.Common.{◌≡◌, ◌∙◌, ℕ, ◌+◌, ◌-◌, ◌<◌, ◌≤◌, ◌⊎◌, inl, inr, nat_lt, true, false, refl, List, ◌++◌, length, get_or, set, ap, sym, subst, arith}
use Rattle.std.proofs.Math.Nat.{eq-or-lt_of_le}
use Rattle.std.proofs.lemmas.Bool.Decides.{nat_tests}
use Rattle.std.proofs.lemmas.List.{get_or-append-add, get_or-set_other, get_or-set_same, get_or_append_left, length-append}
use Rattle.std.specs.Fork.{ChangesAt}
use denote.Ref.{MutBor}
use denote.Param.Members.{Shared}
use Rattle.span_threads.specs.Parts.{ChangesFrom}

-- the item at a place of the second of two parts
pub item_after : {T : Type 0} (front back : List T) (k : ℕ) (d : T) → length front ≤ k → get_or (front ++ back) k d ≡ get_or back (k - length front) d
item_after front back k d past = ap (λ (i : ℕ). get_or (front ++ back) i d) (omega (arith, past)) ∙ get_or-append-add front back (k - length front) d

module _ {F T : Type 0} (g : Shared F (ℕ × (MutBor T × Unit {0})) ((Unit {0}) × (MutBor T × Unit {0}))) (f : F) (base : ℕ) where
  pub changes_both : (first others new_first new_others : List T) (size : ℕ) → length first ≡ size → ChangesFrom g f base first new_first → ChangesFrom g f (base + size) others new_others
      → ChangesFrom g f base (first ++ others) (new_first ++ new_others)
  changes_both first others new_first new_others size long front back = record {
    long = length-append new_first new_others ∙ omega (arith, front.long, back.long, length-append first others);
    each = λ k d within. elim (nat_lt k (length first)) as (λ b. nat_lt k (length first) ≡ b → ChangesAt g f (base + k) (get_or (first ++ others) k d) (get_or (new_first ++ new_others) k d)) [
      | true ↦ λ e. in_first k d (grind (arith, nat_tests, e))
      | false ↦ λ e. in_others k d within (grind (arith, nat_tests, e))
    ] refl;
  } where
    in_first : (k : ℕ) (d : T) → k < length first → ChangesAt g f (base + k) (get_or (first ++ others) k d) (get_or (new_first ++ new_others) k d)
    in_first k d less =
        subst (λ (y : T). ChangesAt g f (base + k) (get_or (first ++ others) k d) y) (sym (get_or_append_left new_first new_others d k (omega (arith, less, front.long))))
        (subst (λ (x : T). ChangesAt g f (base + k) x (get_or new_first k d)) (sym (get_or_append_left first others d k less)) (front.each k d less))

    in_others : (k : ℕ) (d : T) → k < length (first ++ others) → length first ≤ k → ChangesAt g f (base + k) (get_or (first ++ others) k d) (get_or (new_first ++ new_others) k d)
    in_others k d within past =
        subst (λ (y : T). ChangesAt g f (base + k) (get_or (first ++ others) k d) y) (sym (ap (λ (n : ℕ). get_or (new_first ++ new_others) n d) (omega (arith, past, front.long)) ∙ get_or-append-add new_first new_others (k - length first) d))
        (subst (λ (x : T). ChangesAt g f (base + k) x (get_or new_others (k - length first) d)) (sym (item_after first others k d past))
        (subst (λ (n : ℕ). ChangesAt g f n (get_or others (k - length first) d) (get_or new_others (k - length first) d)) (omega (arith, past, long))
        (back.each (k - length first) d (omega (arith, past, within, length-append first others)))))

  pub changes_next : (old now : List T) (at : ℕ) (y : T) → at < length old → length now ≡ length old → ((k : ℕ) (d : T) → k < at → ChangesAt g f (base + k) (get_or old k d) (get_or now k d))
      → ((d : T) → ChangesAt g f (base + at) (get_or old at d) y) → (k : ℕ) (d : T) → k < at + 1 → ChangesAt g f (base + k) (get_or old k d) (get_or (set now at y) k d)
  changes_next old now at y within long changed one k d less = case (eq-or-lt_of_le (omega (arith, less))) where
    case : (k ≡ at) ⊎ (k < at) → ChangesAt g f (base + k) (get_or old k d) (get_or (set now at y) k d)
    case (inl is) =
        subst (λ (n : ℕ). ChangesAt g f (base + n) (get_or old n d) (get_or (set now at y) n d)) (sym is)
        (subst (λ (x : T). ChangesAt g f (base + at) (get_or old at d) x) (sym (get_or-set_same now at y d (omega (arith, within, long)))) (one d))
    case (inr below) =
        subst (λ (x : T). ChangesAt g f (base + k) (get_or old k d) x) (sym (get_or-set_other now at k y d (omega (arith, below)))) (changed k d below)
