-- Keys with the same bytes, and bytes that begin with others, in byte order.
use Rattle.std.proofs.Common.{◌≡◌, ℕ, Bool, true, false, List, ◌++◌, length, take, drop, refl, sym, ap, ◌∙◌}
use Rattle.std.specs.Ordering.{is_lt}
use Rattle.std.specs.Cmp.{IsTotalOrder}
use Rattle.std.proofs.lemmas.Cmp.{nat_list_cmp_total}
use Rattle.std.proofs.lemmas.Slice.Eq.{bytes_eq-Decides}
use Rattle.std.proofs.Math.Seq.{take-append_seam}
use Rattle.span_keycode.specs.Order.{byte_order, is_same}
use Rattle.span_maderows.specs.Made.{begins_with}
use Rattle.span_keycode.proofs.Order.{front_not_after, same_bytes, bytes_same}
pub use Rattle.span_keycode.proofs.Fronts.{begins_front, between}

pub bytes_total : IsTotalOrder byte_order
bytes_total = nat_list_cmp_total

pub turned : (k l : List ℕ) → is_same k l ≡ is_same l k
turned k l = cases (is_same k l) (is_same l k) refl refl
  where
    cases : (a b : Bool) → is_same k l ≡ a → is_same l k ≡ b → is_same k l ≡ is_same l k
    cases true b e f = e ∙ sym (bytes_same l k (sym (same_bytes k l e)))
    cases false true e f = bytes_same k l (sym (same_bytes l k f)) ∙ sym f
    cases false false e f = e ∙ sym f

pub front_begins : (p rest : List ℕ) → begins_with (p ++ rest) p ≡ true
front_begins p rest = (bytes_eq-Decides p (take (length p) (p ++ rest))).1 (sym (take-append_seam p rest))

pub before_begins_not : (b p : List ℕ) → is_lt (byte_order b p) ≡ true → begins_with b p ≡ false
before_begins_not b p less = cases (begins_with b p) refl
  where
    cases : (c : Bool) → begins_with b p ≡ c → c ≡ false
    cases false e = refl
    cases true e = absurd (let f : true ≡ false = sym less ∙ ap (λ (l : List ℕ). is_lt (byte_order l p)) (sym (begins_front b p e)) ∙ front_not_after p (drop (length p) b) in cc)
