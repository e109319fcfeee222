-- What is read is spelled so, and what is spelled so is read.
use Rattle.std.proofs.Common.{◌≡◌, ℕ, zero, suc, List, [], ◌∷◌, ◌++◌, Option, Some, None, refl, sym, ◌∙◌, ap, arith, Bool, true, false, cond, eqb, append_assoc}
use Rattle.std.proofs.lemmas.Bool.Decides.{nat_tests}
use Rattle.std.proofs.lemmas.List.{append-nil}
use Rattle.span_keycode.specs.Coding.{escaped}
use Rattle.span_keycode.specs.Texts.{text_at, with_first, prepend}

-- what is spelled so is read
pub text_again : (bs rest : List ℕ) → text_at (escaped bs ++ rest) ≡ Some (bs, rest)
text_again [] rest = refl
text_again (zero ∷ bs) rest = ap (with_first 0) (text_again bs rest)
text_again (suc b ∷ bs) rest = ap (with_first (suc b)) (text_again bs rest)

with_first_some : (b : ℕ) (r : Option (List ℕ × List ℕ)) (x : List ℕ × List ℕ) → with_first b r ≡ Some x → (y : List ℕ × List ℕ) × (r ≡ Some y) × (x ≡ (b ∷ y.0, y.1))
with_first_some b None x h = absurd (let e : None ≡ Some x = h in cc)
with_first_some b (Some y) x h = (y, refl, (let e : Some (b ∷ y.0, y.1) ≡ Some x = h in cc))

end_or : (c : ℕ) (bs : List ℕ) (x : List ℕ × List ℕ) (p q : Bool) → eqb c 1 ≡ p → eqb c 255 ≡ q → (again : (y : List ℕ × List ℕ) → text_at bs ≡ Some y → bs ≡ escaped y.0 ++ y.1)
    → cond p (Some ([], bs)) (cond q (with_first 0 (text_at bs)) None) ≡ Some x → 0 ∷ c ∷ bs ≡ escaped x.0 ++ x.1
end_or c bs x true q e f again h =
    let is : c ≡ 1 = grind (arith, nat_tests) in
    let s : ([], bs) ≡ x = (let t : Some ([], bs) ≡ Some x = h in cc) in
    rw (is, ← s) refl
end_or c bs x false true e f again h =
    let is : c ≡ 255 = grind (arith, nat_tests) in
    let found = with_first_some 0 (text_at bs) x h in
    ap (λ (n : ℕ). 0 ∷ n ∷ bs) is ∙ ap (λ (t : List ℕ). 0 ∷ 255 ∷ t) (again found.0 found.1) ∙ sym (ap (λ (z : List ℕ × List ℕ). escaped z.0 ++ z.1) found.2)
end_or c bs x false false e f again h = absurd (let t : None ≡ Some x = h in cc)

-- what is read is spelled so
pub text_spelled : (bytes : List ℕ) (x : List ℕ × List ℕ) → text_at bytes ≡ Some x → bytes ≡ escaped x.0 ++ x.1
text_spelled [] x h = absurd (let t : None ≡ Some x = h in cc)
text_spelled (suc b ∷ bs) x h =
    let found = with_first_some (suc b) (text_at bs) x h in
    let again : bs ≡ escaped found.0.0 ++ found.0.1 = text_spelled bs found.0 found.1 in
    ap (λ (t : List ℕ). suc b ∷ t) again ∙ sym (ap (λ (z : List ℕ × List ℕ). escaped z.0 ++ z.1) found.2)
text_spelled (zero ∷ []) x h = absurd (let t : None ≡ Some x = h in cc)
text_spelled (zero ∷ (c ∷ bs)) x h = end_or c bs x (eqb c 1) (eqb c 255) refl refl (λ y. text_spelled bs y) h

pub prepend_more : (front : List ℕ) (b : ℕ) (r : Option (List ℕ × List ℕ)) → prepend (front ++ b ∷ []) r ≡ prepend front (with_first b r)
prepend_more front b None = refl
prepend_more front b (Some r) = ap (λ (t : List ℕ). Some (t, r.1)) (append_assoc front (b ∷ []) r.0)

pub prepend_nothing : (front rest : List ℕ) → prepend front (Some ([], rest)) ≡ Some (front, rest)
prepend_nothing front rest = ap (λ (t : List ℕ). Some (t, rest)) (append-nil front)
