-- A text has one next line.
use Rattle.std.proofs.Common.{◌≡◌, ◌∙◌, ℕ, suc, List, [], ◌∷◌, ◌++◌, refl, sym, subst, inl, inr, arith}
use Rattle.span_command.specs.Texts.{HasNoLf, NextLine}

-- no LF is after the first byte
rest_first : (b : ℕ) (line : List ℕ) → HasNoLf (b ∷ line) → HasNoLf line
rest_first b line h = λ i l. h (suc i) (omega (arith, l))

-- the first LF ends the line
same_first : (v w r s : List ℕ) → HasNoLf v → HasNoLf w → v ++ 10 ∷ r ≡ w ++ 10 ∷ s → (v ≡ w) × (r ≡ s)
same_first [] [] r s h k e = (refl, cc e)
same_first [] (b ∷ w) r s h k e = absurd (k 0 (omega arith) (cc e))
same_first (a ∷ v) [] r s h k e = absurd (h 0 (omega arith) (cc e))
same_first (a ∷ v) (b ∷ w) r s h k e =
    let first : a ≡ b = cc e in
    let rest : v ++ 10 ∷ r ≡ w ++ 10 ∷ s = cc e in
    let same = same_first v w r s (rest_first a v h) (rest_first b w k) rest in
    (cc (first, same.0), same.1)

-- a text with an LF has one
lf_there : (line following : List ℕ) → HasNoLf (line ++ 10 ∷ following) → ⊥
lf_there [] following h = h 0 (omega arith) refl
lf_there (b ∷ line) following h = lf_there line following (rest_first b (line ++ 10 ∷ following) h)

-- what the next line is, and the rest after it, is settled by the text
pub one_next : (text v r w s : List ℕ) → NextLine text v r → NextLine text w s → (v ≡ w) × (r ≡ s)
one_next text v r w s (inl p) (inl q) = same_first v w r s p.0 q.0 (sym p.1 ∙ q.1)
one_next text v r w s (inl p) (inr q) = absurd (lf_there v r (subst HasNoLf p.1 q.0))
one_next text v r w s (inr p) (inl q) = absurd (lf_there w s (subst HasNoLf q.1 p.0))
one_next text v r w s (inr p) (inr q) = (p.2 ∙ sym q.2, p.3 ∙ sym q.3)
