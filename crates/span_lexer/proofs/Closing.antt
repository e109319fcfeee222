-- Going on through a literal, piece by piece.
use Rattle.std.proofs.Common.{◌≡◌, ◌≢◌, ℕ, zero, suc, ◌+◌, ◌-◌, ◌<◌, ◌≤◌, ◌==◌, List, [], ◌∷◌, length, drop, get_or, Option, Some, None, if◌then◌else◌, refl, sym, ap, ◌∙◌, arith, eq-eqb}
use Rattle.std.proofs.lemmas.Grind.{common_steps}
use Rattle.std.proofs.lemmas.List.{drop-drop, drop_more}
use Rattle.std.proofs.lemmas.Bool.{cond-true, cond-false}
use Rattle.span_lexer.specs.declared.literal.Literal.{Literal}
use Rattle.span_lexer.specs.Literals.{closing_quote, piece_length, one_more, with_more}
use Rattle.span_value.proofs.CellTexts.{differ}

abbrev after : Literal → ℕ → List ℕ → Option ℕ → Option ℕ
after t q bs o = elim o [ None ↦ None | Some n ↦ one_more (closing_quote t q (n - 1) bs) ]

pub closed_nil : (t : Literal) (q k : ℕ) → closing_quote t q k [] ≡ None
unfolding closing_quote
closed_nil t q k = refl

closed_in : (t : Literal) (q k b : ℕ) (bs : List ℕ) → closing_quote t q (suc k) (b ∷ bs) ≡ one_more (closing_quote t q k bs)
unfolding closing_quote
closed_in t q k b bs = refl

closed_at : (t : Literal) (q b : ℕ) (bs : List ℕ) → closing_quote t q 0 (b ∷ bs) ≡ (if b == q then Some 1 else after t q bs (piece_length t (b ∷ bs)))
unfolding closing_quote
closed_at t q b bs = refl

with_zero : (o : Option ℕ) → with_more 0 o ≡ o
with_zero None = refl
with_zero (Some n) = ap Some (omega arith)

with_suc : (k : ℕ) (o : Option ℕ) → one_more (with_more k o) ≡ with_more (suc k) o
with_suc k None = refl
with_suc k (Some n) = ap Some (omega arith)

pub with_with : (j k : ℕ) (o : Option ℕ) → with_more j (with_more k o) ≡ with_more (j + k) o
with_with j k None = refl
with_with j k (Some n) = ap Some (omega arith)

-- the bytes of the piece before are skipped
pub skipped : (t : Literal) (q k : ℕ) (bs : List ℕ) → closing_quote t q k bs ≡ with_more k (closing_quote t q 0 (drop k bs))
skipped t q zero bs = sym (with_zero (closing_quote t q 0 bs))
skipped t q (suc k) [] = closed_nil t q (suc k) ∙ sym (ap (with_more (suc k)) (closed_nil t q 0))
skipped t q (suc k) (b ∷ bs) = closed_in t q k b bs ∙ ap one_more (skipped t q k bs) ∙ with_suc k (closing_quote t q 0 (drop k bs))

-- a piece of n bytes, then the rest
pub piece_then : (t : Literal) (q b n : ℕ) (bs : List ℕ) → b ≢ q → piece_length t (b ∷ bs) ≡ Some n → 0 < n → closing_quote t q 0 (b ∷ bs) ≡ with_more n (closing_quote t q 0 (drop n (b ∷ bs)))
piece_then t q b zero bs ne e pos = absurd (omega arith)
piece_then t q b (suc n) bs ne e pos =
    closed_at t q b bs ∙ cond-false (b == q) (Some 1) (after t q bs (piece_length t (b ∷ bs))) (differ b q (b == q) refl ne)
    ∙ ap (after t q bs) e ∙ ap (λ (k : ℕ). one_more (closing_quote t q k bs)) (let m : suc n - 1 ≡ n = omega arith in m) ∙ ap one_more (skipped t q n bs) ∙ with_suc n (closing_quote t q 0 (drop n bs))

pub no_piece : (t : Literal) (q b : ℕ) (bs : List ℕ) → b ≢ q → piece_length t (b ∷ bs) ≡ None → closing_quote t q 0 (b ∷ bs) ≡ None
no_piece t q b bs ne e = closed_at t q b bs ∙ cond-false (b == q) (Some 1) (after t q bs (piece_length t (b ∷ bs))) (differ b q (b == q) refl ne) ∙ ap (after t q bs) e

pub closed_here : (t : Literal) (q b : ℕ) (bs : List ℕ) → b ≡ q → closing_quote t q 0 (b ∷ bs) ≡ Some 1
closed_here t q b bs e = closed_at t q b bs ∙ cond-true (b == q) (Some 1) (after t q bs (piece_length t (b ∷ bs))) (eq-eqb b q e)

-- ---- for the loop

abbrev pub IsClosedFrom : Literal → ℕ → List ℕ → ℕ → Type 0
IsClosedFrom t q bytes at = with_more at (closing_quote t q 0 (drop at bytes)) ≡ closing_quote t q 0 bytes

pub closing_begins : (t : Literal) (q : ℕ) (bytes : List ℕ) → IsClosedFrom t q bytes 0
closing_begins t q bytes = with_zero (closing_quote t q 0 bytes)

pub closing_steps : (t : Literal) (q : ℕ) (bytes : List ℕ) (at n : ℕ) → IsClosedFrom t q bytes at → at < length bytes → get_or bytes at 0 ≢ q → piece_length t (drop at bytes) ≡ Some n → 0 < n → IsClosedFrom t q bytes (at + n)
closing_steps t q bytes at n h l ne e pos =
    let f = drop_more bytes at 0 l in
    let step : closing_quote t q 0 (drop at bytes) ≡ with_more n (closing_quote t q 0 (drop n (drop at bytes))) =
    ap (closing_quote t q 0) f ∙ piece_then t q (get_or bytes at 0) n (drop (at + 1) bytes) ne (ap (piece_length t) (sym f) ∙ e) pos ∙ ap (λ (w : List ℕ). with_more n (closing_quote t q 0 (drop n w))) (sym f) in
    sym (with_with at n (closing_quote t q 0 (drop (at + n) bytes))) ∙ ap (λ (w : List ℕ). with_more at (with_more n (closing_quote t q 0 w))) (sym (drop-drop n at bytes)) ∙ ap (with_more at) (sym step) ∙ h

pub closing_fails : (t : Literal) (q : ℕ) (bytes : List ℕ) (at : ℕ) → IsClosedFrom t q bytes at → at < length bytes → get_or bytes at 0 ≢ q → piece_length t (drop at bytes) ≡ None → closing_quote t q 0 bytes ≡ None
closing_fails t q bytes at h l ne e =
    let f = drop_more bytes at 0 l in
    sym h ∙ ap (with_more at) (ap (closing_quote t q 0) f ∙ no_piece t q (get_or bytes at 0) (drop (at + 1) bytes) ne (ap (piece_length t) (sym f) ∙ e))

pub closing_here : (t : Literal) (q : ℕ) (bytes : List ℕ) (at : ℕ) → IsClosedFrom t q bytes at → at < length bytes → get_or bytes at 0 ≡ q → closing_quote t q 0 bytes ≡ Some (at + 1)
closing_here t q bytes at h l e = sym h ∙ ap (with_more at) (ap (closing_quote t q 0) (drop_more bytes at 0 l) ∙ closed_here t q (get_or bytes at 0) (drop (at + 1) bytes) e)

pub closing_over : (t : Literal) (q : ℕ) (bytes : List ℕ) (at : ℕ) → IsClosedFrom t q bytes at → length bytes ≤ at → closing_quote t q 0 bytes ≡ None
closing_over t q bytes at h l = sym h ∙ ap (with_more at) (ap (closing_quote t q 0) (let e : drop at bytes ≡ [] = grind (arith, common_steps) in e) ∙ closed_nil t q 0)

pub ruleset closing_rules = (closing_begins, closing_steps, closing_fails, closing_here, closing_over)
