-- A literal reaches up to a quote exactly where there is one.
use Rattle.std.proofs.Common.{◌≡◌, ◌≢◌, ℕ, zero, suc, ◌+◌, ◌<◌, ◌≤◌, ◌==◌, nat_lt, Bool, true, false, not, ◌&&◌, ◌||◌, List, [], ◌∷◌, ◌++◌, length, drop, take, Option, Some, None, if◌then◌else◌, refl, sym, ap, subst, ◌∙◌, append_assoc, arith, eqb-true, take-add}
use Rattle.std.proofs.lemmas.Grind.{common_steps}
use Rattle.std.proofs.lemmas.Bool.{eqb-false, cond-true, cond-false}
use Rattle.span_lexer.specs.declared.literal.Literal.{Literal}
use Rattle.span_lexer.specs.Characters.{is_hex, is_quote, is_escape, is_octal}
use Rattle.span_lexer.specs.Literals.{is_bytes, is_d, hex_length, unicode_length, escape_length, piece_length, closing_quote, with_more}
use Rattle.span_lexer.specs.Tokens.{Piece, Plain, Escaped, Hex, Unicode, piece_bytes, IsPiece, ArePieces, pieces_bytes, IsBody}
use Rattle.span_lexer.proofs.Words.{choose}
use Rattle.span_lexer.proofs.Closing.{piece_then, no_piece, closed_here, closed_nil}

-- ---- what is read is a piece

-- o is the length of a piece that the bytes begin with, if it is a length
abbrev Reads : Literal → ℕ → List ℕ → Option ℕ → Type 0
Reads t q bs None = Unit {0}
Reads t q bs (Some n) = (p : Piece) × IsPiece t q p × (take n bs ≡ piece_bytes p) × (0 < n) × (n ≤ length bs)

abbrev pick : (t : Literal) (q : ℕ) (bs : List ℕ) (b : Bool) (x y : Option ℕ) → (b ≡ true → Reads t q bs x) → (b ≡ false → Reads t q bs y) → Reads t q bs (if b then x else y)
pick t q bs b x y f g = choose (Reads t q bs) b x y f g

reads_hex : (t : Literal) (q : ℕ) (bs : List ℕ) → Reads t q (92 ∷ 120 ∷ bs) (hex_length t bs)
unfolding hex_length
reads_hex t q [] = tt
reads_hex t q (h ∷ []) = tt
reads_hex t q (h ∷ l ∷ bs) = pick t q (92 ∷ 120 ∷ h ∷ l ∷ bs) ((is_hex h && is_hex l) && (is_bytes t || is_octal h)) (Some 4) None (λ e. (Hex h l, e, refl, omega arith, omega arith)) (λ e. tt)

reads_unicode : (t : Literal) (q : ℕ) (bs : List ℕ) → is_bytes t ≡ false → Reads t q (92 ∷ 117 ∷ bs) (unicode_length bs)
unfolding unicode_length
reads_unicode t q [] f = tt
reads_unicode t q (a ∷ []) f = tt
reads_unicode t q (a ∷ b ∷ []) f = tt
reads_unicode t q (a ∷ b ∷ c ∷ []) f = tt
reads_unicode t q (a ∷ b ∷ c ∷ d ∷ bs) f =
    pick t q (92 ∷ 117 ∷ a ∷ b ∷ c ∷ d ∷ bs) (((is_hex a && is_hex b) && (is_hex c && is_hex d)) && not (is_d a && not (is_octal b))) (Some 6) None (λ e. (Unicode a b c d, (f, e), refl, omega arith, omega arith)) (λ e. tt)

reads_escape : (t : Literal) (q : ℕ) (bs : List ℕ) → Reads t q (92 ∷ bs) (escape_length t bs)
unfolding escape_length
reads_escape t q [] = tt
reads_escape t q (e ∷ bs) =
    pick t q (92 ∷ e ∷ bs) (is_escape e) (Some 2) _ (λ i. (Escaped e, i, refl, omega arith, omega arith))
    (λ i. pick t q (92 ∷ e ∷ bs) (e == 120) (hex_length t bs) _ (λ j. subst (λ (x : ℕ). Reads t q (92 ∷ x ∷ bs) (hex_length t bs)) (sym (eqb-true e 120 j)) (reads_hex t q bs))
    (λ j. pick t q (92 ∷ e ∷ bs) (e == 117) _ None
    (λ k. pick t q (92 ∷ e ∷ bs) (is_bytes t) None (unicode_length bs) (λ m. tt) (λ m. subst (λ (x : ℕ). Reads t q (92 ∷ x ∷ bs) (unicode_length bs)) (sym (eqb-true e 117 k)) (reads_unicode t q bs m)))
    (λ k. tt)))

pub reads_piece : (t : Literal) (q b : ℕ) (bs : List ℕ) → (b == q) ≡ false → Reads t q (b ∷ bs) (piece_length t (b ∷ bs))
unfolding piece_length
reads_piece t q b bs n =
    pick t q (b ∷ bs) (b == 92) (escape_length t bs) _ (λ i. subst (λ (x : ℕ). Reads t q (x ∷ bs) (escape_length t bs)) (sym (eqb-true b 92 i)) (reads_escape t q bs))
    (λ i. pick t q (b ∷ bs) (b == 10 || (is_bytes t && nat_lt 127 b)) None (Some 1) (λ j. tt) (λ j. (Plain b, (n, i, j), refl, omega arith, omega arith)))

-- ---- each piece is read

read_hex : (t : Literal) (h l : ℕ) (rest : List ℕ) → ((is_hex h && is_hex l) && (is_bytes t || is_octal h)) ≡ true → hex_length t (h ∷ l ∷ rest) ≡ Some 4
unfolding hex_length
read_hex t h l rest e = cond-true ((is_hex h && is_hex l) && (is_bytes t || is_octal h)) (Some 4) None e

read_unicode : (a b c d : ℕ) (rest : List ℕ) → (((is_hex a && is_hex b) && (is_hex c && is_hex d)) && not (is_d a && not (is_octal b))) ≡ true → unicode_length (a ∷ b ∷ c ∷ d ∷ rest) ≡ Some 6
unfolding unicode_length
read_unicode a b c d rest e = cond-true (((is_hex a && is_hex b) && (is_hex c && is_hex d)) && not (is_d a && not (is_octal b))) (Some 6) None e

escape_x : (t : Literal) (bs : List ℕ) → escape_length t (120 ∷ bs) ≡ hex_length t bs
unfolding escape_length is_escape
escape_x t bs = refl

escape_u : (t : Literal) (bs : List ℕ) → is_bytes t ≡ false → escape_length t (117 ∷ bs) ≡ unicode_length bs
unfolding escape_length is_escape
escape_u t bs e = cond-false (is_bytes t) None (unicode_length bs) e

escape_letter : (t : Literal) (e : ℕ) (bs : List ℕ) → is_escape e ≡ true → escape_length t (e ∷ bs) ≡ Some 2
unfolding escape_length
escape_letter t e bs i = cond-true (is_escape e) (Some 2) _ i

piece_back : (t : Literal) (bs : List ℕ) → piece_length t (92 ∷ bs) ≡ escape_length t bs
unfolding piece_length
piece_back t bs = refl

piece_plain : (t : Literal) (b : ℕ) (bs : List ℕ) → (b == 92) ≡ false → (b == 10 || (is_bytes t && nat_lt 127 b)) ≡ false → piece_length t (b ∷ bs) ≡ Some 1
unfolding piece_length
piece_plain t b bs e f = cond-false (b == 92) (escape_length t bs) _ e ∙ cond-false (b == 10 || (is_bytes t && nat_lt 127 b)) None (Some 1) f

read_piece : (t : Literal) (q : ℕ) (p : Piece) (rest : List ℕ) → IsPiece t q p → piece_length t (piece_bytes p ++ rest) ≡ Some (length (piece_bytes p))
read_piece t q (Plain b) rest h = piece_plain t b rest h.1 h.2
read_piece t q (Escaped e) rest h = piece_back t (e ∷ rest) ∙ escape_letter t e rest h
read_piece t q (Hex a l) rest h = piece_back t (120 ∷ a ∷ l ∷ rest) ∙ escape_x t (a ∷ l ∷ rest) ∙ read_hex t a l rest h
read_piece t q (Unicode a b c d) rest h = piece_back t (117 ∷ a ∷ b ∷ c ∷ d ∷ rest) ∙ escape_u t (a ∷ b ∷ c ∷ d ∷ rest) h.0 ∙ read_unicode a b c d rest h.1

back_is_no_quote : (q : ℕ) → is_quote q ≡ true → 92 ≢ q
unfolding is_quote
back_is_no_quote q h e = let P : ℕ → Type 0 = λ x. is_quote x ≡ true in let bad : false ≡ true = subst P (sym e) h in cc

piece_closes : (t : Literal) (q : ℕ) → 92 ≢ q → (p : Piece) (rest : List ℕ) → IsPiece t q p → closing_quote t q 0 (piece_bytes p ++ rest) ≡ with_more (length (piece_bytes p)) (closing_quote t q 0 rest)
piece_closes t q n (Plain b) rest h = piece_then t q b 1 rest (eqb-false b q h.0) (read_piece t q (Plain b) rest h) (omega arith)
piece_closes t q n (Escaped e) rest h = piece_then t q 92 2 (e ∷ rest) n (read_piece t q (Escaped e) rest h) (omega arith)
piece_closes t q n (Hex a l) rest h = piece_then t q 92 4 (120 ∷ a ∷ l ∷ rest) n (read_piece t q (Hex a l) rest h) (omega arith)
piece_closes t q n (Unicode a b c d) rest h = piece_then t q 92 6 (117 ∷ a ∷ b ∷ c ∷ d ∷ rest) n (read_piece t q (Unicode a b c d) rest h) (omega arith)

pieces_close : (t : Literal) (q : ℕ) → 92 ≢ q → (ps : List Piece) (rest : List ℕ) → ArePieces t q ps → closing_quote t q 0 (pieces_bytes ps ++ (q ∷ rest)) ≡ Some (length (pieces_bytes ps) + 1)
pieces_close t q n [] rest h = closed_here t q q rest refl ∙ ap Some (omega arith)
pieces_close t q n (p ∷ ps) rest h =
    ap (closing_quote t q 0) (append_assoc (piece_bytes p) (pieces_bytes ps) (q ∷ rest)) ∙ piece_closes t q n p (pieces_bytes ps ++ (q ∷ rest)) h.0
    ∙ ap (with_more (length (piece_bytes p))) (pieces_close t q n ps rest h.1) ∙ ap Some (grind (arith, common_steps))

-- a body is read, whatever follows it
pub body_closes : (t : Literal) (q : ℕ) (body rest : List ℕ) → is_quote q ≡ true → IsBody t q body → closing_quote t q 0 (body ++ rest) ≡ Some (length body)
body_closes t q body rest quote b =
    ap (closing_quote t q 0) (ap (λ (w : List ℕ). w ++ rest) b.spells ∙ append_assoc (pieces_bytes b.pieces) (q ∷ []) rest)
    ∙ pieces_close t q (back_is_no_quote q quote) b.pieces rest b.fits ∙ ap Some (let e : length body ≡ length (pieces_bytes b.pieces ++ (q ∷ [])) = ap length b.spells in grind (arith, common_steps))

-- ---- what is read is a body

abbrev pub ReadsBody : Literal → ℕ → List ℕ → Option ℕ → Type 0
ReadsBody t q bs None = Unit {0}
ReadsBody t q bs (Some n) = IsBody t q (take n bs) × (0 < n) × (n ≤ length bs)

piece_before : (t : Literal) (q n : ℕ) (bs : List ℕ) (p : Piece) → IsPiece t q p → take n bs ≡ piece_bytes p → n ≤ length bs → (o : Option ℕ) → ReadsBody t q (drop n bs) o → ReadsBody t q bs (with_more n o)
piece_before t q n bs p h e l None r = tt
piece_before t q n bs p h e l (Some k) r = (
  record { pieces = p ∷ r.0.pieces; fits = (h, r.0.fits); spells = take-add n k bs ∙ ap (λ (w : List ℕ). w ++ take k (drop n bs)) e ∙ ap (λ (w : List ℕ). piece_bytes p ++ w) r.0.spells ∙ sym (append_assoc (piece_bytes p) (pieces_bytes r.0.pieces) (q ∷ [])) },
  omega (arith, r.1),
  grind (arith, common_steps, r.2),
)

piece_or_none : (t : Literal) (q m b : ℕ) (bs : List ℕ) → (b == q) ≡ false → length (b ∷ bs) ≤ suc m → (o : Option ℕ) → piece_length t (b ∷ bs) ≡ o → Reads t q (b ∷ bs) o
    → ((ws : List ℕ) → length ws ≤ m → ReadsBody t q ws (closing_quote t q 0 ws)) → ReadsBody t q (b ∷ bs) (closing_quote t q 0 (b ∷ bs))
piece_or_none t q m b bs n l None e r shorter = subst (ReadsBody t q (b ∷ bs)) (sym (no_piece t q b bs (eqb-false b q n) e)) tt
piece_or_none t q m b bs n l (Some k) e r shorter =
    subst (ReadsBody t q (b ∷ bs)) (sym (piece_then t q b k bs (eqb-false b q n) e r.3))
    (piece_before t q k (b ∷ bs) r.0 r.1 r.2 r.4 (closing_quote t q 0 (drop k (b ∷ bs))) (shorter (drop k (b ∷ bs)) (grind (arith, common_steps, r.3, r.4))))

reads_body : (t : Literal) (q m : ℕ) (bs : List ℕ) → length bs ≤ m → ReadsBody t q bs (closing_quote t q 0 bs)
reads_body t q m [] l = subst (ReadsBody t q []) (sym (closed_nil t q 0)) tt
reads_body t q zero (b ∷ bs) l = absurd (omega arith)
reads_body t q (suc m) (b ∷ bs) l =
    elim (b == q) as (λ v. (b == q) ≡ v → ReadsBody t q (b ∷ bs) (closing_quote t q 0 (b ∷ bs))) [
      | true ↦ λ e. subst (ReadsBody t q (b ∷ bs)) (sym (closed_here t q b bs (eqb-true b q e))) (record { pieces = []; fits = tt; spells = ap (λ (w : ℕ). w ∷ []) (eqb-true b q e) }, omega arith, omega arith)
      | false ↦ λ e. piece_or_none t q m b bs e l (piece_length t (b ∷ bs)) refl (reads_piece t q b bs e) (λ ws h. reads_body t q m ws h)
    ] refl

pub body_read : (t : Literal) (q : ℕ) (bs : List ℕ) → ReadsBody t q bs (closing_quote t q 0 bs)
body_read t q bs = reads_body t q (length bs) bs (omega arith)
