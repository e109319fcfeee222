-- Reading cells.
use Rattle.std.proofs.Common.{◌≡◌, ℕ, ℤ, zero, suc, ◌+◌, ◌-◌, ◌<◌, ◌≤◌, ◌^◌, List, [], ◌∷◌, ◌++◌, Bool, true, false, refl, sym, ◌∙◌, ap, subst, append_assoc, arith, length, length-append, length-drop, drop, take, get_or}
use Rattle.std.specs.Int.{to_be_bytes, from_be_bytes, cast_unsigned, cast_signed, w32, w64}
use Rattle.std.proofs.lemmas.List.{take-append-drop, drop-drop, length-take-le, take_more, drop_more, drop_all}
use Rattle.std.proofs.lemmas.Nat.{be_bytes_8, be_bytes_4, from_be_bytes-to_be_bytes_8, from_be_bytes-to_be_bytes_4}
use Rattle.std.proofs.Math.Facts.{to_z-of_z, Fits-of_z}
use Rattle.span_value.specs.declared.value.Value.{Value}
use Rattle.span_value.specs.declared.value.Value.TheVariants.{Null, Int, Str, Bytes, Bool as Flag}
use Rattle.span_value.specs.declared.value.Kind.{Kind}
use Rattle.span_value.specs.declared.value.Kind.TheVariants.{Int as Numbers, Str as Texts, Bytes as Strings, Bool as Flags}
use Rattle.span_schema.specs.Fitting.{Fits, AreBytes}
use Rattle.span_rowcode.specs.Rows.{bit, bytes_code, cell_code, row_code, AreCells, IsNoCell, IsCell}
use Rattle.span_rowcode.specs.Cells.{HasBytes}
use Rattle.span_value.proofs.Lists.{cons_inj}
use Rattle.span_value.proofs.Numbers.{bytes_at}

one_is_zero : (bs rest : List ℕ) → 1 ∷ bs ≡ 0 ∷ rest → ⊥
one_is_zero bs rest e = let g = (cons_inj 1 0 bs rest e).0 in omega arith

-- bytes that are known place by place
pub are_bytes : (bs : List ℕ) → ((i : ℕ) → get_or bs i 0 < 256) → AreBytes bs
are_bytes [] h = tt
are_bytes (b ∷ bs) h = (h 0, are_bytes bs (λ i. h (suc i)))

pub bytes_drop : (n : ℕ) (bs : List ℕ) → AreBytes bs → AreBytes (drop n bs)
bytes_drop zero bs f = f
bytes_drop (suc n) [] f = tt
bytes_drop (suc n) (b ∷ bs) f = bytes_drop n bs f.1

pub bytes_take : (n : ℕ) (bs : List ℕ) → AreBytes bs → AreBytes (take n bs)
bytes_take zero bs f = tt
bytes_take (suc n) [] f = tt
bytes_take (suc n) (b ∷ bs) f = (f.0, bytes_take n bs f.1)

pub four : (bs : List ℕ) → 4 ≤ length bs → bs ≡ get_or bs 0 0 ∷ get_or bs 1 0 ∷ get_or bs 2 0 ∷ get_or bs 3 0 ∷ drop 4 bs
four [] h = absurd (let l : 4 ≤ 0 = h in omega arith)
four (a ∷ []) h = absurd (let l : 4 ≤ 1 = h in omega arith)
four (a ∷ (b ∷ [])) h = absurd (let l : 4 ≤ 2 = h in omega arith)
four (a ∷ (b ∷ (c ∷ []))) h = absurd (let l : 4 ≤ 3 = h in omega arith)
four (a ∷ (b ∷ (c ∷ (d ∷ bs)))) h = refl

-- the number in eight bytes
pub eight_read : (bs : List ℕ) (n : ℕ) → 8 ≤ length bs → AreBytes bs → n ≡ from_be_bytes w64 (take 8 bs) → bs ≡ to_be_bytes w64 n ++ drop 8 bs
eight_read bs n h are e = sym (take-append-drop 8 bs) ∙ ap (λ (xs : List ℕ). xs ++ drop 8 bs) (sym (be_bytes_8 (take 8 bs) n (length-take-le 8 bs h) (bytes_at (take 8 bs) (bytes_take 8 bs are)) e))

-- the bytes after their length
pub bytes_read : (bs found : List ℕ) (n : ℕ) → AreBytes bs → 4 ≤ length bs → n ≤ length bs - 4 → n < 2 ^ 32
    → n ≡ from_be_bytes w32 (get_or bs 0 0 ∷ get_or bs 1 0 ∷ get_or bs 2 0 ∷ get_or bs 3 0 ∷ []) → found ≡ take n (drop 4 bs) → HasBytes bs found
bytes_read bs found n are h k small e is =
    let rest : length (drop 4 bs) ≡ length bs - 4 = length-drop 4 bs in
    let len : length found ≡ n = ap length is ∙ length-take-le n (drop 4 bs) (omega arith) in
    let word = get_or bs 0 0 ∷ get_or bs 1 0 ∷ get_or bs 2 0 ∷ get_or bs 3 0 ∷ [] in
    let word_bytes : AreBytes word = (bytes_at bs are 0, (bytes_at bs are 1, (bytes_at bs are 2, (bytes_at bs are 3, tt)))) in
    let spelled : to_be_bytes w32 n ≡ word = be_bytes_4 word n refl (bytes_at word word_bytes) e in
    let split : drop 4 bs ≡ found ++ drop (length found + 4) bs =
    sym (take-append-drop n (drop 4 bs)) ∙ ap (λ (xs : List ℕ). xs ++ drop n (drop 4 bs)) (sym is)
    ∙ ap (λ (xs : List ℕ). found ++ xs) (drop-drop n 4 bs ∙ ap (λ (m : ℕ). drop m bs) (let f : 4 + n ≡ length found + 4 = omega arith in f)) in
    let P : List ℕ → Type 0 = AreBytes in
    record {
      code = four bs h ∙ ap (λ (xs : List ℕ). word ++ xs) split ∙ ap (λ (xs : List ℕ). xs ++ (found ++ drop (length found + 4) bs)) (sym spelled ∙ ap (to_be_bytes w32) (sym len));
      are = subst P (sym is) (bytes_take n (drop 4 bs) (bytes_drop 4 bs are));
      within = omega arith;
      short = omega arith;
    }

-- equal lists with fronts of one length
pub fronts : (xs ys r s : List ℕ) → length xs ≡ length ys → xs ++ r ≡ ys ++ s → (xs ≡ ys) × (r ≡ s)
fronts [] [] r s l e = (refl, e)
fronts [] (y ∷ ys) r s l e = absurd (let f : 0 ≡ suc (length ys) = l in omega arith)
fronts (x ∷ xs) [] r s l e = absurd (let f : suc (length xs) ≡ 0 = l in omega arith)
fronts (x ∷ xs) (y ∷ ys) r s l e =
    let both = cons_inj x y (xs ++ r) (ys ++ s) e in
    let again = fronts xs ys r s (let f : suc (length xs) ≡ suc (length ys) = l in omega arith) both.1 in
    (joined x y xs ys both.0 again.0, again.1)
  where
    joined : (a b : ℕ) (xs ys : List ℕ) → a ≡ b → xs ≡ ys → a ∷ xs ≡ b ∷ ys
    joined a b xs ys e f = cc

-- a length in four bytes is one length
one_length : (m n : ℕ) → m < 2 ^ 32 → n < 2 ^ 32 → to_be_bytes w32 m ≡ to_be_bytes w32 n → m ≡ n
one_length m n a b e = sym (from_be_bytes-to_be_bytes_4 m a) ∙ ap (from_be_bytes w32) e ∙ from_be_bytes-to_be_bytes_4 n b

-- bytes after their length are one string
pub one_text : (bs cs r s : List ℕ) → length bs < 2 ^ 32 → length cs < 2 ^ 32 → to_be_bytes w32 (length bs) ++ (bs ++ r) ≡ to_be_bytes w32 (length cs) ++ (cs ++ s) → (bs ≡ cs) × (r ≡ s)
one_text bs cs r s a b e =
    let words = fronts (to_be_bytes w32 (length bs)) (to_be_bytes w32 (length cs)) (bs ++ r) (cs ++ s) refl e in
    fronts bs cs r s (one_length (length bs) (length cs) a b words.0) words.1

-- cells of one kind with equal codings are the same
signed_once : (i j : ℤ) (r s : List ℕ) → Fits Numbers (Int i) → Fits Numbers (Int j) → to_be_bytes w64 (cast_unsigned w64 i) ++ r ≡ to_be_bytes w64 (cast_unsigned w64 j) ++ s → (i ≡ j) × (r ≡ s)
signed_once i j r s f g e =
    let words = fronts (to_be_bytes w64 (cast_unsigned w64 i)) (to_be_bytes w64 (cast_unsigned w64 j)) r s refl e in
    let bits : cast_unsigned w64 i ≡ cast_unsigned w64 j =
    sym (from_be_bytes-to_be_bytes_8 (cast_unsigned w64 i) (Fits-of_z f).fits) ∙ ap (from_be_bytes w64) words.0 ∙ from_be_bytes-to_be_bytes_8 (cast_unsigned w64 j) (Fits-of_z g).fits in
    (sym (to_z-of_z f) ∙ ap (cast_signed w64) bits ∙ to_z-of_z g, words.1)

text_once : (bs cs r s : List ℕ) → length (bytes_code bs ++ r) < 2 ^ 32 → bytes_code bs ++ r ≡ bytes_code cs ++ s → (bs ≡ cs) × (r ≡ s)
text_once bs cs r s small e =
    let len : length (bytes_code bs ++ r) ≡ suc (suc (suc (suc (suc (length (bs ++ r)))))) = ap (λ (xs : List ℕ). length (1 ∷ xs)) (append_assoc (to_be_bytes w32 (length bs)) bs r) in
    let len2 : length (bytes_code cs ++ s) ≡ suc (suc (suc (suc (suc (length (cs ++ s)))))) = ap (λ (xs : List ℕ). length (1 ∷ xs)) (append_assoc (to_be_bytes w32 (length cs)) cs s) in
    let same = ap (length {A = ℕ}) e in
    let short : length bs < 2 ^ 32 = omega (arith, small, len, length-append bs r) in
    let short2 : length cs < 2 ^ 32 = omega (arith, small, same, len2, length-append cs s) in
    one_text bs cs r s short short2
    (sym (append_assoc (to_be_bytes w32 (length bs)) bs r) ∙ (cons_inj 1 1 ((to_be_bytes w32 (length bs) ++ bs) ++ r) ((to_be_bytes w32 (length cs) ++ cs) ++ s) e).1 ∙ append_assoc (to_be_bytes w32 (length cs)) cs s)

flag_once : (a b : Bool) (r s : List ℕ) → bit a ∷ r ≡ bit b ∷ s → (a ≡ b) × (r ≡ s)
flag_once true true r s e = (refl, (cons_inj 1 1 r s e).1)
flag_once false false r s e = (refl, (cons_inj 0 0 r s e).1)
flag_once true false r s e = absurd (one_is_zero r s e)
flag_once false true r s e = absurd (one_is_zero s r (sym e))

pub one_cell : (k : Kind) (v w : Value) (r s : List ℕ) → Fits k v → Fits k w → length (cell_code v ++ r) < 2 ^ 32 → cell_code v ++ r ≡ cell_code w ++ s → (v ≡ w) × (r ≡ s)
one_cell k Null Null r s f g h e = (refl, (cons_inj 0 0 r s e).1)
one_cell k Null (Int i) r s f g h e = absurd (one_is_zero (to_be_bytes w64 (cast_unsigned w64 i) ++ s) r (sym e))
one_cell k Null (Str cs) r s f g h e = absurd (one_is_zero ((to_be_bytes w32 (length cs) ++ cs) ++ s) r (sym e))
one_cell k Null (Bytes cs) r s f g h e = absurd (one_is_zero ((to_be_bytes w32 (length cs) ++ cs) ++ s) r (sym e))
one_cell k Null (Flag b) r s f g h e = absurd (one_is_zero (bit b ∷ s) r (sym e))
one_cell k (Int i) Null r s f g h e = absurd (one_is_zero (to_be_bytes w64 (cast_unsigned w64 i) ++ r) s e)
one_cell k (Str bs) Null r s f g h e = absurd (one_is_zero ((to_be_bytes w32 (length bs) ++ bs) ++ r) s e)
one_cell k (Bytes bs) Null r s f g h e = absurd (one_is_zero ((to_be_bytes w32 (length bs) ++ bs) ++ r) s e)
one_cell k (Flag b) Null r s f g h e = absurd (one_is_zero (bit b ∷ r) s e)
one_cell Numbers (Int i) (Int j) r s f g h e = let same = signed_once i j r s f g (cons_inj 1 1 (to_be_bytes w64 (cast_unsigned w64 i) ++ r) (to_be_bytes w64 (cast_unsigned w64 j) ++ s) e).1 in (ap Int same.0, same.1)
one_cell Texts (Str bs) (Str cs) r s f g h e = let same = text_once bs cs r s h e in (ap Str same.0, same.1)
one_cell Strings (Bytes bs) (Bytes cs) r s f g h e = let same = text_once bs cs r s h e in (ap Bytes same.0, same.1)
one_cell Flags (Flag a) (Flag b) r s f g h e = let same = flag_once a b r s (cons_inj 1 1 (bit a ∷ r) (bit b ∷ s) e).1 in (ap Flag same.0, same.1)
one_cell Numbers (Int x) (Str y) r s f g h e = absurd g
one_cell Numbers (Int x) (Bytes y) r s f g h e = absurd g
one_cell Numbers (Int x) (Flag y) r s f g h e = absurd g
one_cell Numbers (Str x) (Int y) r s f g h e = absurd f
one_cell Numbers (Str x) (Str y) r s f g h e = absurd f
one_cell Numbers (Str x) (Bytes y) r s f g h e = absurd f
one_cell Numbers (Str x) (Flag y) r s f g h e = absurd f
one_cell Numbers (Bytes x) (Int y) r s f g h e = absurd f
one_cell Numbers (Bytes x) (Str y) r s f g h e = absurd f
one_cell Numbers (Bytes x) (Bytes y) r s f g h e = absurd f
one_cell Numbers (Bytes x) (Flag y) r s f g h e = absurd f
one_cell Numbers (Flag x) (Int y) r s f g h e = absurd f
one_cell Numbers (Flag x) (Str y) r s f g h e = absurd f
one_cell Numbers (Flag x) (Bytes y) r s f g h e = absurd f
one_cell Numbers (Flag x) (Flag y) r s f g h e = absurd f
one_cell Texts (Int x) (Int y) r s f g h e = absurd f
one_cell Texts (Int x) (Str y) r s f g h e = absurd f
one_cell Texts (Int x) (Bytes y) r s f g h e = absurd f
one_cell Texts (Int x) (Flag y) r s f g h e = absurd f
one_cell Texts (Str x) (Int y) r s f g h e = absurd g
one_cell Texts (Str x) (Bytes y) r s f g h e = absurd g
one_cell Texts (Str x) (Flag y) r s f g h e = absurd g
one_cell Texts (Bytes x) (Int y) r s f g h e = absurd f
one_cell Texts (Bytes x) (Str y) r s f g h e = absurd f
one_cell Texts (Bytes x) (Bytes y) r s f g h e = absurd f
one_cell Texts (Bytes x) (Flag y) r s f g h e = absurd f
one_cell Texts (Flag x) (Int y) r s f g h e = absurd f
one_cell Texts (Flag x) (Str y) r s f g h e = absurd f
one_cell Texts (Flag x) (Bytes y) r s f g h e = absurd f
one_cell Texts (Flag x) (Flag y) r s f g h e = absurd f
one_cell Strings (Int x) (Int y) r s f g h e = absurd f
one_cell Strings (Int x) (Str y) r s f g h e = absurd f
one_cell Strings (Int x) (Bytes y) r s f g h e = absurd f
one_cell Strings (Int x) (Flag y) r s f g h e = absurd f
one_cell Strings (Str x) (Int y) r s f g h e = absurd f
one_cell Strings (Str x) (Str y) r s f g h e = absurd f
one_cell Strings (Str x) (Bytes y) r s f g h e = absurd f
one_cell Strings (Str x) (Flag y) r s f g h e = absurd f
one_cell Strings (Bytes x) (Int y) r s f g h e = absurd g
one_cell Strings (Bytes x) (Str y) r s f g h e = absurd g
one_cell Strings (Bytes x) (Flag y) r s f g h e = absurd g
one_cell Strings (Flag x) (Int y) r s f g h e = absurd f
one_cell Strings (Flag x) (Str y) r s f g h e = absurd f
one_cell Strings (Flag x) (Bytes y) r s f g h e = absurd f
one_cell Strings (Flag x) (Flag y) r s f g h e = absurd f
one_cell Flags (Int x) (Int y) r s f g h e = absurd f
one_cell Flags (Int x) (Str y) r s f g h e = absurd f
one_cell Flags (Int x) (Bytes y) r s f g h e = absurd f
one_cell Flags (Int x) (Flag y) r s f g h e = absurd f
one_cell Flags (Str x) (Int y) r s f g h e = absurd f
one_cell Flags (Str x) (Str y) r s f g h e = absurd f
one_cell Flags (Str x) (Bytes y) r s f g h e = absurd f
one_cell Flags (Str x) (Flag y) r s f g h e = absurd f
one_cell Flags (Bytes x) (Int y) r s f g h e = absurd f
one_cell Flags (Bytes x) (Str y) r s f g h e = absurd f
one_cell Flags (Bytes x) (Bytes y) r s f g h e = absurd f
one_cell Flags (Bytes x) (Flag y) r s f g h e = absurd f
one_cell Flags (Flag x) (Int y) r s f g h e = absurd g
one_cell Flags (Flag x) (Str y) r s f g h e = absurd g
one_cell Flags (Flag x) (Bytes y) r s f g h e = absurd g

-- no cells are all of the bytes
pub record IsNoCells (ks : List Kind) (bytes : List ℕ) : Type 0 where
  pub none : (vs : List Value) → AreCells ks vs → bytes ≡ row_code vs → ⊥

-- cells of the kinds are coded in the first bytes, up to a place
pub record IsCells (ks : List Kind) (bytes : List ℕ) (vs : List Value) (at : ℕ) : Type 0 where
  pub are : AreCells ks vs
  pub code : bytes ≡ row_code vs ++ drop at bytes
  pub within : at ≤ length bytes

cells_push : (ks : List Kind) (vs : List Value) (k : Kind) (v : Value) → AreCells ks vs → Fits k v → AreCells (ks ++ k ∷ []) (vs ++ v ∷ [])
cells_push [] [] k v f g = (g, tt)
cells_push [] (w ∷ vs) k v f g = absurd f
cells_push (l ∷ ks) [] k v f g = absurd f
cells_push (l ∷ ks) (w ∷ vs) k v f g = (f.0, cells_push ks vs k v f.1 g)

row_push : (vs : List Value) (v : Value) (rest : List ℕ) → row_code (vs ++ v ∷ []) ++ rest ≡ row_code vs ++ (cell_code v ++ rest)
row_push [] v rest = append_assoc (cell_code v) [] rest
row_push (w ∷ vs) v rest = append_assoc (cell_code w) (row_code (vs ++ v ∷ [])) rest ∙ ap (λ (xs : List ℕ). cell_code w ++ xs) (row_push vs v rest) ∙ sym (append_assoc (cell_code w) (row_code vs) (cell_code v ++ rest))

pub cells_more : (ks : List Kind) (bs : List ℕ) (mid after : List Value) (i at w : ℕ) (d : Kind) (v : Value) → i < length ks → IsCells (take i ks) bs mid at → IsCell (get_or ks i d) (drop at bs) v w
    → after ≡ mid ++ v ∷ [] → IsCells (take (i + 1) ks) bs after (at + w)
cells_more ks bs mid after i at w d v h t c e =
    let P : List Kind → Type 0 = λ ls. IsCells ls bs after (at + w) in
    let Q : List Value → Type 0 = λ vs. IsCells (take i ks ++ get_or ks i d ∷ []) bs vs (at + w) in
    subst P (sym (take_more ks i d h)) (subst Q (sym e) (record {
      are = cells_push (take i ks) mid (get_or ks i d) v t.are c.fits;
      code = t.code ∙ ap (λ (xs : List ℕ). row_code mid ++ xs) (c.code ∙ ap (λ (xs : List ℕ). cell_code v ++ xs) (drop-drop w at bs)) ∙ sym (row_push mid v (drop (at + w) bs));
      within = omega (arith, t.within, c.within, length-drop at bs);
    }))

no_first : (k : Kind) (ks : List Kind) (bs : List ℕ) → IsNoCell k bs → (vs : List Value) → AreCells (k ∷ ks) vs → bs ≡ row_code vs → ⊥
no_first k ks bs n [] f e = f
no_first k ks bs n (v ∷ vs) f e = n.none v (row_code vs) f.0 e

no_rest : (k : Kind) (ks : List Kind) (more : List ℕ) (w : Value) → Fits k w → length (cell_code w ++ more) < 2 ^ 32 → IsNoCells ks more → (vs : List Value) → AreCells (k ∷ ks) vs → cell_code w ++ more ≡ row_code vs → ⊥
no_rest k ks more w g small n [] f e = f
no_rest k ks more w g small n (v ∷ vs) f e = n.none vs f.1 (one_cell k w v more (row_code vs) g f.0 small e).1

pub cells_none : (ks : List Kind) (bs : List ℕ) (i at : ℕ) (d : Kind) → i < length ks → (IsNoCells (drop i ks) (drop at bs) → IsNoCells ks bs) → IsNoCell (get_or ks i d) (drop at bs) → IsNoCells ks bs
cells_none ks bs i at d h back n =
    let P : List Kind → Type 0 = λ ls. IsNoCells ls (drop at bs) in
    back (subst P (sym (drop_more ks i d h)) (record { none = no_first (get_or ks i d) (drop (i + 1) ks) (drop at bs) n }))

pub cells_back : (ks : List Kind) (bs : List ℕ) (i at w : ℕ) (d : Kind) (v : Value) → i < length ks → length bs < 2 ^ 32 → (IsNoCells (drop i ks) (drop at bs) → IsNoCells ks bs) → IsCell (get_or ks i d) (drop at bs) v w
    → IsNoCells (drop (i + 1) ks) (drop (at + w) bs) → IsNoCells ks bs
cells_back ks bs i at w d v h small back c n =
    let P : List Kind → Type 0 = λ ls. IsNoCells ls (drop at bs) in
    let Q : List ℕ → Type 0 = λ xs. IsNoCells (get_or ks i d ∷ drop (i + 1) ks) xs in
    let here : drop at bs ≡ cell_code v ++ drop (at + w) bs = c.code ∙ ap (λ (xs : List ℕ). cell_code v ++ xs) (drop-drop w at bs) in
    let short : length (cell_code v ++ drop (at + w) bs) < 2 ^ 32 = omega (arith, ap (length {A = ℕ}) here, length-drop at bs, small) in
    back (subst P (sym (drop_more ks i d h)) (subst Q (sym here) (record { none = no_rest (get_or ks i d) (drop (i + 1) ks) (drop (at + w) bs) v c.fits short n })))

left_over : (bs : List ℕ) (at : ℕ) → at < length bs → (vs : List Value) → AreCells [] vs → drop at bs ≡ row_code vs → ⊥
left_over bs at h [] f e = let l : length (drop at bs) ≡ 0 = ap length e in omega (arith, length-drop at bs)
left_over bs at h (v ∷ vs) f e = f

pub cells_left : (ks : List Kind) (bs : List ℕ) (i at : ℕ) → length ks ≤ i → at < length bs → (IsNoCells (drop i ks) (drop at bs) → IsNoCells ks bs) → IsNoCells ks bs
cells_left ks bs i at h k back =
    let P : List Kind → Type 0 = λ ls. IsNoCells ls (drop at bs) in
    back (subst P (sym (drop_all i ks h)) (record { none = left_over bs at k }))

-- a packed row is that of one row
pub one_row : (ks : List Kind) (vs ws : List Value) → AreCells ks vs → AreCells ks ws → length (row_code vs) < 2 ^ 32 → row_code vs ≡ row_code ws → vs ≡ ws
one_row [] [] [] f g h e = refl
one_row [] (v ∷ vs) ws f g h e = absurd f
one_row [] [] (w ∷ ws) f g h e = absurd g
one_row (k ∷ ks) [] ws f g h e = absurd f
one_row (k ∷ ks) (v ∷ vs) [] f g h e = absurd g
one_row (k ∷ ks) (v ∷ vs) (w ∷ ws) f g h e =
    let both = one_cell k v w (row_code vs) (row_code ws) f.0 g.0 h e in
    joined v w vs ws both.0 (one_row ks vs ws f.1 g.1 (omega (arith, length-append (cell_code v) (row_code vs))) both.1)
  where
    joined : (a b : Value) (xs ys : List Value) → a ≡ b → xs ≡ ys → a ∷ xs ≡ b ∷ ys
    joined a b xs ys e f = cc
