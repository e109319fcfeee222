-- Comparing a code with bytes part by part.
use Rattle.std.proofs.Common.{◌≡◌, ℕ, zero, suc, ◌+◌, ◌<◌, ◌≤◌, List, [], ◌∷◌, ◌++◌, refl, sym, ◌∙◌, ap, append_assoc, length, drop, get_or, Bool, true, false, ◌⊎◌, inl, inr}
use Rattle.std.specs.Ordering.{ordering_then}
use Rattle.std.specs.declared.cmp.Ordering.{Ordering}
use Rattle.std.specs.Borrow.{Bor}
use Rattle.std.specs.Prelude.{Result, MatchResult}
use Rattle.std.proofs.lemmas.Result.{MatchResult-weaker}
use Rattle.std.proofs.lemmas.List.{drop_more, at_drop_all, map-append, append-nil}
use Rattle.span_value.specs.declared.value.Value.{Value}
use Rattle.span_value.proofs.Comparisons.{number_equal}
use Rattle.span_schema.specs.declared.layout.KeyPart.{KeyPart}
use Rattle.span_keycode.specs.Order.{byte_order, flipped}
use Rattle.span_keycode.specs.Coding.{escaped, escaped_byte, in_direction, column_code, tuple_code}
use Rattle.span_keycode.specs.RootOrder.{ComparesAs}

-- of a whole code and the bytes from a place on, what is left after the parts that are the same
pub record IsLeft (whole bytes code rest : List ℕ) : Type 0 where
  pub front : List ℕ
  pub whole_is : whole ≡ front ++ code
  pub bytes_are : bytes ≡ front ++ rest

pub left_all : (whole bytes : List ℕ) → IsLeft whole bytes whole bytes
left_all whole bytes = record { front = []; whole_is = refl; bytes_are = refl }

-- equal fronts do not decide
pub front_same : (p xs ys : List ℕ) → byte_order (p ++ xs) (p ++ ys) ≡ byte_order xs ys
front_same [] xs ys = refl
front_same (n ∷ p) xs ys = ap (λ (o : Ordering). ordering_then o (byte_order (p ++ xs) (p ++ ys))) (number_equal n n refl) ∙ front_same p xs ys

-- the next part is the same
pub left_more : (whole bytes code rest part code_after rest_after : List ℕ) → IsLeft whole bytes code rest → code ≡ part ++ code_after → rest ≡ part ++ rest_after
    → IsLeft whole bytes code_after rest_after
left_more whole bytes code rest part code_after rest_after l e f = record {
  front = l.front ++ part;
  whole_is = l.whole_is ∙ ap (λ (xs : List ℕ). l.front ++ xs) e ∙ sym (append_assoc l.front part code_after);
  bytes_are = l.bytes_are ∙ ap (λ (xs : List ℕ). l.front ++ xs) f ∙ sym (append_assoc l.front part rest_after);
}

-- the last part is the same
pub left_last : (whole bytes code rest rest_after : List ℕ) → IsLeft whole bytes code rest → rest ≡ code ++ rest_after → bytes ≡ whole ++ rest_after
left_last whole bytes code rest rest_after l e =
    l.bytes_are ∙ ap (λ (xs : List ℕ). l.front ++ xs) e ∙ sym (append_assoc l.front code rest_after) ∙ ap (λ (xs : List ℕ). xs ++ rest_after) (sym l.whole_is)

-- the next part decides
pub left_decided : (whole bytes code rest part code_after : List ℕ) (o : Ordering) → IsLeft whole bytes code rest → code ≡ part ++ code_after → ComparesAs part rest o
    → ComparesAs whole bytes o
left_decided whole bytes code rest part code_after o l e d = record {
  at = λ x.
      ap (λ (xs : List ℕ). byte_order (xs ++ x) bytes) (l.whole_is ∙ ap (λ (xs : List ℕ). l.front ++ xs) e)
      ∙ ap (λ (xs : List ℕ). byte_order xs bytes) (append_assoc l.front (part ++ code_after) x)
      ∙ ap (λ (xs : List ℕ). byte_order (l.front ++ ((part ++ code_after) ++ x)) xs) l.bytes_are
      ∙ front_same l.front ((part ++ code_after) ++ x) rest
      ∙ ap (λ (xs : List ℕ). byte_order xs rest) (append_assoc part code_after x)
      ∙ d.at (code_after ++ x);
}

-- what the last part answers is the answer
pub last_part : (whole bytes code rest : List ℕ) → IsLeft whole bytes code rest → (r : Result (Bor (List ℕ)) Ordering)
    → MatchResult r (λ x. rest ≡ code ++ x.now) (λ o. ComparesAs code rest o) → MatchResult r (λ x. bytes ≡ whole ++ x.now) (λ o. ComparesAs whole bytes o)
last_part whole bytes code rest l r h =
    MatchResult-weaker r h (λ x e. left_last whole bytes code rest x.now l e) (λ o d. left_decided whole bytes code rest code [] o l (sym (append-nil code)) d)

-- the first of two parts is the same, or decides
module _ (whole part code bytes : List ℕ) (both : whole ≡ part ++ code) where
  pub first_same : (rest : List ℕ) → bytes ≡ part ++ rest → IsLeft whole bytes code rest
  first_same rest e = left_more whole bytes whole bytes part code rest (left_all whole bytes) both e

  pub first_decides : (o : Ordering) → ComparesAs part bytes o → ComparesAs whole bytes o
  first_decides o d = left_decided whole bytes whole bytes part code o (left_all whole bytes) both d

-- ---- the parts of the code of a value

pub first_directed : (d : Bool) (n : ℕ) (xs : List ℕ) → in_direction d (n ∷ xs) ≡ in_direction d (n ∷ []) ++ in_direction d xs
first_directed false n xs = refl
first_directed true n xs = refl

pub append_directed : (d : Bool) (xs ys : List ℕ) → in_direction d (xs ++ ys) ≡ in_direction d xs ++ in_direction d ys
append_directed false xs ys = refl
append_directed true xs ys = map-append flipped xs ys

escaped_first : (b : ℕ) (bs : List ℕ) → escaped (b ∷ bs) ≡ escaped_byte b [] ++ escaped bs
escaped_first zero bs = refl
escaped_first (suc b) bs = refl

-- a byte 0 is coded with 255 after it, others alone
pub zero_directed : (d : Bool) (b : ℕ) → b ≡ 0 → in_direction d (escaped_byte b []) ≡ in_direction d (b ∷ []) ++ in_direction d (255 ∷ [])
zero_directed d b e =
    ap (λ (n : ℕ). in_direction d (escaped_byte n [])) e ∙ first_directed d 0 (255 ∷ []) ∙ ap (λ (n : ℕ). in_direction d (n ∷ []) ++ in_direction d (255 ∷ [])) (sym e)

pub more_directed : (d : Bool) (b : ℕ) → (more : List ℕ) × (in_direction d (escaped_byte b []) ≡ in_direction d (b ∷ []) ++ more)
more_directed d zero = (in_direction d (255 ∷ []), first_directed d 0 (255 ∷ []))
more_directed d (suc b) = ([], sym (append-nil (in_direction d (suc b ∷ []))))

-- what ends a text
pub end_directed : (d : Bool) (bs : List ℕ) (i : ℕ) → length bs ≤ i → in_direction d (escaped (drop i bs)) ≡ in_direction d (0 ∷ []) ++ in_direction d (1 ∷ [])
end_directed d bs i h = at_drop_all (λ (xs : List ℕ). in_direction d (escaped xs)) bs i h ∙ first_directed d 0 (1 ∷ [])

module _ (d : Bool) (bs : List ℕ) (i : ℕ) (lt : i < length bs) where
  pub byte_next : in_direction d (drop i bs) ≡ in_direction d (get_or bs i 0 ∷ []) ++ in_direction d (drop (i + 1) bs)
  byte_next = ap (in_direction d) (drop_more bs i 0 lt) ∙ first_directed d (get_or bs i 0) (drop (i + 1) bs)

  pub escaped_next : in_direction d (escaped (drop i bs)) ≡ in_direction d (escaped_byte (get_or bs i 0) []) ++ in_direction d (escaped (drop (i + 1) bs))
  escaped_next =
      ap (λ (xs : List ℕ). in_direction d (escaped xs)) (drop_more bs i 0 lt)
      ∙ ap (in_direction d) (escaped_first (get_or bs i 0) (drop (i + 1) bs))
      ∙ append_directed d (escaped_byte (get_or bs i 0) []) (escaped (drop (i + 1) bs))

-- the code of the next value
pub value_next : (cs : List KeyPart) (vs : List Value) (i : ℕ) (c : KeyPart) (v : Value) → i < length cs → i < length vs → v ≡ get_or vs i v
    → tuple_code (drop i cs) (drop i vs) ≡ column_code (get_or cs i c) v ++ tuple_code (drop (i + 1) cs) (drop (i + 1) vs)
value_next cs vs i c v lt within read =
    ap (λ (xs : List KeyPart). tuple_code xs (drop i vs)) (drop_more cs i c lt)
    ∙ ap (tuple_code (get_or cs i c ∷ drop (i + 1) cs)) (drop_more vs i v within)
    ∙ ap (λ (x : Value). column_code (get_or cs i c) x ++ tuple_code (drop (i + 1) cs) (drop (i + 1) vs)) (sym read)

-- where the columns or the values end, nothing is left
pub tuple_end : (cs : List KeyPart) (vs : List Value) (i : ℕ) → (length cs ≤ i) ⊎ (length vs ≤ i) → tuple_code (drop i cs) (drop i vs) ≡ []
tuple_end cs vs i (inl h) = at_drop_all (λ (xs : List KeyPart). tuple_code xs (drop i vs)) cs i h
tuple_end cs vs i (inr h) = at_drop_all (tuple_code (drop i cs)) vs i h ∙ nothing (drop i cs)
  where
    nothing : (xs : List KeyPart) → tuple_code xs [] ≡ []
    nothing [] = refl
    nothing (x ∷ xs) = refl
