-- How long codings are, and where they do not fit.
use Rattle.std.proofs.Common.{◌≡◌, ℕ, zero, suc, ◌+◌, ◌<◌, ◌≤◌, Bool, true, false, List, [], ◌∷◌, ◌++◌, length, drop, get_or, refl, sym, ap, ◌∙◌, arith, length-append}
use Rattle.std.proofs.lemmas.List.{length-map, length-drop}
use Rattle.std.proofs.Math.Seq.{drop-cons}
use Rattle.smallvec.specs.SmallVec.{SmallVec}
use Rattle.span_value.specs.declared.value.Value.{Value}
use Rattle.span_schema.specs.declared.layout.KeyPart.{KeyPart}
use Rattle.span_keycode.specs.Order.{flipped}
use Rattle.span_keycode.specs.Limits.{IsTooLong}
use Rattle.span_keycode.specs.Coding.{escaped, escaped_byte, in_direction, column_code, tuple_code}

pub length_directed : (d : Bool) (xs : List ℕ) → length (in_direction d xs) ≡ length xs
length_directed false xs = refl
length_directed true xs = length-map xs flipped

pub escaped_length : (b : ℕ) (bs : List ℕ) → length (escaped (b ∷ bs)) ≡ length (escaped_byte b []) + length (escaped bs)
escaped_length zero bs = omega arith
escaped_length (suc b) bs = omega arith

escaped_some : (bs : List ℕ) → 1 ≤ length (escaped bs)
escaped_some [] = omega arith
escaped_some (b ∷ bs) = omega (arith, escaped_length b bs, escaped_some bs)

-- where a part does not fit after what is written, the whole did not fit before
pub part_too_long : (old out : SmallVec ℕ) (code part rest : List ℕ) → old.capacity ≤ out.capacity → length out.items + length rest ≡ length old.items + length code → length part ≤ length rest → IsTooLong out part → IsTooLong old code
part_too_long old out code part rest up same within long = omega arith

-- the lengths of what is written and what is left
pub same_lengths : (old out : SmallVec ℕ) (code rest : List ℕ) → out.items ++ rest ≡ old.items ++ code → length out.items + length rest ≡ length old.items + length code
same_lengths old out code rest e = omega (arith, ap (length {A = ℕ}) e, length-append out.items rest, length-append old.items code)

module _ (d : Bool) (bs : List ℕ) (i : ℕ) (lt : i < length bs) where
  pub byte_left : (b : ℕ) → length (in_direction d (b ∷ [])) ≤ length (in_direction d (drop i bs))
  byte_left b = omega (arith, length_directed d (b ∷ []), length_directed d (drop i bs), length-drop i bs)

  pub escape_left : length (in_direction d (escaped_byte (get_or bs i 0) [])) ≤ length (in_direction d (escaped (drop i bs)))
  escape_left =
      let e : length (escaped (drop i bs)) ≡ length (escaped_byte (get_or bs i 0) []) + length (escaped (drop (suc i) bs)) = ap (λ (l : List ℕ). length (escaped l)) (drop-cons bs i 0 lt) ∙ escaped_length (get_or bs i 0) (drop (suc i) bs) in
      omega (arith, length_directed d (escaped_byte (get_or bs i 0) []), length_directed d (escaped (drop i bs)), e)

pub end_left : (d : Bool) (bs : List ℕ) (b : ℕ) → length (in_direction d (b ∷ [])) ≤ length (in_direction d (escaped bs))
end_left d bs b = omega (arith, length_directed d (b ∷ []), length_directed d (escaped bs), escaped_some bs)

pub value_left : (cs : List KeyPart) (vs : List Value) (i : ℕ) (c : KeyPart) (v : Value) → i < length cs → i < length vs → v ≡ get_or vs i v → length (column_code (get_or cs i c) v) ≤ length (tuple_code (drop i cs) (drop i vs))
value_left cs vs i c v lt within read =
    let one = drop-cons cs i c lt in
    let two = drop-cons vs i v within in
    let e : tuple_code (drop i cs) (drop i vs) ≡ column_code (get_or cs i c) (get_or vs i v) ++ tuple_code (drop (suc i) cs) (drop (suc i) vs) = ap (λ (l : List KeyPart). tuple_code l (drop i vs)) one ∙ ap (tuple_code (get_or cs i c ∷ drop (suc i) cs)) two in
    let f : length (column_code (get_or cs i c) (get_or vs i v)) ≡ length (column_code (get_or cs i c) v) = ap (λ (x : Value). length (column_code (get_or cs i c) x)) (sym read) in
    omega (arith, ap (length {A = ℕ}) e, f, length-append (column_code (get_or cs i c) (get_or vs i v)) (tuple_code (drop (suc i) cs) (drop (suc i) vs)))
