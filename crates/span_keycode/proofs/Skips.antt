-- Skipping the codings of values.
use Rattle.std.proofs.Common.{◌≡◌, ◌≢◌, ℕ, ◌+◌, ◌≤◌, List, ◌∷◌, ◌++◌, Option, Some, None, Bool, refl, sym, ◌∙◌, ap, arith, length, length-append, drop}
use Rattle.std.proofs.lemmas.Option.{some_pair_parts}
use Rattle.std.proofs.Math.Seq.{drop-append_seam}
use Rattle.span_value.specs.declared.value.Value.{Value}
use Rattle.span_value.specs.declared.value.Value.TheVariants.{Null, Int, Str, Bytes, Bool as Flag}
use Rattle.span_value.specs.declared.value.Kind.{Kind}
use Rattle.span_value.specs.declared.value.Kind.TheVariants.{Int as Numbers, Str as Texts, Bytes as Strings, Bool as Flags}
use Rattle.span_schema.specs.declared.layout.KeyPart.{KeyPart}
use Rattle.span_keycode.specs.Coding.{escaped, plain, in_direction, column_code, tuple_code, Fits, AreFit}
use Rattle.span_keycode.specs.Texts.{text_at, with_first}
use Rattle.span_keycode.specs.Roots.{IsSkip}
use Rattle.span_keycode.proofs.Reading.{text_again}
use Rattle.span_keycode.proofs.Plains.{turned_twice}
use Rattle.span_value.proofs.Lists.{cons_inj}
use Rattle.span_keycode.proofs.Lengths.{length_directed}
use Rattle.span_keycode.proofs.Comparing.{append_directed}

-- what is after a front of known length
past_front : (front more bs : List ℕ) (n : ℕ) → bs ≡ front ++ more → n ≡ length front → more ≡ drop n bs
past_front front more bs n e l = sym (drop-append_seam front more) ∙ ap (λ (k : ℕ). drop k (front ++ more)) (sym l) ∙ ap (drop n) (sym e)

-- turned to ascending
ascending : (d : Bool) (bs more : List ℕ) (v : Value) → bs ≡ in_direction d (plain v) ++ more → in_direction d bs ≡ plain v ++ in_direction d more
ascending d bs more v e = ap (in_direction d) e ∙ append_directed d (in_direction d (plain v)) more ∙ ap (λ (front : List ℕ). front ++ in_direction d more) (turned_twice d (plain v))

-- the mark distinguishes NULL from values
pub marked : (c : KeyPart) (bs more asc : List ℕ) (v : Value) (first : ℕ) → in_direction c.desc bs ≡ first ∷ asc → bs ≡ column_code c v ++ more → first ∷ asc ≡ plain v ++ in_direction c.desc more
marked c bs more asc v first f e = sym f ∙ ascending c.desc bs more v e

not_null : (first : ℕ) (asc rest : List ℕ) → first ≢ 0 → first ∷ asc ≡ 0 ∷ rest → ⊥
not_null first asc rest p e = p (cons_inj first 0 asc rest e).0

column_length : (c : KeyPart) (v : Value) → length (column_code c v) ≡ length (plain v)
column_length c v = length_directed c.desc (plain v)

-- a text of known end: n bytes after the mark, with more after them
text_len : (first n whole : ℕ) (asc rest : List ℕ) (v : Value) (k : Kind) → k ≢ Numbers → k ≢ Flags → first ≢ 0 → whole ≡ length (first ∷ asc)
    → ((text more : List ℕ) → text_at asc ≡ Some (text, more) → n + length more ≡ length asc) → Fits k v → first ∷ asc ≡ plain v ++ rest → length (plain v) ≡ n + 1
text_len first n whole asc rest Null k p q r w known f e = absurd (not_null first asc rest r e)
text_len first n whole asc rest (Int i) Numbers p q r w known f e = absurd (p refl)
text_len first n whole asc rest (Int i) Texts p q r w known f e = absurd f
text_len first n whole asc rest (Int i) Strings p q r w known f e = absurd f
text_len first n whole asc rest (Int i) Flags p q r w known f e = absurd f
text_len first n whole asc rest (Flag i) Numbers p q r w known f e = absurd f
text_len first n whole asc rest (Flag i) Texts p q r w known f e = absurd f
text_len first n whole asc rest (Flag i) Strings p q r w known f e = absurd f
text_len first n whole asc rest (Flag i) Flags p q r w known f e = absurd (q refl)
text_len first n whole asc rest (Str bs) k p q r w known f e =
    let same = (cons_inj first 1 asc (escaped bs ++ rest) e).1 in
    let len : n + length rest ≡ length asc = known bs rest (ap text_at same ∙ text_again bs rest) in
    let whole : length asc ≡ length (escaped bs) + length rest = ap length same ∙ length-append (escaped bs) rest in
    omega arith
text_len first n whole asc rest (Bytes bs) k p q r w known f e =
    let same = (cons_inj first 1 asc (escaped bs ++ rest) e).1 in
    let len : n + length rest ≡ length asc = known bs rest (ap text_at same ∙ text_again bs rest) in
    let whole : length asc ≡ length (escaped bs) + length rest = ap length same ∙ length-append (escaped bs) rest in
    omega arith

pub skip_text : (c : KeyPart) (bs : List ℕ) (first n : ℕ) → c.kind ≢ Numbers → c.kind ≢ Flags → first ≢ 0 → in_direction c.desc bs ≡ first ∷ in_direction c.desc (drop 1 bs) → n + 1 ≤ length bs
    → ((text more : List ℕ) → text_at (in_direction c.desc (drop 1 bs)) ≡ Some (text, more) → n + length more ≡ length (drop 1 bs)) → IsSkip c bs (n + 1)
skip_text c bs first n p q r f h known = record {
  within = h;
  past = λ v more g e.
      let asc = in_direction c.desc (drop 1 bs) in
      let known2 : (text more : List ℕ) → text_at asc ≡ Some (text, more) → n + length more ≡ length asc = λ text rest t. known text rest t ∙ sym (length_directed c.desc (drop 1 bs)) in
      past_front (column_code c v) more bs (n + 1) e
      (sym (text_len first n (length (first ∷ asc)) asc (in_direction c.desc more) v c.kind p q r refl known2 g (marked c bs more asc v first f e)) ∙ sym (column_length c v));
}

-- one step of a text
with_first_some : (b : ℕ) (r : Option (List ℕ × List ℕ)) (text more : List ℕ) → with_first b r ≡ Some (text, more) → (left : List ℕ) × (r ≡ Some (left, more))
with_first_some b None text more h = absurd (let e : None ≡ Some (text, more) = h in cc)
with_first_some b (Some y) text more h = (y.0, ap (λ (m : List ℕ). Some (y.0, m)) (some_pair_parts (b ∷ y.0) text y.1 more h).1)

pub text_step : (d : Bool) (bs rest text more : List ℕ) (b : ℕ) → text_at (in_direction d bs) ≡ with_first b (text_at (in_direction d rest)) → text_at (in_direction d bs) ≡ Some (text, more) → (left : List ℕ) × (text_at (in_direction d rest) ≡ Some (left, more))
text_step d bs rest text more b e h = with_first_some b (text_at (in_direction d rest)) text more (sym e ∙ h)

-- several columns
abbrev pub Left : List KeyPart → List ℕ → List ℕ → Type 0
Left cs bs more = (vs : List Value) × AreFit cs vs × (bs ≡ tuple_code cs vs ++ more)
