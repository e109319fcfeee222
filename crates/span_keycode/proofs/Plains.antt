-- Reading one value.
use Rattle.std.proofs.Common.{◌≡◌, ℕ, ◌≤◌, List, [], ◌∷◌, ◌++◌, Some, None, Bool, true, false, refl, sym, ◌∙◌, ap, subst, arith, length, drop}
use Rattle.std.specs.Str.{IsUtf8}
use Rattle.std.proofs.lemmas.Bool.Decides.{nat_tests}
use Rattle.std.proofs.lemmas.Option.{some_pair_parts, none-some}
use Rattle.span_value.specs.declared.value.Value.{Value}
use Rattle.span_value.specs.declared.value.Value.TheVariants.{Null, Int, Str, Bytes, Bool as Flag}
use Rattle.span_value.specs.declared.value.Kind.TheVariants.{Str as Texts, Bytes as Strings}
use Rattle.span_schema.specs.declared.layout.KeyPart.{KeyPart}
use Rattle.span_keycode.specs.Order.{flipped, complement}
use Rattle.span_keycode.specs.Coding.{escaped, plain, in_direction, column_code, Fits}
use Rattle.span_keycode.specs.Texts.{text_at}
use Rattle.span_keycode.specs.Reads.{IsNoPlain, IsPlain, IsNoColumn, IsColumn}
use Rattle.span_keycode.proofs.Reading.{text_again, text_spelled}
use Rattle.span_value.proofs.Lists.{cons_inj}
use Rattle.span_keycode.proofs.Comparing.{append_directed}

-- turning twice is nothing
flipped_twice : (b : ℕ) → flipped (flipped b) ≡ b
flipped_twice b = grind (arith, nat_tests)

complement_twice : (bs : List ℕ) → complement (complement bs) ≡ bs
complement_twice [] = refl
complement_twice (b ∷ bs) = joined (flipped_twice b) (complement_twice bs)
  where
    joined : {a c : ℕ} {xs ys : List ℕ} → a ≡ c → xs ≡ ys → a ∷ xs ≡ c ∷ ys
    joined {a} {c} {xs} {ys} e f = cc

pub turned_twice : (d : Bool) (bs : List ℕ) → in_direction d (in_direction d bs) ≡ bs
turned_twice false bs = refl
turned_twice true bs = complement_twice bs

pub column_found : (c : KeyPart) (bytes : List ℕ) (v : Value) (n : ℕ) → n ≤ length bytes → IsPlain c.kind (in_direction c.desc bytes) v (in_direction c.desc (drop n bytes)) → IsColumn c bytes v n
column_found c bytes v n h p = record {
  fits = p.fits;
  code = sym (turned_twice c.desc bytes) ∙ ap (in_direction c.desc) p.code ∙ append_directed c.desc (plain v) (in_direction c.desc (drop n bytes)) ∙ ap (λ (rest : List ℕ). column_code c v ++ rest) (turned_twice c.desc (drop n bytes));
  within = h;
}

pub column_missed : (c : KeyPart) (bytes : List ℕ) → IsNoPlain c.kind (in_direction c.desc bytes) → IsNoColumn c bytes
column_missed c bytes p = record {
  none = λ v rest f e. p.none v (in_direction c.desc rest) f
      (ap (in_direction c.desc) e ∙ append_directed c.desc (column_code c v) rest ∙ ap (λ (front : List ℕ). front ++ in_direction c.desc rest) (turned_twice c.desc (plain v)));
}

one_is_zero : (bs rest : List ℕ) → 1 ∷ bs ≡ 0 ∷ rest → ⊥
one_is_zero bs rest e = let g = (cons_inj 1 0 bs rest e).0 in omega arith

wrong_bytes : (bs : List ℕ) → text_at bs ≡ None → (v : Value) (rest : List ℕ) → Fits Strings v → 1 ∷ bs ≡ plain v ++ rest → ⊥
wrong_bytes bs h Null rest f e = one_is_zero bs rest e
wrong_bytes bs h (Bytes cs) rest f e = none-some (cs, rest) (sym h ∙ ap text_at (cons_inj 1 1 bs (escaped cs ++ rest) e).1 ∙ text_again cs rest)
wrong_bytes bs h (Int i) rest f e = absurd f
wrong_bytes bs h (Str cs) rest f e = absurd f
wrong_bytes bs h (Flag b) rest f e = absurd f

pub no_plain_bytes : (bs : List ℕ) → text_at bs ≡ None → IsNoPlain Strings (1 ∷ bs)
no_plain_bytes bs h = record { none = wrong_bytes bs h }

wrong_text : (bs : List ℕ) → text_at bs ≡ None → (v : Value) (rest : List ℕ) → Fits Texts v → 1 ∷ bs ≡ plain v ++ rest → ⊥
wrong_text bs h Null rest f e = one_is_zero bs rest e
wrong_text bs h (Str cs) rest f e = none-some (cs, rest) (sym h ∙ ap text_at (cons_inj 1 1 bs (escaped cs ++ rest) e).1 ∙ text_again cs rest)
wrong_text bs h (Int i) rest f e = absurd f
wrong_text bs h (Bytes cs) rest f e = absurd f
wrong_text bs h (Flag b) rest f e = absurd f

pub no_plain_text : (bs : List ℕ) → text_at bs ≡ None → IsNoPlain Texts (1 ∷ bs)
no_plain_text bs h = record { none = wrong_text bs h }

wrong_utf8 : (bs ts more : List ℕ) → text_at bs ≡ Some (ts, more) → (IsUtf8 ts → ⊥) → (v : Value) (rest : List ℕ) → Fits Texts v → 1 ∷ bs ≡ plain v ++ rest → ⊥
wrong_utf8 bs ts more h no_text Null rest f e = one_is_zero bs rest e
wrong_utf8 bs ts more h no_text (Str cs) rest f e =
    let text : cs ≡ ts = sym (some_pair_parts ts cs more rest (sym h ∙ ap text_at (cons_inj 1 1 bs (escaped cs ++ rest) e).1 ∙ text_again cs rest)).0 in
    let P : List ℕ → Type 0 = IsUtf8 in no_text (subst P text f.0)
wrong_utf8 bs ts more h no_text (Int i) rest f e = absurd f
wrong_utf8 bs ts more h no_text (Bytes cs) rest f e = absurd f
wrong_utf8 bs ts more h no_text (Flag b) rest f e = absurd f

pub no_plain_utf8 : (bs ts more : List ℕ) → text_at bs ≡ Some (ts, more) → (IsUtf8 ts → ⊥) → IsNoPlain Texts (1 ∷ bs)
no_plain_utf8 bs ts more h no_text = record { none = wrong_utf8 bs ts more h no_text }

-- what is read of a text
pub text_read : (bs ts more : List ℕ) → text_at bs ≡ Some (ts, more) → 1 ∷ bs ≡ (1 ∷ escaped ts) ++ more
text_read bs ts more h = ap (λ (xs : List ℕ). 1 ∷ xs) (text_spelled bs (ts, more) h)
