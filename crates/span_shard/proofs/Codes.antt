-- Typed keys have codings.
use Rattle.std.proofs.Common.{◌≡◌, ℕ, Bool, true, ◌&&◌, cond, List, [], ◌∷◌, Option, Some, None, length, refl, ap, ◌∙◌}
use Rattle.std.specs.Prelude.{nat_lt}
use Rattle.std.proofs.lemmas.Bool.{le-ltb}
use Rattle.span_value.specs.declared.value.Value.{Value}
use Rattle.span_value.specs.declared.value.Value.TheVariants.{Null, Int, Str, Bytes, Bool as Flag}
use Rattle.span_value.specs.declared.value.Kind.{Kind}
use Rattle.span_value.specs.declared.value.Kind.TheVariants.{Int as Numbers, Str as Texts, Bytes as Strings, Bool as Flags}
use Rattle.span_value.specs.declared.refusal.Refusal.{Refusal}
use Rattle.span_value.specs.declared.refusal.Refusal.TheVariants.{WrongType, KeyTooLong}
use Rattle.span_schema.specs.declared.table.Table.{Table}
use Rattle.span_schema.specs.declared.layout.KeyPart.{KeyPart}
use Rattle.span_schema.specs.Fitting.{Fits, is_of_kind}
use Rattle.span_schema.specs.Numbers.{key_columns}
use Rattle.span_keycode.specs.Coding.{AreFit, are_of_kinds}
use Rattle.span_keycode.specs.Keys.{IsCodedKey, key_code, encode_cause}
use Rattle.span_keycode.specs.Limits.{longest_key}

fits_kind : (k : Kind) (v : Value) → Fits k v → is_of_kind k v ≡ true
fits_kind k Null h = refl
fits_kind Numbers (Int i) h = refl
fits_kind Texts (Str b) h = refl
fits_kind Strings (Bytes b) h = refl
fits_kind Flags (Flag b) h = refl
fits_kind Texts (Int i) h = absurd h
fits_kind Strings (Int i) h = absurd h
fits_kind Flags (Int i) h = absurd h
fits_kind Numbers (Str b) h = absurd h
fits_kind Strings (Str b) h = absurd h
fits_kind Flags (Str b) h = absurd h
fits_kind Numbers (Bytes b) h = absurd h
fits_kind Texts (Bytes b) h = absurd h
fits_kind Flags (Bytes b) h = absurd h
fits_kind Numbers (Flag b) h = absurd h
fits_kind Texts (Flag b) h = absurd h
fits_kind Strings (Flag b) h = absurd h

fit_kinds : (cs : List KeyPart) (vs : List Value) → AreFit cs vs → are_of_kinds cs vs ≡ true
fit_kinds [] [] h = refl
fit_kinds [] (v ∷ vs) h = absurd h
fit_kinds (c ∷ cs) [] h = absurd h
fit_kinds (c ∷ cs) (v ∷ vs) h = ap (λ (b : Bool). b && are_of_kinds cs vs) (fits_kind c.kind v h.0) ∙ fit_kinds cs vs h.1

-- nothing refuses a key that has a coding
pub coded_no_cause : (tables : List Table) (n : ℕ) (vs : List Value) → IsCodedKey tables n vs → encode_cause tables n vs ≡ None
coded_no_cause tables n vs k =
    ap (λ (b : Bool). cond b (cond (nat_lt longest_key (length (key_code tables n vs))) (Some KeyTooLong) None) (Some WrongType)) (fit_kinds (key_columns tables n) vs k.0.1)
    ∙ ap (λ (b : Bool). cond b (Some KeyTooLong) None) (le-ltb longest_key (length (key_code tables n vs)) k.1)

pub never_refused : (tables : List Table) (n : ℕ) (vs : List Value) (why : Refusal) → IsCodedKey tables n vs → encode_cause tables n vs ≡ Some why → ⊥
never_refused tables n vs why k e = let f : None ≡ Some why = sym_to (encode_cause tables n vs) (coded_no_cause tables n vs k) e in cc
  where
    sym_to : (o : Option Refusal) → o ≡ None → o ≡ Some why → None ≡ Some why
    sym_to o a b = cc
