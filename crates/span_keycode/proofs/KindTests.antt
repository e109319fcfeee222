-- The test of kinds, column by column.
use Rattle.std.proofs.Common.{◌≡◌, ℕ, ◌<◌, ◌≢◌, zero, suc, List, [], ◌∷◌, Bool, true, false, ◌&&◌, refl, sym, ◌∙◌, ap, subst, arith, length, drop, get_or}
use Rattle.std.proofs.Math.Bool.{and-false}
use Rattle.span_value.specs.declared.value.Value.{Value}
use Rattle.span_schema.specs.declared.layout.KeyPart.{KeyPart}
use Rattle.span_keycode.specs.Coding.{Fits, AreFit, are_of_kinds, is_of_kind}

pub kinds_differ : (cs : List KeyPart) (vs : List Value) → length cs ≢ length vs → are_of_kinds cs vs ≡ false
kinds_differ [] [] h = absurd (h refl)
kinds_differ [] (v ∷ vs) h = refl
kinds_differ (c ∷ cs) [] h = refl
kinds_differ (c ∷ cs) (v ∷ vs) h = ap (λ (b : Bool). is_of_kind c.kind v && b) (kinds_differ cs vs (λ e. h (ap suc e))) ∙ and-false (is_of_kind c.kind v)

pub kinds_step : (cs : List KeyPart) (vs : List Value) (i : ℕ) (c : KeyPart) (v : Value) → i < length cs → i < length vs → v ≡ get_or vs i v
    → are_of_kinds (drop i cs) (drop i vs) ≡ (is_of_kind (get_or cs i c).kind v && are_of_kinds (drop (suc i) cs) (drop (suc i) vs))
kinds_step [] vs i c v h k f = absurd (let less : i < 0 = h in omega arith)
kinds_step (a ∷ cs) [] i c v h k f = absurd (let less : i < 0 = k in omega arith)
kinds_step (a ∷ cs) (b ∷ vs) zero c v h k f = ap (λ (x : Value). is_of_kind a.kind x && are_of_kinds cs vs) (sym f)
kinds_step (a ∷ cs) (b ∷ vs) (suc i) c v h k f = kinds_step cs vs i c v (omega arith) (omega arith) f

pub fits_step : (cs : List KeyPart) (vs : List Value) (i : ℕ) (c : KeyPart) (v : Value) → i < length cs → i < length vs → v ≡ get_or vs i v
    → Fits (get_or cs i c).kind v → AreFit (drop (suc i) cs) (drop (suc i) vs) → AreFit (drop i cs) (drop i vs)
fits_step [] vs i c v h k f here below = absurd (let less : i < 0 = h in omega arith)
fits_step (a ∷ cs) [] i c v h k f here below = absurd (let less : i < 0 = k in omega arith)
fits_step (a ∷ cs) (b ∷ vs) zero c v h k f here below = (subst (λ (x : Value). Fits a.kind x) f here, below)
fits_step (a ∷ cs) (b ∷ vs) (suc i) c v h k f here below = fits_step cs vs i c v (omega arith) (omega arith) f here below

pub kinds_length : (cs : List KeyPart) (vs : List Value) → are_of_kinds cs vs ≡ true → length cs ≡ length vs
kinds_length [] [] h = refl
kinds_length [] (v ∷ vs) h = absurd (let e : false ≡ true = h in cc)
kinds_length (c ∷ cs) [] h = absurd (let e : false ≡ true = h in cc)
kinds_length (c ∷ cs) (v ∷ vs) h = ap suc (kinds_length cs vs (second (is_of_kind c.kind v) _ h))
  where
    second : (a b : Bool) → (a && b) ≡ true → b ≡ true
    second true b h = h
    second false b h = absurd (let e : false ≡ true = h in cc)
