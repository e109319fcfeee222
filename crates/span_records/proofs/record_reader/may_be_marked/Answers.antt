use Rattle.std.proofs.Common.{◌≡◌, ◌==◌, ℕ, List, [], ◌∷◌, Some, None, false, refl, ap, ◌∙◌, slice_get}
use Rattle.csv.specs.Reading.{strip_bom}
use Rattle.span_records.proofs.record_reader.may_be_marked.Goals as goal

unmarked : (text : List ℕ) (first : ℕ) → Some first ≡ slice_get text 0 → (first == 239) ≡ false → strip_bom text ≡ text
unfolding strip_bom
unmarked [] first is other = cc is
unmarked (a ∷ []) first is other = refl
unmarked (a ∷ b ∷ []) first is other = refl
unmarked (a ∷ b ∷ c ∷ rest) first is other =
    let same : (a == 239) ≡ false = ap (λ (x : ℕ). x == 239) (cc is) ∙ other in
    rw same refl

empty : (text : List ℕ) → None ≡ slice_get text 0 → strip_bom text ≡ text
unfolding strip_bom
empty [] is = refl
empty (a ∷ text) is = cc is

pub returns-in-Some : goal.returns-in-Some
returns-in-Some c = unmarked c.args.bytes.now c.in-Some.first.now c.in-Some.ensures.value

pub returns-in-None : goal.returns-in-None
returns-in-None c = λ e. empty c.args.bytes.now c.in-None.ensures.value
