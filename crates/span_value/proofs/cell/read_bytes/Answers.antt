use Rattle.std.proofs.Common.{List, ℕ, ◌<◌, ◌≡◌, [], ◌++◌, take, drop, true, ◌∷◌, ◌∙◌, sym, ap, subst, inl, Ok, Some, None}
use Rattle.std.specs.Prelude.{nat_eq}
use Rattle.std.specs.List.{All}
use Rattle.std.specs.Cmp.Lexicographic.{pointwise, same_text}
use Rattle.std.proofs.lemmas.List.{take-append-drop}
use Rattle.span_value.specs.Cells.{hex_pairs, decoded_hex}
use Rattle.span_value.specs.declared.value.Value.TheVariants as value
use Rattle.span_value.proofs.CellTexts.{unhexed_is, unhexed_is_not, hexed_unhexed}
use Rattle.span_value.proofs.cell.read_bytes.Goals as goal

front_is : (text digits : List ℕ) → pointwise nat_eq (take 2 text) (92 ∷ 120 ∷ []) ≡ true → digits ≡ drop 2 text → text ≡ 92 ∷ 120 ∷ digits
front_is text digits e h =
    sym (take-append-drop 2 text) ∙ ap (λ (w : List ℕ). w ++ drop 2 text) (same_text (take 2 text) (92 ∷ 120 ∷ []) (sym e)) ∙ ap (λ (w : List ℕ). 92 ∷ 120 ∷ w) (sym h)

digits_are : (text digits w : List ℕ) → text ≡ 92 ∷ 120 ∷ digits → 92 ∷ 120 ∷ w ≡ text → w ≡ digits
digits_are text digits w e h = let t : 92 ∷ 120 ∷ w ≡ 92 ∷ 120 ∷ digits = h ∙ e in cc

pub returns-in-Some-2-clause-read : goal.returns-in-Some-2-clause-read
returns-in-Some-2-clause-read c =
    let front : c.args.text.now ≡ 92 ∷ 120 ∷ c.in-Some.digits.now = sym c.as_bytes.ensures.value ∙ front_is c.as_bytes.result.now c.in-Some.digits.now c.in-Some.ensures.cases.0 c.in-Some.ensures.cases.1 in
    let found : decoded_hex c.in-Some.digits.now ≡ Some c.in-Some-2.bytes.items = rw c.in-Some-2.is at c.in_ok-bytes.ensures in
    let read = hexed_unhexed c.in-Some.digits.now c.in-Some-2.bytes.items found in
    let P : List ℕ → Type 0 = λ w. All (λ b. b < 256) w × (92 ∷ 120 ∷ hex_pairs w ≡ c.args.text.now) in
    subst P (sym c.from_vec.ensures) (read.1, ap (λ (w : List ℕ). 92 ∷ 120 ∷ w) read.0 ∙ sym front)

pub returns-in-Some-2-clause-read_all : goal.returns-in-Some-2-clause-read_all
returns-in-Some-2-clause-read_all c = λ w h.
    let front : c.args.text.now ≡ 92 ∷ 120 ∷ c.in-Some.digits.now = sym c.as_bytes.ensures.value ∙ front_is c.as_bytes.result.now c.in-Some.digits.now c.in-Some.ensures.cases.0 c.in-Some.ensures.cases.1 in
    let found : decoded_hex c.in-Some.digits.now ≡ Some c.in-Some-2.bytes.items = rw c.in-Some-2.is at c.in_ok-bytes.ensures in
    inl (ap (λ (v : List ℕ). Ok (value.Bytes v)) (c.from_vec.ensures ∙ unhexed_is c.in-Some.digits.now c.in-Some-2.bytes.items w found h.0 (digits_are c.args.text.now c.in-Some.digits.now (hex_pairs w) front h.1)))

pub returns-in-None-clause-read_all : goal.returns-in-None-clause-read_all
returns-in-None-clause-read_all c = λ w h.
    let front : c.args.text.now ≡ 92 ∷ 120 ∷ c.in-Some.digits.now = sym c.as_bytes.ensures.value ∙ front_is c.as_bytes.result.now c.in-Some.digits.now c.in-Some.ensures.cases.0 c.in-Some.ensures.cases.1 in
    let none : decoded_hex c.in-Some.digits.now ≡ None = rw c.in-None.is at c.in_ok-bytes.ensures in
    absurd (unhexed_is_not c.in-Some.digits.now w none h.0 (digits_are c.args.text.now c.in-Some.digits.now (hex_pairs w) front h.1))
