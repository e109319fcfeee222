use Rattle.std.proofs.Common.{List, ℕ, ◌≡◌, ◌∙◌, ap, inl, Ok, Some, None}
use Rattle.std.specs.Prelude.{string_bytes}
use Rattle.span_value.specs.Cells.{escaped, unescaped}
use Rattle.span_value.specs.declared.value.Value.TheVariants as value
use Rattle.span_value.proofs.CellTexts.{halved_is, halved_is_not, doubled_halved, double_last, half_last}
use Rattle.span_value.proofs.cell.read_text.Goals as goal

pub returns-in-Some-clause-read : goal.returns-in-Some-clause-read
returns-in-Some-clause-read c =
    let found : unescaped c.args.text.now ≡ Some (string_bytes c.in-Some.unescaped) = rw c.in-Some.is at c.in_ok-unescaped.ensures in
    (tt, ap escaped c.from_string.ensures ∙ doubled_halved c.args.text.now (string_bytes c.in-Some.unescaped) found)

pub returns-in-Some-clause-read_all : goal.returns-in-Some-clause-read_all
returns-in-Some-clause-read_all c = λ w h.
    let found : unescaped c.args.text.now ≡ Some (string_bytes c.in-Some.unescaped) = rw c.in-Some.is at c.in_ok-unescaped.ensures in
    inl (ap (λ (v : List ℕ). Ok (value.Str v)) (c.from_string.ensures ∙ halved_is c.args.text.now (string_bytes c.in-Some.unescaped) w found h.1))

pub returns-in-None-clause-read_all : goal.returns-in-None-clause-read_all
returns-in-None-clause-read_all c = λ w h.
    let none : unescaped c.args.text.now ≡ None = rw c.in-None.is at c.in_ok-unescaped.ensures in
    absurd (halved_is_not c.args.text.now w none h.1)

pub returns-then-is_clean-clause-read : goal.returns-then-is_clean-clause-read
returns-then-is_clean-clause-read c =
    let clean = c.is_clean.ensures c.if-is_clean.true in
    (tt, ap escaped c.in_ok-from_str.ensures.bytes ∙ double_last c.args.text.now clean)

pub returns-then-is_clean-clause-read_all : goal.returns-then-is_clean-clause-read_all
returns-then-is_clean-clause-read_all c = λ w h.
    let clean = c.is_clean.ensures c.if-is_clean.true in
    inl (ap (λ (v : List ℕ). Ok (value.Str v)) (c.in_ok-from_str.ensures.bytes ∙ halved_is c.args.text.now c.args.text.now w (half_last c.args.text.now clean) h.1))
