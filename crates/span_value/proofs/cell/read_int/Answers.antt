use Rattle.std.proofs.Common.{ℤ, ◌≡◌, ◌∙◌, sym, ap, subst, Ok, true, false, rules, FitsSigned, w64, to_z, of_z}
use Rattle.std.specs.Fmt.{signed_decimal}
use Rattle.std.proofs.lemmas.Int.{to_z-of_z}
use Rattle.span_value.specs.declared.value.Value.TheVariants as value
use Rattle.span_value.specs.Cells.{is_shortest}
use Rattle.span_value.proofs.IntCells.{int_parsed, ok_is, shortest_read, cell_shortest}
use Rattle.span_value.proofs.cell.read_int.Goals as goal

pub returns-in_default-clause-read_all : goal.returns-in_default-clause-read_all
returns-in_default-clause-read_all c = λ n h. absurd (c.in_default.not-Ok n (int_parsed n c.args.text.now c.parse.result h.0 h.1 c.parse.ensures.value.0))

pub returns-then-is_shortest-clause-read : goal.returns-then-is_shortest-clause-read
returns-then-is_shortest-clause-read c =
    let short : is_shortest c.args.text.now ≡ true = ap is_shortest (sym c.as_bytes.ensures.value) ∙ sym c.is_shortest.ensures ∙ c.if-is_shortest.true in
    let fits : FitsSigned w64 c.in-Ok.number = search rules in
    let P : ℤ → Type 0 = λ v. FitsSigned w64 v × (signed_decimal v ≡ c.args.text.now) in
    subst P (sym (to_z-of_z w64 c.in-Ok.number fits)) (fits, shortest_read c.args.text.now c.in-Ok.number c.parse.result c.parse.ensures.value.0 c.in-Ok.is short)

pub returns-then-is_shortest-clause-read_all : goal.returns-then-is_shortest-clause-read_all
returns-then-is_shortest-clause-read_all c = λ n h.
    let same : c.in-Ok.number ≡ n = ok_is c.in-Ok.number n (sym c.in-Ok.is ∙ int_parsed n c.args.text.now c.parse.result h.0 h.1 c.parse.ensures.value.0) in
    ap (λ (v : ℤ). Ok (value.Int v)) (ap (λ (v : ℤ). to_z w64 (of_z w64 v)) same ∙ to_z-of_z w64 n h.0)

pub returns-else-is_shortest-clause-read_all : goal.returns-else-is_shortest-clause-read_all
returns-else-is_shortest-clause-read_all c = λ n h.
    let short : is_shortest c.args.text.now ≡ true = cell_shortest n c.args.text.now h.0 h.1 in
    let not_short : is_shortest c.args.text.now ≡ false = ap is_shortest (sym c.as_bytes.ensures.value) ∙ sym c.is_shortest.ensures ∙ c.if-is_shortest.false in
    let bad : false ≡ true = sym not_short ∙ short in
    absurd cc
