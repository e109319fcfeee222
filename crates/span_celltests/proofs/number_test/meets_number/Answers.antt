use Rattle.std.proofs.Common.{drop, ◌≡◌, ◌∙◌, Option, ℤ, Some, None, false, refl, ap, subst, rules}
use Rattle.std.specs.Prelude.{FitsSigned}
use Rattle.std.specs.Int.{w64}
use Rattle.std.proofs.lemmas.Int.{to_z-of_z}
use Rattle.span_value.specs.declared.value.Value.TheVariants.{Int}
use Rattle.span_celltests.specs.CellTests.{IsNumberFound, meets_number}
use Rattle.span_celltests.proofs.CellTests.{number_met}
use Rattle.span_celltests.proofs.number_test.meets_number.Goals as goal

pub returns-in-None : goal.returns-in-None
returns-in-None c =
    let P : Option ℤ → Type 0 = IsNumberFound (drop c.cell_place.result c.args.bytes.now) in
    number_met c.args.kinds.now c.args.bytes.now c.cell_place.result c.args.test.now None false c.requires.number c.cell_place.ensures.place (subst P c.in-None.is c.number_at.ensures) refl

pub returns-in-Some : goal.returns-in-Some
returns-in-Some c =
    let P : Option ℤ → Type 0 = IsNumberFound (drop c.cell_place.result c.args.bytes.now) in
    let fits : FitsSigned w64 c.in-Some.number = search rules in
    let met : c.meets_value.result ≡ meets_number c.args.test.now (Int c.in-Some.number) = c.meets_value.ensures ∙ ap (λ (z : ℤ). meets_number c.args.test.now (Int z)) (to_z-of_z w64 c.in-Some.number fits) in
    number_met c.args.kinds.now c.args.bytes.now c.cell_place.result c.args.test.now (Some c.in-Some.number) c.meets_value.result c.requires.number c.cell_place.ensures.place (subst P c.in-Some.is c.number_at.ensures) met
