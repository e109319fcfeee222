use Rattle.std.proofs.Common.{ℤ, sym, subst, rules}
use Rattle.std.specs.Prelude.{FitsSigned}
use Rattle.std.specs.Int.{w64}
use Rattle.std.proofs.lemmas.Int.{to_z-of_z}
use Rattle.span_celltests.specs.CellTests.{IsNumberTestOf, comparison_at}
use Rattle.span_celltests.proofs.CellTests.{number_tested}
use Rattle.span_celltests.proofs.number_test.number_test.Goals as goal

pub returns : goal.returns
returns c =
    let n : ℤ = c.in_ok-number.number in
    let fits : FitsSigned w64 n = search rules in
    let P : ℤ → Type 0 = λ z.
    IsNumberTestOf c.args.schema.now c.args.table (comparison_at c.args.schema.now c.args.left.now c.args.comparison c.args.right.now)
    (record { cell = c.in_ok-cell.cell; comparison = c.args.comparison; number = z }) in
    subst P (sym (to_z-of_z w64 n fits))
    (number_tested c.args.schema.now c.args.table c.in-Column.place c.args.left.now c.args.right.now (record { cell = c.in_ok-cell.cell; comparison = c.args.comparison; number = n })
    c.in-Column.is c.in_ok-number.ensures c.in_ok-cell.ensures)
