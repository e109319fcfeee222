use Rattle.std.proofs.Common.{◌≡◌, []}
use Rattle.std.proofs.lemmas.List.{nil_from_length}
use Rattle.span_checking.proofs.Batched.{left_out}
use Rattle.span_checking.proofs.batch_check.add_cell.Goals as goal

pub returns-in_default-clause-added : goal.returns-in_default-clause-added
returns-in_default-clause-added c = λ others.
    let none : c.args.names.now ≡ [] = nil_from_length c.args.names.now c.in_default.ensures.cases in
    left_out c.args.cells.now.items c.args.names.now c.args.cell others none
