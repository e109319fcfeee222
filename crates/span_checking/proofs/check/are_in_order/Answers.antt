use Rattle.std.proofs.Common.{◌∙◌, ℕ, List, ap}
use Rattle.span_schema.specs.declared.table.Column.{Column}
use Rattle.span_checking.specs.InOrder.{are_cells_at}
use Rattle.span_checking.proofs.InOrder.{other_places_of}
use Rattle.span_checking.proofs.check.are_in_order.Goals as goal

pub returns : goal.returns
returns c =
    let tables = c.args.schema.now in
    let t = c.args.table.now in
    c.are_cells_at.ensures
    ∙ ap (λ (columns : List Column). are_cells_at columns c.other_places.result.now c.args.cells.now) c.as_slice.ensures
    ∙ ap (λ (places : List ℕ). are_cells_at t.columns places c.args.cells.now) (c.other_places.ensures ∙ other_places_of tables c.args.number t c.requires.table)
