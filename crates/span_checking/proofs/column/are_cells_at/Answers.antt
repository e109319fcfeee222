use Rattle.std.proofs.Common.{◌≡◌, ◌<◌, ◌&&◌, suc, Bool, true, sym, ◌∙◌, ap, arith, length, drop, get_or, add-one}
use Rattle.std.specs.Prelude.{Option, slice_get}
use Rattle.span_schema.specs.declared.table.Column.{Column}
use Rattle.span_checking.specs.InOrder.{is_cell_of, are_cells_at}
use Rattle.span_checking.proofs.InOrder.{cells_differ, cells_step}
use Rattle.span_checking.proofs.column.are_cells_at.Goals as goal

pub returns-then-places-cells : goal.returns-then-places-cells
returns-then-places-cells c = sym (cells_differ c.args.columns.now c.args.places.now c.args.cells.now c.if-places-cells.true)

pub loop-i-preserved : goal.loop-i-preserved
loop-i-preserved c =
    let columns = c.args.columns.now in
    let ps = c.args.places.now in
    let xs = c.args.cells.now in
    let i = c.loop-i.i in
    let within : i < length xs = omega arith in
    let x = c.index-cells-i.result in
    let step = cells_step columns ps xs i 0 x c.loop-i-test.true within c.index-cells-i.is in
    let is : is_cell_of (slice_get columns (get_or ps i 0)) x ≡ true =
    ap (λ (o : Option Column). is_cell_of o x) (sym c.column_at.ensures) ∙ sym c.is_cell_of.ensures ∙ c.if-not-is_cell_of.false in
    rw (add-one i) (c.loop-i.invariant ∙ step ∙ ap (λ (b : Bool). b && are_cells_at columns (drop (suc i) ps) (drop (suc i) xs)) is)
