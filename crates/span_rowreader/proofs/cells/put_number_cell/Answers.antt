use Rattle.std.proofs.Common.{ℤ, ◌<◌, ◌^◌, length, arith, sym, ap, ◌∙◌, set}
use Rattle.std.specs.Int.{w64}
use Rattle.std.proofs.lemmas.Int.{to_z-of_z}
use Rattle.std.proofs.lemmas.Option.{MatchOption-at_some}
use Rattle.span_value.specs.declared.value.Value.TheVariants.{Int}
use Rattle.span_rowreader.proofs.Placing.{cell_put}
use Rattle.span_rowreader.proofs.Numbers.{number_fits}
use Rattle.span_rowreader.proofs.cells.put_number_cell.Goals as goal

pub returns-in-Some : goal.returns-in-Some
returns-in-Some c =
    let old = c.args.row.now.items in
    let small : length c.args.bytes.now < 2 ^ 32 = omega (arith, c.requires.bytes) in
    let read = MatchOption-at_some _ _ _ c.in-Some.is c.cell_number.ensures in
    cell_put c.args.wanted.now c.args.kind c.args.place c.args.bytes.now old c.put_number.new.row.items (Int c.in-Some.number) 9 small
    (sym c.is_among.ensures ∙ c.if-not-is_among.false) read
    (c.put_number.ensures ∙ ap (λ (z : ℤ). set old c.args.place (Int z)) (to_z-of_z w64 c.in-Some.number (number_fits c.args.kind c.in-Some.number read.fits)))
