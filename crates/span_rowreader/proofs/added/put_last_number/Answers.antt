use Rattle.std.proofs.Common.{ℤ, ◌<◌, ◌^◌, length, arith, sym, ◌∙◌, subst}
use Rattle.std.specs.Int.{w64}
use Rattle.std.proofs.lemmas.Int.{to_z-of_z}
use Rattle.std.proofs.lemmas.Option.{MatchOption-at_some}
use Rattle.span_value.specs.declared.value.Value.TheVariants.{Int}
use Rattle.span_rows.specs.LastRows.{IsPutInLast}
use Rattle.span_rowreader.proofs.AddedCells.{last_cell_put}
use Rattle.span_rowreader.proofs.Numbers.{number_fits}
use Rattle.span_rowreader.proofs.added.put_last_number.Goals as goal

pub returns-in-Some : goal.returns-in-Some
returns-in-Some c =
    let old = c.args.rows.now in
    let new = c.put_number.new.self in
    let small : length c.args.bytes.now < 2 ^ 32 = omega (arith, c.requires.bytes) in
    let read = MatchOption-at_some _ _ _ c.in-Some.is c.cell_number.ensures in
    let Q : ℤ → Type 0 = λ z. IsPutInLast (length c.args.wanted.now) c.args.place (Int z) old new in
    last_cell_put c.args.wanted.now c.args.kind c.args.place c.args.bytes.now old new (Int c.in-Some.number) 9 small
    (sym c.is_among.ensures ∙ c.if-not-is_among.false) read
    (subst Q (to_z-of_z w64 c.in-Some.number (number_fits c.args.kind c.in-Some.number read.fits)) c.put_number.ensures)
