use Rattle.std.proofs.Common.{rules, ◌+◌, ◌≤◌, ℕ, ℤ, List, false, arith, ap, get_or, length, subst}
use Rattle.std.specs.Prelude.{FitsSigned}
use Rattle.std.specs.Int.{w64}
use Rattle.std.proofs.lemmas.Int.{to_z-of_z}
use Rattle.span_value.specs.declared.value.Value.TheVariants.{Int}
use Rattle.span_query.specs.Rows.{Row}
use Rattle.span_rows.specs.LastRows.{IsPutInLast}
use Rattle.span_rowreader.specs.declared.key_numbers.KeyNumber.{KeyNumber}
use Rattle.span_rowreader.proofs.AddedCells.{NumbersPutAt, no_number_put, number_put, all_numbers_put}
use Rattle.span_rowreader.proofs.added.put_last_numbers.Goals as goal

abbrev nothing : KeyNumber
nothing = record { at = 0; desc = false; place = 0 }

pub loop-number-init : goal.loop-number-init
loop-number-init c = no_number_put c.args.width c.args.numbers.now.each c.args.key.now c.args.rows.now

pub loop-number-preserved : goal.loop-number-preserved
loop-number-preserved c =
    let items : List KeyNumber = c.as_slice-number-items.result.now in
    let i : ℕ = c.loop-number.number-index in
    let width : ℕ = c.args.width in
    let key : List ℕ = c.args.key.now in
    let old : List Row = c.args.rows.now in
    let mid : List Row = c.loop-number.rows in
    let new : List Row = c.put_number.new.self in
    let found : ℤ = c.number_at.result in
    let fits : FitsSigned w64 found = search rules in
    let Q : ℤ → Type 0 = λ z. IsPutInLast width (get_or items i nothing).place (Int z) mid new in
    let put : Q found = subst Q (to_z-of_z w64 found fits) c.put_number.ensures in
    let P : List KeyNumber → Type 0 = λ l. NumbersPutAt width l key old i mid → NumbersPutAt width l key old (i + 1) new in
    subst P c.as_slice-number-items.ensures (number_put width items key old mid new i nothing found c.loop-number-test.true c.number_at.ensures put) c.loop-number.invariant

pub returns : goal.returns
returns c =
    let stop = c.loop-number-test.false in
    let over : length c.args.numbers.now.each ≤ c.loop-number.number-index = omega (arith, ap (length {A = KeyNumber}) c.as_slice-number-items.ensures) in
    all_numbers_put c.args.width c.args.numbers.now.each c.args.key.now c.args.rows.now c.loop-number.rows c.loop-number.number-index over c.loop-number.invariant
