use Rattle.std.proofs.Common.{rules, ◌≡◌, ◌∙◌, ◌+◌, ℕ, ℤ, List, false, ap, get_or, set, subst}
use Rattle.std.specs.Prelude.{FitsSigned}
use Rattle.std.specs.Int.{w64}
use Rattle.std.proofs.lemmas.Int.{to_z-of_z}
use Rattle.span_value.specs.declared.value.Value.{Value}
use Rattle.span_value.specs.declared.value.Value.TheVariants.{Int}
use Rattle.span_rowreader.specs.declared.key_numbers.KeyNumber.{KeyNumber}
use Rattle.span_rowreader.proofs.NumberPlaces.{NumbersLeftAt, number_next}
use Rattle.span_rowreader.proofs.key_numbers.put_numbers.Goals as goal

abbrev nothing : KeyNumber
nothing = record { at = 0; desc = false; place = 0 }

pub loop-number-preserved : goal.loop-number-preserved
loop-number-preserved c =
    let items : List KeyNumber = c.as_slice-number-items.result.now in
    let i : ℕ = c.loop-number.number-index in
    let key : List ℕ = c.args.key.now in
    let old : List Value = c.args.row.now.items in
    let row : List Value = c.loop-number.row.items in
    let new : List Value = c.put_number.new.row.items in
    let found : ℤ = c.number_at.result in
    let fits : FitsSigned w64 found = search rules in
    let put : new ≡ set row (get_or items i nothing).place (Int found) = c.put_number.ensures ∙ ap (λ (z : ℤ). set row (get_or items i nothing).place (Int z)) (to_z-of_z w64 found fits) in
    let P : List KeyNumber → Type 0 = λ l. NumbersLeftAt l key old i row → NumbersLeftAt l key old (i + 1) new in
    subst P c.as_slice-number-items.ensures (number_next items key old row new i nothing found c.loop-number-test.true c.number_at.ensures put) c.loop-number.invariant
