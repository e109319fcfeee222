use Rattle.std.proofs.Common.{rules, ℕ, ℤ, List, ◌∙◌, ap, length, set, subst}
use Rattle.std.specs.Prelude.{FitsSigned}
use Rattle.std.specs.Int.{w64}
use Rattle.std.proofs.lemmas.Int.{to_z-of_z}
use Rattle.std.proofs.lemmas.Option.{MatchOption-at_some}
use Rattle.span_value.specs.declared.value.Value.{Value}
use Rattle.span_value.specs.declared.value.Value.TheVariants.{Int}
use Rattle.span_rows.specs.LastRows.{IsPlaceInLast}
use Rattle.span_rows.proofs.LastRow.{put_in_last}
use Rattle.span_rows.proofs.row_list.put_number_in_last.Goals as goal

pub returns-in-Some-clause-put : goal.returns-in-Some-clause-put
returns-in-Some-clause-put c =
    let values : List Value = c.args.values.now.items in
    let at : ℕ = c.in-Some.at in
    let P : List Value → Type 0 = λ l. IsPlaceInLast (length l) c.args.width c.args.place at in
    let here = subst P c.as_slice.ensures.value (MatchOption-at_some _ _ _ c.in-Some.is c.place_in_last.ensures) in
    let fits : FitsSigned w64 c.args.number = search rules in
    put_in_last c.args.ends.now values c.put_number_at.new.values.items c.args.width c.args.place at (Int c.args.number) c.requires here
    (c.put_number_at.ensures.items ∙ ap (λ (z : ℤ). set values at (Int z)) (to_z-of_z w64 c.args.number fits))
