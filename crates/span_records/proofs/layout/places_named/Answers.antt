use Rattle.std.proofs.Common.{rules, ◌≡◌, ◌++◌, ◌∷◌, [], inr}
use Rattle.std.proofs.lemmas.Result.{err_from_is_err_and}
use Rattle.span_records.specs.Record.{pieces}
use Rattle.span_records.specs.Columns.{IsUnplaced}
use Rattle.span_schema.specs.Numbers.{columns_of}
use Rattle.span_records.proofs.Named.{Found, none_found, one_more, the_last, no_place}
use Rattle.span_records.proofs.layout.places_named.Goals as goal

pub loop-name-init : goal.loop-name-init
loop-name-init c = (c.utf8.names, rw c.new-places.ensures.items (none_found (columns_of c.args.schema.now c.args.table) c.args.names.now))

pub loop-name-preserved : goal.loop-name-preserved
loop-name-preserved c =
    let grown : c.push.new.self.items ≡ c.loop-name.places.items ++ c.in_ok-new_place.field-0 ∷ [] = c.in_ok-push.ensures.items in
    let more : Found (columns_of c.args.schema.now c.args.table) c.args.names.now (c.loop-name.places.items ++ c.in_ok-new_place.field-0 ∷ []) c.in-Some.following.now = one_more (columns_of c.args.schema.now c.args.table) c.args.names.now c.loop-name.places.items c.loop-name.rest.now c.in-Some.name.now c.in-Some.following.now c.in_ok-new_place.field-0 c.loop-name.invariant.1 c.in-Some.ensures.cut c.in_ok-new_place.ensures.place (rw c.as_slice.ensures.value at c.in_ok-new_place.ensures.new) in
    (search rules, rw grown more)

pub returns-clause-places : goal.returns-clause-places
returns-clause-places c =
    let grown : c.push-2.new.self.items ≡ c.loop-name.places.items ++ c.in_ok-new_place-2.field-0 ∷ [] = c.in_ok-push-2.ensures.items in
    rw grown (the_last (columns_of c.args.schema.now c.args.table) c.args.names.now c.loop-name.places.items c.loop-name.rest.now c.in_ok-new_place-2.field-0 c.loop-name.invariant.1 c.in_default.ensures.cut c.in_ok-new_place-2.ensures.place (rw c.as_slice-2.ensures.value at c.in_ok-new_place-2.ensures.new))

pub returns-in_err-new_place-clause-refusals : goal.returns-in_err-new_place-clause-refusals
returns-in_err-new_place-clause-refusals c =
    let unplaced : IsUnplaced (columns_of c.args.schema.now c.args.table) c.loop-name.places.items c.in-Some.name.now = rw c.as_slice.ensures.value at c.in_err-new_place.ensures.refusals.1 in
    let none = no_place (columns_of c.args.schema.now c.args.table) c.args.names.now c.loop-name.places.items c.loop-name.rest.now c.in-Some.name.now (pieces c.in-Some.following.now) c.loop-name.invariant.1 c.in-Some.ensures.cut unplaced in
    let known = err_from_is_err_and c.from_residual.result c.from_residual.ensures.1 in
    rw (known.1, known.2) (inr (c.in_err-new_place.ensures.refusals.0, none))

pub returns-in_err-new_place-2-clause-refusals : goal.returns-in_err-new_place-2-clause-refusals
returns-in_err-new_place-2-clause-refusals c =
    let unplaced : IsUnplaced (columns_of c.args.schema.now c.args.table) c.loop-name.places.items c.loop-name.rest.now = rw c.as_slice-2.ensures.value at c.in_err-new_place-2.ensures.refusals.1 in
    let none = no_place (columns_of c.args.schema.now c.args.table) c.args.names.now c.loop-name.places.items c.loop-name.rest.now c.loop-name.rest.now [] c.loop-name.invariant.1 c.in_default.ensures.cut unplaced in
    let known = err_from_is_err_and c.from_residual-in_err-new_place-2.result c.from_residual-in_err-new_place-2.ensures.1 in
    rw (known.1, known.2) (inr (c.in_err-new_place-2.ensures.refusals.0, none))
