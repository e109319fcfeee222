use Rattle.std.proofs.Common.{◌≡◌, ◌∙◌, ◌++◌, [], List, Result, ap, flat_map, sym, subst}
use Rattle.std.specs.Prelude.{Vec}
use Rattle.std.specs.declared.alloc.AllocError.{AllocError}
use Rattle.std.specs.declared.alloc.Global.{Global}
use Rattle.std.specs.List.{AllByRecursion}
use Rattle.std.specs.Vec.Iter.{into_iter_items}
use Rattle.std.proofs.lemmas.List.{append-nil, nil_from_length}
use Rattle.span_merging.specs.declared.parts.PartPlace.{PartPlace}
use Rattle.span_merging.specs.PartRests.{AreRestsMerged}
use Rattle.span_merging.proofs.PartRanges.{WasMade, places_made, ranges_joined}
use Rattle.span_merging.proofs.part_ranges.join_places.Goals as goal

pub returns : goal.returns
returns c keys rests ranges are merged =
    let done : into_iter_items c.loop-made_places.made_places-iterator ≡ [] = nil_from_length _ (sym c.loop-made_places.invariant.count ∙ c.in-None.ensures.steps.0) in
    let all : ◌≡◌ {A = List (Result (Vec PartPlace Global) AllocError)} c.loop-made_places.yielded c.args.made.items =
    sym (append-nil c.loop-made_places.yielded) ∙ ap (λ l. c.loop-made_places.yielded ++ l) (sym done) ∙ c.loop-made_places.invariant.rest in
    subst (AreRestsMerged keys rests) (sym (c.loop-made_places.invariant.are ∙ ap (flat_map places_made) all))
    (ranges_joined keys rests ranges c.args.made.items are merged (subst (AllByRecursion WasMade) all c.loop-made_places.invariant.made))
