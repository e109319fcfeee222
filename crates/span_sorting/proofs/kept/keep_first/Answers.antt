use Rattle.std.proofs.Common.{rules, ◌≡◌, ◌<◌, ℕ, List, length, sym, subst}
use Rattle.std.specs.List.{All}
use Rattle.std.proofs.lemmas.List.Elements.{All-map}
use Rattle.span_query.specs.Rows.{Row}
use Rattle.span_sorting.specs.declared.placed.CodedPlace.{CodedPlace}
use Rattle.span_sorting.specs.PlacesInOrder.{without_codes}
use Rattle.span_sorting.proofs.Placing.{all_within}
use Rattle.span_sorting.proofs.kept.keep_first.Goals as goal

pub keep_places-requires : goal.keep_places-requires
keep_places-requires c =
    let rows : List Row = c.args.rows.now in
    let found : List CodedPlace = c.in_ok-found.found.places.items in
    let inside : ℕ → Type 0 = λ place. place < length rows in
    let within : All inside (without_codes found) =
    All-map inside (λ (x : CodedPlace). x.place) found (all_within rows c.args.keys.now c.in_ok-found.found.are_exact found c.in_ok-found.ensures.coded) in
    let same : c.as_slice-2.result.now ≡ without_codes found = search rules in
    subst (All inside) (sym same) within
