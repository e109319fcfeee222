use Rattle.std.proofs.Common.{rules, ◌≡◌, ◌∙◌, ◌⊎◌, List, Result, Ok, Some, None, ap, sym, subst}
use Rattle.std.specs.Prelude.{IfOk, IfSome, MatchResult}
use Rattle.span_value.specs.declared.refusal.Refusal.{Refusal}
use Rattle.span_value.specs.declared.refusal.Refusal.TheVariants.{ArithmeticFault, OutOfMemory}
use Rattle.span_query.specs.Rows.{Row}
use Rattle.span_merging.specs.PartPlaces.{rows_in}
use Rattle.span_fragment.specs.declared.piece.Piece.{Piece}
use Rattle.span_gather.specs.declared.rows.Rows.{Rows}
use Rattle.span_gather.specs.Gathered.{gathered}
use Rattle.span_gather.specs.InPlace.{ArePlacesOf, first_leaf, lists_of}
use Rattle.span_gather.proofs.finish.finish_taken.Goals as goal

pub returns-in_ok-rows_in_place-in_default-Some : goal.returns-in_ok-rows_in_place-in_default-Some
returns-in_ok-rows_in_place-in_default-Some g c =
    let leaves : List (List Piece) = c.args.leaves in
    let places = c.in_default-Some.places.items in
    let top = c.args.top.now in
    let kept = c.in_ok-leaves.ensures in
    let found : c.places_of_rows-found.result ≡ Ok (Some c.in_default-Some.places) = search (rules, kept) in
    let lent : c.as_slice.result.now ≡ leaves = search rules in
    let placed : ArePlacesOf leaves top places =
    subst (λ (ls : List (List Piece)). ArePlacesOf ls top places) lent (subst (λ r. IfOk r (λ f. IfSome f (λ ps. ArePlacesOf c.as_slice.result.now top ps.items))) found c.places_of_rows-found.ensures) in
    let rows : c.new.result.rows ≡ rows_in (lists_of (first_leaf leaves)) places = search rules in
    placed.rows ∙ ap (λ (l : List Row). Some l) (sym rows)

pub returns-in_default-None : goal.returns-in_default-None
returns-in_default-None g c =
    let leaves : List (List Piece) = c.args.leaves in
    let top = c.args.top.now in
    let given : c.give_after.result ≡ c.finish_in_threads-rows.result = search rules in
    let same : c.as_slice-in_default-None.result.now ≡ leaves = search rules in
    subst (λ (r : Result Rows Refusal). MatchResult r (λ rows. gathered leaves top ≡ Some rows.rows) (λ why. ((why ≡ ArithmeticFault) × (gathered leaves top ≡ None)) ⊎ (why ≡ OutOfMemory))) (sym given)
    (subst (λ (ls : List (List Piece)). MatchResult c.finish_in_threads-rows.result (λ rows. gathered ls top ≡ Some rows.rows) (λ why. ((why ≡ ArithmeticFault) × (gathered ls top ≡ None)) ⊎ (why ≡ OutOfMemory))) same c.finish_in_threads-rows.ensures)
