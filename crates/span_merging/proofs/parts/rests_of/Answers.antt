use Rattle.std.proofs.Common.{rules, ◌≡◌, ◌∙◌, ◌++◌, ◌∷◌, ◌<◌, ◌&&◌, [], Bool, List, None, ap, sym, subst, length, get_or, take}
use denote.Ref.{Bor}
use Rattle.std.specs.List.{AllByRecursion}
use Rattle.std.proofs.lemmas.Bool.{and_parts}
use Rattle.std.proofs.lemmas.List.{map_push, take_more}
use Rattle.span_value.proofs.Lists.{all_push}
use Rattle.span_query.specs.Rows.{Row}
use Rattle.span_query.specs.Sorting.{comes_before, sorted}
use Rattle.span_merging.specs.declared.parts.PartRest.{PartRest}
use Rattle.span_merging.specs.PartPlaces.{joined, lists}
use Rattle.span_merging.specs.PartRests.{IsRest, lists_of_rests, rest_rows, rows_of_rests}
use Rattle.span_sorting.specs.PlacesInOrder.{ArePlacesBy}
use Rattle.span_merging.proofs.PartPlaces.{joined_more, list_at, list_within}
use Rattle.span_merging.proofs.PartRests.{joined_rests_more, rest_of_places, rests_weaker}
use Rattle.span_sorting.proofs.RowOrder.{rows_ranked}
use Rattle.span_sorting.proofs.Sorting.{sorted_again, sorted_both}
use Rattle.span_merging.proofs.parts.rests_of.Goals as goal

pub loop-part-preserved : goal.loop-part-preserved
loop-part-preserved c =
    let keys = c.args.keys.now in
    let lent : List (Bor (List Row)) = c.args.parts.now in
    let parts : List (List Row) = lists lent in
    let i = c.loop-part.part-index in
    let x : Bor (List Row) = c.part-item.result in
    let old : Bool = c.loop-part.are_exact in
    let own : Bool = c.in-Some.is_exact in
    let both : Bool = old && own in
    let rests : List PartRest = c.loop-part.rests.items in
    let r : PartRest = record { rows = c.rows.result; places = c.in-Some.places } in
    let within : i < length lent = search rules in
    let is : x ≡ get_or lent i x = search rules in
    let listed : List Row = c.rows.result.now in
    let list : get_or parts i [] ≡ listed = list_at lent i x within is ∙ sym c.rows.ensures in
    let inside : i < length parts = list_within lent i within in
    let items : c.push.new.self.items ≡ rests ++ r ∷ [] = search rules in
    let is_both : c.if-are_exact.are_exact ≡ both = search rules in
    let are : ArePlacesBy keys None x.now own c.in-Some.places.now = search rules in
    let mine : ArePlacesBy keys None listed own c.in-Some.places.now = subst (λ (l : List Row). ArePlacesBy keys None l own c.in-Some.places.now) (sym c.rows.ensures) are in
    let same : sorted keys (rest_rows r) ≡ sorted keys (get_or parts i []) =
    ap (sorted keys) mine.sorted ∙ sorted_again (comes_before keys) (rows_ranked keys) listed ∙ ap (sorted keys) (sym list) in
    let rest : IsRest keys both r = rest_of_places keys own both r (λ e. (and_parts old own e).1) mine in
    record {
      listed = ap lists_of_rests items
          ∙ map_push (λ (s : PartRest). s.rows.now) rests r
          ∙ ap (λ (l : List (List Row)). l ++ listed ∷ []) c.loop-part.invariant.listed
          ∙ ap (λ (l : List Row). take i parts ++ l ∷ []) (sym list)
          ∙ sym (take_more parts i [] inside);
      rests = subst (λ (b : Bool). AllByRecursion (IsRest keys b) c.push.new.self.items) (sym is_both)
          (subst (AllByRecursion (IsRest keys both)) (sym items)
          (all_push (IsRest keys both) rests r (rests_weaker keys old both rests (λ e. (and_parts old own e).0) c.loop-part.invariant.rests) rest));
      rows = ap (λ (l : List PartRest). sorted keys (joined (rows_of_rests l))) items
          ∙ ap (sorted keys) (joined_rests_more rests r)
          ∙ sorted_both (comes_before keys) (rows_ranked keys) (joined (rows_of_rests rests)) (joined (take i parts)) (rest_rows r) (get_or parts i []) c.loop-part.invariant.rows same
          ∙ ap (sorted keys) (sym (joined_more parts i inside));
    }
