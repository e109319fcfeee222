use Rattle.std.proofs.Common.{rules, ◌≡◌, ◌∙◌, ◌&&◌, ℕ, Bool, List, Option, ap, refl, sym, subst}
use Rattle.std.specs.List.{AllByRecursion}
use Rattle.std.proofs.lemmas.Bool.{and_parts}
use Rattle.span_query.specs.Rows.{Row}
use Rattle.span_query.specs.Sorting.{comes_before, sorted}
use Rattle.span_rows.specs.RowPlaces.{rows_at}
use Rattle.span_sorting.specs.declared.placed.CodedPlace.{CodedPlace}
use Rattle.span_sorting.specs.Codes.{IsCodedAs, uncoded}
use Rattle.span_sorting.specs.Orders.{take_first}
use Rattle.span_sorting.specs.PlacesInOrder.{without_codes}
use Rattle.span_sorting.proofs.FirstOfParts.{first_of_parts}
use Rattle.span_sorting.proofs.Placing.{all_within, coded_weaker, places_weaker}
use Rattle.span_sorting.proofs.RowOrder.{rows_ranked}
use Rattle.span_sorting.proofs.Sorting.{sorted_again}
use Rattle.span_sorting.proofs.rows_with_order.lend_sorted.Goals as goal

pub lend_places-requires : goal.lend_places-requires
lend_places-requires c = all_within c.args.rows.now c.args.keys.now c.args.are_exact c.args.places.now c.requires.places.coded

pub returns-clause-rows : goal.returns-clause-rows
returns-clause-rows c =
    let keys = c.args.keys.now in
    let count : Option ℕ = c.args.count in
    let old : List Row = uncoded c.args.all.now.rows.items in
    let rows : List Row = c.args.rows.now in
    let lent : List Row = rows_at rows (without_codes c.args.places.now) in
    let same : take_first count (sorted keys lent) ≡ take_first count (sorted keys rows) =
    ap (λ (l : List Row). take_first count (sorted keys l)) c.requires.places.sorted ∙ ap (take_first count) (sorted_again (comes_before keys) (rows_ranked keys) rows) in
    ap (λ (l : List Row). take_first count (sorted keys l)) c.in_ok-lend_places.ensures.rows
    ∙ first_of_parts (comes_before keys) (rows_ranked keys) count old old lent rows refl same

pub returns-clause-coded : goal.returns-clause-coded
returns-clause-coded c =
    let keys = c.args.keys.now in
    let old : Bool = c.args.all.now.are_exact in
    let exact : Bool = c.args.are_exact in
    let both : Bool = old && exact in
    let places : List CodedPlace = c.args.places.now in
    let is : c.if-all.all ≡ both = search rules in
    subst (λ (b : Bool). AllByRecursion (IsCodedAs keys b) c.lend_places.new.all.items) (sym is)
    (c.in_ok-lend_places.ensures.coded keys both
    (places_weaker c.args.rows.now keys exact both places (λ e. (and_parts old exact e).1) c.requires.places.coded)
    (coded_weaker keys old both c.args.all.now.rows.items (λ e. (and_parts old exact e).0) c.requires.coded))
