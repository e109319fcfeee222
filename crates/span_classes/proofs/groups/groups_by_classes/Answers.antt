use Rattle.std.proofs.Common.{rules, ◌≡◌, ◌∙◌, ◌<◌, ℕ, List, Some, length, ap, sym, subst, arith}
use Rattle.std.specs.List.{AllByRecursion}
use Rattle.span_query.specs.Rows.{Row}
use Rattle.span_rows.specs.LentRows.{lent_rows}
use Rattle.span_merging.specs.declared.parts.PartPlace.{PartPlace}
use Rattle.span_merging.specs.PartPlaces.{IsPlaceIn, rows_in}
use Rattle.span_classes.specs.Classes.{AreAllClasses, AreClassNumbers, AreMade, rows_of}
use Rattle.span_classes.specs.declared.class_groups.ClassGroups.{ClassGroups}
use Rattle.span_classes.specs.Merging.{AreByClass, AreMerged, firsts_of}
use Rattle.span_classes.proofs.Together.{by_class, groups_together, not_empty, places_within}
use Rattle.span_classes.proofs.groups.groups_by_classes.Goals as goal

pub merge_classes-requires : goal.merge_classes-requires
merge_classes-requires g c =
    let by = c.args.grouping.now in
    let rows : List Row = lent_rows c.args.rows.now in
    let count : ℕ = length c.in_ok-made.made.items in
    let made : AreMade by rows c.args.threads c.in_ok-made.made.items = c.in_ok-made.ensures in
    let all : AreAllClasses by rows count c.in_ok-classes.classes.items =
    c.in_ok-classes.ensures by rows (subst (λ (n : ℕ). AreMade by rows n c.in_ok-made.made.items) (sym made.counted) made) in
    let keyed : 0 < length by.keys = not_empty by.keys c.is_empty.result c.is_empty.ensures (search rules) in
    let some : 0 < count = search rules in
    let numbered : AreClassNumbers c.args.threads by.keys rows c.in_ok-numbers.numbers.items = search rules in
    let known : AreClassNumbers count by.keys rows c.in_ok-numbers.numbers.items =
    subst (λ (n : ℕ). AreClassNumbers n by.keys rows c.in_ok-numbers.numbers.items) (sym made.counted) numbered in
    let ready : AreByClass c.in_ok-numbers.numbers.items (firsts_of c.in_ok-classes.classes.items) =
    by_class by rows count c.in_ok-classes.classes.items keyed some all c.in_ok-numbers.numbers.items known in
    let seen : c.as_slice-3.result.now ≡ c.in_ok-classes.classes.items = search rules in
    let seen_numbers : c.as_slice-4.result.now ≡ c.in_ok-numbers.numbers.items = search rules in
    subst (λ (l : List ClassGroups). AreByClass c.as_slice-4.result.now (firsts_of l)) (sym seen)
    (subst (λ (l : List ℕ). AreByClass l (firsts_of c.in_ok-classes.classes.items)) (sym seen_numbers) ready)

pub of_parts-requires : goal.of_parts-requires
of_parts-requires g c =
    let by = c.args.grouping.now in
    let rows : List Row = lent_rows c.args.rows.now in
    let count : ℕ = length c.in_ok-made.made.items in
    let made : AreMade by rows c.args.threads c.in_ok-made.made.items = c.in_ok-made.ensures in
    let all : AreAllClasses by rows count c.in_ok-classes.classes.items =
    c.in_ok-classes.ensures by rows (subst (λ (n : ℕ). AreMade by rows n c.in_ok-made.made.items) (sym made.counted) made) in
    let keyed : 0 < length by.keys = not_empty by.keys c.is_empty.result c.is_empty.ensures (search rules) in
    let some : 0 < count = search rules in
    let seen : c.as_slice-3.result.now ≡ c.in_ok-classes.classes.items = search rules in
    let merged : AreMerged (firsts_of c.in_ok-classes.classes.items) c.in_ok-places.places.items =
    subst (λ (l : List ClassGroups). AreMerged (firsts_of l) c.in_ok-places.places.items) seen c.in_ok-places.ensures in
    let lists : c.in_ok-lists.lists.items ≡ rows_of c.in_ok-classes.classes.items = search rules in
    subst (λ (ls : List (List Row)). AllByRecursion (IsPlaceIn ls) c.in_ok-places.places.items) (sym lists)
    (places_within by rows count c.in_ok-classes.classes.items keyed some all c.in_ok-places.places.items merged)

pub returns : goal.returns
returns g c =
    let by = c.args.grouping.now in
    let rows : List Row = lent_rows c.args.rows.now in
    let count : ℕ = length c.in_ok-made.made.items in
    let made : AreMade by rows c.args.threads c.in_ok-made.made.items = c.in_ok-made.ensures in
    let all : AreAllClasses by rows count c.in_ok-classes.classes.items =
    c.in_ok-classes.ensures by rows (subst (λ (n : ℕ). AreMade by rows n c.in_ok-made.made.items) (sym made.counted) made) in
    let keyed : 0 < length by.keys = not_empty by.keys c.is_empty.result c.is_empty.ensures (search rules) in
    let some : 0 < count = search rules in
    let seen : c.as_slice-3.result.now ≡ c.in_ok-classes.classes.items = search rules in
    let merged : AreMerged (firsts_of c.in_ok-classes.classes.items) c.in_ok-places.places.items =
    subst (λ (l : List ClassGroups). AreMerged (firsts_of l) c.in_ok-places.places.items) seen c.in_ok-places.ensures in
    let lists : c.in_ok-lists.lists.items ≡ rows_of c.in_ok-classes.classes.items = search rules in
    let is : c.of_parts.result ≡ rows_in c.in_ok-lists.lists.items c.in_ok-places.places.items = search rules in
    groups_together by rows count c.in_ok-classes.classes.items keyed some all c.in_ok-places.places.items merged
    ∙ ap (λ (l : List Row). Some l) (ap (λ (ls : List (List Row)). rows_in ls c.in_ok-places.places.items) (sym lists) ∙ sym is)
