use Rattle.std.proofs.Common.{rules, ◌≡◌, ◌∙◌, ◌+◌, ◌<◌, ◌^◌, ◌++◌, [], ◌∷◌, List, ℕ, length, set, sym, ap, arith}
use Rattle.std.proofs.lemmas.List.{get_or-map}
use Rattle.span_merging.specs.declared.parts.PartPlace.{PartPlace}
use Rattle.span_classes.specs.declared.class_groups.ClassGroups.{ClassGroups}
use Rattle.span_classes.specs.Merging.{firsts_of, list_at, taken_at}
use Rattle.span_classes.proofs.Merging.{any_default}
use Rattle.span_classes.proofs.ByRows.{step_passed, step_taken}
use Rattle.span_classes.proofs.merge.take_where_next.Goals as goal

pub returns-in_ok-push : goal.returns-in_ok-push
returns-in_ok-push c = λ numbers is within by so_far.
    let classes : List ClassGroups = c.args.classes.now in
    let part : ℕ = c.args.part in
    let its : list_at (firsts_of classes) part ≡ c.index-classes-part.result.firsts.items =
    get_or-map (λ (x : ClassGroups). x.firsts.items) classes part c.index-classes-part.result [] c.requires.part ∙ ap (λ (x : ClassGroups). x.firsts.items) (sym c.index-classes-part.is) in
    let placed : c.index-place.result.now ≡ taken_at c.args.taken.now.items part =
    c.index-place.ensures ∙ any_default c.args.taken.now.items part c.index-place.result.now 0 (omega (arith, c.requires.part, c.requires.counted)) in
    step_taken numbers (firsts_of classes) c.args.taken.now.items c.args.places.now.items c.args.row part c.index-place.result.now c.index-classes-part.result.firsts.items
    is its placed within by so_far _ _ (c.is_next.ensures.next c.if-is_next.true) (search rules) (search rules)

pub returns-else-is_next : goal.returns-else-is_next
returns-else-is_next c = λ numbers is within by so_far.
    let classes : List ClassGroups = c.args.classes.now in
    let part : ℕ = c.args.part in
    let its : list_at (firsts_of classes) part ≡ c.index-classes-part.result.firsts.items =
    get_or-map (λ (x : ClassGroups). x.firsts.items) classes part c.index-classes-part.result [] c.requires.part ∙ ap (λ (x : ClassGroups). x.firsts.items) (sym c.index-classes-part.is) in
    let placed : c.index-place.result.now ≡ taken_at c.args.taken.now.items part =
    c.index-place.ensures ∙ any_default c.args.taken.now.items part c.index-place.result.now 0 (omega (arith, c.requires.part, c.requires.counted)) in
    step_passed numbers (firsts_of classes) c.args.taken.now.items c.args.places.now.items c.args.row part c.index-place.result.now c.index-classes-part.result.firsts.items
    is its placed within by so_far (c.is_next.ensures.other c.if-is_next.false)
