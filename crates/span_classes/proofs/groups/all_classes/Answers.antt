use Rattle.std.proofs.Common.{rules, ◌≡◌, ◌∙◌, ◌++◌, [], ◌∷◌, List, Ok, Result, ap, append_assoc, arith, length, map, sym}
use Rattle.std.specs.Vec.Iter.{into_iter_items}
use Rattle.std.proofs.lemmas.List.{append-nil, map-append, nil_from_length}
use Rattle.span_expr.specs.declared.cell.Failure.{Failure}
use Rattle.span_classes.specs.declared.class_groups.ClassGroups.{ClassGroups}
use Rattle.span_classes.proofs.Together.{classes_made}
use Rattle.span_classes.proofs.groups.all_classes.Goals as goal

pub loop-class-preserved : goal.loop-class-preserved
loop-class-preserved c =
    let next = c.in-Some.ensures.steps in
    let ok : ClassGroups → Result ClassGroups Failure = λ x. Ok x in
    let made : ClassGroups = c.in_ok-class.field-0 in
    let is : ◌≡◌ {A = Result ClassGroups Failure} c.in-Some.class (ok made) = search rules in
    let added : ◌≡◌ {A = List ClassGroups} c.add_class.new.classes.items (c.loop-class.classes.items ++ made ∷ []) = c.in_ok-add_class.ensures in
    record {
      are =
          ap (λ (r : Result ClassGroups Failure). c.loop-class.yielded ++ r ∷ []) is
          ∙ ap (λ (l : List (Result ClassGroups Failure)). l ++ ok made ∷ []) c.loop-class.invariant.are
          ∙ sym (map-append ok c.loop-class.classes.items (made ∷ []))
          ∙ ap (map ok) (sym added);
      rest = append_assoc c.loop-class.yielded (c.in-Some.class ∷ []) (into_iter_items c.next.new.self) ∙ ap (λ l. c.loop-class.yielded ++ l) (sym next.0) ∙ c.loop-class.invariant.rest;
      count = omega (arith, ap length next.0, next.1, c.loop-class.invariant.count);
    }

pub returns : goal.returns
returns c g rows =
    let done : into_iter_items c.loop-class.class-iterator ≡ [] = nil_from_length _ (sym c.loop-class.invariant.count ∙ c.in-None.ensures.steps.0) in
    let all : ◌≡◌ {A = List (Result ClassGroups Failure)} c.loop-class.yielded c.args.made.items =
    sym (append-nil c.loop-class.yielded) ∙ ap (λ l. c.loop-class.yielded ++ l) (sym done) ∙ c.loop-class.invariant.rest in
    classes_made g rows c.args.made.items c.loop-class.classes.items (sym all ∙ c.loop-class.invariant.are)
