use Rattle.std.proofs.Common.{rules, ◌≡◌, ◌++◌, ◌∷◌, ◌==◌, [], true, false, get_or, take}
use Rattle.std.specs.List.{list_any, AllZip}
use Rattle.span_records.specs.Layouts.{IsCellField, outside_key}
use Rattle.span_records.proofs.Zips.{push}
use Rattle.span_records.proofs.Outside.{outside_more, outside_same}
use Rattle.span_records.proofs.layout.cell_fields.Goals.{then-not-has_place+in_ok-cell_field+in_ok-push, else-not-has_place}
use Rattle.span_records.proofs.layout.cell_fields.Goals as goal

pub loop-at-preserved : goal.loop-at-preserved
loop-at-preserved c =
    let are = AllZip (IsCellField c.args.declared.now) in
    let key = c.args.key_places.now in
    let places = c.args.places.now in
    let at = c.loop-at.at in
    let place = get_or places at 0 in
    elim c.if-not-has_place.branch [
      | then-not-has_place+in_ok-cell_field+in_ok-push w ↦
          let outside : list_any (λ p. p == place) key ≡ false = search rules in
          let grown : w.push.new.self.items ≡ c.loop-at.cells.items ++ w.in_ok-cell_field.field-0 ∷ [] = w.in_ok-push.ensures.items in
          let more = push (IsCellField c.args.declared.now) (outside_key key (take at places)) c.loop-at.cells.items (at, place) w.in_ok-cell_field.field-0 c.loop-at.invariant w.in_ok-cell_field.ensures in
          rw (outside_more key places at c.loop-at-test.true outside, w.cells-is, grown) more
      | else-not-has_place w ↦
          let inside : list_any (λ p. p == place) key ≡ true = search rules in
          rw (outside_same key places at c.loop-at-test.true inside, w.cells-is) c.loop-at.invariant
    ]
