use Rattle.std.proofs.Common.{◌≡◌, ◌++◌, ◌∷◌, [], get_or, refl}
use Rattle.span_records.specs.Layouts.{IsKeyField}
use Rattle.span_records.proofs.Zips.{one_more}
use Rattle.span_records.proofs.layout.key_fields.Goals as goal

pub loop-place-preserved : goal.loop-place-preserved
loop-place-preserved c =
    let grown : c.push.new.self.items ≡ c.loop-place.key.items ++ c.in_ok-key_field.field-0 ∷ [] = c.in_ok-push.ensures.items in
    rw grown (one_more (IsKeyField c.args.declared.now c.args.places.now) c.args.key_places.now c.loop-place.key.items c.loop-place.place-index 0 (get_or c.args.key_places.now c.loop-place.place-index 0) c.in_ok-key_field.field-0 c.loop-place-test.true refl c.loop-place.invariant c.in_ok-key_field.ensures.read)
