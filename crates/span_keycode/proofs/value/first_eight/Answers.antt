use Rattle.span_keycode.proofs.Eights.{eight_turned}
use Rattle.span_keycode.proofs.value.first_eight.Goals as goal

pub returns-clause-code : goal.returns-clause-code
returns-clause-code c = eight_turned c.args.desc c.args.rest.now _ _ _ _ _ _ _ _ c.requires
    c.apply_direction-a.ensures c.apply_direction-b.ensures c.apply_direction-c.ensures c.apply_direction-d.ensures c.apply_direction-e.ensures c.apply_direction-f.ensures c.apply_direction-g.ensures c.apply_direction-h.ensures
