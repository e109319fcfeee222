use Rattle.span_merging.proofs.PartRests.{codes_tie, first_codes_differ, second_codes_differ}
use Rattle.span_merging.proofs.parts.is_place_before.Goals as goal

pub returns-then-place-other : goal.returns-then-place-other
returns-then-place-other c =
    first_codes_differ c.args.keys.now c.args.are_exact c.args.rows.now c.args.other_rows.now c.args.place.now c.args.other.now c.requires.place c.requires.other
    c.if-place-other.true

pub returns-then-place-other-2 : goal.returns-then-place-other-2
returns-then-place-other-2 c =
    second_codes_differ c.args.keys.now c.args.are_exact c.args.rows.now c.args.other_rows.now c.args.place.now c.args.other.now c.requires.place c.requires.other
    c.if-place-other.false c.if-place-other-2.true

pub returns-then-are_exact : goal.returns-then-are_exact
returns-then-are_exact c =
    codes_tie c.args.keys.now c.args.are_exact c.args.rows.now c.args.other_rows.now c.args.place.now c.args.other.now c.requires.place c.requires.other
    c.if-place-other.false c.if-place-other-2.false c.if-are_exact.true
