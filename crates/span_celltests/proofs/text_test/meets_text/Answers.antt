use Rattle.std.proofs.Common.{Some, None, false, refl}
use Rattle.span_celltests.proofs.CellTests.{text_met}
use Rattle.span_celltests.proofs.text_test.meets_text.Goals as goal

pub returns-in-None : goal.returns-in-None
returns-in-None c =
    text_met c.args.kinds.now c.args.bytes.now c.cell_place.result c.args.test.now None false c.requires.text c.cell_place.ensures.place c.in-None.ensures refl

pub returns-in-Some : goal.returns-in-Some
returns-in-Some c =
    text_met c.args.kinds.now c.args.bytes.now c.cell_place.result c.args.test.now (Some c.in-Some.text.now) c.meets_value.result c.requires.text c.cell_place.ensures.place c.in-Some.ensures c.meets_value.ensures
