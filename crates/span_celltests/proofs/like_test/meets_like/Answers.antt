use Rattle.std.proofs.Common.{◌∙◌, List, ap}
use Rattle.std.specs.Prelude.{chars}
use Rattle.span_pattern.specs.declared.pattern.PatternPart.{PatternPart}
use Rattle.span_pattern.specs.Patterns.{fits}
use Rattle.span_celltests.proofs.CellTests.{like_met, like_unmet}
use Rattle.span_celltests.proofs.like_test.meets_like.Goals as goal

pub returns-in-None : goal.returns-in-None
returns-in-None c = like_unmet c.args.kinds.now c.args.bytes.now c.cell_place.result c.args.test.now c.requires.text c.cell_place.ensures.place c.in-None.ensures

pub returns-in-Some : goal.returns-in-Some
returns-in-Some c =
    like_met c.args.kinds.now c.args.bytes.now c.cell_place.result c.args.test.now c.in-Some.text.now c.fits_bytes.result c.requires.text c.cell_place.ensures.place c.in-Some.ensures
    (λ utf8. c.fits_bytes.ensures utf8 ∙ ap (λ (parts : List PatternPart). fits parts (chars c.in-Some.text.now)) c.as_slice.ensures)
