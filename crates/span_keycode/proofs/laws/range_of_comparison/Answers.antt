use Rattle.span_keycode.proofs.FamilyRanges.{range_of_comparison}
use Rattle.span_keycode.proofs.laws.range_of_comparison.Goals as goal

pub returns : goal.returns
returns c = range_of_comparison
