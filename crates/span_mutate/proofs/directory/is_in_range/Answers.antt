use Rattle.std.proofs.Common.{arith}
use Rattle.std.proofs.lemmas.Grind.{common_steps}
use Rattle.span_keycode.specs.Parts.{is_between}
use Rattle.span_mutate.proofs.directory.is_in_range.Goals as goal

pub returns-then-not-is_from : goal.returns-then-not-is_from
unfolding is_between
returns-then-not-is_from c = grind (arith, common_steps)

pub returns : goal.returns
unfolding is_between
returns c = grind (arith, common_steps)
