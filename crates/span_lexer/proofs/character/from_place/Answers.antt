use Rattle.std.proofs.Common.{arith}
use Rattle.std.proofs.lemmas.Grind.{common_steps}
use Rattle.span_lexer.proofs.character.from_place.Goals as goal

pub returns : goal.returns
returns c = grind (arith, common_steps)
