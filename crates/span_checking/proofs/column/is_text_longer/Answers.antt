use Rattle.std.proofs.Common.{arith}
use Rattle.std.proofs.lemmas.Bool.Decides.{nat_tests}
use Rattle.span_checking.proofs.Chars.{few_chars}
use Rattle.span_checking.proofs.column.is_text_longer.Goals as goal

pub returns-then-text-most : goal.returns-then-text-most
returns-then-text-most c = let few = few_chars c.args.text.now in grind (arith, nat_tests, few)
