use Rattle.std.proofs.Common.{chars}
use Rattle.span_lexer.proofs.Digits.{both_digits}
use Rattle.span_lexer.proofs.literal_value.two_digits.Goals as goal

pub returns-clause-value : goal.returns-clause-value
returns-clause-value c =
    both_digits (chars c.args.text.now) c.in_ok-high.high (chars c.in_ok-high.rest.now) c.in_ok-low.low (chars c.in_ok-low.rest.now) c.digit.result c.digit-2.result c.in_ok-high.ensures.first c.in_ok-low.ensures.first c.digit.ensures.value c.digit-2.ensures.value
