use Rattle.std.proofs.Common.{chars}
use Rattle.span_pattern.proofs.Matching.{goes_after}
use Rattle.span_pattern.proofs.pattern.try_at_start.Goals as goal

pub returns-in-Some-split_first-clause-try_at_start : goal.returns-in-Some-split_first-clause-try_at_start
returns-in-Some-split_first-clause-try_at_start c =
    goes_after c.args.parts.now (chars c.args.text.now) c.in-Some.left.now c.in-Some-split_first.field-0-0.now c.in-Some-split_first.more.now (chars c.in-Some.rest.now) c.in-Some.ensures.found c.in-Some-split_first.ensures.cases.0
