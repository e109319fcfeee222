use Rattle.std.proofs.Common.{chars}
use Rattle.span_lexer.proofs.Escapes.{more_by_escape, more_by_itself}
use Rattle.span_lexer.proofs.literal_value.read_char.Goals as goal

pub returns-then-c-eq92-clause-first : goal.returns-then-c-eq92-clause-first
returns-then-c-eq92-clause-first c =
    more_by_escape (chars c.args.text.now) c.in_ok-c.c (chars c.in_ok-c.after.now) c.read_after_backslash.result.0 (chars c.read_after_backslash.result.1.now) c.in_ok-c.ensures.first c.if-c-eq92.true c.read_after_backslash.ensures.value

pub returns-clause-first : goal.returns-clause-first
returns-clause-first c = more_by_itself (chars c.args.text.now) c.in_ok-c.c (chars c.in_ok-c.after.now) c.in_ok-c.ensures.first c.if-c-eq92.false
