use Rattle.std.proofs.Common.{sym}
use Rattle.span_script.proofs.Ends.{query_ends}
use Rattle.span_script.proofs.report.text_query.Goals as goal

pub returns-clause-end : goal.returns-clause-end
returns-clause-end c =
    rw (c.at_the_end.ensures.before, c.at_the_end.ensures.text)
    (query_ends c.in_ok-text.text.now c.args.line.now c.in_ok-command.command (sym c.in_ok-text.ensures) c.in_ok-command.ensures.1)
