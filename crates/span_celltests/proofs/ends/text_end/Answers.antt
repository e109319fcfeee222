use Rattle.std.proofs.Common.{arith}
use Rattle.span_celltests.proofs.CellEnds.{end_of_text}
use Rattle.span_celltests.proofs.ends.text_end.Goals as goal

pub returns-clause-end : goal.returns-clause-end
returns-clause-end c =
    end_of_text c.args.bytes.now c.after-code.result.now c.args.at c.coded_length.result c.after-code.ensures (omega (arith, c.requires.len)) c.args.kind c.requires.kind c.if-code-eq0.false c.coded_length.ensures
