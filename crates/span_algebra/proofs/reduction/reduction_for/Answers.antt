use Rattle.std.proofs.Common.{Some, ap}
use Rattle.span_algebra.proofs.SameMeaning.{same_rows}
use Rattle.span_algebra.proofs.reduction.reduction_for.Goals as goal

pub returns : goal.returns
returns c = λ rows all is. same_rows c.args.query.now c.args.place (Some rows) (Some all) (ap (λ l. Some l) is)
