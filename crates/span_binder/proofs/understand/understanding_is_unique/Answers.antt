use Rattle.span_binder.proofs.Uniqueness.{one_meaning}
use Rattle.span_binder.proofs.understand.understanding_is_unique.Goals as goal

pub returns : goal.returns
returns c = λ schema text params u v a b. one_meaning text schema params u v a b
