use Rattle.span_command.proofs.Refusing.{no_query, whole_no_bound, other_bound}
use Rattle.span_command.proofs.command.read_query.Goals as goal

pub returns-in_err-bound : goal.returns-in_err-bound
returns-in_err-bound c = rw c.from_residual.ensures (no_query c.args.words.now (whole_no_bound c.args.words.now c.in_err-bound.ensures))

pub returns-in_err-bound-2 : goal.returns-in_err-bound-2
returns-in_err-bound-2 c = rw c.from_residual-in_err-bound-2.ensures (no_query c.args.words.now
    (other_bound c.args.words.now c.in_ok-bound.bound.now c.in_ok-bound.text.now c.in_ok-bound.ensures.0 c.in_ok-bound.ensures.1 c.in_err-bound-2.ensures))
