use Rattle.std.proofs.Common.{◌≡◌, ◌-◌, ◌∙◌, Bool, List, Ok, Err, ap, arith, Result, IfOk}
use Rattle.span_expr.specs.declared.expr.Expr.{Expr}
use Rattle.span_expr.specs.Places.{moved, rank}
use Rattle.span_expr.proofs.Places.{moved-agree}
use Rattle.span_expr.proofs.copy.copy_among.Goals as goal

from_first : {E : Type 0} (result : Result Expr E) (ms : List Bool) (e : Expr) → IfOk result (λ copy. copy ≡ moved (λ place. rank ms (place - 0)) e) → IfOk result (λ copy. copy ≡ moved (rank ms) e)
from_first (Ok copy) ms e is = is ∙ moved-agree (λ place. rank ms (place - 0)) (rank ms) (λ k. (let same : k - 0 ≡ k = omega arith in ap (rank ms) same)) e
from_first (Err why) ms e is = is

pub returns : goal.returns
returns c = from_first c.copy_moved.result c.args.mask.now c.args.expr.now c.copy_moved.ensures
