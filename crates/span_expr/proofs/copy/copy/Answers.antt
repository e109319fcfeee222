use Rattle.std.proofs.Common.{◌≡◌, [], ◌-◌, ◌∙◌, Ok, Err, arith, Result, IfOk}
use Rattle.span_expr.specs.declared.expr.Expr.{Expr}
use Rattle.span_expr.specs.Places.{moved, rank}
use Rattle.span_expr.proofs.Places.{moved-same}
use Rattle.span_expr.proofs.copy.copy.Goals as goal

stays : {E : Type 0} (result : Result Expr E) (e : Expr) → IfOk result (λ copy. copy ≡ moved (λ place. rank [] (place - 0)) e) → IfOk result (λ copy. copy ≡ e)
stays (Ok copy) e is = is ∙ moved-same (λ place. rank [] (place - 0)) (λ k. omega arith) e
stays (Err why) e is = is

pub returns : goal.returns
returns c = stays c.copy_moved.result c.args.expr.now c.copy_moved.ensures
