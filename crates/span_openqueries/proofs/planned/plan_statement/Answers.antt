use Rattle.std.proofs.Common.{◌≡◌, ℕ, List, IfOk, ap, subst}
use Rattle.span_planner.specs.Plans.{plan_of}
use Rattle.span_columns.specs.declared.leaf.Plan.{Plan}
use Rattle.span_openqueries.proofs.planned.plan_statement.Goals as goal

pub returns : goal.returns
returns c =
    subst (λ (p : Plan). IfOk c.plan.result (λ q. q ≡ p)) (ap (λ (ts : List ℕ). plan_of c.args.schema.now ts c.args.statement.now.query) c.as_slice.ensures) c.plan.ensures.plan
