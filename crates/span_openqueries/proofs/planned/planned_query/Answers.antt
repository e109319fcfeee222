use Rattle.std.proofs.Common.{◌≡◌, ◌∙◌, ap, subst, sym}
use Rattle.span_planner.specs.Plannable.{IsPlannable}
use Rattle.span_machine.specs.Machine.{statement_plan}
use Rattle.span_openqueries.proofs.planned.planned_query.Goals as goal

pub returns-clause-planned : goal.returns-clause-planned
returns-clause-planned c =
    let schema = c.args.schema.now in
    let made = c.in_ok-statement in
    let is : made.plan ≡ statement_plan schema c.args.statement = rw made.ensures.1 at c.plan_statement-plan.ensures in
    record {
      plannable = subst (IsPlannable schema) (sym made.ensures.0) c.requires;
      plan = is ∙ ap (statement_plan schema) (sym made.ensures.0);
    }
