use Rattle.span_scans.proofs.question.understand_and_plan.Goals as goal

pub returns-in-Ok-plan_statement-clause-plan : goal.returns-in-Ok-plan_statement-clause-plan
returns-in-Ok-plan_statement-clause-plan c = record { statement = c.in-Ok.statement; understood = c.in-Ok.ensures.understood; plannable = c.can_be_planned.ensures; is = c.in-Ok-plan_statement.ensures }
