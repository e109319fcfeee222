-- A query that is not open yet.
use Rattle.std.specs.Prelude.{◌≡◌, List}
use Rattle.span_schema.specs.declared.table.Table.{Table}
use Rattle.span_planner.specs.Plannable.{IsPlannable}
use Rattle.span_machine.specs.Machine.{statement_plan}
use Rattle.span_openqueries.specs.declared.planned.PlannedQuery.{PlannedQuery}

-- its statement can be planned, and its plan is that of the statement
pub record IsPlanned (schema : List Table) (q : PlannedQuery) : Type 0 where
  pub plannable : IsPlannable schema q.statement
  pub plan : q.plan ≡ statement_plan schema q.statement
