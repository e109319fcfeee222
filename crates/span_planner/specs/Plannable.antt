-- Statements whose queries can be planned.
use Rattle.std.specs.Prelude.{◌≡◌, true, List}
use Rattle.std.specs.List.{AllByRecursion}
use Rattle.span_schema.specs.declared.table.Table.{Table}
use Rattle.span_schema.specs.Numbers.{IsTable}
use Rattle.span_query.specs.declared.query.Statement.{Statement}
use Rattle.span_planner.specs.Sizes.{is_sized}

-- the statement's tables are tables of the schema, and the sizes in its query are right
pub record IsPlannable (schema : List Table) (q : Statement) : Type 0 where
  pub tables : AllByRecursion (IsTable schema) q.leaves
  pub sized : is_sized schema q.leaves q.query ≡ true
