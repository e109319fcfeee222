-- What a session is answered.
use Rattle.std.specs.Prelude.{◌≡◌, ℕ, List, Some, Ok, slice_get}
use Rattle.span_schema.specs.declared.table.Table.{Table}
use Rattle.span_mutate.specs.declared.row.TableRow.{TableRow}
use Rattle.span_params.specs.declared.params.Parameter.{Parameter}
use Rattle.span_query.specs.declared.query.BoundQuery.{BoundQuery}
use Rattle.span_query.specs.declared.query.Statement.{Statement}
use Rattle.span_query.specs.Rows.{Row}
use Rattle.span_columns.specs.declared.leaf.Leaf.{Leaf}
use Rattle.span_columns.specs.declared.leaf.Plan.{Plan}
use Rattle.span_planner.specs.Plannable.{IsPlannable}
use Rattle.span_binder.specs.Understands.{Understands}
use Rattle.span_machine.specs.declared.transaction.Commit.{Commit}
use Rattle.span_machine.specs.Machine.{statement_plan}
use Rattle.span_machine.specs.Meaning.{means}
use Rattle.span_machine.specs.Tables.{tables}

-- The rows are what the query text, with these parameters, means on the tables of these commits at s.
pub record IsAnswered (schema : List Table) (text : List ℕ) (params : List Parameter) (commits : List Commit) (s : ℕ)
    (rows : List Row) : Type 0 where
  pub statement : Statement
  pub understood : Understands schema text params (Ok statement)
  pub db : List TableRow
  pub made : tables schema commits s ≡ Ok db
  pub meant : means schema statement.query statement.leaves db ≡ Some rows

-- the plan is that of what the query text is understood as
pub record IsPlanOf (schema : List Table) (text : List ℕ) (params : List Parameter) (plan : Plan) : Type 0 where
  pub statement : Statement
  pub understood : Understands schema text params (Ok statement)
  pub plannable : IsPlannable schema statement
  pub is : plan ≡ statement_plan schema statement

-- the leaf is at this place in that plan, below this query
pub record IsLeafOf (schema : List Table) (text : List ℕ) (params : List Parameter) (place : ℕ) (leaf : Leaf)
    (top : BoundQuery) : Type 0 where
  pub statement : Statement
  pub understood : Understands schema text params (Ok statement)
  pub plannable : IsPlannable schema statement
  pub there : slice_get (statement_plan schema statement).leaves place ≡ Some leaf
  pub below : top ≡ (statement_plan schema statement).top
