-- What explains a query text.
use Rattle.std.specs.Prelude.{◌≡◌, ℕ, List, Ok}
use Rattle.span_schema.specs.declared.table.Table.{Table}
use Rattle.span_params.specs.declared.params.Parameter.{Parameter}
use Rattle.span_query.specs.declared.query.Statement.{Statement}
use Rattle.span_gather.specs.Explained.{explained}
use Rattle.span_machine.specs.Machine.{statement_plan}
use Rattle.span_binder.specs.Understands.{Understands}

-- the query text is understood as a statement, whose plan this text explains
pub record IsExplanation (schema : List Table) (query_text : List ℕ) (params : List Parameter) (text : List ℕ) : Type 0
  where
    pub statement : Statement
    pub understood : Understands schema query_text params (Ok statement)
    pub is : text ≡ explained schema (statement_plan schema statement)
