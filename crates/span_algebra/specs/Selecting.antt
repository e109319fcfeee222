-- The select list at the rows where a condition is TRUE, row by row.
use Rattle.std.specs.Prelude.{List, [], Option, Some, if◌then◌else◌}
use Rattle.std.specs.Option.{option_map}
use Rattle.span_expr.specs.declared.expr.Expr.{Expr}
use Rattle.span_query.specs.Rows.{Row, Rows, ◌>>=◌, singleton, values}
use Rattle.span_rows.specs.Filtering.{holds_where}

-- what one row gives
abbrev pub project_row : Option Expr → List Expr → Row → Rows
project_row filter outputs row =
    holds_where filter row >>= (λ b. if b then option_map singleton (values outputs row) else Some [])
