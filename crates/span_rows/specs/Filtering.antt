-- Conditions at a row.
use Rattle.std.specs.Prelude.{Bool, true, Option, Some, None}
use Rattle.span_expr.specs.declared.expr.Expr.{Expr}
use Rattle.span_query.specs.Rows.{Row, Rows, OrFault, ◌>>=◌, keep_if, holds}

-- the row, where the condition is TRUE at it
abbrev pub filter_row : Expr → Row → Rows
filter_row on row = holds on row >>= (λ b. Some (keep_if row b))

-- whether the condition is TRUE at a row, where there may be no condition
abbrev pub holds_where : Option Expr → Row → OrFault Bool
holds_where None row = Some true
holds_where (Some e) row = holds e row
