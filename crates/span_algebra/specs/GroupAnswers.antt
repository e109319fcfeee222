-- Queries that answer the groups of all rows of a table as they are.
use Rattle.std.specs.Prelude.{◌≡◌, ℕ, false, List, [], None, Some}
use Rattle.span_expr.specs.declared.expr.Expr.{Expr}
use Rattle.span_query.specs.declared.query.BoundQuery.{BoundQuery}
use Rattle.span_query.specs.declared.query.BoundQuery.TheOpen.{BoundQuery-F}
use Rattle.span_query.specs.declared.query.Grouping.{Grouping}
use Rattle.span_query.specs.Groups.{groups}
use Rattle.span_query.specs.Meaning.{meaning_over}
use Rattle.span_query.specs.Rows.{Row, Rows, ◌>>=◌, project_rows}

-- the query is one SELECT, all rows of which it answers as they come
pub record IsOneBlock {Q : Type 0} (q : BoundQuery-F Q) : Type 0 where
  pub others : q.others ≡ []
  pub order : q.order ≡ []
  pub limit : q.limit ≡ None
  pub distinct : q.first.is_distinct ≡ false

-- the select list at the rows of the groups is these rows
abbrev pub TakesGroups : Grouping → List Expr → Type 0
TakesGroups g outputs = (rows : List Row) → (groups g rows >>= project_rows outputs) ≡ groups g rows

-- the query means the groups of all rows of the first table
abbrev pub AnswersGroups : BoundQuery → Grouping → Type 0
AnswersGroups query g =
    (tables : ℕ → Rows) (rows : List Row) → tables 1 ≡ Some rows → meaning_over tables query ≡ groups g rows
