-- Queries of one SELECT that groups all rows of a table.
use Rattle.std.specs.Prelude.{◌≡◌, ℕ, List, Some}
use Rattle.span_query.specs.declared.query.BoundQuery.{BoundQuery}
use Rattle.span_query.specs.declared.query.BoundQuery.TheOpen.{BoundQuery-F}
use Rattle.span_query.specs.declared.query.BoundQuery.TheViews.{out-BoundQuery}
use Rattle.span_query.specs.declared.query.Grouping.{Grouping}
use Rattle.span_query.specs.Groups.{groups}
use Rattle.span_query.specs.Meaning.{limit_rows, meaning_over}
use Rattle.span_query.specs.Rows.{Row, Rows, ◌>>=◌}
use Rattle.span_query.specs.Sorting.{sorted}
use Rattle.span_algebra.specs.BlockMeaning.{project_groups}

-- what is made of the rows of the groups: HAVING, the select list, and then the order and the limit of the query
abbrev pub rows_of_groups : {Q : Type 0} → BoundQuery-F Q → Grouping → List Row → Rows
rows_of_groups q g made = project_groups q.first g made >>= (λ rows. Some (limit_rows q.limit (sorted q.order rows)))

-- the query groups all rows of the first table, and means what is made of the groups
abbrev pub GroupsFirstTable : BoundQuery → Grouping → Type 0
GroupsFirstTable query g =
    (tables : ℕ → Rows) → meaning_over tables query ≡ (tables 1 >>= groups g >>= rows_of_groups (out-BoundQuery query) g)
