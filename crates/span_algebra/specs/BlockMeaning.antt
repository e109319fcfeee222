-- What a block makes of the rows of its FROM.
use Rattle.std.specs.Prelude.{◌≡◌, ℕ, true, List, [], None, Some}
use Rattle.span_query.specs.declared.query.Block.{Block}
use Rattle.span_query.specs.declared.query.BoundQuery.{BoundQuery}
use Rattle.span_query.specs.declared.query.Grouping.{Grouping}
use Rattle.span_query.specs.declared.query.Item.TheVariants as item
use Rattle.span_query.specs.Rows.{Row, Rows, ◌>>=◌, filter_where, project_rows}
use Rattle.span_query.specs.Groups.{group_rows}
use Rattle.span_query.specs.Layers.{map_block}
use Rattle.span_query.specs.Meaning.{block_rows, distinct_if, given, meaning_over}

-- the select list at the rows, or at those of the groups
abbrev pub outputs_of : {Q : Type 0} → Block Q → List Row → Rows
outputs_of b rows = filter_where b.filter rows >>= group_rows b.grouping >>= project_rows b.outputs

abbrev pub project_block : {Q : Type 0} → Block Q → List Row → Rows
project_block b rows = outputs_of b rows >>= (λ found. Some (distinct_if b.is_distinct found))

-- what the block makes of the rows of its groups
abbrev pub project_groups : {Q : Type 0} → Block Q → Grouping → List Row → Rows
project_groups b g groups =
    filter_where g.having groups >>= project_rows b.outputs >>= (λ found. Some (distinct_if b.is_distinct found))

-- the block is one that groups all rows of one table
pub record GroupsTable {Q : Type 0} (b : Block Q) (number : ℕ) (g : Grouping) : Type 0 where
  pub from : b.from ≡ item.Table number
  pub joins : b.joins ≡ []
  pub filter : b.filter ≡ None
  pub grouping : b.grouping ≡ Some g

-- the block is one that takes its select list at all rows of one table, each row of this once
pub record TakesDistinct {Q : Type 0} (b : Block Q) (number : ℕ) : Type 0 where
  pub from : b.from ≡ item.Table number
  pub joins : b.joins ≡ []
  pub filter : b.filter ≡ None
  pub grouping : b.grouping ≡ None
  pub distinct : b.is_distinct ≡ true

-- what a block means on tables, each of which may be a fault
abbrev pub block_meaning : List Rows → Block BoundQuery → Rows
block_meaning tables b = block_rows (given tables) (map_block (meaning_over (given tables)) b)
