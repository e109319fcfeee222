-- A query of one SELECT that groups all rows of a table, by the groups of these rows.
use Rattle.std.proofs.Common.{◌≡◌, ◌∙◌, List, [], Some, None, map, refl, ap}
use Rattle.span_query.specs.declared.query.Block.{Block}
use Rattle.span_query.specs.declared.query.BoundQuery.{BoundQuery}
use Rattle.span_query.specs.declared.query.BoundQuery.TheOpen.{BoundQuery-F}
use Rattle.span_query.specs.declared.query.BoundQuery.TheViews.{out-BoundQuery}
use Rattle.span_query.specs.declared.query.Grouping.{Grouping}
use Rattle.span_query.specs.Groups.{groups}
use Rattle.span_query.specs.Layers.{map_block}
use Rattle.span_query.specs.Meaning.{block_rows, limit_rows, meaning_over}
use Rattle.span_query.specs.Rows.{Rows, ◌>>=◌, append_results, concat_map}
use Rattle.span_query.specs.Sorting.{sorted}
use Rattle.span_query.proofs.Results.{append_results-nil}
use Rattle.span_algebra.specs.BlockMeaning.{GroupsTable, project_groups}
use Rattle.span_algebra.specs.GroupQueries.{GroupsFirstTable, rows_of_groups}
use Rattle.span_algebra.proofs.Blocks.{table_grouped}
use Rattle.span_algebra.proofs.Derived.{meaning_is}

pub groups_first : (query : BoundQuery) (g : Grouping) → (out-BoundQuery query).others ≡ [] → GroupsTable (out-BoundQuery query).first 1 g → GroupsFirstTable query g
groups_first query g none table tables =
    let q : BoundQuery-F BoundQuery = out-BoundQuery query in
    let f : BoundQuery → Rows = meaning_over tables in
    let b : Block BoundQuery = q.first in
    let first : Rows = block_rows tables (map_block f b) in
    let last : Rows → Rows = λ o. o >>= (λ rows. Some (limit_rows q.limit (sorted q.order rows))) in
    let made : Rows = tables 1 >>= groups g in
    meaning_is tables query
    ∙ ap (λ (bs : List (Block BoundQuery)). last (append_results first (concat_map (block_rows tables) (map (map_block f) bs)))) none
    ∙ ap last (append_results-nil first)
    ∙ ap last (table_grouped f tables b 1 g made table refl)
    ∙ after made
  where
    after : (o : Rows) → (o >>= project_groups (out-BoundQuery query).first g >>= (λ rows. Some (limit_rows (out-BoundQuery query).limit (sorted (out-BoundQuery query).order rows)))) ≡ (o >>= rows_of_groups (out-BoundQuery query) g)
    after None = refl
    after (Some rows) = refl
