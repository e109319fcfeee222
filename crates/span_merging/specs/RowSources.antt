-- Where the rows of an answer are.
use Rattle.std.specs.Prelude.{List}
use Rattle.span_query.specs.Rows.{Row}
use Rattle.span_merging.specs.declared.answer_rows.RowSource.{RowSource}
use Rattle.span_merging.specs.declared.answer_rows.RowSource.TheVariants as source

abbrev pub source_rows : RowSource → List Row
source_rows (source.List rows) = rows
source_rows (source.Placed rows) = rows
