use Rattle.std.proofs.Common.{rules, ◌≡◌, ◌∙◌, List, get_or, length-set}
use Rattle.span_query.specs.Rows.{Row}
use Rattle.span_rowreader.specs.declared.reader.TableReader.{TableReader}
use Rattle.span_rowreader.proofs.ReadTables.{reader_at, added_next}
use Rattle.span_rowreader.proofs.decode.add_to_each.Goals as goal

pub add_own-requires : goal.add_own-requires
add_own-requires c =
    let r : TableReader = c.index-readers-at.result in
    let reader : r ≡ get_or c.args.readers.now c.loop-at.at r = search rules in
    reader_at c.args.schema.now c.args.readers.now c.loop-at.at r c.loop-at-test.true reader c.requires.readers

pub loop-at-preserved : goal.loop-at-preserved
loop-at-preserved c =
    let found : List (List Row) = c.loop-at.found.items in
    let at = c.loop-at.at in
    let r : TableReader = c.index-readers-at.result in
    let x : List Row = c.index_mut.result.now in
    let y : List Row = c.add_own.new.rows in
    let reader : r ≡ get_or c.args.readers.now at r = search rules in
    let is : x ≡ get_or found at x = search rules in
    record {
      lists = length-set found at y ∙ c.loop-at.invariant.lists;
      added = added_next c.args.schema.now c.args.readers.now c.args.entry.now.key.now c.args.entry.now.row.now c.args.found.now.items found at r x y c.loop-at-test.true c.requires.lists reader is c.in_ok-add_own.ensures c.loop-at.invariant.added;
    }
