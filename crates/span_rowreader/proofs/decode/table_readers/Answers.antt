use Rattle.std.proofs.Common.{◌∙◌, ap, drop, arith}
use Rattle.span_rowreader.proofs.Entries.{all_next}
use Rattle.span_rowreader.proofs.ReadTables.{one_reader, all_readers}
use Rattle.span_rowreader.proofs.decode.table_readers.Goals as goal

pub loop-table-preserved : goal.loop-table-preserved
loop-table-preserved c = record {
  tables = all_next c.args.schema.now c.args.tables.now c.loop-table.table-index c.loop-table-test.true c.loop-table.invariant.tables;
  readers = one_reader c.args.schema.now c.args.mask.now c.args.tables.now c.loop-table.rest.now c.mask_after-rest.result.now c.loop-table.table-index c.loop-table.readers.items c.push.new.self.items
      c.in_ok-table_reader.field-0 c.loop-table-test.true
      (record { table = c.in_ok-table_reader.ensures.table; mask = c.in_ok-table_reader.ensures.mask; reader = c.in_ok-table_reader.ensures.reader })
      (c.mask_after-rest.ensures ∙ ap (λ w. drop w c.loop-table.rest.now) c.width_of.ensures) c.in_ok-push.ensures.items c.loop-table.invariant.readers;
}

pub returns : goal.returns
returns c =
    all_readers c.args.schema.now c.args.mask.now c.args.tables.now c.loop-table.rest.now c.loop-table.table-index c.loop-table.readers.items (let stop = c.loop-table-test.false in omega arith) c.loop-table.invariant.readers
