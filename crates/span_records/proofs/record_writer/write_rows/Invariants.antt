use Rattle.std.proofs.Common.{◌≡◌, ◌++◌, take, Some, false}
use Rattle.csv.specs.Writing.{writer_setup, writer_under, fields_written, has_written, text_written}
use Rattle.span_records.specs.Record.{row_records, settings}
use Rattle.span_records.proofs.record_writer.write_rows.Given as goal

-- after what was written before, the records of the rows so far were written
abbrev pub invariant-loop-at : goal.invariant-loop-at
invariant-loop-at l =
    (text_written (λ w. Some w.items) l.records ≡ Some ((writer_under l.fn.records).items ++ row_records (take l.at l.rows)))
    × (writer_setup l.records ≡ settings)
    × (fields_written l.records ≡ 0)
    × (has_written l.records ≡ false)
