use Rattle.span_tablescan.proofs.scan.keep_counted.Goals as goal

pub returns : goal.returns
returns c = c.in_ok-keep_where_due.ensures
