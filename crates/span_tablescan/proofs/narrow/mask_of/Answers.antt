use Rattle.std.proofs.Common.{◌∙◌, sym}
use Rattle.span_tablescan.proofs.ScannedRows.{mask_between}
use Rattle.span_tablescan.proofs.narrow.mask_of.Goals as goal

pub returns : goal.returns
returns c =
    mask_between c.first_read-low.result c.end_of_reads-high.result c.args.width c.args.condition.now c.in_ok-mask_between.field-0.items (sym c.reads_within.ensures ∙ c.if-not-reads_within.false) c.in_ok-mask_between.ensures
