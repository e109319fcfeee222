use Rattle.std.proofs.Common.{◌∙◌, List, ap}
use denote.Ref.{Bor}
use Rattle.span_query.specs.Rows.{Row}
use Rattle.span_rows.specs.LentRows.{lent_rows}
use Rattle.span_groups.proofs.GroupSteps.{lent-push, firsts_by}
use Rattle.span_collected.proofs.lent.take_lent_row.Goals as goal

pub returns-clause-firsts : goal.returns-clause-firsts
returns-clause-firsts c have =
    let g = c.args.grouping.now in
    let old : List (Bor Row) = c.args.groups.now.firsts.items in
    let now : List (Bor Row) = c.push_if.new.items.items in
    firsts_by g c.in_ok-is_new.is_new (lent_rows old) (lent_rows now) c.args.index.now.keys c.take_row.new.index.keys c.args.row.now c.in_ok-is_new.ensures.keys c.in_ok-is_new.ensures.added
    (λ new. ap lent_rows (c.in_ok-push_if.ensures.added new) ∙ lent-push old c.args.row)
    (λ known. ap lent_rows (c.in_ok-push_if.ensures.same known)) have
