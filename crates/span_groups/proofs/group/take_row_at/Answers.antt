use Rattle.std.proofs.Common.{◌∙◌, ℕ, List, ap}
use Rattle.span_rows.specs.RowPlaces.{rows_at}
use Rattle.span_groups.proofs.GroupSteps.{rows_at-push, firsts_by}
use Rattle.span_groups.proofs.group.take_row_at.Goals as goal

pub returns-clause-firsts : goal.returns-clause-firsts
returns-clause-firsts c all there have =
    let g = c.args.grouping.now in
    let old : List ℕ = c.args.groups.now.firsts.items in
    let now : List ℕ = c.push_if.new.items.items in
    firsts_by g c.in_ok-is_new.is_new (rows_at all old) (rows_at all now) c.args.index.now.keys c.take_row.new.index.keys c.args.row.now c.in_ok-is_new.ensures.keys c.in_ok-is_new.ensures.added
    (λ new. ap (rows_at all) (c.in_ok-push_if.ensures.added new) ∙ rows_at-push all old c.args.place c.args.row.now there)
    (λ known. ap (rows_at all) (c.in_ok-push_if.ensures.same known)) have
