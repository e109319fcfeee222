use Rattle.std.proofs.Common.{◌≡◌, ◌∙◌, ap, sym, Some, rules}
use Rattle.span_query.specs.Sorting.{sorted}
use Rattle.span_query.specs.Meaning.{limit_rows}
use Rattle.span_rows.specs.LentRows.{lent_rows}
use Rattle.span_sorting.proofs.sort.order_rows.Goals as goal

pub returns : goal.returns
returns c =
    let limit = c.args.limit in
    let keys = c.args.keys.now in
    let all : lent_rows c.in_ok-all.all.items ≡ c.args.rows = search rules in
    let ordered : limit_rows limit (lent_rows c.in_ok-ordered.ordered.items) ≡ limit_rows limit (sorted keys (lent_rows c.in_ok-all.all.items)) = search rules in
    let copied : c.in_ok-copy_rows.field-0 ≡ limit_rows limit (lent_rows c.in_ok-ordered.ordered.items) = search rules in
    ap Some (ap (λ l. limit_rows limit (sorted keys l)) (sym all) ∙ sym ordered ∙ sym copied)
