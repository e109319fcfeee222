use Rattle.std.specs.Prelude.{◌≡◌, ◌++◌, List, Ok}
use Rattle.std.proofs.Common.{◌∙◌, ap, sym, subst}
use Rattle.span_query.specs.Rows.{Row}
use Rattle.span_tablescan.specs.Given.{IsEnoughOn}
use Rattle.span_tablescan.proofs.ScannedRows.{given_enough}
use Rattle.span_tablescan.proofs.scan.count.Goals as goal

pub returns-clause-ok : goal.returns-clause-ok
returns-clause-ok c =
    let schema = c.args.schema.now in
    let leaf = c.args.scan.now.leaf.now in
    let counted : List Row = c.in_ok-rows.rows in
    let same : c.new.result ≡ counted = c.new.ensures ∙ ap (λ (l : List Row). l ++ counted) c.in_ok-groups.ensures in
    subst (λ (l : List Row). IsEnoughOn schema leaf c.args.reduction.now c.args.snapshot (Ok l)) (sym same)
    (given_enough schema leaf c.args.reduction.now c.args.snapshot (Ok counted) c.in_ok-rows.ensures)
