use Rattle.std.proofs.Common.{◌-◌, length, ap, sym, ◌∙◌}
use Rattle.std.specs.Ordering.{is_eq}
use Rattle.span_maderows.proofs.MadeRows.{place_some}
use Rattle.span_maderows.proofs.ordered.row_in.Goals as goal

pub returns-in-Some : goal.returns-in-Some
returns-in-Some c =
    sym (place_some c.args.key.now c.args.rows.now (length c.args.rows.now - 1) c.in-Some.field-0.now.0 c.in-Some.field-0.now.1 c.requires (sym c.in-Some.ensures.value)
    (sym (c.is_eq.ensures ∙ ap is_eq c.cmp.ensures) ∙ c.if-is_eq.true))
