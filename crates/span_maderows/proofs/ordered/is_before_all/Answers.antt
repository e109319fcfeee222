use Rattle.std.proofs.Common.{ap, sym, ◌∙◌}
use Rattle.std.specs.Ordering.{is_lt}
use Rattle.span_maderows.proofs.MadeRows.{first_cases}
use Rattle.span_maderows.proofs.ordered.is_before_all.Goals as goal

pub returns-in-Some : goal.returns-in-Some
returns-in-Some c = first_cases c.args.key.now c.args.rows.now c.in-Some.field-0.now c.requires (sym c.in-Some.ensures.value) c.is_lt.result (c.is_lt.ensures ∙ ap is_lt c.cmp.ensures)
