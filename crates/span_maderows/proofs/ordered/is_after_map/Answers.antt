use Rattle.std.proofs.Common.{ap, sym, ◌∙◌}
use Rattle.std.specs.Ordering.{is_lt}
use Rattle.std.proofs.lemmas.List.Elements.{recursion_from_All}
use Rattle.span_maderows.proofs.MadeRows.{after_greatest}
use Rattle.span_maderows.proofs.ordered.is_after_map.Goals as goal

pub returns-in-Some : goal.returns-in-Some
returns-in-Some c = (λ less.
    after_greatest c.args.key.now c.in-Some.last.now c.args.map.now.entries (sym (ap is_lt c.cmp.ensures) ∙ sym c.is_lt.ensures ∙ less)
    (recursion_from_All _ _ c.in-Some.ensures.all_up_to))
