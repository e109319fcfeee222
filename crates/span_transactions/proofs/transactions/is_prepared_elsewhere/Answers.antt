use Rattle.std.proofs.Common.{◌==◌, not, List, ap, ◌∙◌}
use Rattle.std.specs.List.{list_any}
use Rattle.span_machine.specs.declared.transaction.Prepared.{Prepared}
use Rattle.span_transactions.proofs.PreparedOnce.{any_left}
use Rattle.span_transactions.proofs.transactions.is_prepared_elsewhere.Goals as goal

pub returns : goal.returns
returns c =
    c.has_other_slot.ensures ∙ ap (λ (l : List Prepared). list_any (λ p. not (p.slot == c.args.slot)) l) c.preparations.ensures ∙ any_left c.args.slot c.args.transaction.now.prepared
