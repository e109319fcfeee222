use Rattle.std.proofs.Common.{◌==◌, not, rules}
use Rattle.std.proofs.lemmas.Fn.{filter_same}
use Rattle.span_machine.specs.declared.transaction.Prepared.{Prepared}
use Rattle.span_transactions.proofs.transaction.keep_other_slots.Goals as goal

pub returns-clause-items : goal.returns-clause-items
returns-clause-items c = filter_same _ (λ (p : Prepared). not (p.slot == c.args.slot)) _ (λ x b f' k. search rules) _ _ c.retain.ensures.filtered
