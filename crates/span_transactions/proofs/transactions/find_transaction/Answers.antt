use Rattle.std.proofs.Common.{refl, sym, ◌∙◌}
use Rattle.std.proofs.lemmas.Option.{slice_get_read}
use Rattle.std.proofs.lemmas.List.Quantifiers.{position-Some}
use Rattle.span_machine.specs.Machine.{is_transaction}
use Rattle.span_machine.proofs.Places.{place_by_position, none_by_position}
use Rattle.span_transactions.proofs.transactions.find_transaction.Goals as goal

pub returns-in-Some-clause-some : goal.returns-in-Some-clause-some
returns-in-Some-clause-some c =
    let test = is_transaction c.args.owner c.args.number in
    let x = c.index-transactions-at.result in
    let e = sym c.transaction_index.ensures ∙ c.in-Some.is in
    place_by_position test c.args.transactions.now c.in-Some.at x e
    (slice_get_read c.args.transactions.now _ c.in-Some.at x refl (position-Some test c.args.transactions.now c.in-Some.at x e).0 c.index-transactions-at.is)

pub returns-in-None-clause-none : goal.returns-in-None-clause-none
returns-in-None-clause-none c = none_by_position (is_transaction c.args.owner c.args.number) c.args.transactions.now (sym c.transaction_index.ensures ∙ c.in-None.is)
