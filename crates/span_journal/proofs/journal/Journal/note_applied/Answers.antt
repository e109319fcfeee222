use Rattle.std.proofs.Common.{◌≡◌, ℕ, ◌==◌, cond, length, List, Some, None, Option, refl, sym, ap, ◌∙◌, subst}
use Rattle.std.specs.Prelude.{slice_get, slice_set, remove, IfSome}
use Rattle.span_machine.specs.declared.transaction.OpenTransaction.{OpenTransaction}
use Rattle.span_machine.specs.declared.slot.SlotState.{SlotState}
use Rattle.span_machine.specs.Machine.{is_transaction, without_prepared}
use Rattle.span_machine.specs.Place.{IsPlace}
use Rattle.span_machine.specs.Pieces.{Journaled, machine_of}
use Rattle.span_transactions.specs.States.{decision_of}
use Rattle.span_journal.specs.Judged.{IsApplied}
use Rattle.span_journal.proofs.Stepping.{applied_noted}
use Rattle.span_journal.proofs.journal.Journal.note_applied.Goals as goal

pub returns-in-Some-committed-clause-ok : goal.returns-in-Some-committed-clause-ok
returns-in-Some-committed-clause-ok c =
    let j : Journaled = record { slots = c.self.inside.slots.items; transactions = c.self.inside.transactions.items; log = c.self.inside.log.items; queries = c.self.inside.queries.items; next_transaction = c.self.inside.next_transaction; next_query = c.self.inside.next_query } in
    let t = c.in-Some.transaction.now in
    let place : IsPlace (is_transaction c.args.owner c.args.txn) j.transactions c.in-Some.at t =
    subst (λ (l : List OpenTransaction). IsPlace (is_transaction c.args.owner c.args.txn) l c.in-Some.at t) c.as_slice.ensures.value c.in-Some.ensures.some in
    let slot_state = c.in-Some-slot_at.field-0.now in
    let here : slice_get j.slots c.args.slot ≡ Some slot_state = subst (λ (l : List SlotState). slice_get l c.args.slot ≡ Some slot_state) c.as_slice-2.ensures.value (sym c.in-Some-slot_at.ensures) in
    let committed = Some c.in-Some-committed.timestamp in
    let judged = c.in_ok-committed.ensures.accepted in
    let txs_are = subst (λ (o : Option OpenTransaction). IfSome o (λ u. c.end_prepared_at.new.transactions.items ≡ cond (length (without_prepared c.args.slot u).prepared == 0) (remove j.transactions c.in-Some.at) (slice_set j.transactions c.in-Some.at (without_prepared c.args.slot u)))) place.here c.end_prepared_at.ensures.after in
    let decision_reply : t.decision ≡ decision_of committed = judged.1 ∙ ap decision_of c.in-Some-committed.is in
    subst (λ (k : Journaled). IsApplied (machine_of k) c.args.owner c.args.txn c.args.slot c.args.interval committed (machine_of (record j { slots = c.raise_last.new.slots.items; transactions = c.end_prepared_at.new.transactions.items }))) c.self.view_is
    (applied_noted j c.args.owner c.args.txn c.args.slot c.in-Some.at c.args.interval t slot_state committed c.raise_last.new.slots.items c.end_prepared_at.new.transactions.items place here judged.0 decision_reply c.raise_last.ensures.after txs_are)

pub returns-in_default-committed-clause-ok : goal.returns-in_default-committed-clause-ok
returns-in_default-committed-clause-ok c =
    let j : Journaled = record { slots = c.self.inside.slots.items; transactions = c.self.inside.transactions.items; log = c.self.inside.log.items; queries = c.self.inside.queries.items; next_transaction = c.self.inside.next_transaction; next_query = c.self.inside.next_query } in
    let t = c.in-Some.transaction.now in
    let place : IsPlace (is_transaction c.args.owner c.args.txn) j.transactions c.in-Some.at t =
    subst (λ (l : List OpenTransaction). IsPlace (is_transaction c.args.owner c.args.txn) l c.in-Some.at t) c.as_slice.ensures.value c.in-Some.ensures.some in
    let slot_state = c.in-Some-slot_at.field-0.now in
    let here : slice_get j.slots c.args.slot ≡ Some slot_state = subst (λ (l : List SlotState). slice_get l c.args.slot ≡ Some slot_state) c.as_slice-2.ensures.value (sym c.in-Some-slot_at.ensures) in
    let committed : Option ℕ = None in
    let judged = c.in_ok-committed.ensures.accepted in
    let txs_are = subst (λ (o : Option OpenTransaction). IfSome o (λ u. c.end_prepared_at.new.transactions.items ≡ cond (length (without_prepared c.args.slot u).prepared == 0) (remove j.transactions c.in-Some.at) (slice_set j.transactions c.in-Some.at (without_prepared c.args.slot u)))) place.here c.end_prepared_at.ensures.after in
    let decision_reply : t.decision ≡ decision_of committed = judged.1 ∙ ap decision_of c.in_default-committed.is in
    subst (λ (o : Option ℕ). IsApplied (machine_of c.args.self.now) c.args.owner c.args.txn c.args.slot c.args.interval o (machine_of (record j { slots = c.self.inside.slots.items; transactions = c.end_prepared_at.new.transactions.items }))) (sym c.in_default-committed.is)
    (subst (λ (k : Journaled). IsApplied (machine_of k) c.args.owner c.args.txn c.args.slot c.args.interval committed (machine_of (record j { slots = c.self.inside.slots.items; transactions = c.end_prepared_at.new.transactions.items }))) c.self.view_is
    (applied_noted j c.args.owner c.args.txn c.args.slot c.in-Some.at c.args.interval t slot_state committed c.self.inside.slots.items c.end_prepared_at.new.transactions.items place here judged.0 decision_reply refl txs_are))
