use Rattle.std.proofs.Common.{◌≡◌, not, false, List, Some, None, Option, sym, ap, ◌∙◌, subst}
use Rattle.std.specs.Prelude.{find, slice_get, slice_set, IfSome}
use Rattle.std.proofs.lemmas.Option.{slice_get_within}
use Rattle.std.proofs.lemmas.Bool.{not-true, not-false, or_parts}
use Rattle.span_machine.specs.declared.transaction.OpenTransaction.{OpenTransaction}
use Rattle.span_machine.specs.declared.slot.SlotState.{SlotState}
use Rattle.span_machine.specs.Machine.{is_transaction, is_undecided, is_prepared_at, add_prepared}
use Rattle.span_machine.specs.Place.{IsPlace}
use Rattle.span_machine.specs.Pieces.{Journaled, machine_of}
use Rattle.span_transactions.specs.States.{has_wrong_state}
use Rattle.span_journal.specs.Judged.{IsNoted}
use Rattle.span_journal.proofs.Preparing.{unnoted_transaction, unnoted_slot, unnoted_state, unnoted_late}
use Rattle.span_journal.proofs.Stepping.{noted}
use Rattle.span_journal.proofs.journal.Journal.note_prepared.Goals as goal

pub returns-in_default-clause-why : goal.returns-in_default-clause-why
returns-in_default-clause-why c =
    let none : find (is_transaction c.args.owner c.args.txn) c.args.self.now.transactions ≡ None =
    subst (λ (l : List OpenTransaction). find (is_transaction c.args.owner c.args.txn) l ≡ None) (c.as_slice.ensures.value ∙ ap (λ (j : Journaled). j.transactions) c.self.view_is) c.in_default.ensures.none in
    unnoted_transaction (machine_of c.args.self.now) c.args.owner c.args.txn c.args.slot none

pub returns-in_default-slot_at-clause-why : goal.returns-in_default-slot_at-clause-why
returns-in_default-slot_at-clause-why c =
    let t = c.in-Some.kept.now in
    let found : find (is_transaction c.args.owner c.args.txn) c.args.self.now.transactions ≡ Some t =
    subst (λ (l : List OpenTransaction). find (is_transaction c.args.owner c.args.txn) l ≡ Some t) (c.as_slice.ensures.value ∙ ap (λ (j : Journaled). j.transactions) c.self.view_is) c.in-Some.ensures.some.found in
    let none : slice_get c.args.self.now.slots c.args.slot ≡ None =
    subst (λ (l : List SlotState). slice_get l c.args.slot ≡ None) (c.as_slice-2.ensures.value ∙ ap (λ (j : Journaled). j.slots) c.self.view_is) (sym c.in_default-slot_at.ensures) in
    unnoted_slot (machine_of c.args.self.now) c.args.owner c.args.txn c.args.slot t found none

pub returns-then-not-may_prepare-clause-why : goal.returns-then-not-may_prepare-clause-why
returns-then-not-may_prepare-clause-why c =
    let t = c.in-Some.kept.now in
    let slot_state = c.in-Some-slot_at.slot_state.now in
    let found : find (is_transaction c.args.owner c.args.txn) c.args.self.now.transactions ≡ Some t =
    subst (λ (l : List OpenTransaction). find (is_transaction c.args.owner c.args.txn) l ≡ Some t) (c.as_slice.ensures.value ∙ ap (λ (j : Journaled). j.transactions) c.self.view_is) c.in-Some.ensures.some.found in
    let here : slice_get c.args.self.now.slots c.args.slot ≡ Some slot_state =
    subst (λ (l : List SlotState). slice_get l c.args.slot ≡ Some slot_state) (c.as_slice-2.ensures.value ∙ ap (λ (j : Journaled). j.slots) c.self.view_is) (sym c.in-Some-slot_at.ensures) in
    unnoted_state (machine_of c.args.self.now) c.args.owner c.args.txn c.args.slot t found slot_state here (not-false (has_wrong_state c.args.slot t) (sym c.may_prepare.ensures ∙ c.if-not-may_prepare.true))

pub returns-in_default-prepare_timestamp-clause-why : goal.returns-in_default-prepare_timestamp-clause-why
returns-in_default-prepare_timestamp-clause-why c =
    let t = c.in-Some.kept.now in
    let slot_state = c.in-Some-slot_at.slot_state.now in
    let found : find (is_transaction c.args.owner c.args.txn) c.args.self.now.transactions ≡ Some t =
    subst (λ (l : List OpenTransaction). find (is_transaction c.args.owner c.args.txn) l ≡ Some t) (c.as_slice.ensures.value ∙ ap (λ (j : Journaled). j.transactions) c.self.view_is) c.in-Some.ensures.some.found in
    let here : slice_get c.args.self.now.slots c.args.slot ≡ Some slot_state =
    subst (λ (l : List SlotState). slice_get l c.args.slot ≡ Some slot_state) (c.as_slice-2.ensures.value ∙ ap (λ (j : Journaled). j.slots) c.self.view_is) (sym c.in-Some-slot_at.ensures) in
    unnoted_late (machine_of c.args.self.now) c.args.owner c.args.txn c.args.slot t found slot_state here (not-true (has_wrong_state c.args.slot t) (sym c.may_prepare.ensures ∙ c.if-not-may_prepare.false)) c.in_default-prepare_timestamp.ensures.none

pub returns-clause-ok : goal.returns-clause-ok
returns-clause-ok c =
    let j : Journaled = record { slots = c.self.inside.slots.items; transactions = c.self.inside.transactions.items; log = c.self.inside.log.items; queries = c.self.inside.queries.items; next_transaction = c.self.inside.next_transaction; next_query = c.self.inside.next_query } in
    let t = c.in-Some.kept.now in
    let place : IsPlace (is_transaction c.args.owner c.args.txn) j.transactions c.in-Some.at t =
    subst (λ (l : List OpenTransaction). IsPlace (is_transaction c.args.owner c.args.txn) l c.in-Some.at t) c.as_slice.ensures.value c.in-Some.ensures.some in
    let slot_state = c.in-Some-slot_at.slot_state.now in
    let here : slice_get j.slots c.args.slot ≡ Some slot_state = subst (λ (l : List SlotState). slice_get l c.args.slot ≡ Some slot_state) c.as_slice-2.ensures.value (sym c.in-Some-slot_at.ensures) in
    let right = not-true (has_wrong_state c.args.slot t) (sym c.may_prepare.ensures ∙ c.if-not-may_prepare.false) in
    let ts = c.in-Some-prepare_timestamp.timestamp in
    let stamp = c.in-Some-prepare_timestamp.ensures.some in
    let slots_are = subst (λ (o : Option SlotState). IfSome o (λ b. c.set_last.new.slots.items ≡ slice_set j.slots c.args.slot (record b { last = ts }))) here c.set_last.ensures.after in
    let txs_are = subst (λ (o : Option OpenTransaction). IfSome o (λ u. c.add_prepared_at.new.transactions.items ≡ slice_set j.transactions c.in-Some.at (add_prepared c.args.slot ts u))) place.here c.add_prepared_at.ensures.after in
    subst (λ (k : Journaled). IsNoted (machine_of k) c.args.owner c.args.txn c.args.slot ts (machine_of (record j { slots = c.set_last.new.slots.items; transactions = c.add_prepared_at.new.transactions.items }))) c.self.view_is
    (noted j c.args.owner c.args.txn c.args.slot ts c.in-Some.at t slot_state c.set_last.new.slots.items c.add_prepared_at.new.transactions.items place here right stamp.0 stamp.1 slots_are txs_are)

pub add_prepared_at-requires-clause-apart : goal.add_prepared_at-requires-clause-apart
add_prepared_at-requires-clause-apart c =
    let t = c.in-Some.kept.now in
    let place : IsPlace (is_transaction c.args.owner c.args.txn) c.self.inside.transactions.items c.in-Some.at t =
    subst (λ (l : List OpenTransaction). IsPlace (is_transaction c.args.owner c.args.txn) l c.in-Some.at t) c.as_slice.ensures.value c.in-Some.ensures.some in
    let right = not-true (has_wrong_state c.args.slot t) (sym c.may_prepare.ensures ∙ c.if-not-may_prepare.false) in
    subst (λ (o : Option OpenTransaction). IfSome o (λ u. is_prepared_at c.args.slot u ≡ false)) (sym place.here) (or_parts (not (is_undecided t)) (is_prepared_at c.args.slot t) right).1

pub set_last-requires : goal.set_last-requires
set_last-requires c =
    let slot_state = c.in-Some-slot_at.slot_state.now in
    slice_get_within c.self.inside.slots.items c.args.slot slot_state
    (subst (λ (l : List SlotState). slice_get l c.args.slot ≡ Some slot_state) c.as_slice-2.ensures.value (sym c.in-Some-slot_at.ensures))
