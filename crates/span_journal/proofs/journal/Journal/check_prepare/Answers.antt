use Rattle.std.proofs.Common.{◌≡◌, ℕ, Bool, List, Some, None, sym, ap, ◌∙◌, subst, ◌&&◌, inl, inr}
use Rattle.std.specs.Prelude.{find, slice_get, Result, Ok, Err, MatchResult, IfOk, IfErr}
use Rattle.std.specs.List.{list_any}
use Rattle.span_machine.specs.declared.transaction.OpenTransaction.{OpenTransaction}
use Rattle.span_machine.specs.declared.slot.SlotState.{SlotState}
use Rattle.span_machine.specs.Machine.{is_transaction, is_prepared_at, holds, root_at, mutations_in}
use Rattle.span_machine.specs.Pieces.{Journaled, machine_of}
use Rattle.span_schema.specs.declared.table.Table.{Table}
use Rattle.span_mutate.specs.declared.mutation.CheckedMutation.{CheckedMutation}
use Rattle.span_transactions.specs.Choices.{chosen_mutations}
use Rattle.span_transactions.specs.Places.{share_directory_in}
use Rattle.span_journal.proofs.Preparing.{refused_wrong, refused_none, refused_conflict, may_prepare, refused_unknown, refused_slot}
use Rattle.span_journal.proofs.journal.Journal.check_prepare.Goals as goal

-- a transaction of these that is prepared at the slot shares a directory there
abbrev conflict_among : List Table → ℕ → SlotState → List CheckedMutation → List OpenTransaction → Bool
conflict_among schema slot slot_state ms ts = list_any (λ t. is_prepared_at slot t && share_directory_in schema slot_state ms t.mutations) ts

on_accepted : {A E : Type 0} (P Q : A → Type 0) (R : E → Type 0) (r : Result A E) → ((x : A) → P x → Q x) → MatchResult r P R → IfOk r Q
on_accepted P Q R (Ok x) f m = f x m
on_accepted P Q R (Err e) f m = tt

on_refused : {A E : Type 0} (P : A → Type 0) (R S : E → Type 0) (r : Result A E) → ((e : E) → R e → S e) → MatchResult r P R → IfErr r S
on_refused P R S (Ok x) f m = tt
on_refused P R S (Err e) f m = f e m

pub returns-in_default-clause-refused : goal.returns-in_default-clause-refused
returns-in_default-clause-refused c =
    let none : find (is_transaction c.args.owner c.args.txn) c.args.self.now.transactions ≡ None =
    subst (λ (l : List OpenTransaction). find (is_transaction c.args.owner c.args.txn) l ≡ None) (c.as_slice.ensures.value ∙ ap (λ (j : Journaled). j.transactions) c.self.view_is) c.in_default.ensures.none in
    inr (refused_unknown c.args.schema.now (machine_of c.args.self.now) c.args.owner c.args.txn c.args.slot none)

pub returns-in_default-slot_at-clause-refused : goal.returns-in_default-slot_at-clause-refused
returns-in_default-slot_at-clause-refused c =
    let t = c.in-Some.transaction.now in
    let found : find (is_transaction c.args.owner c.args.txn) c.args.self.now.transactions ≡ Some t =
    subst (λ (l : List OpenTransaction). find (is_transaction c.args.owner c.args.txn) l ≡ Some t) (c.as_slice.ensures.value ∙ ap (λ (j : Journaled). j.transactions) c.self.view_is) c.in-Some.ensures.some.found in
    let none : slice_get c.args.self.now.slots c.args.slot ≡ None =
    subst (λ (l : List SlotState). slice_get l c.args.slot ≡ None) (c.as_slice-2.ensures.value ∙ ap (λ (j : Journaled). j.slots) c.self.view_is) (sym c.in_default-slot_at.ensures) in
    inr (refused_slot c.args.schema.now (machine_of c.args.self.now) c.args.owner c.args.txn c.args.slot t found none)

pub returns-then-not-may_prepare-clause-refused : goal.returns-then-not-may_prepare-clause-refused
returns-then-not-may_prepare-clause-refused c =
    let t = c.in-Some.transaction.now in
    let found : find (is_transaction c.args.owner c.args.txn) c.args.self.now.transactions ≡ Some t =
    subst (λ (l : List OpenTransaction). find (is_transaction c.args.owner c.args.txn) l ≡ Some t) (c.as_slice.ensures.value ∙ ap (λ (j : Journaled). j.transactions) c.self.view_is) c.in-Some.ensures.some.found in
    let slot_state = c.in-Some-slot_at.slot_state.now in
    let here : slice_get c.args.self.now.slots c.args.slot ≡ Some slot_state =
    subst (λ (l : List SlotState). slice_get l c.args.slot ≡ Some slot_state) (c.as_slice-2.ensures.value ∙ ap (λ (j : Journaled). j.slots) c.self.view_is) (sym c.in-Some-slot_at.ensures) in
    inr (refused_wrong c.args.schema.now (machine_of c.args.self.now) c.args.owner c.args.txn c.args.slot t slot_state found here (sym c.may_prepare.ensures ∙ c.if-not-may_prepare.true))

pub returns-then-not-has_any-clause-refused : goal.returns-then-not-has_any-clause-refused
returns-then-not-has_any-clause-refused c =
    let t = c.in-Some.transaction.now in
    let found : find (is_transaction c.args.owner c.args.txn) c.args.self.now.transactions ≡ Some t =
    subst (λ (l : List OpenTransaction). find (is_transaction c.args.owner c.args.txn) l ≡ Some t) (c.as_slice.ensures.value ∙ ap (λ (j : Journaled). j.transactions) c.self.view_is) c.in-Some.ensures.some.found in
    let slot_state = c.in-Some-slot_at.slot_state.now in
    let here : slice_get c.args.self.now.slots c.args.slot ≡ Some slot_state =
    subst (λ (l : List SlotState). slice_get l c.args.slot ≡ Some slot_state) (c.as_slice-2.ensures.value ∙ ap (λ (j : Journaled). j.slots) c.self.view_is) (sym c.in-Some-slot_at.ensures) in
    let any = c.has_any.ensures ∙ ap (λ (ms : List CheckedMutation). list_any (λ m. holds c.args.schema.now slot_state (root_at c.args.schema.now m)) ms) c.mutations-mutations.ensures in
    inr (refused_none c.args.schema.now (machine_of c.args.self.now) c.args.owner c.args.txn c.args.slot t slot_state found here (sym c.may_prepare.ensures ∙ c.if-not-may_prepare.false) (sym any ∙ c.if-not-has_any.true))

pub returns-then-has_conflict-clause-refused : goal.returns-then-has_conflict-clause-refused
returns-then-has_conflict-clause-refused c =
    let t = c.in-Some.transaction.now in
    let found : find (is_transaction c.args.owner c.args.txn) c.args.self.now.transactions ≡ Some t =
    subst (λ (l : List OpenTransaction). find (is_transaction c.args.owner c.args.txn) l ≡ Some t) (c.as_slice.ensures.value ∙ ap (λ (j : Journaled). j.transactions) c.self.view_is) c.in-Some.ensures.some.found in
    let slot_state = c.in-Some-slot_at.slot_state.now in
    let here : slice_get c.args.self.now.slots c.args.slot ≡ Some slot_state =
    subst (λ (l : List SlotState). slice_get l c.args.slot ≡ Some slot_state) (c.as_slice-2.ensures.value ∙ ap (λ (j : Journaled). j.slots) c.self.view_is) (sym c.in-Some-slot_at.ensures) in
    let any = c.has_any.ensures ∙ ap (λ (ms : List CheckedMutation). list_any (λ m. holds c.args.schema.now slot_state (root_at c.args.schema.now m)) ms) c.mutations-mutations.ensures in
    let conflict = c.has_conflict.ensures ∙ ap (conflict_among c.args.schema.now c.args.slot slot_state c.mutations-mutations.result.now) (c.as_slice-transactions.ensures.value ∙ ap (λ (j : Journaled). j.transactions) c.self.view_is)
    ∙ ap (λ (ms : List CheckedMutation). conflict_among c.args.schema.now c.args.slot slot_state ms c.args.self.now.transactions) c.mutations-mutations.ensures in
    inr (refused_conflict c.args.schema.now (machine_of c.args.self.now) c.args.owner c.args.txn c.args.slot t slot_state found here
    (sym c.may_prepare.ensures ∙ c.if-not-may_prepare.false) (sym any ∙ c.if-not-has_any.false) (sym conflict ∙ c.if-has_conflict.true))

pub returns : goal.returns
returns c =
    let t = c.in-Some.transaction.now in
    let found : find (is_transaction c.args.owner c.args.txn) c.args.self.now.transactions ≡ Some t =
    subst (λ (l : List OpenTransaction). find (is_transaction c.args.owner c.args.txn) l ≡ Some t) (c.as_slice.ensures.value ∙ ap (λ (j : Journaled). j.transactions) c.self.view_is) c.in-Some.ensures.some.found in
    let slot_state = c.in-Some-slot_at.slot_state.now in
    let here : slice_get c.args.self.now.slots c.args.slot ≡ Some slot_state =
    subst (λ (l : List SlotState). slice_get l c.args.slot ≡ Some slot_state) (c.as_slice-2.ensures.value ∙ ap (λ (j : Journaled). j.slots) c.self.view_is) (sym c.in-Some-slot_at.ensures) in
    let any = c.has_any.ensures ∙ ap (λ (ms : List CheckedMutation). list_any (λ m. holds c.args.schema.now slot_state (root_at c.args.schema.now m)) ms) c.mutations-mutations.ensures in
    let conflict = c.has_conflict.ensures ∙ ap (conflict_among c.args.schema.now c.args.slot slot_state c.mutations-mutations.result.now) (c.as_slice-transactions.ensures.value ∙ ap (λ (j : Journaled). j.transactions) c.self.view_is)
    ∙ ap (λ (ms : List CheckedMutation). conflict_among c.args.schema.now c.args.slot slot_state ms c.args.self.now.transactions) c.mutations-mutations.ensures in
    let may = may_prepare c.args.schema.now (machine_of c.args.self.now) c.args.owner c.args.txn c.args.slot t slot_state found here
    (sym c.may_prepare.ensures ∙ c.if-not-may_prepare.false) (sym any ∙ c.if-not-has_any.false) (sym conflict ∙ c.if-has_conflict.false) in
    let all = c.mutations-mutations.ensures in
    record {
      accepted = on_accepted _ _ _ c.mutations_in.result (λ chosen is. may (chosen_mutations chosen) (is ∙ ap (mutations_in c.args.schema.now slot_state) all)) c.mutations_in.ensures;
      refused = on_refused _ _ _ c.mutations_in.result (λ why is. inl is) c.mutations_in.ensures;
    }
