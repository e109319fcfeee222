use Rattle.std.proofs.Common.{◌≡◌, ◌<◌, ◌≤◌, ℕ, true, List, sym, ap, ◌∙◌, subst}
use Rattle.span_truetime.specs.Limits.{timestamp_end}
use Rattle.span_machine.specs.declared.slot.SlotState.{SlotState}
use Rattle.span_machine.specs.declared.transaction.Prepared.{Prepared}
use Rattle.span_machine.specs.Machine.{is_undecided}
use Rattle.span_machine.specs.Pieces.{Journaled, machine_of}
use Rattle.span_journal.proofs.Committing.{ready_in, stamp_in, refused_unready, refused_late, accepted_commit}
use Rattle.span_journal.proofs.journal.Journal.check_commit.Goals as goal

pub returns-then-not-is_ready-clause-refused : goal.returns-then-not-is_ready-clause-refused
returns-then-not-is_ready-clause-refused c =
    let t = c.args.transaction.now in
    let still : is_undecided t ≡ true = sym c.is_undecided.ensures ∙ c.if-not-is_undecided.false in
    let slots : c.as_slice.result.now ≡ c.args.self.now.slots = c.as_slice.ensures.value ∙ ap (λ (j : Journaled). j.slots) c.self.view_is in
    refused_unready c.args.schema.now (machine_of c.args.self.now) t c.args.interval still
    (sym (c.is_ready.ensures ∙ ap (λ (l : List SlotState). ready_in c.args.schema.now l t) slots) ∙ c.if-not-is_ready.true)

pub returns-in-Some-clause-accepted : goal.returns-in-Some-clause-accepted
returns-in-Some-clause-accepted c =
    let t = c.args.transaction.now in
    let still : is_undecided t ≡ true = sym c.is_undecided.ensures ∙ c.if-not-is_undecided.false in
    let slots : c.as_slice.result.now ≡ c.args.self.now.slots = c.as_slice.ensures.value ∙ ap (λ (j : Journaled). j.slots) c.self.view_is in
    let slots_too : c.as_slice-2.result.now ≡ c.args.self.now.slots = c.as_slice-2.ensures.value ∙ ap (λ (j : Journaled). j.slots) c.self.view_is in
    let is : c.in-Some.timestamp ≡ stamp_in c.args.self.now.slots t.prepared c.args.interval.latest =
    c.in-Some.ensures.some.0 ∙ ap (λ (l : List SlotState). stamp_in l c.preparations.result.now c.args.interval.latest) slots_too
    ∙ ap (λ (ps : List Prepared). stamp_in c.args.self.now.slots ps c.args.interval.latest) c.preparations.ensures in (
      accepted_commit c.args.schema.now (machine_of c.args.self.now) t c.args.interval still
          (sym (c.is_ready.ensures ∙ ap (λ (l : List SlotState). ready_in c.args.schema.now l t) slots) ∙ c.if-not-is_ready.false)
          (subst (λ (n : ℕ). n < timestamp_end) is c.in-Some.ensures.some.1),
      is,
    )

pub returns-in-None-clause-refused : goal.returns-in-None-clause-refused
returns-in-None-clause-refused c =
    let t = c.args.transaction.now in
    let still : is_undecided t ≡ true = sym c.is_undecided.ensures ∙ c.if-not-is_undecided.false in
    let slots : c.as_slice.result.now ≡ c.args.self.now.slots = c.as_slice.ensures.value ∙ ap (λ (j : Journaled). j.slots) c.self.view_is in
    let slots_too : c.as_slice-2.result.now ≡ c.args.self.now.slots = c.as_slice-2.ensures.value ∙ ap (λ (j : Journaled). j.slots) c.self.view_is in
    let same : stamp_in c.as_slice-2.result.now c.preparations.result.now c.args.interval.latest ≡ stamp_in c.args.self.now.slots t.prepared c.args.interval.latest =
    ap (λ (l : List SlotState). stamp_in l c.preparations.result.now c.args.interval.latest) slots_too
    ∙ ap (λ (ps : List Prepared). stamp_in c.args.self.now.slots ps c.args.interval.latest) c.preparations.ensures in
    refused_late c.args.schema.now (machine_of c.args.self.now) t c.args.interval still
    (sym (c.is_ready.ensures ∙ ap (λ (l : List SlotState). ready_in c.args.schema.now l t) slots) ∙ c.if-not-is_ready.false)
    (subst (λ (n : ℕ). timestamp_end ≤ n) same c.in-None.ensures.none)
