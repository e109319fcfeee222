use Rattle.std.proofs.Common.{◌≡◌, sym, ◌∙◌, subst, inr}
use Rattle.span_machine.specs.Machine.{scan}
use Rattle.span_machine.specs.Pieces.{Journaled, machine_of}
use Rattle.span_machine.specs.declared.step.Reply.TheVariants as reply
use Rattle.span_value.specs.declared.refusal.Refusal.TheVariants as refusal
use Rattle.span_journal.specs.Judged.{IsUnclaimed, MayScan}
use Rattle.span_journal.proofs.Claimed.{refusal_among, target_among, safe_is, risen_slots, within_slots}
use Rattle.span_journal.proofs.Stepping.{is_below, is_not_below, scan_missing, scan_nothing, scan_trimmed, scan_waits, may_scan}
use Rattle.span_journal.proofs.journal.Journal.claim_gap.Goals as goal

pub returns-in-Err-clause-refused : goal.returns-in-Err-clause-refused
returns-in-Err-clause-refused c =
    let j : Journaled = record { slots = c.self.inside.slots.items; transactions = c.self.inside.transactions.items; log = c.self.inside.log.items; queries = c.self.inside.queries.items; next_transaction = c.self.inside.next_transaction; next_query = c.self.inside.next_query } in
    let none = refusal_among c.as_slice-queries.result.now j.queries c.as_slice-slots.result.now j.slots c.args.query c.args.leaf c.args.slot c.in-Err.why c.as_slice-queries.ensures.value c.as_slice-slots.ensures.value c.in-Err.ensures.refused in
    subst (λ (k : Journaled). IsUnclaimed (machine_of k) c.args.query c.args.leaf c.args.slot c.args.interval c.in-Err.why (machine_of k)) c.self.view_is
    (inr (scan_missing j c.args.query c.args.leaf c.args.slot c.args.interval c.in-Err.why none))

pub returns-in_default-clause-gap : goal.returns-in_default-clause-gap
returns-in_default-clause-gap c =
    let j : Journaled = record { slots = c.self.inside.slots.items; transactions = c.self.inside.transactions.items; log = c.self.inside.log.items; queries = c.self.inside.queries.items; next_transaction = c.self.inside.next_transaction; next_query = c.self.inside.next_query } in
    let at = c.in-Ok.target.0 in
    let p = c.in-Ok.target.1.now in
    let l = c.in-Ok.target.2.now in
    let b = c.in-Ok.target.3.now in
    let t = target_among c.as_slice-queries.result.now j.queries c.as_slice-slots.result.now j.slots c.args.query c.args.leaf c.args.slot at p l b c.as_slice-queries.ensures.value c.as_slice-slots.ensures.value c.in-Ok.ensures.found in
    subst (λ (k : Journaled). scan (machine_of k) c.args.query c.args.leaf c.args.slot c.args.interval ≡ (reply.Nothing, machine_of k)) c.self.view_is
    (scan_nothing j c.args.query c.args.leaf c.args.slot c.args.interval at p l b t (sym c.in_ok-range.ensures ∙ c.in_default.is))

pub returns-then-s-slot_state-clause-refused : goal.returns-then-s-slot_state-clause-refused
returns-then-s-slot_state-clause-refused c =
    let j : Journaled = record { slots = c.self.inside.slots.items; transactions = c.self.inside.transactions.items; log = c.self.inside.log.items; queries = c.self.inside.queries.items; next_transaction = c.self.inside.next_transaction; next_query = c.self.inside.next_query } in
    let at = c.in-Ok.target.0 in
    let p = c.in-Ok.target.1.now in
    let l = c.in-Ok.target.2.now in
    let b = c.in-Ok.target.3.now in
    let t = target_among c.as_slice-queries.result.now j.queries c.as_slice-slots.result.now j.slots c.args.query c.args.leaf c.args.slot at p l b c.as_slice-queries.ensures.value c.as_slice-slots.ensures.value c.in-Ok.ensures.found in
    let gap = sym c.in_ok-range.ensures ∙ c.in-Some.is in
    let below = is_below c.timestamp-s.result p.query.s b.horizon c.timestamp-s.ensures c.if-s-slot_state.true in
    subst (λ (k : Journaled). IsUnclaimed (machine_of k) c.args.query c.args.leaf c.args.slot c.args.interval refusal.Trimmed (machine_of k)) c.self.view_is
    (inr (scan_trimmed j c.args.query c.args.leaf c.args.slot c.args.interval at p l b t c.in-Some.range gap below))

pub returns-then-is_safe_at-clause-gap : goal.returns-then-is_safe_at-clause-gap
returns-then-is_safe_at-clause-gap c =
    let j : Journaled = record { slots = c.self.inside.slots.items; transactions = c.self.inside.transactions.items; log = c.self.inside.log.items; queries = c.self.inside.queries.items; next_transaction = c.self.inside.next_transaction; next_query = c.self.inside.next_query } in
    let at = c.in-Ok.target.0 in
    let p = c.in-Ok.target.1.now in
    let l = c.in-Ok.target.2.now in
    let b = c.in-Ok.target.3.now in
    let t = target_among c.as_slice-queries.result.now j.queries c.as_slice-slots.result.now j.slots c.args.query c.args.leaf c.args.slot at p l b c.as_slice-queries.ensures.value c.as_slice-slots.ensures.value c.in-Ok.ensures.found in
    let gap = sym c.in_ok-range.ensures ∙ c.in-Some.is in
    let above = is_not_below c.timestamp-s.result p.query.s b.horizon c.timestamp-s.ensures c.if-s-slot_state.false in
    let safe = safe_is j c.args.slot c.risen_floor-floor.result c.timestamp-s.result p.query.s c.as_slice.result.now b c.args.interval c.is_safe_at.result c.is_safe_at.ensures c.timestamp-s.ensures c.as_slice.ensures.value c.risen_floor-floor.ensures in
    subst (λ (k : Journaled). MayScan (machine_of k) c.args.query c.args.leaf c.args.slot c.args.interval c.in-Some.range c.timestamp-s.result) c.self.view_is
    (subst (λ n. MayScan (machine_of j) c.args.query c.args.leaf c.args.slot c.args.interval c.in-Some.range n) (sym c.timestamp-s.ensures)
    (may_scan j c.args.query c.args.leaf c.args.slot c.args.interval at p l b t c.in-Some.range gap above (sym safe ∙ c.if-is_safe_at.true)))

pub set_floor-requires : goal.set_floor-requires
set_floor-requires c =
    let j : Journaled = record { slots = c.self.inside.slots.items; transactions = c.self.inside.transactions.items; log = c.self.inside.log.items; queries = c.self.inside.queries.items; next_transaction = c.self.inside.next_transaction; next_query = c.self.inside.next_query } in
    let at = c.in-Ok.target.0 in
    let p = c.in-Ok.target.1.now in
    let l = c.in-Ok.target.2.now in
    let b = c.in-Ok.target.3.now in
    let t = target_among c.as_slice-queries.result.now j.queries c.as_slice-slots.result.now j.slots c.args.query c.args.leaf c.args.slot at p l b c.as_slice-queries.ensures.value c.as_slice-slots.ensures.value c.in-Ok.ensures.found in
    within_slots j.queries j.slots c.args.query c.args.leaf c.args.slot at p l b t

pub returns-clause-refused : goal.returns-clause-refused
returns-clause-refused c =
    let j : Journaled = record { slots = c.self.inside.slots.items; transactions = c.self.inside.transactions.items; log = c.self.inside.log.items; queries = c.self.inside.queries.items; next_transaction = c.self.inside.next_transaction; next_query = c.self.inside.next_query } in
    let at = c.in-Ok.target.0 in
    let p = c.in-Ok.target.1.now in
    let l = c.in-Ok.target.2.now in
    let b = c.in-Ok.target.3.now in
    let t = target_among c.as_slice-queries.result.now j.queries c.as_slice-slots.result.now j.slots c.args.query c.args.leaf c.args.slot at p l b c.as_slice-queries.ensures.value c.as_slice-slots.ensures.value c.in-Ok.ensures.found in
    let gap = sym c.in_ok-range.ensures ∙ c.in-Some.is in
    let above = is_not_below c.timestamp-s.result p.query.s b.horizon c.timestamp-s.ensures c.if-s-slot_state.false in
    let safe = safe_is j c.args.slot c.risen_floor-floor.result c.timestamp-s.result p.query.s c.as_slice.result.now b c.args.interval c.is_safe_at.result c.is_safe_at.ensures c.timestamp-s.ensures c.as_slice.ensures.value c.risen_floor-floor.ensures in
    let slots_are = risen_slots j.slots c.set_floor.new.slots.items c.args.slot c.risen_floor-floor.result c.timestamp-s.result p.query.s b c.args.interval t.here c.set_floor.ensures.after c.timestamp-s.ensures c.risen_floor-floor.ensures in
    subst (λ (k : Journaled). IsUnclaimed (machine_of k) c.args.query c.args.leaf c.args.slot c.args.interval refusal.NotYet (machine_of (record j { slots = c.set_floor.new.slots.items }))) c.self.view_is
    (inr (scan_waits j c.args.query c.args.leaf c.args.slot c.args.interval at p l b t c.in-Some.range gap above (sym safe ∙ c.if-is_safe_at.false) c.set_floor.new.slots.items slots_are))
