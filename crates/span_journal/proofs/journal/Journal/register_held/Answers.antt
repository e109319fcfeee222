use Rattle.std.proofs.Common.{rules, ◌≡◌, Some, refl, sym, ◌∙◌, subst, inr}
use Rattle.span_machine.specs.Pieces.{Journaled}
use Rattle.span_value.specs.declared.refusal.Refusal.TheVariants as refusal
use Rattle.span_journal.specs.Judged.{IsRegistered, IsUnregistered, IsUnchanged}
use Rattle.span_journal.proofs.Claimed.{refusal_among, target_among, safe_is, risen_slots, within_slots, has_leaf, has_uncovered, covered_queries}
use Rattle.span_journal.proofs.Stepping.{is_below, is_not_below, register_missing, piece_taken, piece_trimmed, piece_waits, is_risen, is_registered}
use Rattle.span_journal.proofs.journal.Journal.register_held.Goals as goal

pub returns-in-Err-clause-why : goal.returns-in-Err-clause-why
returns-in-Err-clause-why c =
    let j : Journaled = record { slots = c.self.inside.slots.items; transactions = c.self.inside.transactions.items; log = c.self.inside.log.items; queries = c.self.inside.queries.items; next_transaction = c.self.inside.next_transaction; next_query = c.self.inside.next_query } in
    let none = refusal_among c.as_slice-queries.result.now j.queries c.as_slice-slots.result.now j.slots c.args.query c.args.leaf c.args.slot c.in-Err.why c.as_slice-queries.ensures.value c.as_slice-slots.ensures.value c.in-Err.ensures.refused in
    subst (λ (k : Journaled). IsUnregistered k c.args.query c.args.leaf c.args.slot c.args.interval c.args.range c.in-Err.why) c.self.view_is
    (inr (register_missing j c.args.query c.args.leaf c.args.slot c.args.interval c.args.range c.in-Err.why none))

pub returns-then-not-is_free-clause-why : goal.returns-then-not-is_free-clause-why
returns-then-not-is_free-clause-why c =
    let j : Journaled = record { slots = c.self.inside.slots.items; transactions = c.self.inside.transactions.items; log = c.self.inside.log.items; queries = c.self.inside.queries.items; next_transaction = c.self.inside.next_transaction; next_query = c.self.inside.next_query } in
    let at = c.in-Ok.target.0 in
    let p = c.in-Ok.target.1.now in
    let l = c.in-Ok.target.2.now in
    let b = c.in-Ok.target.3.now in
    let t = target_among c.as_slice-queries.result.now j.queries c.as_slice-slots.result.now j.slots c.args.query c.args.leaf c.args.slot at p l b c.as_slice-queries.ensures.value c.as_slice-slots.ensures.value c.in-Ok.ensures.found in
    subst (λ (k : Journaled). IsUnregistered k c.args.query c.args.leaf c.args.slot c.args.interval c.args.range refusal.Incomplete) c.self.view_is
    (inr (piece_taken j c.args.query c.args.leaf c.args.slot c.args.interval at p l b t c.args.range (sym c.is_free.ensures ∙ c.if-not-is_free.true)))

pub returns-then-s-slot_state-clause-why : goal.returns-then-s-slot_state-clause-why
returns-then-s-slot_state-clause-why c =
    let j : Journaled = record { slots = c.self.inside.slots.items; transactions = c.self.inside.transactions.items; log = c.self.inside.log.items; queries = c.self.inside.queries.items; next_transaction = c.self.inside.next_transaction; next_query = c.self.inside.next_query } in
    let at = c.in-Ok.target.0 in
    let p = c.in-Ok.target.1.now in
    let l = c.in-Ok.target.2.now in
    let b = c.in-Ok.target.3.now in
    let t = target_among c.as_slice-queries.result.now j.queries c.as_slice-slots.result.now j.slots c.args.query c.args.leaf c.args.slot at p l b c.as_slice-queries.ensures.value c.as_slice-slots.ensures.value c.in-Ok.ensures.found in
    let free = sym c.is_free.ensures ∙ c.if-not-is_free.false in
    let below = is_below c.timestamp-s.result p.query.s b.horizon c.timestamp-s.ensures c.if-s-slot_state.true in
    subst (λ (k : Journaled). IsUnregistered k c.args.query c.args.leaf c.args.slot c.args.interval c.args.range refusal.Trimmed) c.self.view_is
    (inr (piece_trimmed j c.args.query c.args.leaf c.args.slot c.args.interval at p l b t c.args.range free below))

pub set_floor-requires : goal.set_floor-requires
set_floor-requires c =
    let j : Journaled = record { slots = c.self.inside.slots.items; transactions = c.self.inside.transactions.items; log = c.self.inside.log.items; queries = c.self.inside.queries.items; next_transaction = c.self.inside.next_transaction; next_query = c.self.inside.next_query } in
    let at = c.in-Ok.target.0 in
    let p = c.in-Ok.target.1.now in
    let l = c.in-Ok.target.2.now in
    let b = c.in-Ok.target.3.now in
    let t = target_among c.as_slice-queries.result.now j.queries c.as_slice-slots.result.now j.slots c.args.query c.args.leaf c.args.slot at p l b c.as_slice-queries.ensures.value c.as_slice-slots.ensures.value c.in-Ok.ensures.found in
    within_slots j.queries j.slots c.args.query c.args.leaf c.args.slot at p l b t

pub returns-then-not-is_safe_at-clause-why : goal.returns-then-not-is_safe_at-clause-why
returns-then-not-is_safe_at-clause-why c =
    let j : Journaled = record { slots = c.self.inside.slots.items; transactions = c.self.inside.transactions.items; log = c.self.inside.log.items; queries = c.self.inside.queries.items; next_transaction = c.self.inside.next_transaction; next_query = c.self.inside.next_query } in
    let at = c.in-Ok.target.0 in
    let p = c.in-Ok.target.1.now in
    let l = c.in-Ok.target.2.now in
    let b = c.in-Ok.target.3.now in
    let t = target_among c.as_slice-queries.result.now j.queries c.as_slice-slots.result.now j.slots c.args.query c.args.leaf c.args.slot at p l b c.as_slice-queries.ensures.value c.as_slice-slots.ensures.value c.in-Ok.ensures.found in
    let free = sym c.is_free.ensures ∙ c.if-not-is_free.false in
    let above = is_not_below c.timestamp-s.result p.query.s b.horizon c.timestamp-s.ensures c.if-s-slot_state.false in
    let safe = safe_is j c.args.slot c.risen_floor-floor.result c.timestamp-s.result p.query.s c.as_slice.result.now b c.args.interval c.is_safe_at.result c.is_safe_at.ensures c.timestamp-s.ensures c.as_slice.ensures.value c.risen_floor-floor.ensures in
    subst (λ (k : Journaled). IsUnregistered k c.args.query c.args.leaf c.args.slot c.args.interval c.args.range refusal.NotYet) c.self.view_is
    (inr (piece_waits j c.args.query c.args.leaf c.args.slot c.args.interval at p l b t c.args.range free above (sym safe ∙ c.if-not-is_safe_at.true)))

pub returns-then-not-is_safe_at-clause-err : goal.returns-then-not-is_safe_at-clause-err
returns-then-not-is_safe_at-clause-err c =
    let j : Journaled = record { slots = c.self.inside.slots.items; transactions = c.self.inside.transactions.items; log = c.self.inside.log.items; queries = c.self.inside.queries.items; next_transaction = c.self.inside.next_transaction; next_query = c.self.inside.next_query } in
    let at = c.in-Ok.target.0 in
    let p = c.in-Ok.target.1.now in
    let l = c.in-Ok.target.2.now in
    let b = c.in-Ok.target.3.now in
    let t = target_among c.as_slice-queries.result.now j.queries c.as_slice-slots.result.now j.slots c.args.query c.args.leaf c.args.slot at p l b c.as_slice-queries.ensures.value c.as_slice-slots.ensures.value c.in-Ok.ensures.found in
    let slots_are = risen_slots j.slots c.set_floor.new.slots.items c.args.slot c.risen_floor-floor.result c.timestamp-s.result p.query.s b c.args.interval t.here c.set_floor.ensures.after c.timestamp-s.ensures c.risen_floor-floor.ensures in
    subst (λ (k : Journaled). IsUnchanged k c.args.query c.args.slot c.args.interval refusal.NotYet (record j { slots = c.set_floor.new.slots.items })) c.self.view_is
    (inr (refl, is_risen j c.args.query c.args.leaf c.args.slot c.args.interval at p l b t c.set_floor.new.slots.items slots_are))

pub cover_at-requires-clause-leaf : goal.cover_at-requires-clause-leaf
cover_at-requires-clause-leaf c =
    let j : Journaled = record { slots = c.self.inside.slots.items; transactions = c.self.inside.transactions.items; log = c.self.inside.log.items; queries = c.self.inside.queries.items; next_transaction = c.self.inside.next_transaction; next_query = c.self.inside.next_query } in
    let at = c.in-Ok.target.0 in
    let p = c.in-Ok.target.1.now in
    let l = c.in-Ok.target.2.now in
    let b = c.in-Ok.target.3.now in
    let t = target_among c.as_slice-queries.result.now j.queries c.as_slice-slots.result.now j.slots c.args.query c.args.leaf c.args.slot at p l b c.as_slice-queries.ensures.value c.as_slice-slots.ensures.value c.in-Ok.ensures.found in
    has_leaf j.queries j.slots c.args.query c.args.leaf c.args.slot at p l b t

pub cover_at-requires-clause-uncovered : goal.cover_at-requires-clause-uncovered
cover_at-requires-clause-uncovered c =
    let j : Journaled = record { slots = c.self.inside.slots.items; transactions = c.self.inside.transactions.items; log = c.self.inside.log.items; queries = c.self.inside.queries.items; next_transaction = c.self.inside.next_transaction; next_query = c.self.inside.next_query } in
    let at = c.in-Ok.target.0 in
    let p = c.in-Ok.target.1.now in
    let l = c.in-Ok.target.2.now in
    let b = c.in-Ok.target.3.now in
    let t = target_among c.as_slice-queries.result.now j.queries c.as_slice-slots.result.now j.slots c.args.query c.args.leaf c.args.slot at p l b c.as_slice-queries.ensures.value c.as_slice-slots.ensures.value c.in-Ok.ensures.found in
    let free = sym c.is_free.ensures ∙ c.if-not-is_free.false in
    has_uncovered j.queries j.slots c.args.query c.args.leaf c.args.slot at p l b t c.args.range free

pub set_floor-requires-2 : goal.set_floor-requires-2
set_floor-requires-2 c =
    let j : Journaled = record { slots = c.self.inside.slots.items; transactions = c.self.inside.transactions.items; log = c.self.inside.log.items; queries = c.self.inside.queries.items; next_transaction = c.self.inside.next_transaction; next_query = c.self.inside.next_query } in
    let at = c.in-Ok.target.0 in
    let p = c.in-Ok.target.1.now in
    let l = c.in-Ok.target.2.now in
    let b = c.in-Ok.target.3.now in
    let t = target_among c.as_slice-queries.result.now j.queries c.as_slice-slots.result.now j.slots c.args.query c.args.leaf c.args.slot at p l b c.as_slice-queries.ensures.value c.as_slice-slots.ensures.value c.in-Ok.ensures.found in
    within_slots j.queries j.slots c.args.query c.args.leaf c.args.slot at p l b t

pub returns-clause-ok : goal.returns-clause-ok
returns-clause-ok c =
    let j : Journaled = record { slots = c.self.inside.slots.items; transactions = c.self.inside.transactions.items; log = c.self.inside.log.items; queries = c.self.inside.queries.items; next_transaction = c.self.inside.next_transaction; next_query = c.self.inside.next_query } in
    let at = c.in-Ok.target.0 in
    let p = c.in-Ok.target.1.now in
    let l = c.in-Ok.target.2.now in
    let b = c.in-Ok.target.3.now in
    let t = target_among c.as_slice-queries.result.now j.queries c.as_slice-slots.result.now j.slots c.args.query c.args.leaf c.args.slot at p l b c.as_slice-queries.ensures.value c.as_slice-slots.ensures.value c.in-Ok.ensures.found in
    let free = sym c.is_free.ensures ∙ c.if-not-is_free.false in
    let above = is_not_below c.timestamp-s.result p.query.s b.horizon c.timestamp-s.ensures c.if-s-slot_state.false in
    let safe = safe_is j c.args.slot c.risen_floor-floor.result c.timestamp-s.result p.query.s c.as_slice.result.now b c.args.interval c.is_safe_at.result c.is_safe_at.ensures c.timestamp-s.ensures c.as_slice.ensures.value c.risen_floor-floor.ensures in
    let slots_are = risen_slots j.slots c.set_floor-2.new.slots.items c.args.slot c.risen_floor-floor.result c.timestamp-s.result p.query.s b c.args.interval t.here c.set_floor-2.ensures.after c.timestamp-s.ensures c.risen_floor-floor.ensures in
    let queries_are = covered_queries j.queries j.slots c.args.query c.args.leaf c.args.slot at p l b t c.args.range c.in-Some.held c.cover_at.new.queries.items c.in_ok-cover_at.ensures.ok in
    let there : c.args.piece.now ≡ Some c.in-Some.held = search rules in
    rw there (subst (λ (k : Journaled). IsRegistered k c.args.query c.args.leaf c.args.slot c.args.interval c.args.range c.in-Some.held (record j { slots = c.set_floor-2.new.slots.items; queries = c.cover_at.new.queries.items })) c.self.view_is
    (is_registered j c.args.query c.args.leaf c.args.slot c.args.interval at p l b t c.args.range c.in-Some.held c.set_floor-2.new.slots.items c.cover_at.new.queries.items free above (sym safe ∙ c.if-not-is_safe_at.false) slots_are queries_are))
