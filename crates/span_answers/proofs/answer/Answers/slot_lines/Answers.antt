use Rattle.std.proofs.Common.{◌≡◌, ◌<◌, ℕ, zero, suc, List, [], ◌∷◌, length, slice_get, arith, None}
use Rattle.span_answers.proofs.Shards.{one_more}
use Rattle.span_answers.proofs.answer.Answers.slot_lines.Goals.{in-Some+in_ok-slot, in_default}
use Rattle.span_answers.proofs.answer.Answers.slot_lines.Goals as goal

missing : {X : Type 0} (xs : List X) (i : ℕ) → i < length xs → slice_get xs i ≡ None → ⊥
missing [] i l e = omega arith
missing (x ∷ xs) zero l e = cc e
missing (x ∷ xs) (suc i) l e = missing xs i (omega arith) e

pub loop-slot-preserved : goal.loop-slot-preserved
loop-slot-preserved c =
    let schema = c.args.core.now.schema in
    let m = c.args.core.now.machine in
    elim c.match-slot.branch [
      | in-Some+in_ok-slot w ↦
          rw (w.self-is) (one_more schema m c.args.self.now c.loop-slot.self _ c.loop-slot.slot w.in-Some.view c.loop-slot.invariant w.in-Some.ensures w.in_ok-slot.ensures.added)
      | in_default w ↦ absurd (missing m.slots c.loop-slot.slot (omega (arith, c.loop-slot-test.true, c.slots-slot-end.ensures)) w.in_default.ensures)
    ]
