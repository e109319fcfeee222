use Rattle.std.proofs.Common.{◌≡◌, ◌∙◌, ◌<◌, ◌+◌, Bool, [], false, true, length, slice_range, sym, ap, subst, inl, ⊎_elim, true≢false, arith}
use Rattle.span_command.specs.Unread.{held, HasParts}
use Rattle.span_command.proofs.Ranges.{length_of_range, nothing}
use Rattle.span_command.proofs.Steps.{fits, stays, cut_there, lf_held, no_lf_held, none_held, takes_first, takes_last, takes_next}
use Rattle.span_command.proofs.line.Lines.take.Goals as goal
use Rattle.span_command.proofs.line.Lines.take.Goals.{else-self-2-via-then-self-2+else-not-self-2, else-self-2-via-else-self-2}

pub returns-then-self-clause-next : goal.returns-then-self-clause-next
returns-then-self-clause-next c =
    let lines = c.search.new.self in
    let bytes = lines.buffer.items in
    let front = slice_range bytes lines.start lines.searched in
    let back = slice_range bytes (lines.searched + 1) lines.end in
    let passed = c.pass.ensures in
    λ known text ready was_to_come.
    takes_next lines c.pass.new.self lines.is_cut lines.has_ended front back known text passed.taken_is_cut passed.taken passed.held passed.whole passed.has_ended
    (λ rest. takes_first lines.is_cut lines.has_ended (held lines) front back rest text (cut_there lines c.if-self.true (c.search.ensures.found c.if-self.true)) lines.no_lf)
    (stays c.args.self.now lines c.search.ensures.same known text was_to_come)

pub returns-then-self-clause-waits : goal.returns-then-self-clause-waits
returns-then-self-clause-waits c =
    λ none. absurd (none (inl (lf_held c.args.self.now c.search.new.self c.search.ensures.same c.if-self.true (c.search.ensures.found c.if-self.true))))

pub returns-then-not-self-clause-next : goal.returns-then-not-self-clause-next
returns-then-not-self-clause-next c =
    let same = c.search.ensures.same in
    λ known text ready was_to_come.
    let never : ⊥ = ⊎_elim
    (λ some. no_lf_held c.args.self.now c.search.new.self same c.if-self.false some)
    (λ ended. true≢false (sym ended ∙ sym same.has_ended ∙ c.if-not-self.true)) ready in
    absurd never

pub returns-clause-next : goal.returns-clause-next
returns-clause-next c =
    let lines = c.search.new.self in
    let bytes = lines.buffer.items in
    let passed = c.pass-2.ensures in
    let all : lines.searched ≡ lines.end = omega (arith, lines.searched_within, c.if-self.false) in
    let some : lines.is_cut ≡ false → 0 < length (held lines) = elim c.else-self-2.branch [
      | else-self-2-via-then-self-2+else-not-self-2 w ↦ λ whole. absurd (true≢false (sym w.if-not-self-2.false ∙ whole))
      | else-self-2-via-else-self-2 w ↦ λ whole.
          omega (arith, length_of_range bytes lines.start lines.end (fits lines), w.if-self-2.false, lines.in_order, lines.searched_within)
    ] in
    λ known text ready was_to_come.
    takes_next lines c.pass-2.new.self lines.is_cut true (held lines) [] known text passed.taken_is_cut (passed.taken ∙ ap (slice_range bytes lines.start) all)
    (passed.held ∙ nothing bytes lines.end) passed.whole (passed.has_ended ∙ c.if-not-self.false)
    (λ rest parts. takes_last lines.is_cut (held lines) rest text (none_held lines c.if-self.false) some
    (subst (λ (ended : Bool). HasParts lines.is_cut ended (held lines) rest text) c.if-not-self.false parts))
    (stays c.args.self.now lines c.search.ensures.same known text was_to_come)
