use Rattle.std.proofs.Common.{◌<◌, ◌≤◌, ◌+◌, List, ℕ, Option, true, length, take, drop, refl, inl, inr, length-drop, length-take-le, arith}
use Rattle.span_command.specs.declared.line.Lines.{Lines}
use Rattle.span_command.specs.Unread.{HoldsSame, IsStillToCome}
use Rattle.span_command.proofs.Steps.{stays, came, failed, still_none, ends, goes_on}
use Rattle.span_command.proofs.line.Lines.read.Goals as goal

-- what was held before the read is held once there is capacity
with_capacity : (old less front wide : Lines) (known : Option (List ℕ)) (text : List ℕ)
    → ((known : Option (List ℕ)) (text : List ℕ) → IsStillToCome old known text → IsStillToCome less known text) → HoldsSame less front → HoldsSame front wide
    → IsStillToCome old known text → IsStillToCome wide known text
with_capacity old less front wide known text gone moved grown was_to_come =
    stays front wide grown known text (stays less front moved known text (gone known text was_to_come))

pub invariant_of-self : goal.invariant_of-self
invariant_of-self g c =
    let lines = c.reserve_capacity.new.self in
    let read = c.read_after.ensures in
    record {
      taken_in_order = lines.taken_in_order;
      taken_before = lines.taken_before;
      in_order = lines.in_order;
      searched_within = lines.searched_within;
      within = omega (arith, lines.within, read.len);
      no_lf = still_none lines.buffer.items c.read_after.new.buffer.items lines.start lines.searched lines.end read.front lines.searched_within lines.no_lf;
    }

pub returns-in_err-count-clause-to_come : goal.returns-in_err-count-clause-to_come
returns-in_err-count-clause-to_come g c =
    let lines = c.reserve_capacity.new.self in
    let before = g.I.InputDevice.remaining c.args.input.now in
    λ text was_to_come.
    failed lines.is_cut lines.has_ended lines.buffer.items c.read_after.new.buffer.items lines.start lines.end text before (g.I.InputDevice.remaining c.read_after.new.input)
    c.read_after.ensures.front c.in_err-count.ensures.kept
    (with_capacity c.args.self.now c.let_go.new.self c.move_to_front.new.self lines before text c.let_go.ensures c.move_to_front.ensures c.reserve_capacity.ensures.same was_to_come)

pub invariant_of-self-then-count-eq0 : goal.invariant_of-self-then-count-eq0
invariant_of-self-then-count-eq0 g c =
    let lines = c.reserve_capacity.new.self in
    let read = c.read_after.ensures in
    record {
      taken_in_order = lines.taken_in_order;
      taken_before = lines.taken_before;
      in_order = lines.in_order;
      searched_within = lines.searched_within;
      within = omega (arith, lines.within, read.len);
      no_lf = still_none lines.buffer.items c.read_after.new.buffer.items lines.start lines.searched lines.end read.front lines.searched_within lines.no_lf;
    }

pub returns-then-count-eq0-clause-to_come : goal.returns-then-count-eq0-clause-to_come
returns-then-count-eq0-clause-to_come g c =
    let lines = c.reserve_capacity.new.self in
    let before = g.I.InputDevice.remaining c.args.input.now in
    λ text was_to_come.
    came lines.is_cut lines.has_ended true lines.buffer.items c.read_after.new.buffer.items lines.start lines.end c.in_ok-count.count lines.end text before
    (g.I.InputDevice.remaining c.read_after.new.input) c.read_after.ensures.front (omega (arith, lines.in_order, lines.searched_within)) (omega (arith, c.if-count-eq0.true))
    c.in_ok-count.ensures.bytes (λ ended. inl (c.in_ok-count.ensures.end c.if-count-eq0.true))
    (with_capacity c.args.self.now c.let_go.new.self c.move_to_front.new.self lines before text c.let_go.ensures c.move_to_front.ensures c.reserve_capacity.ensures.same was_to_come)

pub returns-then-count-eq0-clause-advances : goal.returns-then-count-eq0-clause-advances
returns-then-count-eq0-clause-advances g c =
    ends (g.I.InputDevice.remaining c.args.input.now) (g.I.InputDevice.remaining c.read_after.new.input)
    (take c.in_ok-count.count (drop c.reserve_capacity.new.self.end c.read_after.new.buffer.items)) c.in_ok-count.ensures.bytes

pub invariant_of-self-2 : goal.invariant_of-self-2
invariant_of-self-2 g c =
    let lines = c.reserve_capacity.new.self in
    record {
      taken_in_order = lines.taken_in_order;
      taken_before = lines.taken_before;
      in_order = lines.in_order;
      searched_within = omega (arith, lines.searched_within);
      within = c.in_ok-count.ensures.fits;
      no_lf = still_none lines.buffer.items c.read_after.new.buffer.items lines.start lines.searched lines.end c.read_after.ensures.front lines.searched_within lines.no_lf;
    }

pub returns-clause-to_come : goal.returns-clause-to_come
returns-clause-to_come g c =
    let lines = c.reserve_capacity.new.self in
    let before = g.I.InputDevice.remaining c.args.input.now in
    λ text was_to_come.
    came lines.is_cut lines.has_ended lines.has_ended lines.buffer.items c.read_after.new.buffer.items lines.start lines.end c.in_ok-count.count (lines.end + c.in_ok-count.count) text before
    (g.I.InputDevice.remaining c.read_after.new.input) c.read_after.ensures.front (omega (arith, lines.in_order, lines.searched_within)) refl
    c.in_ok-count.ensures.bytes (λ ended. inr ended)
    (with_capacity c.args.self.now c.let_go.new.self c.move_to_front.new.self lines before text c.let_go.ensures c.move_to_front.ensures c.reserve_capacity.ensures.same was_to_come)

pub returns-clause-advances : goal.returns-clause-advances
returns-clause-advances g c =
    let lines = c.reserve_capacity.new.self in
    let buffer = c.read_after.new.buffer in
    let count = c.in_ok-count.count in
    let enough : count ≤ length (drop lines.end buffer.items) = omega (arith, length-drop lines.end buffer.items, c.in_ok-count.ensures.fits, buffer.ok) in
    let some : 0 < length (take count (drop lines.end buffer.items)) = omega (arith, length-take-le count (drop lines.end buffer.items) enough, c.if-count-eq0.false) in
    goes_on lines.has_ended (g.I.InputDevice.remaining c.args.input.now) (g.I.InputDevice.remaining c.read_after.new.input)
    (take count (drop lines.end buffer.items)) c.in_ok-count.ensures.bytes some
