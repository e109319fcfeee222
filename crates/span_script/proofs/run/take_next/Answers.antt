use Rattle.span_script.proofs.run.take_next.Goals as goal

pub returns-then-is_ready-clause-next : goal.returns-then-is_ready-clause-next
returns-then-is_ready-clause-next g c = λ text to_come.
    let remaining = g.I.InputDevice.remaining in
    c.take.ensures.next (remaining c.loop.input) text (c.is_ready.ensures.ready.0 c.if-is_ready.true)
    (c.is_ready.ensures.to_come (remaining c.loop.input) text (c.loop.invariant.to_come text to_come))
