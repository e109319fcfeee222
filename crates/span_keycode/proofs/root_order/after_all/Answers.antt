use Rattle.std.proofs.Common.{[], ◌∷◌, drop, get_or, ◌+◌}
use Rattle.std.proofs.lemmas.Result.{err_from_is_err_and}
use Rattle.span_keycode.specs.Coding.{in_direction}
use Rattle.span_keycode.proofs.Comparing.{left_more, left_decided, byte_next}
use Rattle.span_keycode.proofs.root_order.after_all.Goals as goal

pub returns-in_err-rest : goal.returns-in_err-rest
returns-in_err-rest c =
    let p = err_from_is_err_and c.from_residual.result c.from_residual.ensures.1 in
    let d = c.args.desc in
    let bs = c.args.code.now in
    let i = c.loop-byte.byte-index in
    rw (p.1, p.2) (left_decided (in_direction d bs) c.args.bytes.now (in_direction d (drop i bs)) c.loop-byte.rest.now (in_direction d (get_or bs i 0 ∷ [])) (in_direction d (drop (i + 1) bs)) _
    c.loop-byte.invariant (byte_next d bs i c.loop-byte-test.true) c.in_err-rest.ensures)

pub loop-byte-preserved : goal.loop-byte-preserved
loop-byte-preserved c =
    let d = c.args.desc in
    let bs = c.args.code.now in
    let i = c.loop-byte.byte-index in
    left_more (in_direction d bs) c.args.bytes.now (in_direction d (drop i bs)) c.loop-byte.rest.now (in_direction d (get_or bs i 0 ∷ [])) (in_direction d (drop (i + 1) bs)) c.in_ok-rest.rest.now
    c.loop-byte.invariant (byte_next d bs i c.loop-byte-test.true) c.in_ok-rest.ensures
