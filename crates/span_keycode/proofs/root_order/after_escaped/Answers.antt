use Rattle.std.proofs.Common.{◌≤◌, [], ◌∷◌, length, drop, get_or, ◌+◌, arith}
use Rattle.std.proofs.lemmas.Result.{err_from_is_err_and}
use Rattle.span_keycode.specs.Coding.{in_direction, escaped, escaped_byte}
use Rattle.span_keycode.proofs.Comparing.{left_more, left_decided, last_part, escaped_next, end_directed}
use Rattle.span_keycode.proofs.root_order.after_escaped.Goals as goal

pub returns-in_err-rest : goal.returns-in_err-rest
returns-in_err-rest c =
    let p = err_from_is_err_and c.from_residual.result c.from_residual.ensures.1 in
    let d = c.args.desc in
    let bs = c.args.text.now in
    let i = c.loop-byte.byte-index in
    rw (p.1, p.2) (left_decided (in_direction d (escaped bs)) c.args.bytes.now (in_direction d (escaped (drop i bs))) c.loop-byte.rest.now
    (in_direction d (escaped_byte (get_or bs i 0) [])) (in_direction d (escaped (drop (i + 1) bs))) _
    c.loop-byte.invariant (escaped_next d bs i c.loop-byte-test.true) c.in_err-rest.ensures)

pub loop-byte-preserved : goal.loop-byte-preserved
loop-byte-preserved c =
    let d = c.args.desc in
    let bs = c.args.text.now in
    let i = c.loop-byte.byte-index in
    left_more (in_direction d (escaped bs)) c.args.bytes.now (in_direction d (escaped (drop i bs))) c.loop-byte.rest.now
    (in_direction d (escaped_byte (get_or bs i 0) [])) (in_direction d (escaped (drop (i + 1) bs))) c.in_ok-rest.rest.now
    c.loop-byte.invariant (escaped_next d bs i c.loop-byte-test.true) c.in_ok-rest.ensures

pub returns-in_err-rest-2 : goal.returns-in_err-rest-2
returns-in_err-rest-2 c =
    let p = err_from_is_err_and c.from_residual-in_err-rest-2.result c.from_residual-in_err-rest-2.ensures.1 in
    let d = c.args.desc in
    let bs = c.args.text.now in
    let i = c.loop-byte.byte-index in
    let all : length bs ≤ i = omega arith in
    rw (p.1, p.2) (left_decided (in_direction d (escaped bs)) c.args.bytes.now (in_direction d (escaped (drop i bs))) c.loop-byte.rest.now
    (in_direction d (0 ∷ [])) (in_direction d (1 ∷ [])) _ c.loop-byte.invariant (end_directed d bs i all) c.in_err-rest-2.ensures)

pub returns : goal.returns
returns c =
    let d = c.args.desc in
    let bs = c.args.text.now in
    let i = c.loop-byte.byte-index in
    let all : length bs ≤ i = omega arith in
    let rest = c.in_ok-rest-2.rest.now in
    last_part (in_direction d (escaped bs)) c.args.bytes.now (in_direction d (1 ∷ [])) rest
    (left_more (in_direction d (escaped bs)) c.args.bytes.now (in_direction d (escaped (drop i bs))) c.loop-byte.rest.now
    (in_direction d (0 ∷ [])) (in_direction d (1 ∷ [])) rest c.loop-byte.invariant (end_directed d bs i all) c.in_ok-rest-2.ensures)
    c.after_directed-2.result c.after_directed-2.ensures
