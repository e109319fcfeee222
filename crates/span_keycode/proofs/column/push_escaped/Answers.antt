use Rattle.std.proofs.Common.{[], ◌∷◌, drop, get_or}
use Rattle.std.proofs.lemmas.Result.{err_from_is_err_and}
use Rattle.span_keycode.specs.Limits.{IsTooLong}
use Rattle.span_keycode.specs.Coding.{escaped, escaped_byte, in_direction}
use Rattle.span_keycode.proofs.Lengths.{part_too_long, same_lengths, escape_left, end_left}
use Rattle.span_keycode.proofs.column.push_escaped.Goals as goal

pub returns-in_err-push_escaped_byte-clause-memory : goal.returns-in_err-push_escaped_byte-clause-memory
returns-in_err-push_escaped_byte-clause-memory c =
    let p = err_from_is_err_and c.from_residual.result c.from_residual.ensures.1 in
    let d = c.args.desc in
    let bs = c.args.bytes.now in
    let i = c.loop-byte.byte-index in
    let out = c.loop-byte.out in
    let long : IsTooLong out (in_direction d (escaped_byte (get_or bs i 0) [])) = c.in_err-push_escaped_byte.ensures.memory in
    rw p.1 (part_too_long c.args.out.now out (in_direction d (escaped bs)) (in_direction d (escaped_byte (get_or bs i 0) [])) (in_direction d (escaped (drop i bs))) c.loop-byte.invariant.capacity
    (same_lengths c.args.out.now out (in_direction d (escaped bs)) (in_direction d (escaped (drop i bs))) c.loop-byte.invariant.bytes) (escape_left d bs i c.loop-byte-test.true) long)

pub returns-in_err-push_directed-clause-memory : goal.returns-in_err-push_directed-clause-memory
returns-in_err-push_directed-clause-memory c =
    let p = err_from_is_err_and c.from_residual-in_err-push_directed.result c.from_residual-in_err-push_directed.ensures.1 in
    let d = c.args.desc in
    let bs = c.args.bytes.now in
    let i = c.loop-byte.byte-index in
    let out = c.loop-byte.out in
    let long : IsTooLong out (in_direction d (0 ∷ [])) = c.in_err-push_directed.ensures.memory in
    rw p.1 (part_too_long c.args.out.now out (in_direction d (escaped bs)) (in_direction d (0 ∷ [])) (in_direction d (escaped (drop i bs))) c.loop-byte.invariant.capacity
    (same_lengths c.args.out.now out (in_direction d (escaped bs)) (in_direction d (escaped (drop i bs))) c.loop-byte.invariant.bytes) (end_left d (drop i bs) 0) long)
