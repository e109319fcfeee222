use Rattle.std.proofs.Common.{ℕ, [], ◌∷◌, drop, get_or}
use Rattle.std.proofs.lemmas.Result.{err_from_is_err_and}
use Rattle.span_keycode.specs.Limits.{IsTooLong}
use Rattle.span_keycode.specs.Coding.{in_direction}
use Rattle.span_keycode.proofs.Lengths.{part_too_long, same_lengths, byte_left}
use Rattle.span_keycode.proofs.column.push_all.Goals as goal

pub returns-in_err-push_directed-clause-memory : goal.returns-in_err-push_directed-clause-memory
returns-in_err-push_directed-clause-memory c =
    let p = err_from_is_err_and c.from_residual.result c.from_residual.ensures.1 in
    let d = c.args.desc in
    let bs = c.args.bytes.now in
    let i = c.loop-byte.byte-index in
    let out = c.loop-byte.out in
    let b : ℕ = get_or bs i 0 in
    let long : IsTooLong out (in_direction d (b ∷ [])) = c.in_err-push_directed.ensures.memory in
    rw p.1 (part_too_long c.args.out.now out (in_direction d bs) (in_direction d (b ∷ [])) (in_direction d (drop i bs)) c.loop-byte.invariant.capacity
    (same_lengths c.args.out.now out (in_direction d bs) (in_direction d (drop i bs)) c.loop-byte.invariant.bytes) (byte_left d bs i c.loop-byte-test.true b) long)
