use Rattle.std.proofs.Common.{[], ◌∷◌}
use Rattle.std.proofs.lemmas.Result.{err_from_is_err_and}
use Rattle.span_keycode.specs.Coding.{in_direction, escaped_byte}
use Rattle.span_keycode.proofs.Comparing.{first_same, first_decides, last_part, zero_directed, more_directed}
use Rattle.span_keycode.proofs.root_order.after_escaped_byte.Goals as goal

pub returns-in_err-rest : goal.returns-in_err-rest
returns-in_err-rest c =
    let p = err_from_is_err_and c.from_residual.result c.from_residual.ensures.1 in
    let d = c.args.desc in
    let b = c.args.byte in
    let more = more_directed d b in
    rw (p.1, p.2) (first_decides (in_direction d (escaped_byte b [])) (in_direction d (b ∷ [])) more.0 c.args.bytes.now more.1 _ c.in_err-rest.ensures)

pub returns-then-byte-eq0 : goal.returns-then-byte-eq0
returns-then-byte-eq0 c =
    let d = c.args.desc in
    let b = c.args.byte in
    let whole = in_direction d (escaped_byte b []) in
    let last = in_direction d (255 ∷ []) in
    let rest = c.in_ok-rest.rest.now in
    last_part whole c.args.bytes.now last rest (first_same whole (in_direction d (b ∷ [])) last c.args.bytes.now (zero_directed d b c.if-byte-eq0.true) rest c.in_ok-rest.ensures)
    c.after_directed-then-byte-eq0.result c.after_directed-then-byte-eq0.ensures
