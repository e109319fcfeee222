use Rattle.std.proofs.Common.{[], ◌∷◌}
use Rattle.std.proofs.lemmas.Result.{err_from_is_err_and}
use Rattle.span_keycode.specs.Coding.{in_direction, escaped}
use Rattle.span_keycode.proofs.Comparing.{first_same, first_decides, last_part, first_directed}
use Rattle.span_keycode.proofs.root_order.after_text.Goals as goal

pub returns-in_err-rest : goal.returns-in_err-rest
returns-in_err-rest c =
    let p = err_from_is_err_and c.from_residual.result c.from_residual.ensures.1 in
    let d = c.args.desc in
    let code = escaped c.args.text.now in
    rw (p.1, p.2) (first_decides (in_direction d (1 ∷ code)) (in_direction d (1 ∷ [])) (in_direction d code) c.args.bytes.now (first_directed d 1 code) _ c.in_err-rest.ensures)

pub returns : goal.returns
returns c =
    let d = c.args.desc in
    let code = escaped c.args.text.now in
    let whole = in_direction d (1 ∷ code) in
    let rest = c.in_ok-rest.rest.now in
    last_part whole c.args.bytes.now (in_direction d code) rest
    (first_same whole (in_direction d (1 ∷ [])) (in_direction d code) c.args.bytes.now (first_directed d 1 code) rest c.in_ok-rest.ensures)
    c.after_escaped.result c.after_escaped.ensures
