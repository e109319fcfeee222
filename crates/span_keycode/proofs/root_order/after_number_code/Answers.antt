use Rattle.std.proofs.Common.{ℕ, List, [], ◌∷◌, subst}
use Rattle.std.specs.Int.{to_be_bytes, w64}
use Rattle.std.proofs.lemmas.Result.{err_from_is_err_and}
use Rattle.span_keycode.specs.Coding.{in_direction}
use Rattle.span_keycode.proofs.Comparing.{IsLeft, first_same, first_decides, last_part, first_directed}
use Rattle.span_keycode.proofs.root_order.after_number_code.Goals as goal

pub returns-in_err-rest : goal.returns-in_err-rest
returns-in_err-rest c =
    let p = err_from_is_err_and c.from_residual.result c.from_residual.ensures.1 in
    let d = c.args.desc in
    let code = to_be_bytes w64 c.args.number in
    rw (p.1, p.2) (first_decides (in_direction d (1 ∷ code)) (in_direction d (1 ∷ [])) (in_direction d code) c.args.bytes.now (first_directed d 1 code) _ c.in_err-rest.ensures)

pub returns : goal.returns
returns c =
    let d = c.args.desc in
    let code = c.to_be_bytes.result in
    let rest = c.in_ok-rest.rest.now in
    let last : IsLeft (in_direction d (1 ∷ code)) c.args.bytes.now (in_direction d code) rest =
    first_same (in_direction d (1 ∷ code)) (in_direction d (1 ∷ [])) (in_direction d code) c.args.bytes.now (first_directed d 1 code) rest c.in_ok-rest.ensures in
    let P : List ℕ → Type 0 = λ xs. IsLeft (in_direction d (1 ∷ xs)) c.args.bytes.now (in_direction d code) rest in
    last_part (in_direction d (1 ∷ to_be_bytes w64 c.args.number)) c.args.bytes.now (in_direction d code) rest (subst P c.to_be_bytes.ensures last) c.after_all.result c.after_all.ensures
