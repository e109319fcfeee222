use Rattle.std.proofs.Common.{◌≡◌, ℕ, ◌+◌, ◌<◌, List, Some, arith, ap, subst, length, length-drop}
use Rattle.span_keycode.specs.Coding.{in_direction}
use Rattle.span_keycode.specs.Texts.{text_at}
use Rattle.span_keycode.proofs.Eights.{first_turned}
use Rattle.span_keycode.proofs.Skips.{skip_text}
use Rattle.span_keycode.proofs.root.skip_value.Goals as goal

pub returns-in_default : goal.returns-in_default
returns-in_default c =
    let bs = c.args.bytes.now in
    let d = c.args.column.desc in
    let n = c.skip_text.result in
    let some : 0 < length bs = omega arith in
    let P : List ℕ → Type 0 = λ xs. (text more : List ℕ) → text_at (in_direction d xs) ≡ Some (text, more) → n + length more ≡ length xs in
    skip_text c.args.column bs c.apply_direction.result n c.in_default.not-Int c.in_default.not-Bool c.if-apply_direction-eq0.false (first_turned d bs c.apply_direction.result some c.apply_direction.ensures)
    (omega (arith, c.skip_text.ensures.within, ap (length {A = ℕ}) c.after.ensures, length-drop 1 bs)) (subst P c.after.ensures c.skip_text.ensures.text)
