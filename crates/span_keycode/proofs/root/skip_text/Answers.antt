use Rattle.std.proofs.Common.{◌≡◌, ℕ, ◌+◌, List, arith, ◌∙◌, ap, drop, length-drop}
use Rattle.std.proofs.lemmas.List.{drop-drop}
use Rattle.span_keycode.specs.Coding.{in_direction}
use Rattle.span_keycode.specs.Texts.{text_at, with_first}
use Rattle.span_keycode.proofs.Skips.{text_step}
use Rattle.span_keycode.proofs.root.skip_text.Goals as goal

pub loop-width-preserved : goal.loop-width-preserved
loop-width-preserved c =
    let bs = c.args.bytes.now in
    let d = c.args.desc in
    let at = c.loop-width.at in
    let w = c.in-Byte.width in
    let now = rw c.after.ensures at c.in-Byte.ensures in
    let rest : drop w (drop at bs) ≡ drop (at + w) bs = drop-drop w at bs in
    record {
      within = omega (arith, now.2, c.loop-width.invariant.within, length-drop at bs);
      more = λ text more h.
          let left = c.loop-width.invariant.more text more h in
          text_step d (drop at bs) (drop (at + w) bs) left.0 more c.in-Byte.field-0 (now.0 ∙ ap (λ (xs : List ℕ). with_first c.in-Byte.field-0 (text_at (in_direction d xs))) rest) left.1;
    }
