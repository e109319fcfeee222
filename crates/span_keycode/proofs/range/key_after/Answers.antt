use Rattle.std.proofs.Common.{◌+◌, ◌-◌, ◌<◌, ◌++◌, ◌∷◌, [], List, ℕ, arith, sym, ◌∙◌, ap, get_or}
use Rattle.span_keycode.proofs.Nexts.{kept_grown}
use Rattle.span_keycode.proofs.range.key_after.Goals as goal

pub returns : goal.returns
returns c =
    let cs = c.args.code.now in
    let kept = c.kept_len-kept.result in
    let some : 0 < kept = omega arith in
    let grown = kept_grown cs kept some c.kept_len-kept.ensures.within (c.kept_len-kept.ensures.last some) in
    let p = c.in_ok-push.ensures.ok in let b = c.in_ok-bytes.ensures.ok in
    c.from_small_vec.ensures ∙ p ∙ ap (λ (xs : List ℕ). xs ++ (get_or cs (kept - 1) 0 + 1) ∷ []) b ∙ sym grown ∙ sym c.kept_len-kept.ensures.next
