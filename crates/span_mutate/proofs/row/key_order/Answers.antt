use Rattle.std.proofs.Common.{◌≡◌, sym, ◌∙◌, arith, length, drop, length-drop}
use Rattle.std.specs.Ordering.{nat_cmp}
use Rattle.span_keycode.proofs.Words.{lengths_past}
use Rattle.span_mutate.proofs.Keys.{lengths_decide}
use Rattle.span_mutate.proofs.row.key_order.Goals as goal

pub returns : goal.returns
returns c =
    let i = c.loop-i.i in
    let left = c.args.left.now in
    let right = c.args.right.now in
    let end = lengths_decide c.args.columns.now i (drop i left) (drop i right) (omega (arith, length-drop i left, length-drop i right)) in
    let lengths : nat_cmp (length (drop i left)) (length (drop i right)) ≡ nat_cmp (length left) (length right) =
    simp length-drop (lengths_past i (length left) (length right) (omega arith) (omega arith)) in
    c.cmp.ensures ∙ sym (c.loop-i.invariant ∙ end ∙ lengths)
