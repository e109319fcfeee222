use Rattle.std.proofs.Common.{List, ℕ, ◌≡◌, [], ◌∷◌, sym, subst, arith}
use Rattle.std.proofs.lemmas.Grind.{common_steps}
use Rattle.span_value.proofs.CellTexts.{unhexed_odd, unhexed_bad, unhexed_end, unhexed_step, IsUnhexedFrom}
use Rattle.span_value.proofs.cell.decode_hex.Goals as goal

pub returns-in_default-split_first : goal.returns-in_default-split_first
returns-in_default-split_first c =
    let whole : c.loop-high.rest.now ≡ c.in-Some.high.now ∷ [] = grind (arith, common_steps) in
    unhexed_odd c.args.digits.now c.loop-high.out.items c.loop-high.rest.now c.in-Some.high.now c.loop-high.invariant whole

pub returns-in_default-byte_from : goal.returns-in_default-byte_from
returns-in_default-byte_from c =
    let whole : c.loop-high.rest.now ≡ c.in-Some.high.now ∷ c.in-Some-split_first.low.now ∷ c.in-Some-split_first.after.now = grind (arith, common_steps) in
    unhexed_bad c.args.digits.now c.loop-high.out.items c.loop-high.rest.now c.in-Some-split_first.after.now c.in-Some.high.now c.in-Some-split_first.low.now c.loop-high.invariant whole c.in_default-byte_from.ensures

pub loop-high-preserved : goal.loop-high-preserved
loop-high-preserved c =
    let whole : c.loop-high.rest.now ≡ c.in-Some.high.now ∷ c.in-Some-split_first.low.now ∷ c.in-Some-split_first.after.now = grind (arith, common_steps) in
    let made = c.in-Some-byte_from.ensures in
    let P : List ℕ → Type 0 = λ w. IsUnhexedFrom c.args.digits.now w c.in-Some-split_first.after.now in
    subst P (sym c.in_ok-push.ensures.items)
    (unhexed_step c.args.digits.now c.loop-high.out.items c.loop-high.rest.now c.in-Some-split_first.after.now c.in-Some.high.now c.in-Some-split_first.low.now made.0 made.1 c.in-Some-byte_from.byte c.loop-high.invariant whole made.2 made.3 made.4)

pub returns : goal.returns
returns c =
    let over : c.loop-high.rest.now ≡ [] = grind (arith, common_steps) in
    unhexed_end c.args.digits.now c.loop-high.out.items c.loop-high.rest.now c.loop-high.invariant over
