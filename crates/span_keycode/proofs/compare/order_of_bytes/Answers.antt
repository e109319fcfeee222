use Rattle.std.proofs.Common.{◌≡◌, ◌≤◌, ◌+◌, ◌-◌, ◌*◌, ◌∙◌, arith, rules, length, take}
use Rattle.span_keycode.proofs.Words.{words_decide, beginning_grows, beginning_of_fewer, lengths_decide, least}
use Rattle.span_keycode.proofs.compare.order_of_bytes.Goals as goal

pub returns-then-first-second : goal.returns-then-first-second
returns-then-first-second c =
    c.cmp-then-first-second.ensures
    ∙ words_decide c.args.left.now c.args.right.now (c.loop-word.word * 8) c.word_at-first.result c.word_at-second.result c.loop-word.invariant
    (search rules) (search rules) c.word_at-first.ensures c.word_at-second.ensures c.if-first-second.true

pub loop-word-preserved : goal.loop-word-preserved
loop-word-preserved c =
    let next : (c.loop-word.word + 1) * 8 ≡ c.loop-word.word * 8 + 8 = omega arith in
    rw next (beginning_grows c.args.left.now c.args.right.now (c.loop-word.word * 8) c.word_at-first.result c.word_at-second.result c.loop-word.invariant
    c.word_at-first.ensures c.word_at-second.ensures c.if-first-second.false)

pub returns-then-first-second-2 : goal.returns-then-first-second-2
returns-then-first-second-2 c =
    let last = c.min-both.result - 8 in
    let within : last ≤ c.loop-word.word * 8 = omega arith in
    c.cmp-then-first-second-2.ensures
    ∙ words_decide c.args.left.now c.args.right.now last c.word_at-first-2.result c.word_at-second-2.result
    (beginning_of_fewer c.args.left.now c.args.right.now last (c.loop-word.word * 8) within c.loop-word.invariant)
    (search rules) (search rules) c.word_at-first-2.ensures c.word_at-second-2.ensures c.if-first-second-2.true

pub returns : goal.returns
returns c =
    let last = c.min-both.result - 8 in
    let within : last ≤ c.loop-word.word * 8 = omega arith in
    let all : last + 8 ≡ c.min-both.result = omega arith in
    let lengths = least c.min-both.result (length c.args.left.now) (length c.args.right.now) c.min-both.ensures in
    let grown : take (last + 8) c.args.left.now ≡ take (last + 8) c.args.right.now =
    beginning_grows c.args.left.now c.args.right.now last c.word_at-first-2.result c.word_at-second-2.result
    (beginning_of_fewer c.args.left.now c.args.right.now last (c.loop-word.word * 8) within c.loop-word.invariant)
    c.word_at-first-2.ensures c.word_at-second-2.ensures c.if-first-second-2.false in
    c.cmp-2.ensures ∙ lengths_decide c.args.left.now c.args.right.now c.min-both.result lengths.0 lengths.1 lengths.2 (rw all at grown)
