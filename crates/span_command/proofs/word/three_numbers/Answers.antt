use Rattle.span_command.proofs.Spaces.{whole_not_three, parts_of_three}
use Rattle.span_command.proofs.word.three_numbers.Goals as goal

pub returns-in_err-first : goal.returns-in_err-first
returns-in_err-first c = rw c.from_residual.ensures (whole_not_three c.args.words.now c.in_err-first.ensures)

pub returns-in_err-first-2 : goal.returns-in_err-first-2
returns-in_err-first-2 c = rw c.from_residual-in_err-first-2.ensures (λ a b c' three.
    let parts = parts_of_three c.args.words.now c.in_ok-first.first.now c.in_ok-first.others.now c.in_ok-first.ensures.0 c.in_ok-first.ensures.1 a b c' three in
    c.in_err-first-2.ensures a parts.0)

pub returns-in_err-second : goal.returns-in_err-second
returns-in_err-second c = rw c.from_residual-in_err-second.ensures (λ a b c' three.
    let parts = parts_of_three c.args.words.now c.in_ok-first.first.now c.in_ok-first.others.now c.in_ok-first.ensures.0 c.in_ok-first.ensures.1 a b c' three in
    c.in_err-second.ensures b c' parts.1)
