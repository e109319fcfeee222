use Rattle.span_command.proofs.Spaces.{whole_not_two, parts_of_two}
use Rattle.span_command.proofs.word.two_numbers.Goals as goal

pub returns-in_err-first : goal.returns-in_err-first
returns-in_err-first c = rw c.from_residual.ensures (whole_not_two c.args.words.now c.in_err-first.ensures)

pub returns-in_err-number_of : goal.returns-in_err-number_of
returns-in_err-number_of c = rw c.from_residual-in_err-number_of.ensures (λ a b two.
    let parts = parts_of_two c.args.words.now c.in_ok-first.first.now c.in_ok-first.second.now c.in_ok-first.ensures.0 c.in_ok-first.ensures.1 a b two in
    c.in_err-number_of.ensures a parts.0)

pub returns-in_err-number_of-2 : goal.returns-in_err-number_of-2
returns-in_err-number_of-2 c = rw c.from_residual-in_err-number_of-2.ensures (λ a b two.
    let parts = parts_of_two c.args.words.now c.in_ok-first.first.now c.in_ok-first.second.now c.in_ok-first.ensures.0 c.in_ok-first.ensures.1 a b two in
    c.in_err-number_of-2.ensures b parts.1)
