use Rattle.std.proofs.Common.{◌<◌, Some, None, ap, length, arith, lit<}
use Rattle.std.proofs.lemmas.Str.Pattern.{split_parts}
use Rattle.span_command.proofs.Spaces.{parted}
use Rattle.span_command.proofs.word.word_and_rest.Goals as goal

pub returns-in_err-word : goal.returns-in_err-word
returns-in_err-word c =
    let whole = split_parts 32 c.args.words.now None c.in_err-word.ensures.cases (lit< tt) in
    rw c.from_residual.ensures (λ word rest good e. parted c.args.words.now word rest whole e)

pub returns : goal.returns
returns c =
    let parts = split_parts 32 c.args.words.now (Some (c.in_ok-word.word, c.in_ok-word.rest)) c.in_ok-word.ensures.cases (lit< tt) in
    let some : 0 < length c.in_ok-word.word.now = grind (c.is_empty.ensures, c.if-is_empty.false, arith) in
    (((λ e. absurd (omega (arith, some, ap length e))), parts.1), parts.0)
