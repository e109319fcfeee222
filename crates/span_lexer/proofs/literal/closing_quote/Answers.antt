use Rattle.std.proofs.Common.{◌≡◌, ◌∙◌, sym, ap, drop, Some, None}
use Rattle.span_lexer.specs.Literals.{piece_length}
use Rattle.span_lexer.proofs.Closing.{closing_here, closing_fails, closing_steps}
use Rattle.span_lexer.proofs.literal.closing_quote.Goals as goal

pub returns-then-bytes-at-clause-end : goal.returns-then-bytes-at-clause-end
returns-then-bytes-at-clause-end c =
    sym (closing_here c.args.literal c.args.quote c.args.bytes.now c.loop-at.at c.loop-at.invariant c.loop-at-test.true c.if-bytes-at.true)

pub returns-in_err-at-clause-end : goal.returns-in_err-at-clause-end
returns-in_err-at-clause-end c =
    let none : piece_length c.args.literal (drop c.loop-at.at c.args.bytes.now) ≡ None = ap (piece_length c.args.literal) (sym c.from_place-rest.ensures) ∙ sym c.in_err-at.ensures.end in
    c.from_residual.ensures ∙ sym (closing_fails c.args.literal c.args.quote c.args.bytes.now c.loop-at.at c.loop-at.invariant c.loop-at-test.true c.if-bytes-at.false none)

pub loop-at-preserved : goal.loop-at-preserved
loop-at-preserved c =
    let some : piece_length c.args.literal (drop c.loop-at.at c.args.bytes.now) ≡ Some c.in_ok-at.field-0 = ap (piece_length c.args.literal) (sym c.from_place-rest.ensures) ∙ sym c.in_ok-at.ensures.end in
    closing_steps c.args.literal c.args.quote c.args.bytes.now c.loop-at.at c.in_ok-at.field-0 c.loop-at.invariant c.loop-at-test.true c.if-bytes-at.false some (c.in_ok-at.ensures.some.0)
