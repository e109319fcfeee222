use Rattle.std.proofs.Common.{◌≤◌, subst}
use Rattle.span_grammar.specs.Rules.{most_openings}
use Rattle.span_parser.specs.QueryTexts.{QueryText}
use Rattle.span_parser.proofs.Falling.{output_more_shrinks}
use Rattle.span_parser.proofs.clause.Clauses.output_rest.Goals as goal

pub loop-tokens-smaller : goal.loop-tokens-smaller
loop-tokens-smaller c =
    let limited = subst (λ (q : QueryText). q.left ≤ most_openings) c.self.view_is c.self.invariant in
    (output_more_shrinks c.args.self.now.text c.args.self.now.left limited).falls c.loop-tokens.tokens.now c.output_more.new.tokens.now c.in_ok-next.next c.in_ok-next.ensures
