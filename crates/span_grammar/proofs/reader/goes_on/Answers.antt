use Rattle.std.proofs.Common.{◌≡◌, ◌∷◌, ◌∙◌, arith}
use Rattle.std.proofs.lemmas.Grind.{common_steps}
use Rattle.span_grammar.proofs.Begun.{begins_as}
use Rattle.span_grammar.proofs.Steps.{starts_by}
use Rattle.span_grammar.proofs.reader.goes_on.Goals as goal

pub returns-in-Some : goal.returns-in-Some
returns-in-Some c =
    let whole : c.args.tokens.now ≡ c.in-Some.lexeme.now ∷ c.in-Some.field-0-1.now = grind (arith, common_steps) in
    starts_by c.args.part c.args.tokens.now c.in-Some.field-0-1.now c.in-Some.lexeme.now c.begins.result whole (c.begins.ensures ∙ begins_as c.args.part c.in-Some.lexeme.now.class)
