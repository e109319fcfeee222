use Rattle.std.proofs.Common.{◌≡◌, ◌∷◌, ◌++◌, [], ◌∙◌, ap, arith}
use Rattle.std.proofs.lemmas.Grind.{common_steps}
use Rattle.span_grammar.specs.declared.class.Class.{Class}
use Rattle.span_grammar.specs.declared.class.Lexeme.{Lexeme}
use Rattle.span_grammar.proofs.Classing.{lexeme_added, lexemes_over}
use Rattle.span_grammar.proofs.classify.lexemes.Goals as goal

pub loop-token-preserved : goal.loop-token-preserved
loop-token-preserved c =
    let whole : c.loop-token.rest.now ≡ c.in-Some.token.now ∷ c.in-Some.tail.now = grind (arith, common_steps) in
    lexeme_added c.args.text.now c.loop-token.found.items c.push.new.self.items c.in-Some.token.now c.loop-token.rest.now c.in-Some.tail.now c.args.tokens.now c.loop-token.invariant whole
    (c.in_ok-push.ensures.items ∙ ap (λ (w : Class). let l : Lexeme = record { class = w; token = c.in-Some.token.now } in c.loop-token.found.items ++ (l ∷ [])) c.class_at-class.ensures)

pub returns : goal.returns
returns c =
    let over : c.loop-token.rest.now ≡ [] = grind (arith, common_steps) in
    lexemes_over c.args.text.now c.loop-token.found.items c.loop-token.rest.now c.args.tokens.now c.loop-token.invariant over
