use Rattle.std.proofs.Common.{◌≡◌, ◌-◌, ◌∙◌, ℕ, length, drop, sym, ap, subst, arith}
use Rattle.std.proofs.lemmas.Grind.{common_steps}
use Rattle.span_lexer.specs.Lexing.{lex_first, Reaches}
use Rattle.span_lexer.specs.declared.lexer.LexResult.{LexResult}
use Rattle.span_lexer.proofs.Fronts.{front_reaches}
use Rattle.span_lexer.proofs.lexer.lex_at.Goals as goal

pub returns-clause-reaches : goal.returns-clause-reaches
returns-clause-reaches c =
    let same : lex_first (drop c.args.place c.args.bytes.now) ≡ c.lex_first.result = ap lex_first (sym c.from_place.ensures) ∙ sym c.lex_first.ensures in
    let long : length (drop c.args.place c.args.bytes.now) ≡ length c.args.bytes.now - c.args.place = grind (arith, common_steps) in
    let P : ℕ → Type 0 = λ n. Reaches n c.lex_first.result in
    let Q : LexResult → Type 0 = λ f. Reaches (length (drop c.args.place c.args.bytes.now)) f in
    subst P long (subst Q same (front_reaches (drop c.args.place c.args.bytes.now)))
