use Rattle.std.proofs.Common.{◌≡◌, ◌∙◌, ap, subst, List, ℕ}
use Rattle.span_lexer.specs.declared.token.Token.{Token}
use Rattle.span_grammar.specs.declared.class.Lexeme.{Lexeme}
use Rattle.span_grammar.specs.Classes.{lexemes_of}
use Rattle.span_grammar.specs.Judged.{HasItems, lexemes_in}
use Rattle.span_grammar.proofs.Judging.{Judges, text_read, text_refused, text_refused_all}
use Rattle.span_grammar.proofs.text.check_text.Goals as goal

pub returns-in-Ok-clause-read : goal.returns-in-Ok-clause-read
returns-in-Ok-clause-read c =
    let is = c.in-Ok.ensures.read in
    let made : HasItems c.args.text.now is.0 = record { are = is.1; spells = is.2; short = c.in-Ok.ensures.short } in
    let same : lexemes_of c.as_bytes.result.now c.as_slice.result.now ≡ lexemes_in c.args.text.now is.0 =
    ap (λ (w : List ℕ). lexemes_of w c.as_slice.result.now) c.as_bytes.ensures.value ∙ ap (λ (w : List Token). lexemes_of c.args.text.now w) (c.as_slice.ensures ∙ is.3) in
    let P : List Lexeme → Type 0 = λ w. Judges c.args.goal w c.check_tokens.result in
    let judged : Judges c.args.goal (lexemes_of c.as_bytes.result.now c.as_slice.result.now) c.check_tokens.result = record {
      read = c.check_tokens.ensures.read;
      read_all = c.check_tokens.ensures.read_all;
      refused = c.check_tokens.ensures.refused;
      wrong_all = c.check_tokens.ensures.wrong_all;
      deep_all = c.check_tokens.ensures.deep_all;
    } in
    text_read c.args.goal c.args.text.now is.0 c.check_tokens.result made (subst P same judged)

pub returns-in-Ok-clause-refused : goal.returns-in-Ok-clause-refused
returns-in-Ok-clause-refused c =
    let is = c.in-Ok.ensures.read in
    let made : HasItems c.args.text.now is.0 = record { are = is.1; spells = is.2; short = c.in-Ok.ensures.short } in
    let same : lexemes_of c.as_bytes.result.now c.as_slice.result.now ≡ lexemes_in c.args.text.now is.0 =
    ap (λ (w : List ℕ). lexemes_of w c.as_slice.result.now) c.as_bytes.ensures.value ∙ ap (λ (w : List Token). lexemes_of c.args.text.now w) (c.as_slice.ensures ∙ is.3) in
    let P : List Lexeme → Type 0 = λ w. Judges c.args.goal w c.check_tokens.result in
    let judged : Judges c.args.goal (lexemes_of c.as_bytes.result.now c.as_slice.result.now) c.check_tokens.result = record {
      read = c.check_tokens.ensures.read;
      read_all = c.check_tokens.ensures.read_all;
      refused = c.check_tokens.ensures.refused;
      wrong_all = c.check_tokens.ensures.wrong_all;
      deep_all = c.check_tokens.ensures.deep_all;
    } in
    text_refused c.args.goal c.args.text.now is.0 c.check_tokens.result made (subst P same judged)

pub returns-in-Ok-clause-refused_all : goal.returns-in-Ok-clause-refused_all
returns-in-Ok-clause-refused_all c =
    let is = c.in-Ok.ensures.read in
    let made : HasItems c.args.text.now is.0 = record { are = is.1; spells = is.2; short = c.in-Ok.ensures.short } in
    let same : lexemes_of c.as_bytes.result.now c.as_slice.result.now ≡ lexemes_in c.args.text.now is.0 =
    ap (λ (w : List ℕ). lexemes_of w c.as_slice.result.now) c.as_bytes.ensures.value ∙ ap (λ (w : List Token). lexemes_of c.args.text.now w) (c.as_slice.ensures ∙ is.3) in
    let P : List Lexeme → Type 0 = λ w. Judges c.args.goal w c.check_tokens.result in
    let judged : Judges c.args.goal (lexemes_of c.as_bytes.result.now c.as_slice.result.now) c.check_tokens.result = record {
      read = c.check_tokens.ensures.read;
      read_all = c.check_tokens.ensures.read_all;
      refused = c.check_tokens.ensures.refused;
      wrong_all = c.check_tokens.ensures.wrong_all;
      deep_all = c.check_tokens.ensures.deep_all;
    } in
    text_refused_all c.args.goal c.args.text.now is.0 c.check_tokens.result made (subst P same judged)
