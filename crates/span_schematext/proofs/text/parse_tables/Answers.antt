use Rattle.std.proofs.Common.{◌≡◌, ◌∙◌, ap, subst, List, ℕ, Result}
use Rattle.span_lexer.specs.declared.token.Token.{Token}
use Rattle.span_grammar.specs.declared.judge.Goal.TheVariants as goal_of
use Rattle.span_primary.specs.declared.fault.SyntaxError.{SyntaxError}
use Rattle.span_schema.specs.declared.table.Table.{Table}
use Rattle.span_grammar.specs.Classes.{lexemes_of}
use Rattle.span_grammar.specs.Rules.{most_openings}
use Rattle.span_grammar.specs.Judged.{HasItems, lexemes_in}
use Rattle.span_schematext.specs.Declarations.{tables}
use Rattle.span_syntax.specs.Parsed.{read_to_end, Reports}
use Rattle.span_syntax.proofs.Parsing.{text_value, text_value_all, text_refused, text_refused_all, misread_value, misread_refuses}
use Rattle.span_schematext.proofs.Declaring.{tables_good}
use Rattle.span_schematext.proofs.text.parse_tables.Goals as goal

pub returns-in-Ok-clause-read : goal.returns-in-Ok-clause-read
returns-in-Ok-clause-read c =
    let is = c.in-Ok.ensures.read in
    let made : HasItems c.args.text.now is.0 = record { are = is.1; spells = is.2; short = c.in-Ok.ensures.short } in
    let same : read_to_end (tables c.as_bytes.result.now most_openings) (lexemes_of c.as_bytes.result.now c.as_slice.result.now) ≡ read_to_end (tables c.args.text.now most_openings) (lexemes_in c.args.text.now is.0) =
    ap (λ (w : List ℕ). read_to_end (tables w most_openings) (lexemes_of w c.as_slice.result.now)) c.as_bytes.ensures.value ∙ ap (λ (w : List Token). read_to_end (tables c.args.text.now most_openings) (lexemes_of c.args.text.now w)) (c.as_slice.ensures ∙ is.3) in
    let known : Reports c.tables_of.result (read_to_end (tables c.args.text.now most_openings) (lexemes_in c.args.text.now is.0)) = subst (λ (o : Result (List Table) SyntaxError). Reports c.tables_of.result o) same c.tables_of.ensures in
    text_value goal_of.Schema (tables c.args.text.now most_openings) (tables_good c.args.text.now most_openings) c.args.text.now is.0 made c.tables_of.result known

pub returns-in-Ok-clause-read_all : goal.returns-in-Ok-clause-read_all
returns-in-Ok-clause-read_all c =
    let is = c.in-Ok.ensures.read in
    let made : HasItems c.args.text.now is.0 = record { are = is.1; spells = is.2; short = c.in-Ok.ensures.short } in
    let same : read_to_end (tables c.as_bytes.result.now most_openings) (lexemes_of c.as_bytes.result.now c.as_slice.result.now) ≡ read_to_end (tables c.args.text.now most_openings) (lexemes_in c.args.text.now is.0) =
    ap (λ (w : List ℕ). read_to_end (tables w most_openings) (lexemes_of w c.as_slice.result.now)) c.as_bytes.ensures.value ∙ ap (λ (w : List Token). read_to_end (tables c.args.text.now most_openings) (lexemes_of c.args.text.now w)) (c.as_slice.ensures ∙ is.3) in
    let known : Reports c.tables_of.result (read_to_end (tables c.args.text.now most_openings) (lexemes_in c.args.text.now is.0)) = subst (λ (o : Result (List Table) SyntaxError). Reports c.tables_of.result o) same c.tables_of.ensures in
    text_value_all goal_of.Schema (tables c.args.text.now most_openings) (tables_good c.args.text.now most_openings) c.args.text.now is.0 made c.tables_of.result known

pub returns-in-Ok-clause-refused : goal.returns-in-Ok-clause-refused
returns-in-Ok-clause-refused c =
    let is = c.in-Ok.ensures.read in
    let made : HasItems c.args.text.now is.0 = record { are = is.1; spells = is.2; short = c.in-Ok.ensures.short } in
    let same : read_to_end (tables c.as_bytes.result.now most_openings) (lexemes_of c.as_bytes.result.now c.as_slice.result.now) ≡ read_to_end (tables c.args.text.now most_openings) (lexemes_in c.args.text.now is.0) =
    ap (λ (w : List ℕ). read_to_end (tables w most_openings) (lexemes_of w c.as_slice.result.now)) c.as_bytes.ensures.value ∙ ap (λ (w : List Token). read_to_end (tables c.args.text.now most_openings) (lexemes_of c.args.text.now w)) (c.as_slice.ensures ∙ is.3) in
    let known : Reports c.tables_of.result (read_to_end (tables c.args.text.now most_openings) (lexemes_in c.args.text.now is.0)) = subst (λ (o : Result (List Table) SyntaxError). Reports c.tables_of.result o) same c.tables_of.ensures in
    text_refused goal_of.Schema (tables c.args.text.now most_openings) (tables_good c.args.text.now most_openings) c.args.text.now is.0 made c.tables_of.result known

pub returns-in-Ok-clause-refused_all : goal.returns-in-Ok-clause-refused_all
returns-in-Ok-clause-refused_all c =
    let is = c.in-Ok.ensures.read in
    let made : HasItems c.args.text.now is.0 = record { are = is.1; spells = is.2; short = c.in-Ok.ensures.short } in
    let same : read_to_end (tables c.as_bytes.result.now most_openings) (lexemes_of c.as_bytes.result.now c.as_slice.result.now) ≡ read_to_end (tables c.args.text.now most_openings) (lexemes_in c.args.text.now is.0) =
    ap (λ (w : List ℕ). read_to_end (tables w most_openings) (lexemes_of w c.as_slice.result.now)) c.as_bytes.ensures.value ∙ ap (λ (w : List Token). read_to_end (tables c.args.text.now most_openings) (lexemes_of c.args.text.now w)) (c.as_slice.ensures ∙ is.3) in
    let known : Reports c.tables_of.result (read_to_end (tables c.args.text.now most_openings) (lexemes_in c.args.text.now is.0)) = subst (λ (o : Result (List Table) SyntaxError). Reports c.tables_of.result o) same c.tables_of.ensures in
    text_refused_all goal_of.Schema (tables c.args.text.now most_openings) (tables_good c.args.text.now most_openings) c.args.text.now is.0 made c.tables_of.result known

pub returns-in-Err-clause-read_all : goal.returns-in-Err-clause-read_all
returns-in-Err-clause-read_all c = λ q t. misread_value goal_of.Schema (tables c.args.text.now most_openings).of c.args.text.now c.in-Err.why c.in-Err.ensures.refused q t

pub returns-in-Err-clause-refused_all : goal.returns-in-Err-clause-refused_all
returns-in-Err-clause-refused_all c = λ why n i. misread_refuses goal_of.Schema c.args.text.now c.in-Err.why c.in-Err.ensures.refused why n i
