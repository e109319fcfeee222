use Rattle.std.proofs.Common.{◌≡◌, ◌∙◌, sym, ap}
use Rattle.span_grammar.specs.Classes.{lexemes_of}
use Rattle.span_grammar.specs.Rules.{most_openings}
use Rattle.span_parser.specs.Queries.{statement}
use Rattle.span_syntax.specs.Parsed.{read_to_end}
use Rattle.span_syntax.proofs.Parsing.{reports}
use Rattle.span_querytext.proofs.parse.query_of.Goals as goal

pub returns : goal.returns
returns c =
    let same : lexemes_of c.args.text.now c.args.tokens.now ≡ c.as_slice.result.now = sym (c.as_slice.ensures.value ∙ c.in_ok-found.ensures) in
    reports (read_to_end (statement c.args.text.now most_openings) (lexemes_of c.args.text.now c.args.tokens.now)) c.in-Err.fault c.read_error-refusal.result
    (λ n. ap (read_to_end (statement c.args.text.now most_openings)) same ∙ c.in-Err.ensures n) c.read_error-refusal.ensures.refusal
