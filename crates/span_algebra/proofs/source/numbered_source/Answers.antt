use Rattle.std.proofs.Common.{◌≡◌, ◌∙◌, ℕ, ◌-◌, suc, List, [], Option, Some, None, ap, sym, arith, map}
use Rattle.std.specs.Prelude.{slice_get, option_map}
use Rattle.std.specs.Option.{unwrap_or, option_copied}
use Rattle.std.proofs.lemmas.Option.{slice_get-map}
use Rattle.span_query.specs.Rows.{Rows}
use Rattle.span_query.specs.Meaning as spec
use Rattle.span_algebra.specs.declared.source.TableSource.{TableSource}
use Rattle.span_algebra.specs.Sources.{IsGivenBy, source_result}
use Rattle.span_algebra.proofs.source.numbered_source.Goals as goal

-- what is given at a place before the number
at : (sources : List TableSource) (number place : ℕ) (r : Option TableSource) → number ≡ suc place → slice_get sources place ≡ r
    → spec.given (map source_result sources) number ≡ unwrap_or (option_map source_result r) (Some [])
at sources number place r is here =
    ap (spec.given (map source_result sources)) is
    ∙ ap (λ (o : Option Rows). unwrap_or o (Some [])) (slice_get-map source_result sources place ∙ ap (option_map source_result) here)

given_by : (sources : List TableSource) (number place : ℕ) (r : Option TableSource) → number ≡ suc place → slice_get sources place ≡ r
    → IsGivenBy r (spec.given (map source_result sources) number)
given_by sources number place None is here = at sources number place None is here
given_by sources number place (Some source) is here = at sources number place (Some source) is here

pub returns : goal.returns
returns c =
    let after : c.args.number ≡ suc (c.args.number - 1) = omega (arith, c.if-number-eq0.false) in
    given_by c.args.sources.now c.args.number (c.args.number - 1) (option_copied c.source_at.result) after (sym c.source_at.ensures)
