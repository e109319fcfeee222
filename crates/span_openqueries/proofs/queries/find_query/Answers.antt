use Rattle.std.proofs.Common.{refl, sym, ◌∙◌}
use Rattle.std.proofs.lemmas.Option.{slice_get_read}
use Rattle.std.proofs.lemmas.List.Quantifiers.{position-Some}
use Rattle.span_machine.specs.Machine.{is_query}
use Rattle.span_machine.specs.Pieces.{Pieced}
use Rattle.span_machine.proofs.Places.{place_by_position, none_by_position}
use Rattle.span_openqueries.proofs.queries.find_query.Goals as goal

pub returns-in-Some-clause-some : goal.returns-in-Some-clause-some
returns-in-Some-clause-some c =
    let test = (λ (p : Pieced). is_query c.args.number p.query) in
    let x = c.index-queries-at.result in
    let e = sym c.query_index.ensures ∙ c.in-Some.is in
    place_by_position test c.args.queries.now c.in-Some.at x e
    (slice_get_read c.args.queries.now _ c.in-Some.at x refl (position-Some test c.args.queries.now c.in-Some.at x e).0 c.index-queries-at.is)

pub returns-in-None-clause-none : goal.returns-in-None-clause-none
returns-in-None-clause-none c = none_by_position (λ (p : Pieced). is_query c.args.number p.query) c.args.queries.now (sym c.query_index.ensures ∙ c.in-None.is)
