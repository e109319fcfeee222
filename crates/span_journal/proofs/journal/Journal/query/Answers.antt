use Rattle.std.proofs.Common.{◌≡◌, List, None, Some, sym, ap, ◌∙◌, subst}
use Rattle.std.specs.Prelude.{find}
use Rattle.span_machine.specs.Machine.{is_query}
use Rattle.span_machine.specs.Place.{IsPlace}
use Rattle.span_machine.specs.Pieces.{Pieced, Journaled}
use Rattle.span_machine.specs.declared.query.OpenQuery.{OpenQuery}
use Rattle.span_journal.proofs.Stepping.{found_query}
use Rattle.span_journal.proofs.journal.Journal.query.Goals as goal

pub returns-in_default : goal.returns-in_default
returns-in_default c =
    let none : find (λ (p : Pieced). is_query c.args.query p.query) c.args.self.now.queries ≡ None =
    subst (λ (l : List Pieced). find (λ (p : Pieced). is_query c.args.query p.query) l ≡ None) (c.as_slice.ensures.value ∙ ap (λ (j : Journaled). j.queries) c.self.view_is) c.in_default.ensures.none in
    sym (found_query c.args.self.now.queries c.args.query None none)

pub returns : goal.returns
returns c =
    let p = c.in-Some.question.now in
    let place : IsPlace (λ (p : Pieced). is_query c.args.query p.query) c.args.self.now.queries c.in-Some.field-0-0 p =
    subst (λ (l : List Pieced). IsPlace (λ (p : Pieced). is_query c.args.query p.query) l c.in-Some.field-0-0 p) (c.as_slice.ensures.value ∙ ap (λ (j : Journaled). j.queries) c.self.view_is) c.in-Some.ensures.some in
    ap (λ (q : OpenQuery). Some q) c.as_opened.ensures ∙ sym (found_query c.args.self.now.queries c.args.query (Some p) place.found)
