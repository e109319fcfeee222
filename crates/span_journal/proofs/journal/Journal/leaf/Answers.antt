use Rattle.std.proofs.Common.{◌≡◌, List, None, sym, ap, ◌∙◌, subst}
use Rattle.std.specs.Prelude.{find, option_map}
use Rattle.span_machine.specs.declared.query.ScanLeaf.{ScanLeaf}
use Rattle.span_machine.specs.Machine.{is_query}
use Rattle.span_machine.specs.Place.{IsPlace}
use Rattle.span_machine.specs.Pieces.{Pieced, Journaled}
use Rattle.span_journal.proofs.Stepping.{leaf_none, leaf_some}
use Rattle.span_journal.proofs.journal.Journal.leaf.Goals as goal

pub returns-in_default : goal.returns-in_default
returns-in_default c =
    let none : find (λ (p : Pieced). is_query c.args.query p.query) c.args.self.now.queries ≡ None =
    subst (λ (l : List Pieced). find (λ (p : Pieced). is_query c.args.query p.query) l ≡ None) (c.as_slice.ensures.value ∙ ap (λ (j : Journaled). j.queries) c.self.view_is) c.in_default.ensures.none in
    sym (leaf_none c.args.self.now c.args.query c.args.leaf none)

pub returns-in-Some-leaf : goal.returns-in-Some-leaf
returns-in-Some-leaf c =
    let p = c.in-Some.question.now in
    let place : IsPlace (λ (p : Pieced). is_query c.args.query p.query) c.args.self.now.queries c.in-Some.field-0-0 p =
    subst (λ (l : List Pieced). IsPlace (λ (p : Pieced). is_query c.args.query p.query) l c.in-Some.field-0-0 p) (c.as_slice.ensures.value ∙ ap (λ (j : Journaled). j.queries) c.self.view_is) c.in-Some.ensures.some in
    ap (option_map (λ (l : ScanLeaf). l.leaf)) c.in-Some-leaf.ensures.leaf ∙ sym (leaf_some c.args.self.now c.args.query c.args.leaf p place.found)

pub returns-in-None : goal.returns-in-None
returns-in-None c =
    let p = c.in-Some.question.now in
    let place : IsPlace (λ (p : Pieced). is_query c.args.query p.query) c.args.self.now.queries c.in-Some.field-0-0 p =
    subst (λ (l : List Pieced). IsPlace (λ (p : Pieced). is_query c.args.query p.query) l c.in-Some.field-0-0 p) (c.as_slice.ensures.value ∙ ap (λ (j : Journaled). j.queries) c.self.view_is) c.in-Some.ensures.some in
    ap (option_map (λ (l : ScanLeaf). l.leaf)) c.in-None.ensures.leaf ∙ sym (leaf_some c.args.self.now c.args.query c.args.leaf p place.found)
