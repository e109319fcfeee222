use Rattle.std.proofs.Common.{◌≡◌, List, None, false, sym, ap, ◌∙◌, subst}
use Rattle.std.specs.Prelude.{find}
use Rattle.std.specs.List.{list_all}
use Rattle.span_machine.specs.Machine.{is_query, is_covered, refused, finish}
use Rattle.span_machine.specs.Place.{IsPlace}
use Rattle.span_machine.specs.Pieces.{Pieced, Journaled, machine_of}
use Rattle.span_value.specs.declared.refusal.Refusal.TheVariants as refusal
use Rattle.span_journal.specs.Judged.{IsCovered}
use Rattle.span_journal.proofs.Stepping.{finish_none, finish_uncovered}
use Rattle.span_journal.proofs.journal.Journal.pieces.Goals as goal

pub returns-in_default-clause-refused : goal.returns-in_default-clause-refused
returns-in_default-clause-refused c =
    let none : find (λ (p : Pieced). is_query c.args.query p.query) c.args.self.now.queries ≡ None =
    subst (λ (l : List Pieced). find (λ (p : Pieced). is_query c.args.query p.query) l ≡ None) (c.as_slice.ensures.value ∙ ap (λ (j : Journaled). j.queries) c.self.view_is) c.in_default.ensures.none in
    λ schema. finish_none schema c.args.self.now c.args.query none

pub returns-then-not-is_covered-clause-refused : goal.returns-then-not-is_covered-clause-refused
returns-then-not-is_covered-clause-refused c =
    let j : Journaled = record { slots = c.self.inside.slots.items; transactions = c.self.inside.transactions.items; log = c.self.inside.log.items; queries = c.self.inside.queries.items; next_transaction = c.self.inside.next_transaction; next_query = c.self.inside.next_query } in
    let p = c.in-Some.question.now in
    let place : IsPlace (λ (p : Pieced). is_query c.args.query p.query) j.queries c.in-Some.field-0-0 p =
    subst (λ (l : List Pieced). IsPlace (λ (p : Pieced). is_query c.args.query p.query) l c.in-Some.field-0-0 p) c.as_slice.ensures.value c.in-Some.ensures.some in
    let covered : list_all is_covered p.query.leaves ≡ false = sym c.is_covered.ensures ∙ c.if-not-is_covered.true in
    λ schema. subst (λ (k : Journaled). finish schema (machine_of k) c.args.query ≡ refused (machine_of k) refusal.Incomplete) c.self.view_is (finish_uncovered schema j c.args.query p place.found covered)

pub returns-clause-ok : goal.returns-clause-ok
returns-clause-ok c =
    let j : Journaled = record { slots = c.self.inside.slots.items; transactions = c.self.inside.transactions.items; log = c.self.inside.log.items; queries = c.self.inside.queries.items; next_transaction = c.self.inside.next_transaction; next_query = c.self.inside.next_query } in
    let p = c.in-Some.question.now in
    let place : IsPlace (λ (p : Pieced). is_query c.args.query p.query) j.queries c.in-Some.field-0-0 p =
    subst (λ (l : List Pieced). IsPlace (λ (p : Pieced). is_query c.args.query p.query) l c.in-Some.field-0-0 p) c.as_slice.ensures.value c.in-Some.ensures.some in
    subst (λ (k : Journaled). IsCovered k c.args.query c.timestamp.result c.top.result.now c.pieces.result.now) c.self.view_is
    (record {
      question = p;
      found = place.found;
      covered = sym c.is_covered.ensures ∙ c.if-not-is_covered.false;
      at = c.timestamp.ensures;
      top_is = c.top.ensures;
      pieces_are = c.pieces.ensures;
    })
