use Rattle.std.proofs.Common.{◌≡◌, List, None, false, sym, ap, ◌∙◌, subst}
use Rattle.std.specs.Prelude.{find}
use Rattle.std.specs.List.{list_all}
use Rattle.std.proofs.lemmas.Option.{same_Some}
use Rattle.span_machine.specs.Machine.{is_query, is_covered, refused, finish}
use Rattle.span_machine.specs.Place.{IsPlace}
use Rattle.span_machine.specs.Pieces.{Pieced, Journaled, machine_of}
use Rattle.span_value.specs.declared.refusal.Refusal.TheVariants as refusal
use Rattle.span_journal.specs.Judged.{IsTaken}
use Rattle.span_openqueries.specs.Targets.{taken_of}
use Rattle.span_journal.proofs.Stepping.{finish_none, finish_uncovered}
use Rattle.span_journal.proofs.journal.Journal.take_pieces.Goals as goal

pub returns-in_default-clause-refused : goal.returns-in_default-clause-refused
returns-in_default-clause-refused c =
    let none : find (λ (p : Pieced). is_query c.args.query p.query) c.args.self.now.queries ≡ None =
    subst (λ (l : List Pieced). find (λ (p : Pieced). is_query c.args.query p.query) l ≡ None) (c.as_slice.ensures.value ∙ ap (λ (j : Journaled). j.queries) c.self.view_is) c.in_default.ensures.none in
    λ schema. finish_none schema c.args.self.now c.args.query none

pub returns-then-not-is_covered-clause-refused : goal.returns-then-not-is_covered-clause-refused
returns-then-not-is_covered-clause-refused c =
    let j : Journaled = record { slots = c.self.inside.slots.items; transactions = c.self.inside.transactions.items; log = c.self.inside.log.items; queries = c.self.inside.queries.items; next_transaction = c.self.inside.next_transaction; next_query = c.self.inside.next_query } in
    let p = c.in-Some.question.now in
    let place : IsPlace (λ (p : Pieced). is_query c.args.query p.query) j.queries c.in-Some.at p =
    subst (λ (l : List Pieced). IsPlace (λ (p : Pieced). is_query c.args.query p.query) l c.in-Some.at p) c.as_slice.ensures.value c.in-Some.ensures.some in
    let covered : list_all is_covered p.query.leaves ≡ false = sym c.is_covered.ensures ∙ c.if-not-is_covered.true in
    λ schema. subst (λ (k : Journaled). finish schema (machine_of k) c.args.query ≡ refused (machine_of k) refusal.Incomplete) c.self.view_is (finish_uncovered schema j c.args.query p place.found covered)

pub returns-clause-ok : goal.returns-clause-ok
returns-clause-ok c =
    let j : Journaled = record { slots = c.self.inside.slots.items; transactions = c.self.inside.transactions.items; log = c.self.inside.log.items; queries = c.self.inside.queries.items; next_transaction = c.self.inside.next_transaction; next_query = c.self.inside.next_query } in
    let p = c.in-Some.question.now in
    let place : IsPlace (λ (p : Pieced). is_query c.args.query p.query) j.queries c.in-Some.at p =
    subst (λ (l : List Pieced). IsPlace (λ (p : Pieced). is_query c.args.query p.query) l c.in-Some.at p) c.as_slice.ensures.value c.in-Some.ensures.some in
    let is : c.take_at.result ≡ p = same_Some c.take_at.result p (c.take_at.ensures.query ∙ place.here) in
    subst (λ (k : Journaled). IsTaken k c.args.query c.into_parts.result (record j { queries = c.take_at.new.queries.items })) c.self.view_is
    (record {
      question = p;
      found = place.found;
      covered = sym c.is_covered.ensures ∙ c.if-not-is_covered.false;
      taken_is = c.into_parts.ensures ∙ ap taken_of is;
      after = ap (λ (l : List Pieced). record j { queries = l }) (c.take_at.ensures.after ∙ sym place.without);
    })
