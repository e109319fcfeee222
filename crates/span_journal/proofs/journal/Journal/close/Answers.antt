use Rattle.std.proofs.Common.{◌≡◌, List, None, sym, ap, ◌∙◌, subst}
use Rattle.std.specs.Prelude.{find}
use Rattle.span_machine.specs.Machine.{IsAnswer, close, is_query, without_first}
use Rattle.span_machine.specs.Place.{IsPlace}
use Rattle.span_machine.specs.Pieces.{Pieced, Journaled, machine_of}
use Rattle.span_machine.specs.declared.step.Reply.TheVariants as reply
use Rattle.span_journal.proofs.Stepping.{close_none, close_some}
use Rattle.span_journal.proofs.journal.Journal.close.Goals as goal

pub returns-in_default-clause-step : goal.returns-in_default-clause-step
returns-in_default-clause-step c =
    let none : find (λ (p : Pieced). is_query c.args.query p.query) c.args.self.now.queries ≡ None =
    subst (λ (l : List Pieced). find (λ (p : Pieced). is_query c.args.query p.query) l ≡ None) (c.as_slice.ensures.value ∙ ap (λ (j : Journaled). j.queries) c.self.view_is) c.in_default.ensures.none in
    let e = close_none c.args.self.now c.args.query none in
    (ap (λ a. a.0) (sym e), ap (λ a. a.1) (sym e))

pub returns-clause-step : goal.returns-clause-step
returns-clause-step c =
    let j : Journaled = record { slots = c.self.inside.slots.items; transactions = c.self.inside.transactions.items; log = c.self.inside.log.items; queries = c.self.inside.queries.items; next_transaction = c.self.inside.next_transaction; next_query = c.self.inside.next_query } in
    let p = c.in-Some.field-0-1.now in
    let place : IsPlace (λ (p : Pieced). is_query c.args.query p.query) j.queries c.in-Some.at p =
    subst (λ (l : List Pieced). IsPlace (λ (p : Pieced). is_query c.args.query p.query) l c.in-Some.at p) c.as_slice.ensures.value c.in-Some.ensures.some in
    let left : without_first (λ (p : Pieced). is_query c.args.query p.query) j.queries ≡ c.drop_at.new.items.items = place.without ∙ sym c.drop_at.ensures in
    let e = close_some j c.args.query p place.found in
    subst (λ (k : Journaled). IsAnswer (close (machine_of k) c.args.query) reply.Closed (machine_of (record j { queries = c.drop_at.new.items.items }))) c.self.view_is
    (ap (λ a. a.0) (sym e), ap (λ (l : List Pieced). machine_of (record j { queries = l })) (sym left) ∙ ap (λ a. a.1) (sym e))
