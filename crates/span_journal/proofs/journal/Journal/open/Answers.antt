use Rattle.std.proofs.Common.{◌≡◌, ◌∙◌, ℕ, ◌+◌, [], ◌∷◌, ◌++◌, Result, List, None, Ok, IfOk, ap, sym, subst}
use Rattle.span_value.specs.declared.refusal.Refusal.{Refusal}
use Rattle.span_truetime.specs.Time.{timestamp_of}
use Rattle.span_machine.specs.Machine.{Answers, open_query, open_refusal}
use Rattle.span_machine.specs.declared.step.Reply.TheVariants as reply_of
use Rattle.span_machine.specs.Pieces.{Journaled, Pieced, machine_of, unread}
use Rattle.span_openqueries.specs.declared.planned.PlannedQuery.{PlannedQuery}
use Rattle.span_openqueries.specs.Planned.{IsPlanned}
use Rattle.span_journal.proofs.Opening.{opened_step}
use Rattle.span_journal.proofs.journal.Journal.open.Goals as goal

pub new-requires : goal.new-requires
new-requires c = subst (IsPlanned c.args.schema.now) (sym c.in_ok-query.ensures.0) c.requires

pub returns-clause-step : goal.returns-clause-step
returns-clause-step c =
    let j : Journaled = record { slots = c.self.inside.slots.items; transactions = c.self.inside.transactions.items; log = c.self.inside.log.items; queries = c.self.inside.queries.items; next_transaction = c.self.inside.next_transaction; next_query = c.self.inside.next_query } in
    let accepted : (open_refusal (machine_of c.args.self.now) c.args.bound c.args.interval ≡ None) × (c.in_ok-query.s ≡ timestamp_of c.args.bound c.args.interval) =
    subst (λ (r : Result ℕ Refusal). IfOk r (λ (s : ℕ). (open_refusal (machine_of c.args.self.now) c.args.bound c.args.interval ≡ None) × (s ≡ timestamp_of c.args.bound c.args.interval))) c.in_ok-query.ensures.1 c.check_open.ensures.accepted in
    let none : open_refusal (machine_of j) c.args.bound c.args.interval ≡ None = subst (λ (k : Journaled). open_refusal (machine_of k) c.args.bound c.args.interval ≡ None) (sym c.self.view_is) accepted.0 in
    let made : c.in_ok-kept.kept ≡ unread c.args.schema.now c.self.inside.next_query c.in_ok-query.s c.args.query.text c.args.query.params c.args.query.statement =
    c.in_ok-kept.ensures ∙ ap (λ (q : PlannedQuery). unread c.args.schema.now c.self.inside.next_query c.in_ok-query.s q.text q.params q.statement) c.in_ok-query.ensures.0 in
    let next : Journaled = record j { queries = c.append.new.items.items; next_query = c.self.inside.next_query + 1 } in
    let appended : next ≡ record j { queries = j.queries ++ c.in_ok-kept.kept ∷ []; next_query = j.next_query + 1 } =
    ap (λ (l : List Pieced). record j { queries = l; next_query = j.next_query + 1 }) c.in_ok-append.ensures.ok in
    subst (λ (k : Journaled). Answers (machine_of k) (open_query c.args.schema.now (machine_of k) (Ok c.args.query.statement) c.args.query.text c.args.query.params c.args.bound c.args.interval) (reply_of.Opened c.self.inside.next_query c.in_ok-query.s c.count_leaves-leaves.result) (machine_of next)) c.self.view_is
    (opened_step c.args.schema.now j next c.args.query.statement c.args.query.text c.args.query.params c.args.bound c.args.interval c.in_ok-query.s c.count_leaves-leaves.result c.in_ok-kept.kept none accepted.1 made c.count_leaves-leaves.ensures appended)

pub returns-clause-pieces : goal.returns-clause-pieces
returns-clause-pieces c =
    c.in_ok-append.ensures.ok
    ∙ ap (λ (l : List Pieced). l ++ c.in_ok-kept.kept ∷ []) (ap (λ (j : Journaled). j.queries) c.self.view_is)
    ∙ ap (λ (q : Pieced). c.args.self.now.queries ++ q ∷ []) (c.in_ok-kept.ensures
    ∙ ap (λ (q : PlannedQuery). unread c.args.schema.now c.self.inside.next_query c.in_ok-query.s q.text q.params q.statement) c.in_ok-query.ensures.0)
