-- A query that is opened: the machine's answer.
use Rattle.std.proofs.Common.{◌≡◌, ◌∙◌, ℕ, ◌+◌, List, [], ◌∷◌, ◌++◌, length, Option, None, Ok, ap, sym, subst, inl}
use Rattle.std.proofs.lemmas.List.{map-append, length-map}
use Rattle.span_value.specs.declared.refusal.Refusal.{Refusal}
use Rattle.span_schema.specs.declared.table.Table.{Table}
use Rattle.span_truetime.specs.declared.bound.Bound.{Bound}
use Rattle.span_truetime.specs.declared.interval.Interval.{Interval}
use Rattle.span_truetime.specs.Time.{timestamp_of}
use Rattle.span_params.specs.declared.params.Parameter.{Parameter}
use Rattle.span_query.specs.declared.query.Statement.{Statement}
use Rattle.span_machine.specs.declared.query.OpenQuery.{OpenQuery}
use Rattle.span_machine.specs.declared.step.Reply.TheVariants as reply_of
use Rattle.span_machine.specs.Machine.{Machine, Answer, Answers, unless_refused, open_refusal, open_query, opened, as_opened, statement_plan, uncovered}
use Rattle.span_machine.specs.Pieces.{Journaled, Pieced, machine_of, queries_of, unread}

pub opened_step : (schema : List Table) (j next : Journaled) (st : Statement) (text : List ℕ) (params : List Parameter) (bound : Bound) (interval : Interval) (s leaves : ℕ) (q : Pieced)
    → open_refusal (machine_of j) bound interval ≡ None → s ≡ timestamp_of bound interval → q ≡ unread schema j.next_query s text params st → leaves ≡ length q.query.leaves
    → next ≡ record j { queries = j.queries ++ q ∷ []; next_query = j.next_query + 1 }
    → Answers (machine_of j) (open_query schema (machine_of j) (Ok st) text params bound interval) (reply_of.Opened j.next_query s leaves) (machine_of next)
opened_step schema j next st text params bound interval s leaves q none s_is q_is leaves_are next_is =
    let m : Machine = machine_of j in
    let made : OpenQuery = as_opened schema m.next_query s text params st in
    let answer_is : open_query schema m (Ok st) text params bound interval ≡ opened schema m text params st s =
    ap (λ (o : Option Refusal). unless_refused m o (opened schema m text params st (timestamp_of bound interval))) none ∙ ap (opened schema m text params st) (sym s_is) in
    let reply_is : reply_of.Opened j.next_query s leaves ≡ reply_of.Opened m.next_query s (length (statement_plan schema st).leaves) =
    ap (reply_of.Opened j.next_query s) (leaves_are ∙ ap (λ (p : Pieced). length p.query.leaves) q_is ∙ length-map (statement_plan schema st).leaves uncovered) in
    let with_queries : List OpenQuery → Machine = λ qs. record m { queries = qs; next_query = m.next_query + 1 } in
    let state_is : machine_of next ≡ with_queries (m.queries ++ made ∷ []) =
    ap machine_of next_is ∙ ap with_queries (map-append (λ (p : Pieced). p.query) j.queries (q ∷ []) ∙ ap (λ (p : Pieced). queries_of j.queries ++ p.query ∷ []) q_is) in
    subst (λ (a : Answer). Answers m a (reply_of.Opened j.next_query s leaves) (machine_of next)) (sym answer_is) (inl (reply_is, state_is))
