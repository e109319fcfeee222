-- A query that is closed, with what answers it.
use Rattle.std.proofs.Common.{◌≡◌, ℕ, List, Some, None, Result, Ok, Err, refl, ap, sym, ◌∙◌, subst, inl}
use Rattle.std.specs.Prelude.{find, IfOk, OnErr}
use Rattle.span_value.specs.declared.refusal.Refusal.{Refusal}
use Rattle.span_value.specs.declared.refusal.Refusal.TheVariants as refusal
use Rattle.span_schema.specs.declared.table.Table.{Table}
use Rattle.span_query.specs.Rows.{Row, Rows}
use Rattle.span_gather.specs.declared.rows.Rows.{Rows as Found}
use Rattle.span_gather.specs.Gathered.{gathered}
use Rattle.span_machine.specs.declared.step.Reply.TheVariants as reply
use Rattle.span_machine.specs.declared.step.Step.TheVariants as step
use Rattle.span_machine.specs.Machine.{Answer, IsAnswer, answer_on, rows_or_refusal, is_query, close}
use Rattle.span_machine.specs.Meaning.{means}
use Rattle.span_machine.specs.Pieces.{Pieced, Journaled, machine_of, queries_of}
use Rattle.span_machine_laws.proofs.Reached.{reached_tables, finish_meant}
use Rattle.span_version_laws.specs.Kept.{ArePieced}
use Rattle.span_version_laws.proofs.Covers.{found_query, pieced_finish, pieced_without}
use Rattle.span_openqueries.specs.declared.taken.Taken.{Taken}
use Rattle.span_journal.specs.Judged.{IsTaken}
use Rattle.span_journal.proofs.Stepping.{close_some}
use Rattle.span_parts.specs.Asked.{IsQuestionOf}
use Rattle.span_parts.specs.Whole.{Shards, IsWhole, GoesWith, AreMeant, IsFaulty}
use Rattle.span_parts.proofs.Wholes.{no_text, goes_same, goes_by}

-- replies with rows are equal only where the rows are
found_same : (s : ℕ) (a b : Found) → reply.Rows s a ≡ reply.Rows s b → a ≡ b
found_same s a b e = cc

rows_refused : (s : ℕ) (a : Found) (why : Refusal) → reply.Rows s a ≡ reply.Refused why → ⊥
rows_refused s a why e = absurd (cc e)

rows_meant : (s : ℕ) (rows : List Row) (o : Rows) → answer_on s (Ok rows) ≡ answer_on s (rows_or_refusal o) → o ≡ Some rows
rows_meant s rows None e = absurd (rows_refused s (record { rows = rows }) refusal.ArithmeticFault e)
rows_meant s rows (Some others) e = ap (λ (f : Found). Some f.rows) (sym (found_same s (record { rows = rows }) (record { rows = others }) e))

fault_meant : (s : ℕ) (o : Rows) → answer_on s (rows_or_refusal None) ≡ answer_on s (rows_or_refusal o) → o ≡ None
fault_meant s None e = refl
fault_meant s (Some rows) e = absurd (rows_refused s (record { rows = rows }) refusal.ArithmeticFault (sym e))

module _ (schema : List Table) (j k : Journaled) (query : ℕ) (taken : Taken) (t : IsTaken j query taken k) where
  there : find (is_query query) (queries_of j.queries) ≡ Some t.question.query
  there = found_query query j.queries t.question t.found

  -- what the query above the leaves gives is answered as what its statement means
  gives : (shards : Shards) → (w : IsWhole schema j shards) → (o : Rows) → gathered taken.pieces taken.top ≡ o
      → answer_on t.question.query.s (rows_or_refusal o)
      ≡ answer_on t.question.query.s (rows_or_refusal (means schema t.question.query.statement.query t.question.query.statement.leaves (reached_tables schema w.rules (machine_of j) t.question.query.s w.reached).0))
  gives shards w o is =
      let q = t.question in
      let m = machine_of j in
      let made = reached_tables schema w.rules m q.query.s w.reached in
      let own : gathered q.pieces q.query.top ≡ o = subst (λ (x : Taken). gathered x.pieces x.top ≡ o) t.taken_is is in
      ap (λ (r : Rows). answer_on q.query.s (rows_or_refusal r)) (sym own)
      ∙ ap (λ (a : Answer). a.0)
      (sym (pieced_finish schema w.rules m w.reached j.queries refl w.pieced no_text query q t.found t.covered)
      ∙ finish_meant schema m no_text query q.query made.0 there t.covered made.1)

  -- the rows of the query above the leaves are what its statement means
  pub taken_meant : (shards : Shards) → IsWhole schema j shards → (rows : List Row) → gathered taken.pieces taken.top ≡ Some rows → AreMeant schema j.log taken rows
  taken_meant shards w rows is =
      let q = t.question in
      let made = reached_tables schema w.rules (machine_of j) q.query.s w.reached in
      subst (λ (x : Taken). AreMeant schema j.log x rows) (sym t.taken_is)
      (record { db = made.0; made = made.1; are = rows_meant q.query.s rows (means schema q.query.statement.query q.query.statement.leaves made.0) (gives shards w (Some rows) is) })

  -- where it gives a fault, its statement means one
  pub taken_faulty : (shards : Shards) → IsWhole schema j shards → gathered taken.pieces taken.top ≡ None → IsFaulty schema j.log taken
  taken_faulty shards w is =
      let q = t.question in
      let made = reached_tables schema w.rules (machine_of j) q.query.s w.reached in
      subst (λ (x : Taken). IsFaulty schema j.log x) (sym t.taken_is)
      (record { db = made.0; made = made.1; is = fault_meant q.query.s (means schema q.query.statement.query q.query.statement.leaves made.0) (gives shards w None is) })

  pub taken_asked : IsQuestionOf (machine_of j) query taken
  taken_asked = record {
    question = t.question.query;
    found = there;
    text = ap (λ (x : Taken). x.text) t.taken_is;
    params = ap (λ (x : Taken). x.params) t.taken_is;
    statement = ap (λ (x : Taken). x.statement) t.taken_is;
  }

  pub taken_closed : IsAnswer (close (machine_of j) query) reply.Closed (machine_of k)
  taken_closed =
      let e = close_some j query t.question t.found in
      (sym (ap (λ (a : Answer). a.0) e), ap machine_of t.after ∙ sym (ap (λ (a : Answer). a.1) e))

  pub taken_whole : GoesWith schema j k
  taken_whole = goes_by schema j k no_text (step.Close query) tt reply.Closed (inl taken_closed) tt
      (λ n all. subst (ArePieced schema n) (sym (ap (λ (l : Journaled). l.queries) t.after)) (pieced_without schema n j.queries (λ (p : Pieced). is_query query p.query) all))

-- ---- what holds of a result

-- whether the query was taken or not, the journal goes with the same shards
pub taken_goes : (schema : List Table) (j k : Journaled) (query : ℕ) (r : Result Taken Refusal) → IfOk r (λ taken. IsTaken j query taken k) → OnErr r (k ≡ j) → GoesWith schema j k
taken_goes schema j k query (Ok taken) t same = taken_whole schema j k query taken t
taken_goes schema j k query (Err why) t same = goes_same schema j k (ap machine_of same) (ap (λ (l : Journaled). l.queries) same)
