-- Databases before a step and after it.
use Rattle.std.proofs.Common.{◌≡◌, ◌⊎◌, ℕ, true, List, Ok, Err, refl, ap, sym, subst, inl, inr}
use Rattle.span_value.specs.declared.refusal.Refusal.{Refusal}
use Rattle.span_value.specs.declared.refusal.Refusal.TheVariants as refusal
use Rattle.span_params.specs.declared.params.Parameter.{Parameter}
use Rattle.span_query.specs.declared.query.Statement.{Statement}
use Rattle.span_truetime.specs.declared.bound.Bound.{Bound}
use Rattle.span_truetime.specs.declared.interval.Interval.{Interval}
use Rattle.span_schema.specs.declared.table.Table.{Table}
use Rattle.span_machine.specs.declared.step.Step.{Step}
use Rattle.span_machine.specs.declared.step.Step.TheVariants as step
use Rattle.span_machine.specs.declared.step.Reply.{Reply}
use Rattle.span_machine.specs.declared.step.Reply.TheVariants as reply
use Rattle.span_machine.specs.Run.{IsOfSchema}
use Rattle.span_machine.specs.Machine.{Machine, IsUnderstood, Answers, IsAnswer, answer, start, may_take_memory, open_query}
use Rattle.span_machine.specs.Pieces.{Journaled, machine_of}
use Rattle.span_parts.proofs.Wholes.{no_text}
use Rattle.span_binder.specs.Understands.{Understands}
use Rattle.span_core.specs.Whole.{Shards, IsWhole, IsDatabase}
use Rattle.span_core.specs.Histories.{IsStep}
use Rattle.span_core.specs.Promises.{IsRunTo}
use Rattle.span_core.proofs.Promised.{no_steps, one_more}

-- an empty database
pub start_database : (schema : List Table) (j : Journaled) (shards : Shards) → machine_of j ≡ start → IsWhole schema j shards → IsDatabase schema j shards
start_database schema j shards is whole = record { whole = whole; past = subst (IsRunTo schema) (sym is) (no_steps schema) }

-- the database after a step
pub goes_on : (schema : List Table) (j k : Journaled) (shards after : Shards) (s : Step) (r : Reply) → IsDatabase schema j shards → IsOfSchema schema s → IsStep schema (machine_of j) s r (machine_of k) → IsWhole schema k after → IsDatabase schema k after
goes_on schema j k shards after s r d of one whole = record { whole = whole; past = one_more schema (machine_of j) (machine_of k) s r d.past of one }

-- a step that has no query text and takes no memory, by the machine's answer
pub plain_steps : (schema : List Table) (m : Machine) (s : Step) (r : Reply) (n : Machine) → IsUnderstood (Understands schema) s no_text → IsAnswer (answer schema m no_text s) r n → IsStep schema m s r n
plain_steps schema m s r n none e = inl (no_text, none, e)

-- one that may take memory
pub memory_steps : (schema : List Table) (m : Machine) (s : Step) (r : Reply) (n : Machine) → IsUnderstood (Understands schema) s no_text → may_take_memory s ≡ true → Answers m (answer schema m no_text s) r n → IsStep schema m s r n
memory_steps schema m s r n none may (inl e) = inl (no_text, none, e)
memory_steps schema m s r n none may (inr e) = inr (may, e)

-- a statement that is opened, or out of memory
pub opened_steps : (schema : List Table) (m : Machine) (text : List ℕ) (params : List Parameter) (bound : Bound) (interval : Interval) (q : Statement) (r : Reply) (n : Machine) → Understands schema text params (Ok q)
    → Answers m (open_query schema m (Ok q) text params bound interval) r n → IsStep schema m (step.Open text params bound interval) r n
opened_steps schema m text params bound interval q r n understood (inl e) = inl (Ok q, understood, e)
opened_steps schema m text params bound interval q r n understood (inr e) = inr (refl, e)

-- a query text that is refused, or out of memory
pub refused_steps : (schema : List Table) (m : Machine) (text : List ℕ) (params : List Parameter) (bound : Bound) (interval : Interval) (why : Refusal) → (why ≡ refusal.OutOfMemory) ⊎ Understands schema text params (Err why)
    → IsStep schema m (step.Open text params bound interval) (reply.Refused why) m
refused_steps schema m text params bound interval why (inl memory) = inr (refl, (ap reply.Refused memory, refl))
refused_steps schema m text params bound interval why (inr understood) = inl (Err why, understood, (refl, refl))
