-- What a command has changed, begun or split, and a reply that is no refusal.
use Rattle.std.proofs.Common.{◌≡◌, ◌⊎◌, ℕ, List, Result, Ok, Err, inl, inr, refl, sym, ap, subst, false, ⊎_elim}
use Rattle.std.specs.Prelude.{MatchResult}
use Rattle.span_value.specs.declared.refusal.Refusal.{Refusal}
use Rattle.span_value.specs.declared.refusal.Refusal.TheVariants.{OutOfMemory, BadSplit}
use Rattle.span_schema.specs.declared.table.Table.{Table}
use Rattle.span_mutate.specs.declared.mutation.Mutation.{Mutation}
use Rattle.span_mutate.specs.declared.mutation.CheckedMutation.{CheckedMutation}
use Rattle.span_checking.specs.Checking.{checked_transaction}
use Rattle.span_machine.specs.declared.step.Step.TheVariants as step
use Rattle.span_machine.specs.declared.step.Reply.{Reply}
use Rattle.span_machine.specs.declared.step.Reply.TheVariants as reply
use Rattle.span_machine.specs.Machine.{Machine}
use Rattle.span_steps.specs.declared.running.RunningScript.{RunningScript}
use Rattle.span_steps.specs.States.{ScriptState, IsSplit, RefusesDelete}
use Rattle.span_steps.specs.Running.{Changes}
use Rattle.span_steps.specs.Steps.{Takes, IsBegun, is_refused}

pub changes_by : {T : Type 0} (Sets Sets' : ScriptState → Type 0) (Refuses Refuses' : Refusal → Type 0) (old new : RunningScript) (r : Result T Refusal)
    → ((next : ScriptState) → Sets next → Sets' next) → ((why : Refusal) → Refuses why → Refuses' why) → Changes Sets Refuses old new r → Changes Sets' Refuses' old new r
changes_by Sets Sets' Refuses Refuses' old new (Ok x) f g h = f _ h
changes_by Sets Sets' Refuses Refuses' old new (Err why) f g h = (⊎_elim (λ memory. inl memory) (λ refused. inr (g why refused)) h.0, h.1)

pub begun : (schema : List Table) (m : Machine) (gathered : List Mutation) (ms : List CheckedMutation) (answered : Reply) (last : Machine)
    → checked_transaction schema gathered ≡ Ok ms → Takes schema m (step.Begin 0 ms) answered last → IsBegun schema m gathered answered last
begun schema m gathered ms answered last is taken =
    inl (subst (λ (r : Result (List CheckedMutation) Refusal). MatchResult r (λ checked. Takes schema m (step.Begin 0 checked) answered last) (λ why. (answered ≡ reply.Refused why) × (last ≡ m))) (sym is) taken)

pub begun_refused : (schema : List Table) (m : Machine) (gathered : List Mutation) (why : Refusal)
    → ((why ≡ OutOfMemory) ⊎ (checked_transaction schema gathered ≡ Err why)) → IsBegun schema m gathered (reply.Refused why) m
begun_refused schema m gathered why (inl is) = inr (ap (λ w. reply.Refused w) is, refl)
begun_refused schema m gathered why (inr is) =
    inl (subst (λ (r : Result (List CheckedMutation) Refusal). MatchResult r (λ checked. Takes schema m (step.Begin 0 checked) (reply.Refused why) m) (λ w. (reply.Refused why ≡ reply.Refused w) × (m ≡ m))) (sym is) (refl, refl))

pub not_refused : (r : Reply) → ((why : Refusal) → r ≡ reply.Refused why → ⊥) → is_refused r ≡ false
not_refused (reply.Refused why) not = absurd (not why refl)
not_refused _ not = refl

-- a record that has no key to split at, or no memory to read it with
pub split_refused : (schema : List Table) (m : Machine) (table row : List ℕ) (why answered : Refusal) → (why ≡ OutOfMemory) ⊎ RefusesDelete schema table row why
    → (answered ≡ BadSplit) ⊎ ((answered ≡ OutOfMemory) × (why ≡ OutOfMemory)) → (why ≡ OutOfMemory → answered ≡ OutOfMemory) → IsSplit schema m table row (reply.Refused answered) m
split_refused schema m table row why answered (inl memory) which on = inr (inr (ap (λ w. reply.Refused w) (on memory), refl))
split_refused schema m table row why answered (inr refuses) (inl bad) on = inr (inl (ap (λ w. reply.Refused w) bad, refl, (why, refuses)))
split_refused schema m table row why answered (inr refuses) (inr out) on = inr (inr (ap (λ w. reply.Refused w) out.0, refl))
