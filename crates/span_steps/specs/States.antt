-- A script's state, what commands make of it, and why they are refused.
use Rattle.std.specs.Prelude.{◌≡◌, ◌≢◌, ◌⊎◌, ℕ, ◌-◌, ◌<◌, ◌≤◌, List, [], ◌∷◌, ◌++◌, take, length, codes, Option, Some, None, Result, Err, MatchResult}
use Rattle.span_value.specs.declared.refusal.Refusal.{Refusal}
use Rattle.span_value.specs.declared.refusal.Refusal.TheVariants.{OutOfMemory, BadCommand, BadInterval, BadSplit, TimestampRange, WrongType, NoTable}
use Rattle.span_value.specs.declared.value.Kind.{Kind}
use Rattle.span_value.specs.declared.value.Value.{Value}
use Rattle.span_value.specs.Cells.{IsCell}
use Rattle.span_truetime.specs.declared.interval.Interval.{Interval}
use Rattle.span_truetime.specs.Limits.{timestamp_end}
use Rattle.span_schema.specs.declared.table.Table.{Table}
use Rattle.span_schema.specs.Numbers.{number_named}
use Rattle.span_params.specs.declared.params.Parameter.{Parameter}
use Rattle.span_params.specs.Parameters.{with_parameter}
use Rattle.span_mutate.specs.declared.mutation.Mutation.{Mutation}
use Rattle.span_mutate.specs.declared.mutation.MutationKind.{MutationKind}
use Rattle.span_mutate.specs.declared.mutation.MutationKind.TheVariants as mutation
use Rattle.span_machine.specs.declared.step.Step.{Step}
use Rattle.span_machine.specs.declared.step.Step.TheVariants as step
use Rattle.span_machine.specs.declared.step.Verdict.TheVariants.{Commit, Abort}
use Rattle.span_machine.specs.declared.step.Reply.{Reply}
use Rattle.span_machine.specs.declared.step.Reply.TheVariants as reply
use Rattle.span_machine.specs.Machine.{Machine}
use Rattle.span_binder.specs.Understands.{Understands}
use Rattle.span_core.specs.Explanations.{IsExplanation}
use Rattle.span_command.specs.declared.command.Command.{Command}
use Rattle.span_command.specs.declared.command.Command.TheVariants as command
use Rattle.span_records.specs.declared.layout.RecordLayout.{RecordLayout}
use Rattle.span_records.specs.Layouts.{IsOfRecord, IsLayoutOf, IsKeyLayoutOf, HasNoLayout}
use Rattle.span_records.specs.Record.{record_fields}
use Rattle.span_answers.specs.Lines.{number_line, refused_line}
use Rattle.span_steps.specs.Steps.{Takes}

-- a load whose lines are read: how its records are read, or why it is refused; and how many mutations were gathered
-- before it
pub record OpenLoad : Type 0 where
  pub layout : Result RecordLayout Refusal
  pub before : ℕ

-- a script between two lines
pub record ScriptState : Type 0 where
  pub clock : Interval
  pub params : List Parameter
  pub gathered : List Mutation
  pub load : Option OpenLoad

-- before the first line: the clock is at 0, nothing is set and nothing gathered, and no load is read
abbrev pub IsFirst : ScriptState → Type 0
IsFirst state =
    (state.clock.earliest ≡ 0) × (state.clock.latest ≡ 0) × (state.params ≡ []) × (state.gathered ≡ [])
    × (state.load ≡ None)

-- ---- commands that change the script's state: what each makes of it, and why it is refused

abbrev pub SetsClock : ℕ → ℕ → ScriptState → ScriptState → Type 0
SetsClock earliest latest state next =
    (earliest ≤ latest) × (latest < timestamp_end) × (clock : Interval) × (clock.earliest ≡ earliest)
    × (clock.latest ≡ latest)
    × (next ≡ record state { clock = clock })

abbrev pub RefusesClock : ℕ → ℕ → Refusal → Type 0
RefusesClock earliest latest why =
    ((why ≡ BadInterval) × (latest < earliest))
    ⊎ ((why ≡ TimestampRange) × (earliest ≤ latest) × (timestamp_end ≤ latest))

abbrev pub SetsParam : List ℕ → Kind → List ℕ → ScriptState → ScriptState → Type 0
SetsParam name kind cell state next = (value : Value) × IsCell kind value cell
    × (next ≡ record state {
      params = with_parameter (record { name = name; kind = kind; value = value }) state.params;
    })

abbrev pub RefusesParam : Kind → List ℕ → Refusal → Type 0
RefusesParam kind cell why = (why ≡ WrongType) × ((value : Value) → ¬ IsCell kind value cell)

-- the mutation of a record is gathered
abbrev pub Gathers : RecordLayout → MutationKind → List ℕ → ScriptState → ScriptState → Type 0
Gathers layout kind row state next =
    (m : Mutation) × IsOfRecord layout kind (record_fields row) m
    × (next ≡ record state { gathered = state.gathered ++ m ∷ [] })

-- the record makes no mutation
abbrev pub RefusesRecord : RecordLayout → MutationKind → List ℕ → Refusal → Type 0
RefusesRecord layout kind row why =
    (why ≡ WrongType) × ((m : Mutation) → ¬ IsOfRecord layout kind (record_fields row) m)

abbrev pub Writes : List Table → MutationKind → List ℕ → List ℕ → List ℕ → ScriptState → ScriptState → Type 0
Writes schema kind table columns row state next =
    (layout : RecordLayout) × IsLayoutOf schema table columns layout × Gathers layout kind row state next

abbrev pub RefusesWrite : List Table → MutationKind → List ℕ → List ℕ → List ℕ → Refusal → Type 0
RefusesWrite schema kind table columns row why =
    HasNoLayout schema table columns why
    ⊎ ((layout : RecordLayout) × IsLayoutOf schema table columns layout × RefusesRecord layout kind row why)

abbrev pub Deletes : List Table → List ℕ → List ℕ → ScriptState → ScriptState → Type 0
Deletes schema table row state next =
    (layout : RecordLayout) × IsKeyLayoutOf schema table layout × Gathers layout mutation.Delete row state next

abbrev pub RefusesDelete : List Table → List ℕ → List ℕ → Refusal → Type 0
RefusesDelete schema table row why =
    ((why ≡ NoTable) × (number_named schema table ≡ None))
    ⊎ ((layout : RecordLayout) × IsKeyLayoutOf schema table layout × RefusesRecord layout mutation.Delete row why)

-- the record is that of a key of the table, and this is the deletion of its row
abbrev pub IsDeletion : List Table → List ℕ → List ℕ → Mutation → Type 0
IsDeletion schema table row m =
    (layout : RecordLayout) × IsKeyLayoutOf schema table layout
    × IsOfRecord layout mutation.Delete (record_fields row) m

-- ---- loads

-- a load begins; where its records can't be read it is refused at its end
abbrev pub BeginsLoad : List Table → List ℕ → List ℕ → ScriptState → ScriptState → Type 0
BeginsLoad schema table columns state next =
    (load : OpenLoad) × (load.before ≡ length state.gathered) × (next ≡ record state { load = Some load })
    × MatchResult load.layout (IsLayoutOf schema table columns)
    (λ why. (why ≡ OutOfMemory) ⊎ HasNoLayout schema table columns why)

-- the load will be refused, and what it gathered is let go
abbrev pub refused_load : OpenLoad → Refusal → ScriptState → ScriptState
refused_load load why state =
    record state {
      gathered = take load.before state.gathered;
      load = Some (record { layout = Err why; before = load.before });
    }

-- A record of a load is gathered as an insert, or is why the load is refused. A load that is refused already passes
-- over it.
abbrev pub LoadsRecord : OpenLoad → List ℕ → ScriptState → ScriptState → Type 0
LoadsRecord load row state next =
    MatchResult load.layout
    (λ layout. Gathers layout mutation.Insert row (record state { load = Some load }) next
    ⊎ ((why : Refusal) × ((why ≡ OutOfMemory) ⊎ RefusesRecord layout mutation.Insert row why)
    × (next ≡ refused_load load why state)))
    (λ _. next ≡ record state { load = Some load })

-- The end of a load: how many mutations it gathered, or why it is refused.
abbrev pub EndsLoad : OpenLoad → ScriptState → List ℕ → ScriptState → Type 0
EndsLoad load state answer next =
    MatchResult load.layout
    (λ _. ((answer ≡ number_line (codes "loaded") (length state.gathered - load.before))
    × (next ≡ record state { load = None }))
    ⊎ ((answer ≡ refused_line OutOfMemory)
    × (next ≡ record state { gathered = take load.before state.gathered; load = None })))
    (λ why. (answer ≡ refused_line why) × (next ≡ record state { load = None }))

-- A line of a load. One that has no text is why the load is refused, before all other causes.
abbrev pub IsLoadLine : OpenLoad → Option (List ℕ) → ScriptState → List ℕ → ScriptState → Type 0
IsLoadLine load None state answer next = (answer ≡ []) × (next ≡ refused_load load BadCommand state)
IsLoadLine load (Some text) state answer next =
    ((text ≡ codes "end") × EndsLoad load state answer next)
    ⊎ ((text ≢ codes "end") × (answer ≡ []) × LoadsRecord load text state next)

-- ---- commands that take steps, or none

-- A slot is split at the key that a record has. It is no step where the record has no key, or where memory runs out
-- before it.
abbrev pub IsSplit : List Table → Machine → List ℕ → List ℕ → Reply → Machine → Type 0
IsSplit schema m table row answered last =
    ((d : Mutation) × IsDeletion schema table row d × Takes schema m (step.Split d.table d.key) answered last)
    ⊎ (((answered ≡ reply.Refused BadSplit) × (last ≡ m) × ((why : Refusal) × RefusesDelete schema table row why))
    ⊎ ((answered ≡ reply.Refused OutOfMemory) × (last ≡ m)))

-- the step of a command that is one step of numbers alone
abbrev pub numbered_step : Command → Interval → Option Step
numbered_step (command.Prepare txn slot) clock = Some (step.Prepare 0 txn slot)
numbered_step (command.Decide txn) clock = Some (step.Decide 0 txn Commit clock)
numbered_step (command.Abort txn) clock = Some (step.Decide 0 txn Abort clock)
numbered_step (command.Apply txn slot) clock = Some (step.Apply 0 txn slot clock)
numbered_step (command.Advance slot) clock = Some (step.Advance slot clock)
numbered_step (command.Scan query leaf slot) clock = Some (step.Scan query leaf slot clock)
numbered_step (command.Finish query) clock = Some (step.Finish query)
numbered_step (command.Close query) clock = Some (step.Close query)
numbered_step (command.Trim slot horizon) clock = Some (step.Trim slot horizon)
numbered_step _ clock = None

-- the plan of a query text, or why the query text is refused
abbrev pub IsExplained : List Table → List ℕ → List Parameter → List ℕ → Type 0
IsExplained schema text params answer =
    IsExplanation schema text params answer
    ⊎ ((why : Refusal) × ((why ≡ OutOfMemory) ⊎ Understands schema text params (Err why)) × (answer ≡ refused_line why))
