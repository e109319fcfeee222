-- A script's state as code keeps it, and what its functions change and add.
use Rattle.std.specs.Prelude.{◌≡◌, ◌⊎◌, [], ◌∷◌, ◌++◌, ℕ, List, length, Option, Some, None, Result, Ok, Err, MatchResult}
use Rattle.std.specs.Option.{option_map}
use Rattle.span_value.specs.declared.refusal.Refusal.{Refusal}
use Rattle.span_value.specs.declared.refusal.Refusal.TheVariants.{OutOfMemory}
use Rattle.span_truetime.specs.declared.interval.Interval.{Interval}
use Rattle.span_params.specs.declared.params.Parameter.{Parameter}
use Rattle.span_mutate.specs.declared.mutation.Mutation.{Mutation}
use Rattle.span_mutate.specs.declared.mutation.MutationKind.TheVariants.{Insert}
use Rattle.span_mutate.specs.declared.batch.BatchRow.{BatchRow}
use Rattle.span_mutate.specs.Batches.{batch_mutations, row_mutation, row_mutations}
use Rattle.span_command.specs.declared.line.Line.{Line}
use Rattle.span_command.specs.declared.line.Line.TheVariants.{Text, Unreadable}
use Rattle.span_records.specs.declared.layout.RecordLayout.{RecordLayout}
use Rattle.span_records.specs.Layouts.{IsOfRecord, heading_of}
use Rattle.span_records.specs.Record.{record_fields}
use Rattle.span_steps.specs.declared.refused.Refused.{Refused}
use Rattle.span_steps.specs.declared.load.Load.{Load}
use Rattle.span_steps.specs.declared.load.Records.{Records}
use Rattle.span_steps.specs.declared.running.RunningScript.{RunningScript}
use Rattle.span_answers.specs.Lines.{refused_line}
use Rattle.span_steps.specs.States.{OpenLoad, ScriptState}

abbrev pub layout_of : Result Records Refused → Result RecordLayout Refusal
layout_of (Ok records) = Ok records.layout
layout_of (Err refused) = Err refused.why

-- a load, before which this number of mutations were gathered
abbrev pub load_of : ℕ → Load → OpenLoad
load_of before load = record { layout = layout_of load.records; before = before }

-- the rows that a load has read are inserts
abbrev pub inserts_of : Records → List Mutation
inserts_of records = row_mutations (heading_of records.layout Insert) records.rows.items

-- the mutations that were gathered before a load, and those of the load
abbrev pub with_records : List Mutation → Result Records Refused → List Mutation
with_records gathered (Ok records) = gathered ++ inserts_of records
with_records gathered (Err refused) = gathered

abbrev pub with_load : List Mutation → Option Load → List Mutation
with_load gathered None = gathered
with_load gathered (Some load) = with_records gathered load.records

abbrev pub state_with : Interval → List Parameter → List Mutation → Option Load → ScriptState
state_with clock params gathered load =
    record {
      clock = clock;
      params = params;
      gathered = with_load gathered load;
      load = option_map (load_of (length gathered)) load;
    }

abbrev pub state_of : RunningScript → ScriptState
state_of running = state_with running.clock running.params (batch_mutations running.gathered.items) running.load

-- the same with this load
abbrev pub state_in : Load → RunningScript → ScriptState
state_in load running = state_with running.clock running.params (batch_mutations running.gathered.items) (Some load)

-- how many mutations were gathered, without those of a load
abbrev pub count_of : RunningScript → ℕ
count_of running = length (batch_mutations running.gathered.items)

-- a record is read as one more row
abbrev pub AddsRow : Records → List ℕ → Records → Type 0
AddsRow old text new =
    (row : BatchRow)
    × IsOfRecord old.layout Insert (record_fields text) (row_mutation (heading_of old.layout Insert) row)
    × (new.layout ≡ old.layout)
    × (new.rows.items ≡ old.rows.items ++ row ∷ [])

-- the text of a line, which an unreadable one does not have
abbrev pub text_of : Line → Option (List ℕ)
text_of (Text text) = Some text.now
text_of Unreadable = None

-- a change of the state is made, or refused: then nothing is changed
abbrev pub Changes : {T : Type 0} → (ScriptState → Type 0) → (Refusal → Type 0) → RunningScript → RunningScript
    → Result T Refusal
    → Type 0
Changes Sets Refuses old new result =
    MatchResult result (λ _. Sets (state_of new))
    (λ why. ((why ≡ OutOfMemory) ⊎ Refuses why) × (state_of new ≡ state_of old))

-- these mutations are gathered, or memory runs out: then nothing is changed
abbrev pub Gathered : {T : Type 0} → List Mutation → RunningScript → RunningScript → Result T Refusal → Type 0
Gathered mutations old new result =
    MatchResult result (λ _. state_of new ≡ record (state_of old) { gathered = (state_of old).gathered ++ mutations })
    (λ why. (why ≡ OutOfMemory) × (state_of new ≡ state_of old))

-- what is the answer was added, or `refused N` is, where N is returned
abbrev pub Adds : {T : Type 0} → (List ℕ → Type 0) → List ℕ → List ℕ → Result T Refusal → Type 0
Adds Is old new result =
    MatchResult result (λ _. (answer : List ℕ) × Is answer × (new ≡ old ++ answer)) (λ why. Is (refused_line why))

-- the same, where it is returned with the number of a line
abbrev pub AddsAt : {T : Type 0} → (List ℕ → Type 0) → List ℕ → List ℕ → Result T Refused → Type 0
AddsAt Is old new result =
    MatchResult result (λ _. (answer : List ℕ) × Is answer × (new ≡ old ++ answer))
    (λ refused. Is (refused_line refused.why))
