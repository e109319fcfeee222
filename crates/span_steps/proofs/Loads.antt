-- What is gathered, and what a load has read beside it.
use Rattle.std.proofs.Common.{◌≡◌, ◌⊎◌, ◌∙◌, ℕ, List, [], ◌∷◌, ◌++◌, Option, Some, None, Result, Ok, Err, inl, inr, refl, sym, ap, subst, length, take, append_assoc}
use Rattle.std.proofs.Math.Seq.{take-append_seam, take-length}
use Rattle.std.proofs.lemmas.List.{append-nil, map-append}
use Rattle.span_value.specs.declared.refusal.Refusal.{Refusal}
use Rattle.span_value.specs.declared.refusal.Refusal.TheVariants.{OutOfMemory}
use Rattle.span_truetime.specs.declared.interval.Interval.{Interval}
use Rattle.span_schema.specs.declared.table.Table.{Table}
use Rattle.span_params.specs.declared.params.Parameter.{Parameter}
use Rattle.span_mutate.specs.declared.mutation.Mutation.{Mutation}
use Rattle.span_mutate.specs.declared.mutation.MutationKind.{MutationKind}
use Rattle.span_mutate.specs.declared.mutation.MutationKind.TheVariants.{Insert}
use Rattle.span_mutate.specs.declared.batch.BatchRow.{BatchRow}
use Rattle.span_mutate.specs.Batches.{batch_mutations, row_mutation, row_mutations}
use Rattle.span_records.specs.declared.layout.RecordLayout.{RecordLayout}
use Rattle.span_records.specs.Layouts.{HasNoLayout, IsLayoutOf, IsRowOf, heading_of}
use Rattle.span_records.specs.Record.{record_fields}
use Rattle.span_steps.specs.declared.refused.Refused.{Refused}
use Rattle.span_steps.specs.declared.load.Load.{Load}
use Rattle.span_steps.specs.declared.load.Records.{Records}
use Rattle.span_steps.specs.declared.running.RunningScript.{RunningScript}
use Rattle.span_steps.specs.States.{BeginsLoad, Gathers, LoadsRecord, RefusesRecord, ScriptState, refused_load}
use Rattle.span_steps.specs.Running.{AddsRow, Changes, Gathered, inserts_of, load_of, state_of, state_with, with_records}

-- ---- gathering, where no load is read

batches_more : (batches : List (List Mutation)) (batch : List Mutation) → batch_mutations (batches ++ batch ∷ []) ≡ batch_mutations batches ++ batch
batches_more [] batch = append-nil batch
batches_more (b ∷ bs) batch = ap (λ (l : List Mutation). b ++ l) (batches_more bs batch) ∙ sym (append_assoc b (batch_mutations bs) batch)

pub more_gathered : (clock : Interval) (params : List Parameter) (before after : List (List Mutation)) (batch : List Mutation) (load : Option Load) → load ≡ None → after ≡ before ++ batch ∷ []
    → state_with clock params (batch_mutations after) load
    ≡ record (state_with clock params (batch_mutations before) load) { gathered = (state_with clock params (batch_mutations before) load).gathered ++ batch }
more_gathered clock params before after batch (Some load) none is = absurd (cc none)
more_gathered clock params before after batch None none is =
    ap (λ (gathered : List Mutation). state_with clock params gathered None) (ap batch_mutations is ∙ batches_more before batch)

pub emptied : (clock : Interval) (params : List Parameter) (gathered : List Mutation) (none_left : List (List Mutation)) (load : Option Load) → load ≡ None → none_left ≡ []
    → state_with clock params (batch_mutations none_left) load ≡ record (state_with clock params gathered load) { gathered = [] }
emptied clock params gathered left (Some load) none is = absurd (cc none)
emptied clock params gathered left None none is = ap (λ (batches : List (List Mutation)). state_with clock params (batch_mutations batches) None) is

pub gathered_alone : (clock : Interval) (params : List Parameter) (gathered : List Mutation) (load : Option Load) → load ≡ None → gathered ≡ (state_with clock params gathered load).gathered
gathered_alone clock params gathered (Some load) none = absurd (cc none)
gathered_alone clock params gathered None none = refl

-- one row is gathered
pub gathers_row : {T : Type 0} (layout : RecordLayout) (kind : MutationKind) (text : List ℕ) (old new : RunningScript) (row : BatchRow) (rows : List BatchRow) (r : Result T Refusal)
    → IsRowOf layout (record_fields text) row → rows ≡ row ∷ [] → Gathered (row_mutations (heading_of layout kind) rows) old new r
    → Changes (Gathers layout kind text (state_of old)) (RefusesRecord layout kind text) old new r
gathers_row layout kind text old new row rows (Ok x) is one h = (
  row_mutation (heading_of layout kind) row,
  is kind,
  h ∙ ap (λ (l : List BatchRow). let state : ScriptState = record (state_of old) { gathered = (state_of old).gathered ++ row_mutations (heading_of layout kind) l } in state) one,
)
gathers_row layout kind text old new row rows (Err why) is one h = (inl h.0, h.1)

-- ---- the beginning of a load

pub load_begun : (schema : List Table) (table columns : List ℕ) (clock : Interval) (params : List Parameter) (gathered : List Mutation) (load : Option Load) (records : Records) → load ≡ None → records.rows.items ≡ []
    → IsLayoutOf schema table columns records.layout
    → BeginsLoad schema table columns (state_with clock params gathered load) (state_with clock params gathered (Some (record { records = Ok records })))
load_begun schema table columns clock params gathered (Some load) records none no_rows is = absurd (cc none)
load_begun schema table columns clock params gathered None records none no_rows is =
    let same : gathered ++ inserts_of records ≡ gathered = ap (λ (rows : List BatchRow). gathered ++ row_mutations (heading_of records.layout Insert) rows) no_rows ∙ append-nil gathered in (
      load_of (length gathered) (record { records = Ok records }),
      refl,
      ap
          (λ (l : List Mutation). let state : ScriptState = record { clock = clock; params = params; gathered = l; load = Some (load_of (length gathered) (record { records = Ok records })) } in state)
          same,
      is,
    )

pub load_not_begun : (schema : List Table) (table columns : List ℕ) (clock : Interval) (params : List Parameter) (gathered : List Mutation) (load : Option Load) (refused : Refused) → load ≡ None
    → (refused.why ≡ OutOfMemory) ⊎ HasNoLayout schema table columns refused.why
    → BeginsLoad schema table columns (state_with clock params gathered load) (state_with clock params gathered (Some (record { records = Err refused })))
load_not_begun schema table columns clock params gathered (Some load) refused none is = absurd (cc none)
load_not_begun schema table columns clock params gathered None refused none is = (load_of (length gathered) (record { records = Err refused }), refl, refl, is)

-- ---- its records

module _ (clock : Interval) (params : List Parameter) (gathered : List Mutation) where
  -- the state with a load whose records are read so, and gave these mutations
  abbrev state_at : RecordLayout → List Mutation → ScriptState
  state_at layout all = record { clock = clock; params = params; gathered = all; load = Some (record { layout = Ok layout; before = length gathered }) }

  one_more : (records : Records) (text : List ℕ) (new : Records) (adds : AddsRow records text new)
      → state_with clock params gathered (Some (record { records = Ok new }))
      ≡ record (state_with clock params gathered (Some (record { records = Ok records }))) { gathered = (gathered ++ inserts_of records) ++ row_mutation (heading_of records.layout Insert) adds.0 ∷ [] }
  one_more records text new adds =
      let f = row_mutation (heading_of records.layout Insert) in
      let rows = ap (λ (l : List BatchRow). state_at new.layout (gathered ++ row_mutations (heading_of new.layout Insert) l)) adds.3 in
      let layout = ap (λ (w : RecordLayout). state_at w (gathered ++ row_mutations (heading_of w Insert) (records.rows.items ++ adds.0 ∷ []))) adds.2 in
      let all : gathered ++ row_mutations (heading_of records.layout Insert) (records.rows.items ++ adds.0 ∷ []) ≡ (gathered ++ inserts_of records) ++ f adds.0 ∷ [] =
      ap (λ (l : List Mutation). gathered ++ l) (map-append f records.rows.items (adds.0 ∷ [])) ∙ sym (append_assoc gathered (inserts_of records) (f adds.0 ∷ [])) in
      rows ∙ layout ∙ ap (state_at records.layout) all

  -- what was gathered before the load is what is left without it
  before_load : (records : Result Records Refused) → take (length gathered) (with_records gathered records) ≡ gathered
  before_load (Ok records) = take-append_seam gathered (inserts_of records)
  before_load (Err refused) = take-length gathered

  pub load_refused : (load : Load) (refused : Refused) (why : Refusal) → refused.why ≡ why
      → state_with clock params gathered (Some (record { records = Err refused })) ≡ refused_load (load_of (length gathered) load) why (state_with clock params gathered (Some load))
  load_refused load refused why is =
      ap
      (λ (w : Refusal). let state : ScriptState = record { clock = clock; params = params; gathered = gathered; load = Some (record { layout = Err w; before = length gathered }) } in state)
      is
      ∙ ap
      (λ (l : List Mutation). let state : ScriptState = record { clock = clock; params = params; gathered = l; load = Some (record { layout = Err why; before = length gathered }) } in state)
      (sym (before_load load.records))

  pub row_loaded : (load : Load) (records : Records) (text : List ℕ) (new : Records) → load.records ≡ Ok records → AddsRow records text new
      → LoadsRecord (load_of (length gathered) load) text (state_with clock params gathered (Some load)) (state_with clock params gathered (Some (record { records = Ok new })))
  row_loaded load records text new is adds =
      subst
      (λ (r : Result Records Refused). LoadsRecord (load_of (length gathered) (record { records = r })) text (state_with clock params gathered (Some (record { records = r }))) (state_with clock params gathered (Some (record { records = Ok new }))))
      (sym is)
      (inl (row_mutation (heading_of records.layout Insert) adds.0, adds.1, one_more records text new adds))

  pub row_refused : (load : Load) (records : Records) (text : List ℕ) (refused : Refused) → load.records ≡ Ok records → (refused.why ≡ OutOfMemory) ⊎ RefusesRecord records.layout Insert text refused.why
      → LoadsRecord (load_of (length gathered) load) text (state_with clock params gathered (Some load)) (state_with clock params gathered (Some (record { records = Err refused })))
  row_refused load records text refused is refuses =
      subst
      (λ (r : Result Records Refused). LoadsRecord (load_of (length gathered) (record { records = r })) text (state_with clock params gathered (Some (record { records = r }))) (state_with clock params gathered (Some (record { records = Err refused }))))
      (sym is)
      (inr (refused.why, refuses, load_refused (record { records = Ok records }) refused refused.why refl))

  pub row_passed_over : (load : Load) (text : List ℕ) (refused : Refused) → load.records ≡ Err refused
      → LoadsRecord (load_of (length gathered) load) text (state_with clock params gathered (Some load)) (state_with clock params gathered (Some (record { records = Err refused })))
  row_passed_over load text refused is =
      subst
      (λ (r : Result Records Refused). LoadsRecord (load_of (length gathered) (record { records = r })) text (state_with clock params gathered (Some (record { records = r }))) (state_with clock params gathered (Some (record { records = Err refused }))))
      (sym is) refl
