use Rattle.std.proofs.Common.{◌≡◌, ℕ, Bool, true, cond, List, [], ◌∷◌, Some, Result, Ok, ap, sym, ◌∙◌, subst, inl, inr}
use Rattle.std.specs.Prelude.{find, slice_get}
use Rattle.std.specs.List.{list_all}
use Rattle.span_value.specs.declared.refusal.Refusal.{Refusal}
use Rattle.span_query.specs.declared.query.Statement.{Statement}
use Rattle.span_value.specs.declared.refusal.Refusal.TheVariants as refusal
use Rattle.span_schema.specs.declared.table.Table.{Table}
use Rattle.span_schema.specs.Lineages.{MeetsRules}
use Rattle.span_mutate.specs.declared.row.TableRow.{TableRow}
use Rattle.span_value.specs.Results.{and_then}
use Rattle.span_mutate.specs.Directories.{Root}
use Rattle.span_machine.specs.declared.query.OpenQuery.{OpenQuery}
use Rattle.span_machine.specs.declared.slot.SlotState.{SlotState}
use Rattle.span_machine.specs.declared.step.Step.{Step}
use Rattle.span_machine.specs.declared.step.Step.TheVariants.{Finish}
use Rattle.span_machine.specs.declared.step.Reply.{Reply}
use Rattle.span_machine.specs.Meaning.{means}
use Rattle.span_machine.specs.Tables.{tables}
use Rattle.span_machine.specs.Machine.{Machine, Understanding, Answer, IsStep, answer, start, holds, is_query, is_covered, rows_or_refusal, if_some, refused, meaning, answer_on, finish_query}
use Rattle.span_machine.specs.Run.{Run, IsOfSchema, AreOfSchema}
use Rattle.span_machine_laws.proofs.Locality.{IsRoot}
use Rattle.span_machine_laws.proofs.InPlace.{IsInPlace, IsPlaced, tables_made}
use Rattle.span_machine_laws.proofs.Ranges.{HasRanges, answer_has_ranges, start_ranges}
use Rattle.span_machine_laws.proofs.Schemas.{IsBySchema, answer_by_schema, start_by_schema, keyed_upto}
use Rattle.span_machine_laws.proofs.Placed.{answer_placed, start_placed}
use Rattle.span_machine_laws.proofs.Numbers.{IsNumbered, answer_numbered, start_numbered}
use Rattle.span_machine_laws.proofs.Holdings.{AreHolding, answer_holding, start_holding}
use Rattle.span_machine_laws.proofs.Sound.{IsSound, answer_sound, start_sound}
use Rattle.span_machine_laws.proofs.Pieces.{AreOpenQueries, answer_open}
use Rattle.span_machine_laws.proofs.Horizons.{HasHorizons, answer_horizons, start_horizons}

-- what holds of every machine that a run from the start reaches
pub record IsReached (schema : List Table) (m : Machine) : Type 0 where
  pub ranges : HasRanges schema m
  pub by_schema : IsBySchema schema m
  pub numbered : IsNumbered m
  pub holding : AreHolding m
  pub placed : (root : Root) → IsRoot schema root → IsPlaced schema root m
  pub sound : IsSound schema m
  pub horizons : HasHorizons schema m
  pub leaves : AreOpenQueries schema m

pub start_reached : (schema : List Table) → IsReached schema start
start_reached schema = record {
  ranges = start_ranges schema;
  by_schema = start_by_schema schema;
  numbered = start_numbered;
  holding = start_holding;
  placed = λ root is. (0, start_placed schema root);
  sound = start_sound schema;
  horizons = start_horizons schema;
  leaves = tt;
}

module _ (schema : List Table) (rules : MeetsRules schema) where
  pub answer_reached : (m : Machine) → IsReached schema m → (u : Result Statement Refusal) (step : Step) → IsOfSchema schema step → IsReached schema (answer schema m u step).1
  answer_reached m reached u step of = record {
    ranges = answer_has_ranges schema rules m u reached.ranges step of;
    by_schema = answer_by_schema schema m u reached.by_schema step of;
    numbered = answer_numbered schema m u reached.numbered step;
    holding = answer_holding schema m u reached.holding step;
    placed = λ root is. let o = reached.placed root is in answer_placed schema rules root is o.0 m u reached.by_schema reached.ranges reached.holding o.1 step;
    sound = answer_sound schema m u reached.ranges reached.holding reached.sound step;
    horizons = answer_horizons schema m u reached.sound reached.ranges reached.holding reached.horizons step;
    leaves = answer_open schema m u reached.ranges reached.leaves step;
  }

  -- one step, out of memory included
  pub step_reached : (understands : Understanding) (m : Machine) (step : Step) (r : Reply) (next : Machine) → IsStep understands schema m step r next → IsOfSchema schema step → IsReached schema m → IsReached schema next
  step_reached understands m step r next (inl e) of reached = subst (IsReached schema) (sym e.2.1) (answer_reached m reached e.0 step of)
  step_reached understands m step r next (inr e) of reached = subst (IsReached schema) (sym e.1.1) reached

  pub run_reached : (understands : Understanding) (m : Machine) (steps : List Step) (replies : List Reply) (last : Machine) → Run understands schema m steps replies last → AreOfSchema schema steps → IsReached schema m → IsReached schema last
  run_reached understands m [] [] last run of reached = subst (IsReached schema) (sym run) reached
  run_reached understands m [] (r ∷ rs) last run of reached = absurd run
  run_reached understands m (x ∷ xs) [] last run of reached = absurd run
  run_reached understands m (x ∷ xs) (r ∷ rs) last run of reached = run_reached understands run.0 xs rs last run.2 of.1 (step_reached understands m x r run.0 run.1 of.0 reached)

  -- the tables at any timestamp are made
  pub reached_tables : (m : Machine) (s : ℕ) → IsReached schema m → (db : List TableRow) × (tables schema m.log s ≡ Ok db)
  reached_tables m s reached = tables_made schema rules m s (keyed_upto schema m.log s reached.by_schema.log) reached.placed

-- the directory is in place in a slot that has it
pub placed_at : (schema : List Table) (m : Machine) → IsReached schema m → (root : Root) → IsRoot schema root → (i : ℕ) (b : SlotState) → slice_get m.slots i ≡ Some b → holds schema b root ≡ true → IsInPlace schema root i m
placed_at schema m reached root is i b h held =
    let o = reached.placed root is in
    subst (λ j. IsInPlace schema root j m) (sym (o.1.only i b h held)) o.1

-- the Finish of a query whose leaves are all covered answers what the query means on the tables
pub finish_meant : (schema : List Table) (m : Machine) (u : Result Statement Refusal) (number : ℕ) (q : OpenQuery) (db : List TableRow) → find (is_query number) m.queries ≡ Some q → list_all is_covered q.leaves ≡ true → tables schema m.log q.s ≡ Ok db
    → answer schema m u (Finish number) ≡ (answer_on q.s (rows_or_refusal (means schema q.statement.query q.statement.leaves db)), m)
finish_meant schema m u number q db found covered made =
    ap (λ o. if_some o (refused m refusal.UnknownQuery) (finish_query schema m)) found
    ∙ ap (λ (b : Bool). cond {A = Answer} b (answer_on q.s (meaning schema m q), m) (refused m refusal.Incomplete)) covered
    ∙ ap (λ (r : Result (List TableRow) Refusal). (answer_on q.s (and_then r (λ d. rows_or_refusal (means schema q.statement.query q.statement.leaves d))), m)) made
