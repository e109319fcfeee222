-- What a database promises of its next step, whatever the step is, and of the steps that led to it.
use Rattle.std.specs.Prelude.{◌≡◌, ℕ, List, [], ◌∷◌, ◌++◌, Some, Ok, slice_get}
use Rattle.span_schema.specs.declared.table.Table.{Table}
use Rattle.span_mutate.specs.declared.row.TableRow.{TableRow}
use Rattle.span_machine.specs.declared.slot.SlotState.{SlotState}
use Rattle.span_machine.specs.declared.step.Step.{Step}
use Rattle.span_machine.specs.declared.step.Step.TheVariants.{Trim}
use Rattle.span_machine.specs.declared.step.Reply.{Reply}
use Rattle.span_machine.specs.declared.step.Reply.TheVariants.{Trimmed}
use Rattle.span_machine.specs.Commits.{OpenedQuery, opened_by}
use Rattle.span_machine.specs.Consistency.{HonestClock, IsExternallyConsistent}
use Rattle.span_machine.specs.Kept.{live}
use Rattle.span_machine.specs.Machine.{Machine, start}
use Rattle.span_machine.specs.Run.{IsOfSchema, AreOfSchema, IsRight}
use Rattle.span_machine.specs.Tables.{tables}
use Rattle.span_binder.specs.Understands.{Understands}
use Rattle.span_core.specs.Histories.{IsStep, Run}

-- a run that leads from an empty database to the machine: its steps, and the replies to them
pub record IsRunTo (schema : List Table) (m : Machine) : Type 0 where
  pub steps : List Step
  pub replies : List Reply
  pub of_schema : AreOfSchema schema steps
  pub run : Run schema start steps replies m

-- the queries that steps open by these replies, in front of those that were opened before: the newest first
abbrev pub asked_after : List OpenedQuery → List Step → List Reply → List OpenedQuery
asked_after asked [] replies = asked
asked_after asked (s ∷ ss) [] = asked
asked_after asked (s ∷ ss) (r ∷ rs) = asked_after (opened_by s r ++ asked) ss rs

-- the number that a Trim is answered is that of the versions that the slot keeps after it, with the new horizon
abbrev pub IsCounted : List Table → Machine → Step → Reply → Type 0
IsCounted schema next (Trim slot h) (Trimmed kept) =
    (slot_state : SlotState) × (slice_get next.slots slot ≡ Some slot_state) × (slot_state.horizon ≡ h)
    × (kept ≡ live schema next.log next.transactions slot slot_state)
IsCounted schema next _ _ = Unit {0}

-- What is promised of a step. A query that is answered has exactly the rows, in order, that its query text means on the
-- tables of the commits at its timestamp or earlier. Every commit applies at its place, so that the tables at any
-- timestamp are made and no row keeps an Apply from being done. A Trim is answered how many versions are kept.
pub record IsPromised (schema : List Table) (asked : List OpenedQuery) (step : Step) (reply : Reply)
    (next : Machine) : Type 0 where
  pub right : IsRight (Understands schema) schema next.log asked step reply
  pub applies : (s : ℕ) → (db : List TableRow) × (tables schema next.log s ≡ Ok db)
  pub counted : IsCounted schema next step reply

-- every step that the machine may take next is as promised, by whatever run the machine was reached
abbrev pub Promises : List Table → Machine → Type 0
Promises schema m =
    (past : IsRunTo schema m) (step : Step) (reply : Reply) (next : Machine) → IsOfSchema schema step
    → IsStep schema m step reply next
    → IsPromised schema (asked_after [] past.steps past.replies) step reply next

-- by whatever run the machine was reached, it is externally consistent where the clock was honest
abbrev pub IsConsistent : List Table → Machine → Type 0
IsConsistent schema m =
    (past : IsRunTo schema m) → HonestClock past.steps → IsExternallyConsistent past.steps past.replies
