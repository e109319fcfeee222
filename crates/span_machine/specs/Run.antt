use Rattle.std.specs.Prelude.{◌≡◌, ℕ, ◌==◌, List, [], ◌∷◌, ◌++◌, find, Some, None, Ok}
use Rattle.std.specs.List.{AllByRecursion}
use Rattle.span_value.specs.declared.refusal.Refusal.TheVariants.{ArithmeticFault}
use Rattle.span_params.specs.declared.params.Parameter.{Parameter}
use Rattle.span_query.specs.declared.query.Statement.{Statement}
use Rattle.span_planner.specs.Plannable.{IsPlannable}
use Rattle.span_query.specs.Rows as rows
use Rattle.span_machine.specs.declared.step.Step.{Step}
use Rattle.span_machine.specs.declared.step.Step.TheVariants.{Begin, Finish, Split}
use Rattle.span_machine.specs.declared.step.Reply.{Reply}
use Rattle.span_machine.specs.declared.step.Reply.TheVariants.{Rows, Refused}
use Rattle.span_machine.specs.declared.transaction.Commit.{Commit}
use Rattle.span_schema.specs.declared.table.Table.{Table}
use Rattle.span_mutate.specs.declared.row.TableRow.{TableRow}
use Rattle.span_keycode.specs.Coding.{AreValues}
use Rattle.span_mutate.specs.Typed.{AreTypedMutations}
use Rattle.span_machine.specs.Tables.{tables}
use Rattle.span_machine.specs.Meaning.{means}
use Rattle.span_machine.specs.Commits.{OpenedQuery, opened_by, commits_of}
use Rattle.span_machine.specs.Machine.{Machine, Understanding, IsStep, start}

-- the mutations of a transaction that is begun were checked against the schema
abbrev pub IsChecked : List Table → Step → Type 0
IsChecked schema (Begin owner transaction) = AreTypedMutations schema transaction
IsChecked schema _ = Unit {0}

abbrev pub AreChecked : List Table → List Step → Type 0
AreChecked schema steps = AllByRecursion (IsChecked schema) steps

-- the step is of the schema: what is begun was checked against it, and a key is of values
abbrev pub IsOfSchema : List Table → Step → Type 0
IsOfSchema schema (Begin owner transaction) = AreTypedMutations schema transaction
IsOfSchema schema (Split table key) = AreValues key
IsOfSchema schema _ = Unit {0}

abbrev pub AreOfSchema : List Table → List Step → Type 0
AreOfSchema schema steps = AllByRecursion (IsOfSchema schema) steps

-- each statement that a query text is understood as can be planned
abbrev pub CanPlan : Understanding → List Table → Type 0
CanPlan understands schema =
    (text : List ℕ) (params : List Parameter) (q : Statement) → understands text params (Ok q) → IsPlannable schema q

-- the machine may give these replies to these steps, one after another
abbrev pub Run : Understanding → List Table → Machine → List Step → List Reply → Machine → Type 0
Run understands schema m [] [] last = last ≡ m
Run understands schema m [] (r ∷ rs) last = ⊥
Run understands schema m (s ∷ ss) [] last = ⊥
Run understands schema m (s ∷ ss) (r ∷ rs) last =
    (mid : Machine) × IsStep understands schema m s r mid × Run understands schema mid ss rs last

-- This is what the query of this number means, its rows in order or the fault: its query text is understood as a
-- statement that means it on the tables of the commits, at the timestamp that the query was opened at.
pub record IsMeant (understands : Understanding) (schema : List Table) (commits : List Commit)
    (asked : List OpenedQuery) (query s : ℕ) (meant : rows.Rows) : Type 0 where
  pub question : OpenedQuery
  pub opened : find (λ a. a.number == query) asked ≡ Some question
  pub at : s ≡ question.s
  pub statement : Statement
  pub understood : understands question.text question.params (Ok statement)
  pub db : List TableRow
  pub made : tables schema commits s ≡ Ok db
  pub is : meant ≡ means schema statement.query statement.leaves db

-- a query that was answered with rows, or refused for an arithmetic fault, was answered rightly by these commits
abbrev pub IsRight : Understanding → List Table → List Commit → List OpenedQuery → Step → Reply → Type 0
IsRight understands schema commits asked (Finish query) (Rows s found) =
    IsMeant understands schema commits asked query s (Some found.rows)
IsRight understands schema commits asked (Finish query) (Refused why) =
    why ≡ ArithmeticFault → (s : ℕ) × IsMeant understands schema commits asked query s None
IsRight understands schema commits asked _ _ = Unit {0}

-- every answer of a run is right by these commits
abbrev pub AreRight : Understanding → List Table → List Commit → List OpenedQuery → List Step → List Reply → Type 0
AreRight understands schema commits asked [] replies = Unit {0}
AreRight understands schema commits asked (s ∷ ss) [] = Unit {0}
AreRight understands schema commits asked (s ∷ ss) (r ∷ rs) =
    IsRight understands schema commits asked s r × AreRight understands schema commits (opened_by s r ++ asked) ss rs

-- The headline. The replies are the machine's; the log of the machine holds just the commits that were answered
-- Decided, in order; every one of them applies at its place, so that the tables at any timestamp are made; and every
-- answer has exactly the rows, in order, that its query text means on the tables of the commits of the whole run, also
-- those decided after it. Where a query is refused for an arithmetic fault, its query text means the fault there.
pub record IsHistory (understands : Understanding) (schema : List Table) (steps : List Step)
    (replies : List Reply) : Type 0 where
  pub last : Machine
  pub run : Run understands schema start steps replies last
  pub log : last.log ≡ commits_of steps replies
  pub applies : (s : ℕ) → (db : List TableRow) × (tables schema (commits_of steps replies) s ≡ Ok db)
  pub right : AreRight understands schema (commits_of steps replies) [] steps replies
