-- Why a session's query is refused.
use Rattle.std.specs.Prelude.{◌≡◌, ◌⊎◌, ℕ, List, [], ◌∷◌, Option, None, Ok, Err}
use Rattle.span_value.specs.declared.refusal.Refusal.{Refusal}
use Rattle.span_value.specs.declared.refusal.Refusal.TheVariants.{OutOfMemory, ArithmeticFault, NoSlot, UnknownQuery}
use Rattle.span_schema.specs.declared.table.Table.{Table}
use Rattle.span_mutate.specs.declared.row.TableRow.{TableRow}
use Rattle.span_params.specs.declared.params.Parameter.{Parameter}
use Rattle.span_query.specs.declared.query.Statement.{Statement}
use Rattle.span_truetime.specs.declared.bound.Bound.{Bound}
use Rattle.span_truetime.specs.declared.interval.Interval.{Interval}
use Rattle.span_truetime.specs.Time.{timestamp_of}
use Rattle.span_binder.specs.Understands.{Understands}
use Rattle.span_gather.specs.Gathered.{gathered}
use Rattle.span_machine.specs.declared.transaction.Commit.{Commit}
use Rattle.span_machine.specs.declared.step.Reply.TheVariants.{Refused}
use Rattle.span_machine.specs.Machine.{open_query, scan, finish}
use Rattle.span_machine.specs.Meaning.{means}
use Rattle.span_machine.specs.Tables.{tables}
use Rattle.span_openqueries.specs.declared.taken.Taken.{Taken}
use Rattle.span_locks.specs.Replies.{RepliesOnce, IsAmong}

-- the query text is understood, and the machine refuses to open it by this reading of the clock
pub record IsUnopened (schema : List Table) (text : List ℕ) (params : List Parameter) (bound : Bound) (read : Interval)
    (why : Refusal) : Type 0 where
  pub statement : Statement
  pub understood : Understands schema text params (Ok statement)
  pub refused : RepliesOnce schema (λ m. open_query schema m (Ok statement) text params bound read) (Refused why)

-- the machine refuses a scan so
pub record IsScanRefused (schema : List Table) (why : Refusal) : Type 0 where
  pub query : ℕ
  pub leaf : ℕ
  pub slot : ℕ
  pub interval : Interval
  pub refused : RepliesOnce schema (λ m. scan m query leaf slot interval) (Refused why)

-- why something is not scanned: memory ran out, the slot or the query is not there, or the machine refuses the scan
abbrev pub IsUnscanned : List Table → Refusal → Type 0
IsUnscanned schema why = IsAmong (OutOfMemory ∷ NoSlot ∷ UnknownQuery ∷ []) why ⊎ IsScanRefused schema why

-- what the query text, with these parameters, means on the tables of these commits at s is a fault
pub record IsFault (schema : List Table) (text : List ℕ) (params : List Parameter) (commits : List Commit)
    (s : ℕ) : Type 0 where
  pub statement : Statement
  pub understood : Understands schema text params (Ok statement)
  pub db : List TableRow
  pub made : tables schema commits s ≡ Ok db
  pub meant : means schema statement.query statement.leaves db ≡ None

-- what was taken was asked with this query text and these parameters, at s, and the query above the leaves gives a fault on its pieces
pub record IsFaultOf (taken : Taken) (text : List ℕ) (params : List Parameter) (s : ℕ) : Type 0 where
  pub text_is : taken.text ≡ text
  pub params_are : taken.params ≡ params
  pub s_is : taken.s ≡ s
  pub gives : gathered taken.pieces taken.top ≡ None

-- the machine refuses a query's end so
abbrev pub IsEndRefused : List Table → Refusal → Type 0
IsEndRefused schema why = (query : ℕ) × RepliesOnce schema (λ m. finish schema m query) (Refused why)

-- why a query that was scanned has no rows: its meaning is a fault, memory ran out, the query is not there, or the machine refuses its end
abbrev pub IsUnfinished : List Table → List ℕ → List Parameter → List Commit → ℕ → Refusal → Type 0
IsUnfinished schema text params seen s why =
    ((why ≡ ArithmeticFault) × IsFault schema text params seen s)
    ⊎ IsAmong (OutOfMemory ∷ UnknownQuery ∷ []) why
    ⊎ IsEndRefused schema why

-- why a query is not opened: its query text is refused, memory ran out, or the machine refuses it
abbrev pub IsRefusedAtFirst : List Table → List ℕ → List Parameter → Bound → Interval → Refusal → Type 0
IsRefusedAtFirst schema text params bound read why =
    Understands schema text params (Err why) ⊎ (why ≡ OutOfMemory) ⊎ IsUnopened schema text params bound read why

-- why a query is refused
abbrev pub IsQueryRefusal : List Table → List ℕ → List Parameter → Bound → Interval → List Commit → Refusal → Type 0
IsQueryRefusal schema text params bound read seen why =
    IsRefusedAtFirst schema text params bound read why
    ⊎ IsUnscanned schema why
    ⊎ IsUnfinished schema text params seen (timestamp_of bound read) why

-- ---- the queue of a query's scans

-- the next place of a leaf, and how many leaves there are; the next slot, the first one and the end of them; the first refusal
pub record Scans : Type 0 where
  pub place : ℕ
  pub leaves : ℕ
  pub number : ℕ
  pub first : ℕ
  pub end : ℕ
  pub refused : Option Refusal
