-- The steps that commands take, one after another.
use Rattle.std.specs.Prelude.{◌≡◌, ℕ, Bool, true, false, List, [], ◌∷◌, ◌++◌, map, length, ◌⊎◌, MatchResult}
use Rattle.std.specs.List.{flat_map, range_with_len}
use Rattle.span_value.specs.declared.refusal.Refusal.{Refusal}
use Rattle.span_value.specs.declared.refusal.Refusal.TheVariants.{OutOfMemory}
use Rattle.span_truetime.specs.declared.interval.Interval.{Interval}
use Rattle.span_schema.specs.declared.table.Table.{Table}
use Rattle.span_mutate.specs.declared.mutation.Mutation.{Mutation}
use Rattle.span_checking.specs.Checking.{checked_transaction}
use Rattle.span_machine.specs.declared.step.Step.{Step}
use Rattle.span_machine.specs.declared.step.Step.TheVariants as step
use Rattle.span_machine.specs.declared.step.Reply.{Reply}
use Rattle.span_machine.specs.declared.step.Reply.TheVariants as reply
use Rattle.span_machine.specs.Machine.{Machine}
use Rattle.span_core.specs.Histories.{IsStep}
use Rattle.span_core.specs.Promises.{IsRunTo, IsPromised, asked_after}

-- The machine's reply to a step, and the machine after it. They are as is promised of a step, by whatever run the
-- machine was reached: rows are those that the query means.
unfoldable pub Takes : List Table → Machine → Step → Reply → Machine → Type 0
Takes schema m taken answered next =
    IsStep schema m taken answered next
    × ((past : IsRunTo schema m) → IsPromised schema (asked_after [] past.steps past.replies) taken answered next)

abbrev pub is_refused : Reply → Bool
is_refused (reply.Refused why) = true
is_refused _ = false

-- the steps are taken one after another, and none is refused
abbrev pub AreTaken : List Table → Machine → List Step → Machine → Type 0
AreTaken schema m [] last = last ≡ m
AreTaken schema m (s ∷ steps) last =
    (answered : Reply) × (next : Machine) × Takes schema m s answered next × (is_refused answered ≡ false)
    × AreTaken schema next steps last

-- the steps are taken one after another up to the first that is refused, and this is why
pub record AreRefused (schema : List Table) (m : Machine) (steps : List Step) (why : Refusal) (last : Machine) : Type 0
  where
    pub before : List Step
    pub first : Step
    pub after : List Step
    pub in_order : steps ≡ before ++ first ∷ after
    pub mid : Machine
    pub taken : AreTaken schema m before mid
    pub refused : Takes schema mid first (reply.Refused why) last

-- a scan of a leaf in each of the slots, by their numbers
abbrev pub scans_of_leaf : Interval → ℕ → ℕ → ℕ → List Step
scans_of_leaf clock query slots leaf = map (λ slot. step.Scan query leaf slot clock) (range_with_len 0 slots)

-- the scans of each leaf in turn
abbrev pub scans : Interval → ℕ → ℕ → ℕ → List Step
scans clock query slots leaves = flat_map (scans_of_leaf clock query slots) (range_with_len 0 leaves)

-- An open query is scanned and finished, which gives its rows; or a step of these is refused.
abbrev pub IsRead : List Table → Machine → Interval → ℕ → ℕ → Reply → Machine → Type 0
IsRead schema m clock query leaves answered last =
    ((mid : Machine) × AreTaken schema m (scans clock query (length m.slots) leaves) mid
    × Takes schema mid (step.Finish query) answered last)
    ⊎ ((why : Refusal) × (answered ≡ reply.Refused why)
    × AreRefused schema m (scans clock query (length m.slots) leaves) why last)

-- What was opened is read, and closed whatever was answered. What was not opened is answered so.
abbrev pub IsReadAndClosed : List Table → Machine → Interval → Reply → Reply → Machine → Type 0
IsReadAndClosed schema m clock (reply.Opened query s leaves) answered last =
    (mid : Machine) × IsRead schema m clock query leaves answered mid
    × ((closed : Reply) × Takes schema mid (step.Close query) closed last)
IsReadAndClosed schema m clock opened answered last = (answered ≡ opened) × (last ≡ m)

-- a query that is opened, read and closed
abbrev pub IsQueried : List Table → Machine → Interval → Step → Reply → Machine → Type 0
IsQueried schema m clock opening answered last =
    (opened : Reply) × (mid : Machine) × Takes schema m opening opened mid
    × IsReadAndClosed schema mid clock opened answered last

-- A transaction of the mutations is begun. It is no step where they are no transaction, or where memory runs out before
-- it.
abbrev pub IsBegun : List Table → Machine → List Mutation → Reply → Machine → Type 0
IsBegun schema m gathered answered last =
    MatchResult (checked_transaction schema gathered)
    (λ checked. Takes schema m (step.Begin 0 checked) answered last)
    (λ why. (answered ≡ reply.Refused why) × (last ≡ m))
    ⊎ ((answered ≡ reply.Refused OutOfMemory) × (last ≡ m))
