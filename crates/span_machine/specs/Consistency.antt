-- External consistency: under an honest clock, the timestamps of transactions are in the order of true time.
use Rattle.std.specs.Prelude.{◌≡◌, ℕ, ◌<◌, ◌≤◌, List, [], ◌∷◌, slice_get, Some}
use Rattle.std.specs.List.{Contains}
use Rattle.span_truetime.specs.declared.bound.Bound.TheVariants.{Strong}
use Rattle.span_truetime.specs.declared.interval.Interval.{Interval}
use Rattle.span_params.specs.declared.params.Parameter.{Parameter}
use Rattle.span_machine.specs.declared.transaction.Commit.{Commit}
use Rattle.span_machine.specs.declared.step.Verdict.{Verdict}
use Rattle.span_machine.specs.declared.step.Step.{Step}
use Rattle.span_machine.specs.declared.step.Step.TheVariants.{Begin, Prepare, Decide, Apply, Advance, Trim, Open, Scan, Finish, Close, Split}
use Rattle.span_machine.specs.declared.step.Reply.{Reply}
use Rattle.span_machine.specs.declared.step.Reply.TheVariants.{Decided, Applied, Opened}
use Rattle.span_machine.specs.Tables.{upto}
use Rattle.span_machine.specs.Commits.{commits_of}

-- ---- honest clocks

-- the time is in the interval
abbrev pub IsWithin : Interval → ℕ → Type 0
IsWithin interval time = (interval.earliest ≤ time) × (time ≤ interval.latest)

-- the step may be taken at this true time: it is in the step's interval, if it has one
abbrev pub MayBeTakenAt : Step → ℕ → Type 0
MayBeTakenAt (Begin owner transaction) time = Unit {0}
MayBeTakenAt (Prepare owner txn slot) time = Unit {0}
MayBeTakenAt (Decide owner txn v interval) time = IsWithin interval time
MayBeTakenAt (Apply owner txn slot interval) time = IsWithin interval time
MayBeTakenAt (Advance slot interval) time = IsWithin interval time
MayBeTakenAt (Trim slot h) time = Unit {0}
MayBeTakenAt (Open text params bound interval) time = IsWithin interval time
MayBeTakenAt (Scan query leaf slot interval) time = IsWithin interval time
MayBeTakenAt (Finish query) time = Unit {0}
MayBeTakenAt (Close query) time = Unit {0}
MayBeTakenAt (Split table key) time = Unit {0}

-- the steps may be taken at these true times, one for each: from this time on, and none before the one that precedes it
abbrev pub AreTrueTimes : ℕ → List Step → List ℕ → Type 0
AreTrueTimes from [] [] = Unit {0}
AreTrueTimes from [] (t ∷ ts) = ⊥
AreTrueTimes from (s ∷ ss) [] = ⊥
AreTrueTimes from (s ∷ ss) (t ∷ ts) = (from ≤ t) × MayBeTakenAt s t × AreTrueTimes t ss ts

-- the clock may have been honest: there are true times of the steps, in order, each in the interval that the clock
-- answered for its step
abbrev pub HonestClock : List Step → Type 0
HonestClock steps = (times : List ℕ) × AreTrueTimes 0 steps times

-- ---- what is at a place of a run

-- the step at this place, and the reply to it
abbrev pub IsAt : List Step → List Reply → ℕ → Step → Reply → Type 0
IsAt steps replies place step reply = (slice_get steps place ≡ Some step) × (slice_get replies place ≡ Some reply)

-- the commit is decided here
abbrev pub IsDecidedAt : List Step → List Reply → ℕ → Commit → Type 0
IsDecidedAt steps replies place c =
    (v : Verdict) × (interval : Interval)
    × IsAt steps replies place (Decide c.owner c.number v interval) (Decided c.timestamp)

-- the transaction of the commit is applied here, in some slot
abbrev pub IsAppliedAt : List Step → List Reply → ℕ → Commit → Type 0
IsAppliedAt steps replies place c =
    (slot : ℕ) × (interval : Interval) × IsAt steps replies place (Apply c.owner c.number slot interval) Applied

-- the transaction of the commit is applied, in some slot, before this place
abbrev pub IsAppliedBefore : List Step → List Reply → ℕ → Commit → Type 0
IsAppliedBefore steps replies place c = (earlier : ℕ) × (earlier < place) × IsAppliedAt steps replies earlier c

-- a strong query is opened here, at timestamp s
abbrev pub IsOpenedAt : List Step → List Reply → ℕ → ℕ → Type 0
IsOpenedAt steps replies place s =
    (text : List ℕ) × (params : List Parameter) × (interval : Interval) × (query : ℕ) × (leaves : ℕ)
    × IsAt steps replies place (Open text params Strong interval) (Opened query s leaves)

-- ---- external consistency

-- A commit of the run that is applied before another one is decided has the smaller timestamp.
abbrev pub AreDecidedInOrder : List Step → List Reply → Type 0
AreDecidedInOrder steps replies =
    (place : ℕ) (a b : Commit) → Contains (commits_of steps replies) a → IsAppliedBefore steps replies place a
    → IsDecidedAt steps replies place b → a.timestamp < b.timestamp

-- A commit of the run that is applied before a strong query is opened has a timestamp below the query's, and so is
-- among the commits that make the tables which the query reads.
abbrev pub AreSeen : List Step → List Reply → Type 0
AreSeen steps replies =
    (place : ℕ) (c : Commit) (s : ℕ) → Contains (commits_of steps replies) c → IsAppliedBefore steps replies place c
    → IsOpenedAt steps replies place s → (c.timestamp < s) × Contains (upto (commits_of steps replies) s) c

-- what holds of every run under an honest clock
pub record IsExternallyConsistent (steps : List Step) (replies : List Reply) : Type 0 where
  pub ordered : AreDecidedInOrder steps replies
  pub seen : AreSeen steps replies
