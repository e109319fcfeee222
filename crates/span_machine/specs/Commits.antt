use Rattle.std.specs.Prelude.{ℕ, ◌==◌, List, [], ◌∷◌, ◌++◌, Option, Some, None, find}
use Rattle.span_mutate.specs.declared.mutation.CheckedMutation.{CheckedMutation}
use Rattle.span_params.specs.declared.params.Parameter.{Parameter}
use Rattle.span_machine.specs.declared.transaction.Commit.{Commit}
use Rattle.span_machine.specs.declared.step.Step.{Step}
use Rattle.span_machine.specs.declared.step.Step.TheVariants.{Begin, Decide, Open}
use Rattle.span_machine.specs.declared.step.Reply.{Reply}
use Rattle.span_machine.specs.declared.step.Reply.TheVariants.{Began, Decided, Opened}

-- a transaction as it was begun
pub record BegunTransaction : Type 0 where
  pub number : ℕ
  pub mutations : List CheckedMutation

-- what a Begin that was answered Began has begun
abbrev pub begun_by : Step → Reply → List BegunTransaction
begun_by (Begin owner transaction) (Began number) = (record { number = number; mutations = transaction }) ∷ []
begun_by _ _ = []

abbrev pub commit_by : ℕ → ℕ → ℕ → Option BegunTransaction → List Commit
commit_by ts owner number None = []
commit_by ts owner number (Some b) =
    (record { timestamp = ts; number = number; owner = owner; mutations = b.mutations }) ∷ []

-- what a Decide that was answered Decided commits: the mutations that were begun under the number
abbrev pub committed_by : List BegunTransaction → Step → Reply → List Commit
committed_by begun (Decide owner txn v interval) (Decided ts) =
    commit_by ts owner txn (find (λ b. b.number == txn) begun)
committed_by begun _ _ = []

-- the commits of steps and the replies to them, in order, after what was begun before
abbrev pub commits_after : List BegunTransaction → List Step → List Reply → List Commit
commits_after begun [] replies = []
commits_after begun (s ∷ ss) [] = []
commits_after begun (s ∷ ss) (r ∷ rs) = committed_by begun s r ++ commits_after (begun_by s r ++ begun) ss rs

-- the commits of a run: each Decide that was answered Decided, in order
abbrev pub commits_of : List Step → List Reply → List Commit
commits_of steps replies = commits_after [] steps replies

-- a query as it was opened
pub record OpenedQuery : Type 0 where
  pub number : ℕ
  pub text : List ℕ
  pub params : List Parameter
  pub s : ℕ

-- what an Open that was answered Opened asks
abbrev pub opened_by : Step → Reply → List OpenedQuery
opened_by (Open text params bound interval) (Opened query s leaves) =
    (record { number = query; text = text; params = params; s = s }) ∷ []
opened_by _ _ = []
