-- What open queries ask.
use Rattle.std.specs.Prelude.{◌≡◌, List, ℕ, Some, find}
use Rattle.std.specs.List.{AllByRecursion}
use Rattle.span_params.specs.declared.params.Parameter.{Parameter}
use Rattle.span_query.specs.declared.query.Statement.{Statement}
use Rattle.span_machine.specs.declared.query.OpenQuery.{OpenQuery}
use Rattle.span_machine.specs.Machine.{Machine, is_query}
use Rattle.span_openqueries.specs.declared.taken.Taken.{Taken}

-- a relation of query texts, with their parameters, and statements
abbrev pub Asks : Type 1
Asks = List ℕ → List Parameter → Statement → Type 0

-- the relation holds of the query text, the parameters and the statement of each open query
abbrev pub AreAsked : Asks → List OpenQuery → Type 0
AreAsked asks qs = AllByRecursion (λ (q : OpenQuery). asks q.text q.params q.statement) qs

-- what was taken is of the open query of this number
pub record IsQuestionOf (m : Machine) (query : ℕ) (taken : Taken) : Type 0 where
  pub question : OpenQuery
  pub found : find (is_query query) m.queries ≡ Some question
  pub text : taken.text ≡ question.text
  pub params : taken.params ≡ question.params
  pub statement : taken.statement ≡ question.statement
