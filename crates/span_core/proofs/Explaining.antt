-- The text that explains a query text, or why there is none.
use Rattle.std.proofs.Common.{◌≡◌, ◌⊎◌, ℕ, List, Result, Ok, Err, inl}
use Rattle.std.specs.Prelude.{IfOk, IfErr, MatchResult}
use Rattle.span_value.specs.declared.refusal.Refusal.{Refusal}
use Rattle.span_value.specs.declared.refusal.Refusal.TheVariants.{OutOfMemory}
use Rattle.span_schema.specs.declared.table.Table.{Table}
use Rattle.span_params.specs.declared.params.Parameter.{Parameter}
use Rattle.span_query.specs.declared.query.Statement.{Statement}
use Rattle.span_gather.specs.Explained.{explained}
use Rattle.span_machine.specs.Machine.{statement_plan}
use Rattle.span_binder.specs.Understands.{Understands}
use Rattle.span_core.specs.Explanations.{IsExplanation}

pub explained_result : (schema : List Table) (text : List ℕ) (params : List Parameter) (statement : Statement) (r : Result (List ℕ) Refusal) → Understands schema text params (Ok statement)
    → IfOk r (λ t. t ≡ explained schema (statement_plan schema statement)) → IfErr r (λ why. why ≡ OutOfMemory)
    → MatchResult r (IsExplanation schema text params) (λ why. (why ≡ OutOfMemory) ⊎ Understands schema text params (Err why))
explained_result schema text params statement (Ok t) understood ok err = record { statement = statement; understood = understood; is = ok }
explained_result schema text params statement (Err why) understood ok err = inl err
