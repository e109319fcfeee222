use Rattle.std.proofs.Common.{◌≡◌, ◌⊎◌, ℕ, List, Result, Err, sym, subst}
use Rattle.std.specs.Prelude.{MatchResult}
use Rattle.span_value.specs.declared.refusal.Refusal.{Refusal}
use Rattle.span_value.specs.declared.refusal.Refusal.TheVariants.{OutOfMemory}
use Rattle.span_binder.specs.Understands.{Understands}
use Rattle.span_core.specs.Explanations.{IsExplanation}
use Rattle.span_core.specs.Whole.{State}
use Rattle.span_core.proofs.Explaining.{explained_result}
use Rattle.span_core.proofs.database.Core.explain.Goals as goal

pub returns-in-Ok : goal.returns-in-Ok
returns-in-Ok c =
    let a = c.args in
    let schema = c.self.inside.schema in
    let shown = explained_result schema a.text.now a.params.now c.in-Ok.statement c.explain_statement-plan.result c.in-Ok.ensures.understood c.explain_statement-plan.ensures.text c.explain_statement-plan.ensures.memory in
    let given = subst (λ (r : Result (List ℕ) Refusal). MatchResult r (IsExplanation schema a.text.now a.params.now) (λ why. (why ≡ OutOfMemory) ⊎ Understands schema a.text.now a.params.now (Err why))) (sym c.give_after.ensures) shown in
    subst (λ (st : State). MatchResult c.give_after.result (IsExplanation st.schema a.text.now a.params.now) (λ why. (why ≡ OutOfMemory) ⊎ Understands st.schema a.text.now a.params.now (Err why))) c.self.view_is given
