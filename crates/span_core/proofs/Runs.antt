use Rattle.std.proofs.Common.{List, [], ◌∷◌, ◌++◌, refl, subst}
use Rattle.span_machine.specs.declared.step.Step.{Step}
use Rattle.span_machine.specs.declared.step.Reply.{Reply}
use Rattle.span_machine.specs.Machine.{Machine, start}
use Rattle.span_machine.specs.Run.{AreOfSchema, CanPlan}
use Rattle.span_soundness.proofs.Soundness.{statements_can_be_planned}
use Rattle.span_machine.specs.Consistency.{HonestClock, IsExternallyConsistent}
use Rattle.span_machine_laws.proofs.History.{run_history}
use Rattle.span_machine_laws.proofs.Consistent.{history_consistent}
use Rattle.span_binder.specs.Understands.{Understands}
use Rattle.span_core.specs.Histories.{IsStep, Run, IsHistory}
use Rattle.span_schema.specs.Lineages.{MeetsRules}
use Rattle.span_schema.specs.declared.table.Table.{Table}

-- a run goes on by one step
pub run_more : (schema : List Table) (m : Machine) (steps : List Step) (replies : List Reply) (mid last : Machine) (step : Step) (reply : Reply) → Run schema m steps replies mid → IsStep schema mid step reply last → Run schema m (steps ++ step ∷ []) (replies ++ reply ∷ []) last
run_more schema m [] [] mid last step reply run one = (last, subst (λ (n : Machine). IsStep schema n step reply last) run one, refl)
run_more schema m [] (r ∷ rs) mid last step reply run one = absurd run
run_more schema m (s ∷ ss) [] mid last step reply run one = absurd run
run_more schema m (s ∷ ss) (r ∷ rs) mid last step reply run one = (run.0, run.1, run_more schema run.0 ss rs mid last step reply run.2 one)

-- each statement that a query text is understood as can be planned
pub understood_plans : (schema : List Table) → CanPlan (Understands schema) schema
understood_plans schema text params q understood = statements_can_be_planned schema text params q understood

-- a run from an empty database is a history
pub whole_history : (schema : List Table) → MeetsRules schema → (steps : List Step) (replies : List Reply) (last : Machine) → AreOfSchema schema steps → Run schema start steps replies last → IsHistory schema steps replies
whole_history schema rules steps replies last of run = run_history (Understands schema) schema rules (understood_plans schema) steps replies last of run

-- under an honest clock it is externally consistent
pub whole_consistent : (schema : List Table) → MeetsRules schema → (steps : List Step) (replies : List Reply) (last : Machine) → AreOfSchema schema steps → Run schema start steps replies last → HonestClock steps → IsExternallyConsistent steps replies
whole_consistent schema rules steps replies last of run honest = history_consistent (Understands schema) schema steps replies (whole_history schema rules steps replies last of run) honest
